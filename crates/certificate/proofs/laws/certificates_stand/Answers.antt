use Rattle.std.proofs.Common.{refl}
use Rattle.certificate.proofs.Certificates.{id_back, id_one, ianda_back, ianda_one, privilege_back, privilege_one}
use Rattle.certificate.proofs.laws.certificates_stand.Goals as goal

pub returns : goal.returns
returns g c =
    let kind = g.C.Clearance in
    let laws = g.met.C.Clearance in
    record {
      answer = refl;
      id_back = id_back;
      id_one = id_one;
      ianda_back = ianda_back;
      ianda_one = ianda_one;
      privilege_back = privilege_back kind.of_number kind.number_of laws.back laws.forth;
      privilege_one = privilege_one kind.of_number kind.number_of laws.back laws.forth;
    }
