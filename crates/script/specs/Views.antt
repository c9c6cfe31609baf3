-- The account of a card.
use Rattle.std.specs.Prelude.{ℕ, List, ◌++◌, Some, None, Ok, Err, Option, Result}
use Rattle.account.specs.declared.lines.PartLine.{PartLine}
use Rattle.account.specs.declared.lines.PartLine.TheVariants as line
use Rattle.account.specs.declared.verdict.Verdict.{Verdict}
use Rattle.account.specs.Texts.{card_line, part_text}
use Rattle.card.specs.declared.part.Part.{Part}
use Rattle.card.specs.declared.part.Part.TheVariants.{Id, Privilege, Ianda, Authorisation}
use Rattle.card.specs.Cards.{Card}
use Rattle.certificate.specs.declared.fault.Refusal.{Refusal}
use Rattle.certificate.specs.declared.fields.Header.{Header}
use Rattle.certificate.specs.Certificates.{Sealed, id_of, ianda_of, privilege_of}
use Rattle.certificate.specs.Faults.{fault_number}
use Rattle.role.specs.Roles.{role_number}
use Rattle.clearance.specs.Classes.{class_of, class_number}
use Rattle.clearance.specs.Compartments.{compartments_of, compartments_number}
use Rattle.command.specs.declared.command.Kind.{Kind}
use Rattle.command.specs.declared.command.Kind.TheVariants.{Class, Compartments}
use Rattle.seal.specs.declared.key.Key.{Key}
use Rattle.script.specs.Labels.{Labelled}
use Rattle.script.specs.Marks.{verdict_of}

-- what a part says that was read as some kind of certificate: the kind's line, with what the keys make of the mark; or its fault
abbrev pub told : {T : Type 0} → (Part → T → Verdict → PartLine) → (T → Header) → List Key → Part → Result (Sealed T) Refusal → PartLine
told line_of header_of ks part (Ok x) = line_of part x.fields (verdict_of ks (header_of x.fields).identity.issuer x.message x.mark)
told line_of header_of ks part (Err e) = line.Fault part (fault_number e.fault) e.at

-- as an ID certificate
abbrev pub id_told : List Key → Part → List ℕ → PartLine
id_told ks part bytes = told (λ _ x v. line.Id x v) (λ x. x.header) ks part (id_of bytes)

-- as an I&A certificate
abbrev pub ianda_told : List Key → Part → List ℕ → PartLine
ianda_told ks part bytes = told (λ _ x v. line.Ianda x v) (λ x. x.header) ks part (ianda_of bytes)

-- as a privilege or an authorisation certificate, over a clearance kind
abbrev pub grant_told : {C : Type 0} → (ℕ → Option C) → (C → ℕ) → List Key → Part → List ℕ → PartLine
grant_told of_number number_of ks part bytes = told (λ p x v. line.Grant p x.header x.base (role_number x.role) (number_of x.clearance) v) (λ x. x.header) ks part (privilege_of of_number bytes)

-- the same over the kind that the script has chosen, if it has
abbrev pub kind_told : Option Kind → List Key → Part → List ℕ → PartLine
kind_told None ks part bytes = line.NoKind part
kind_told (Some Class) ks part bytes = grant_told class_of class_number ks part bytes
kind_told (Some Compartments) ks part bytes = grant_told compartments_of compartments_number ks part bytes

-- what a part of a card says
abbrev pub part_told : Option Kind → List Key → Card → Part → PartLine
part_told kind ks c Id = id_told ks Id c.id
part_told kind ks c Privilege = kind_told kind ks Privilege c.privilege
part_told kind ks c Ianda = ianda_told ks Ianda c.ianda
part_told kind ks c Authorisation = kind_told kind ks Authorisation c.authorisation

-- the card, and its four parts in their order
unfoldable pub card_text : Option Kind → List Key → Labelled → List ℕ
card_text kind ks c =
    card_line c.label c.card.number c.card.writable
    ++ part_text (part_told kind ks c.card Id)
    ++ part_text (part_told kind ks c.card Privilege)
    ++ part_text (part_told kind ks c.card Ianda)
    ++ part_text (part_told kind ks c.card Authorisation)
