-- The fields of certificates: how each group is read, and how it is written.
use Rattle.std.specs.Prelude.{ℕ, List, ◌++◌, Some, None, Ok, Err, Option, Result}
use Rattle.certificate.specs.declared.fault.Refusal.{Refusal}
use Rattle.certificate.specs.declared.fault.Fault.TheVariants.{RoleOrClearance}
use Rattle.role.specs.declared.role.Role.{Role}
use Rattle.certificate.specs.declared.fields.Identity.{Identity}
use Rattle.certificate.specs.declared.fields.Header.{Header}
use Rattle.certificate.specs.declared.fields.Base.{Base}
use Rattle.certificate.specs.declared.fields.Id.{Id}
use Rattle.certificate.specs.declared.fields.Ianda.{Ianda}
use Rattle.certificate.specs.declared.fields.Privilege.{Privilege}
use Rattle.certificate.specs.declared.numbers.Placed.{Placed}
use Rattle.certificate.specs.declared.numbers.Numbers.{Numbers}
use Rattle.role.specs.Roles.{role_number, role_of}
use Rattle.certificate.specs.Der.{encode_integer, wrap}
use Rattle.certificate.specs.Placed.{State, number_at, octets_at, followed}

-- reading

-- issuer and serial
unfoldable pub identity_at : State → Result (Identity × State) Refusal
identity_at s =
    followed (number_at s) (λ issuer s1.
    followed (number_at s1) (λ serial s2.
    Ok (record { issuer = issuer; serial = serial }, s2)))

-- identity, first time and last time
unfoldable pub header_at : State → Result (Header × State) Refusal
header_at s =
    followed (identity_at s) (λ identity s1.
    followed (number_at s1) (λ first s2.
    followed (number_at s2) (λ last s3.
    Ok (record { identity = identity; first = first; last = last }, s3))))

-- the identity of the ID certificate, and the card's number
unfoldable pub base_at : State → Result (Base × State) Refusal
base_at s =
    followed (identity_at s) (λ identity s1.
    followed (number_at s1) (λ card s2.
    Ok (record { identity = identity; card = card }, s2)))

-- the body of an ID certificate
unfoldable pub id_at : State → Result (Id × State) Refusal
id_at s =
    followed (header_at s) (λ header s1.
    followed (number_at s1) (λ subject s2.
    Ok (record { header = header; subject = subject }, s2)))

-- the body of an I&A certificate
unfoldable pub ianda_at : State → Result (Ianda × State) Refusal
ianda_at s =
    followed (header_at s) (λ header s1.
    followed (base_at s1) (λ base s2.
    followed (octets_at s2) (λ template s3.
    Ok (record { header = header; base = base; template = template }, s3))))

-- a number with the offset of its element
unfoldable pub placed_at : State → Result (Placed × State) Refusal
placed_at s = followed (number_at s) (λ number s1. Ok (record { number = number; at = s.1 }, s1))

-- the body of a privilege or an authorisation certificate, with role and clearance as numbers
unfoldable pub numbers_at : State → Result (Numbers × State) Refusal
numbers_at s =
    followed (header_at s) (λ header s1.
    followed (base_at s1) (λ base s2.
    followed (placed_at s2) (λ role s3.
    followed (placed_at s3) (λ clearance s4.
    Ok (record { header = header; base = base; role = role; clearance = clearance }, s4)))))

-- role and clearance of a body, where both numbers have one; else the refusal is at the role, or, if that is good, at the clearance
abbrev pub granted : {C : Type 0} → Numbers → Option Role → Option C → Result (Privilege C) Refusal
granted x None clearance = Err (record { fault = RoleOrClearance; at = x.role.at })
granted x (Some role) None = Err (record { fault = RoleOrClearance; at = x.clearance.at })
granted x (Some role) (Some clearance) = Ok (record { header = x.header; base = x.base; role = role; clearance = clearance })

-- the same, over a clearance kind that is given by what its numbers mean
abbrev pub judged : {C : Type 0} → (ℕ → Option C) → Numbers → Result (Privilege C) Refusal
judged of_number x = granted x (role_of x.role.number) (of_number x.clearance.number)

-- writing: the fields in the order in which they are read

-- issuer and serial
unfoldable pub identity_bytes : Identity → List ℕ
identity_bytes x = encode_integer x.issuer ++ encode_integer x.serial

-- identity, first time and last time
unfoldable pub header_bytes : Header → List ℕ
header_bytes x = identity_bytes x.identity ++ (encode_integer x.first ++ encode_integer x.last)

-- the identity of the ID certificate, and the card's number
unfoldable pub base_bytes : Base → List ℕ
base_bytes x = identity_bytes x.identity ++ encode_integer x.card

-- the body of an ID certificate
unfoldable pub id_bytes : Id → List ℕ
id_bytes x = header_bytes x.header ++ encode_integer x.subject

-- the body of an I&A certificate
unfoldable pub ianda_bytes : Ianda → List ℕ
ianda_bytes x = header_bytes x.header ++ (base_bytes x.base ++ wrap 4 x.template)

-- the body of a privilege or an authorisation certificate: role and clearance are written as their numbers
unfoldable pub privilege_bytes : {C : Type 0} → (C → ℕ) → Privilege C → List ℕ
privilege_bytes number_of x =
    header_bytes x.header ++ (base_bytes x.base ++ (encode_integer (role_number x.role) ++ encode_integer (number_of x.clearance)))
