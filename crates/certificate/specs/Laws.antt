-- The laws of certificates: what was written reads back, and there is one encoding only.
use Rattle.std.specs.Prelude.{◌≡◌, ℕ, ◌≤◌, List, length, Ok, Result}
use Rattle.std.specs.Int.Digits.{AllBelowBase}
use Rattle.certificate.specs.declared.fault.Refusal.{Refusal}
use Rattle.certificate.specs.declared.fields.Identity.{Identity}
use Rattle.certificate.specs.declared.fields.Header.{Header}
use Rattle.certificate.specs.declared.fields.Base.{Base}
use Rattle.certificate.specs.declared.fields.Id.{Id}
use Rattle.certificate.specs.declared.fields.Ianda.{Ianda}
use Rattle.certificate.specs.declared.fields.Privilege.{Privilege}
use Rattle.certificate.specs.Certificates.{Sealed, message_of, certificate}

-- A field of the code holds a number of 32 bits, or 32 bytes; in a law a field may be any number, so the laws say which.

-- a number that fits 32 bits
abbrev pub Fits : ℕ → Type 0
Fits n = n ≤ 4294967295

-- each number of an identity
abbrev pub IdentityFits : Identity → Type 0
IdentityFits x = Fits x.issuer × Fits x.serial

-- of a header
abbrev pub HeaderFits : Header → Type 0
HeaderFits x = IdentityFits x.identity × Fits x.first × Fits x.last

-- of a base
abbrev pub BaseFits : Base → Type 0
BaseFits x = IdentityFits x.identity × Fits x.card

-- of an ID certificate
abbrev pub IdFits : Id → Type 0
IdFits x = HeaderFits x.header × Fits x.subject

-- of an I&A certificate, and its template
abbrev pub IandaFits : Ianda → Type 0
IandaFits x = HeaderFits x.header × BaseFits x.base × (length x.template ≡ 32)

-- of a privilege or an authorisation certificate
abbrev pub PrivilegeFits : {C : Type 0} → (C → ℕ) → Privilege C → Type 0
PrivilegeFits number_of x = HeaderFits x.header × BaseFits x.base × Fits (number_of x.clearance)

-- what was written, with any mark, reads back: the fields, the message and the mark
abbrev pub ReadsBack : {A : Type 0} → (List ℕ → Result (Sealed A) Refusal) → (A → List ℕ) → (A → Type 0) → Type 0
ReadsBack {A = A} says body Fitting =
    (x : A) (mark : List ℕ) → Fitting x → length mark ≡ 32
    → says (certificate (body x) mark) ≡ Ok (record { fields = x; message = message_of (body x); mark = mark })

-- bytes that read as a certificate are the encoding of what was read, and its message is that of the encoding
abbrev pub OneEncoding : {A : Type 0} → (List ℕ → Result (Sealed A) Refusal) → (A → List ℕ) → Type 0
OneEncoding {A = A} says body =
    (bytes : List ℕ) (x : Sealed A) → AllBelowBase 256 bytes → says bytes ≡ Ok x
    → (bytes ≡ certificate (body x.fields) x.mark) × (x.message ≡ message_of (body x.fields))
