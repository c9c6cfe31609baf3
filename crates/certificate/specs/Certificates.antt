-- A certificate: an outer SEQUENCE of the body, a SEQUENCE, and the mark, an OCTET STRING of 32 bytes.
use Rattle.std.specs.Prelude.{◌≡◌, ℕ, List, ◌++◌, Ok, Err, Option, Result}
use Rattle.certificate.specs.declared.fault.Refusal.{Refusal}
use Rattle.certificate.specs.declared.fields.Id.{Id}
use Rattle.certificate.specs.declared.fields.Ianda.{Ianda}
use Rattle.certificate.specs.declared.fields.Privilege.{Privilege}
use Rattle.certificate.specs.declared.fields.Reading.{Reading}
use Rattle.certificate.specs.Der.{wrap}
use Rattle.certificate.specs.Placed.{State, octets_at, sequence_at, end_at, followed}
use Rattle.certificate.specs.Fields.{id_at, ianda_at, numbers_at, judged}

-- what a certificate says: its fields, the sealed message and the mark
pub record Sealed (T : Type 0) : Type 0 where
  pub fields : T
  pub message : List ℕ
  pub mark : List ℕ

-- one result, and then the rest
unfoldable pub then : {A B : Type 0} → Result A Refusal → (A → Result B Refusal) → Result B Refusal
then (Ok x) f = f x
then (Err e) f = Err e

-- a certificate without its two headers: what the body holds, what follows the body, and what follows the whole
pub record Opened : Type 0 where
  pub inner : State
  pub rest : State
  pub after : State

-- the header of the outer SEQUENCE, and that of the body
unfoldable pub opened : List ℕ → Result Opened Refusal
opened bytes =
    followed (sequence_at (bytes, 0)) (λ outer after.
    followed (sequence_at outer) (λ inner rest.
    Ok (record { inner = inner; rest = rest; after = after })))

-- the fields that the body holds, and nothing after them
unfoldable pub filled : {A : Type 0} → (State → Result (A × State) Refusal) → State → Result A Refusal
filled body s =
    followed (body s) (λ fields left.
    followed (end_at left) (λ _ _.
    Ok fields))

-- the mark after the body, nothing after the mark, and nothing after the whole
unfoldable pub closed : State → State → Result (List ℕ) Refusal
closed rest after =
    followed (octets_at rest) (λ mark last.
    followed (end_at last) (λ _ _.
    followed (end_at after) (λ _ _.
    Ok mark)))

-- left to right: both headers, the body's fields and its end, the mark and the two other ends
unfoldable pub certified : {A : Type 0} → (State → Result (A × State) Refusal) → List ℕ → Result (Sealed A) Refusal
certified body bytes =
    then (opened bytes) (λ o.
    then (filled body o.inner) (λ fields.
    then (closed o.rest o.after) (λ mark.
    Ok (record { fields = fields; message = wrap 0x30 o.inner.0; mark = mark }))))

-- what bytes say as an ID certificate
abbrev pub id_of : List ℕ → Result (Sealed Id) Refusal
id_of bytes = certified id_at bytes

-- as an I&A certificate
abbrev pub ianda_of : List ℕ → Result (Sealed Ianda) Refusal
ianda_of bytes = certified ianda_at bytes

-- as a privilege or an authorisation certificate, over any clearance kind: role and clearance are judged last of all
unfoldable pub privilege_of : {C : Type 0} → (ℕ → Option C) → List ℕ → Result (Sealed (Privilege C)) Refusal
privilege_of of_number bytes =
    then (certified numbers_at bytes) (λ x.
    then (judged of_number x.fields) (λ fields.
    Ok (record { fields = fields; message = x.message; mark = x.mark })))

-- the answer of a reading: what the bytes say, or the refusal
abbrev pub Answers : {T : Type 0} → Result (Sealed T) Refusal → Result (Reading T) Refusal → Type 0
Answers says (Ok x) = says ≡ Ok (record { fields = x.fields; message = x.message.now; mark = x.mark })
Answers says (Err e) = says ≡ Err e

-- writing

-- the sealed message is the body with its header
unfoldable pub message_of : List ℕ → List ℕ
message_of body = wrap 0x30 body

-- the certificate holds the message and the mark
unfoldable pub certificate : List ℕ → List ℕ → List ℕ
certificate body mark = wrap 0x30 (message_of body ++ wrap 4 mark)
