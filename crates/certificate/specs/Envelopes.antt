-- A certificate without its two headers, as the code holds it.
use Rattle.std.specs.Prelude.{◌≡◌, ℕ, List, Ok, Err, Result}
use Rattle.certificate.specs.declared.fault.Refusal.{Refusal}
use Rattle.certificate.specs.declared.envelope.Envelope.{Envelope}
use Rattle.certificate.specs.Der.{wrap}
use Rattle.certificate.specs.Certificates.{opened}

-- an envelope is what the two headers leave, and its message is the body with its header
abbrev pub Opens : List ℕ → Result Envelope Refusal → Type 0
Opens bytes (Ok e) =
    (opened bytes ≡ Ok (record { inner = e.body; rest = e.rest; after = e.after })) × (e.message.now ≡ wrap 0x30 e.body.0)
Opens bytes (Err e) = opened bytes ≡ Err e
