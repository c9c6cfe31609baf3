-- Reading at an offset.
use Rattle.std.specs.Prelude.{◌≡◌, ℕ, ◌+◌, ◌-◌, List, [], ◌∷◌, length, Ok, Err, Result}
use Rattle.certificate.specs.declared.fault.Fault.{Fault}
use Rattle.certificate.specs.declared.fault.Refusal.{Refusal}
use Rattle.certificate.specs.declared.fault.Fault.TheVariants.{LeftOver}
use Rattle.certificate.specs.Der.{element, integer, octets}

-- what is left to read, and its offset: a reader stands for these
abbrev pub State : Type 0
State = List ℕ × ℕ

-- what a reading of a list found, put at an offset: a fault is at the offset of its element
unfoldable pub at_offset : {A : Type 0} → Result (A × List ℕ) Fault → State → Result (A × State) Refusal
at_offset (Ok p) s = Ok (p.0, (p.1, s.1 + (length s.0 - length p.1)))
at_offset (Err f) s = Err (record { fault = f; at = s.1 })

-- a reading of a list, at an offset
unfoldable pub placed : {A : Type 0} → (List ℕ → Result (A × List ℕ) Fault) → State → Result (A × State) Refusal
placed p s = at_offset (p s.0) s

-- a 32-bit INTEGER
unfoldable pub number_at : State → Result (ℕ × State) Refusal
number_at s = placed (integer 4294967295) s

-- an OCTET STRING of 32 bytes
unfoldable pub octets_at : State → Result (List ℕ × State) Refusal
octets_at s = placed octets s

-- the contents of an element begin two bytes further on
unfoldable pub inside : Result (List ℕ × State) Refusal → ℕ → Result (State × State) Refusal
inside (Ok p) at = Ok ((p.0, at + 2), p.1)
inside (Err e) at = Err e

-- a SEQUENCE: its contents, and what follows it
unfoldable pub sequence_at : State → Result (State × State) Refusal
sequence_at s = inside (placed (element 0x30) s) s.1

-- a list that is to be empty
unfoldable pub ended : List ℕ → ℕ → Result (Unit {0} × State) Refusal
ended [] at = Ok (tt, ([], at))
ended (x ∷ xs) at = Err (record { fault = LeftOver; at = at })

-- nothing is left over
unfoldable pub end_at : State → Result (Unit {0} × State) Refusal
end_at s = ended s.0 s.1

-- one reading, and then the rest
unfoldable pub followed : {A B : Type 0} → Result (A × State) Refusal → (A → State → Result B Refusal) → Result B Refusal
followed (Ok p) f = f p.0 p.1
followed (Err e) f = Err e

-- a call reads as p does: its result, and what it leaves
abbrev pub Reads : {A : Type 0} → (State → Result (A × State) Refusal) → State → State → Result A Refusal → Type 0
Reads p s s' (Ok x) = p s ≡ Ok (x, s')
Reads p s s' (Err e) = p s ≡ Err e
