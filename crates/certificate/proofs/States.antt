-- Readings and what they leave.
use Rattle.std.proofs.Common.{◌≡◌, ℕ, ◌+◌, ◌-◌, ◌≤◌, eqb, List, [], ◌∷◌, ◌++◌, length, take, Ok, Err, Result, refl, ap, subst, inl, inr, arith}
use Rattle.std.specs.Int.Digits.{AllBelowBase}
use Rattle.std.proofs.lemmas.List.{take_at, length-append}
use Rattle.std.proofs.lemmas.Bool.{cases_Bool}
use Rattle.certificate.specs.declared.fault.Fault.{Fault}
use Rattle.certificate.specs.declared.fault.Refusal.{Refusal}
use Rattle.certificate.specs.Der.{element, integer, octets, sized, encode_integer, wrap}
use Rattle.certificate.specs.Placed.{State, at_offset, placed, number_at, octets_at, inside, sequence_at, ended, end_at, followed}
use Rattle.certificate.proofs.Elements.{element_wrap, element_only, octets_good, read_back, one_encoding, same_ok}
use Rattle.certificate.proofs.Contents.{length-content}

-- results with a refusal

pub followed_ok : {A B : Type 0} (r : Result (A × State) Refusal) (f : A → State → Result B Refusal) (y : B) → followed r f ≡ Ok y
    → (p : A × State) × (r ≡ Ok p) × (f p.0 p.1 ≡ Ok y)
unfolding followed
followed_ok (Ok p) f y h = (p, refl, h)
followed_ok (Err e) f y h = absurd cc

offset_only : {A : Type 0} (r : Result (A × List ℕ) Fault) (s t : State) (x : A) → at_offset r s ≡ Ok (x, t) → r ≡ Ok (x, t.0)
unfolding at_offset
offset_only (Ok p) s t x h = ap (λ q. Ok (q.0, q.1.0)) (same_ok h)
offset_only (Err e) s t x h = absurd cc

pub placed_only : {A : Type 0} (p : List ℕ → Result (A × List ℕ) Fault) (s t : State) (x : A) → placed p s ≡ Ok (x, t) → p s.0 ≡ Ok (x, t.0)
unfolding placed
placed_only p s t x h = offset_only (p s.0) s t x h

pub under_right : (xs ys : List ℕ) → AllBelowBase 256 (xs ++ ys) → AllBelowBase 256 ys
under_right [] ys h = h
under_right (x ∷ xs) ys h = under_right xs ys h.1

-- what was read stands there, and the rest are bytes too

pub number_only : (s t : State) (n : ℕ) → AllBelowBase 256 s.0 → number_at s ≡ Ok (n, t) → (s.0 ≡ encode_integer n ++ t.0) × AllBelowBase 256 t.0
unfolding number_at
number_only s t n u h =
    let e : s.0 ≡ encode_integer n ++ t.0 = one_encoding 4294967295 n s.0 t.0 u (placed_only (integer 4294967295) s t n h) in
    (e, under_right (encode_integer n) t.0 (subst (AllBelowBase 256) e u))

sized_only : (r : Result (List ℕ × List ℕ) Fault) (p : List ℕ × List ℕ) → sized r ≡ Ok p → r ≡ Ok p
unfolding sized
sized_only (Ok q) p h = elim (cases_Bool (eqb (length q.0) 32)) [ inl e ↦ rw e at h | inr e ↦ absurd (cc (rw e at h)) ]
sized_only (Err f) p h = h

pub octets_only : (s t : State) (m : List ℕ) → octets_at s ≡ Ok (m, t) → s.0 ≡ wrap 4 m ++ t.0
unfolding octets_at octets
octets_only s t m h = (element_only 4 s.0 m t.0 (sized_only (element 4 s.0) (m, t.0) (placed_only octets s t m h))).0

inside_only : (r : Result (List ℕ × State) Refusal) (at : ℕ) (i t : State) → inside r at ≡ Ok (i, t) → r ≡ Ok (i.0, t)
unfolding inside
inside_only (Ok p) at i t h = ap (λ q. Ok (q.0.0, q.1)) (same_ok h)
inside_only (Err e) at i t h = absurd cc

pub sequence_only : (s i t : State) → sequence_at s ≡ Ok (i, t) → s.0 ≡ wrap 0x30 i.0 ++ t.0
unfolding sequence_at
sequence_only s i t h =
    (element_only 0x30 s.0 i.0 t.0 (placed_only (element 0x30) s t i.0 (inside_only (placed (element 0x30) s) s.1 i t h))).0

-- a SEQUENCE with its header
pub sequence_front : (s i t : State) → sequence_at s ≡ Ok (i, t) → take (length i.0 + 2) s.0 ≡ wrap 0x30 i.0
unfolding wrap
sequence_front s i t h =
    rw (sequence_only s i t h) (take_at (0x30 ∷ length i.0 ∷ i.0) t.0 (length i.0 + 2) (omega arith))

-- and all of it is there
pub sequence_room : (s i t : State) → sequence_at s ≡ Ok (i, t) → length i.0 + 2 ≤ length s.0
unfolding wrap
sequence_room s i t h = omega (arith, ap length (sequence_only s i t h), length-append i.0 t.0)

ended_only : (xs : List ℕ) (at : ℕ) (p : Unit {0} × State) → ended xs at ≡ Ok p → xs ≡ []
unfolding ended
ended_only [] at p h = refl
ended_only (x ∷ xs) at p h = absurd cc

pub end_only : (s : State) (p : Unit {0} × State) → end_at s ≡ Ok p → s.0 ≡ []
unfolding end_at
end_only s p h = ended_only s.0 s.1 p h

-- what was written is read, and leaves what follows it

offset_back : {A : Type 0} (p : List ℕ → Result (A × List ℕ) Fault) (xs : List ℕ) (at : ℕ) (x : A) (rest : List ℕ) → p xs ≡ Ok (x, rest)
    → placed p (xs, at) ≡ Ok (x, (rest, at + (length xs - length rest)))
unfolding placed at_offset
offset_back p xs at x rest h = rw h

pub number_back : (n at : ℕ) (rest : List ℕ) → n ≤ 4294967295 → (k : ℕ) × (number_at (encode_integer n ++ rest, at) ≡ Ok (n, (rest, k)))
unfolding number_at
number_back n at rest h = (
  at + (length (encode_integer n ++ rest) - length rest),
  offset_back (integer 4294967295) (encode_integer n ++ rest) at n rest (read_back 4294967295 n rest h (omega (arith, length-content 4 n (omega arith)))),
)

pub octets_back : (m : List ℕ) (at : ℕ) (rest : List ℕ) → length m ≡ 32 → (k : ℕ) × (octets_at (wrap 4 m ++ rest, at) ≡ Ok (m, (rest, k)))
unfolding octets_at
octets_back m at rest h = (
  at + (length (wrap 4 m ++ rest) - length rest),
  offset_back octets (wrap 4 m ++ rest) at m rest (octets_good (wrap 4 m ++ rest) m rest (element_wrap 4 m rest (omega arith)) h),
)

pub sequence_back : (c : List ℕ) (at : ℕ) (rest : List ℕ) → length c ≤ 127 → (k : ℕ) × (sequence_at (wrap 0x30 c ++ rest, at) ≡ Ok ((c, at + 2), (rest, k)))
unfolding sequence_at inside
sequence_back c at rest h = (
  at + (length (wrap 0x30 c ++ rest) - length rest),
  rw (offset_back (element 0x30) (wrap 0x30 c ++ rest) at c rest (element_wrap 0x30 c rest h)),
)

pub under_left : (xs ys : List ℕ) → AllBelowBase 256 (xs ++ ys) → AllBelowBase 256 xs
under_left [] ys h = tt
under_left (x ∷ xs) ys h = (h.0, under_left xs ys h.1)

-- the bytes inside an element
pub under_inside : (tag : ℕ) (xs c rest : List ℕ) → AllBelowBase 256 xs → xs ≡ wrap tag c ++ rest → AllBelowBase 256 c
unfolding wrap
under_inside tag xs c rest u e = under_left c rest (subst (AllBelowBase 256) e u).1.1

pub length-encode : (n : ℕ) → n ≤ 4294967295 → length (encode_integer n) ≤ 7
unfolding encode_integer wrap
length-encode n h = omega (arith, length-content 4 n (omega arith))
