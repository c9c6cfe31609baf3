-- Readings at an offset.
use Rattle.std.proofs.Common.{◌≡◌, ℕ, ◌+◌, ◌-◌, ◌<◌, List, [], ◌∷◌, length, Some, None, Ok, Err, Option, Result, sym, refl, ap, ◌∙◌, inl, inr, arith}
use Rattle.std.specs.Option.{ok_or}
use Rattle.std.proofs.lemmas.Bool.{cases_Bool, eq-eqb, ne_eqb}
use Rattle.std.specs.Int.Digits.{number_from_digits}
use Rattle.certificate.proofs.Elements.{same_ok}
use Rattle.certificate.specs.declared.fault.Fault.{Fault}
use Rattle.certificate.specs.declared.fault.Fault.TheVariants.{Integer, Octets, LeftOver}
use Rattle.certificate.specs.declared.fault.Refusal.{Refusal}
use Rattle.certificate.specs.Der.{element, integer, octets, valued, sized, acceptable, value_of}
use Rattle.certificate.specs.Placed.{State, Reads, placed, at_offset, number_at, octets_at, ended}

pub placed_err : {A : Type 0} (p : List ℕ → Result (A × List ℕ) Fault) (s : State) (f : Fault) → p s.0 ≡ Err f → placed p s ≡ Err (record { fault = f; at = s.1 })
unfolding placed at_offset
placed_err p s f h = rw h

pub placed_ok : {A : Type 0} (p : List ℕ → Result (A × List ℕ) Fault) (s : State) (x : A) (rest : List ℕ) (at : ℕ) → p s.0 ≡ Ok (x, rest)
    → at ≡ s.1 + (length s.0 - length rest) → placed p s ≡ Ok (x, (rest, at))
unfolding placed at_offset
placed_ok p s x rest at h q = rw h (ap (λ a. Ok (x, (rest, a))) (sym q))

-- a 32-bit INTEGER, by its element and its value

valued_err : (max : ℕ) (s : State) (r : Result (List ℕ × List ℕ) Fault) (e : Refusal) → at_offset r s ≡ Err e → at_offset (valued max r) s ≡ Err e
unfolding at_offset valued
valued_err max s (Ok p) e h = cc
valued_err max s (Err f) e h = let is : record { fault = f; at = s.1 } ≡ e = cc in ap Err is

valued_bad : (max : ℕ) (s t : State) (r : Result (List ℕ × List ℕ) Fault) (c : List ℕ) → at_offset r s ≡ Ok (c, t) → None ≡ value_of max c
    → at_offset (valued max r) s ≡ Err (record { fault = Integer; at = s.1 })
unfolding at_offset valued value_of
valued_bad max s t (Err f) c h v = cc
valued_bad max s t (Ok p) c h v =
    let is : p.0 ≡ c = ap (λ q. q.0) (same_ok h) in
    elim (cases_Bool (acceptable max c)) [ inl b ↦ absurd (cc (rw b at v)) | inr b ↦ rw (is, b) ]

valued_good : (max n : ℕ) (s t : State) (r : Result (List ℕ × List ℕ) Fault) (c : List ℕ) → at_offset r s ≡ Ok (c, t) → Some n ≡ value_of max c
    → at_offset (valued max r) s ≡ Ok (n, t)
unfolding at_offset valued value_of
valued_good max n s t (Err f) c h v = cc
valued_good max n s t (Ok p) c h v =
    let is : p.0 ≡ c = ap (λ q. q.0) (same_ok h) in
    let left : (p.1, s.1 + (length s.0 - length p.1)) ≡ t = ap (λ q. q.1) (same_ok h) in
    elim (cases_Bool (acceptable max c)) [
      | inr b ↦ absurd (cc (rw b at v))
      | inl b ↦
          let k : ◌≡◌ {A = Option ℕ} (Some n) (Some (number_from_digits 256 c)) = rw b at v in
          let number : n ≡ number_from_digits 256 c = cc in
          rw (is, b, number) (ap (λ q. Ok (number_from_digits 256 c, q)) left)
    ]

pub number_err : (s : State) (e : Refusal) → placed (element 2) s ≡ Err e → number_at s ≡ Err e
unfolding number_at placed integer
number_err s e h = valued_err 4294967295 s (element 2 s.0) e h

pub number_read : (s t : State) (c : List ℕ) (at : ℕ) (o : Option ℕ) → at ≡ s.1 → placed (element 2) s ≡ Ok (c, t) → o ≡ value_of 4294967295 c
    → Reads number_at s t (ok_or o (record { fault = Integer; at = at }))
unfolding number_at placed integer
number_read s t c at None q h v = rw q (valued_bad 4294967295 s t (element 2 s.0) c h v)
number_read s t c at (Some n) q h v = valued_good 4294967295 n s t (element 2 s.0) c h v

-- an OCTET STRING, by its element

sized_err : (s : State) (r : Result (List ℕ × List ℕ) Fault) (e : Refusal) → at_offset r s ≡ Err e → at_offset (sized r) s ≡ Err e
unfolding at_offset sized
sized_err s (Ok p) e h = cc
sized_err s (Err f) e h = let is : record { fault = f; at = s.1 } ≡ e = cc in ap Err is

sized_bad : (s t : State) (r : Result (List ℕ × List ℕ) Fault) (c : List ℕ) → at_offset r s ≡ Ok (c, t) → (length c ≡ 32 → ⊥) → at_offset (sized r) s ≡ Err (record { fault = Octets; at = s.1 })
unfolding at_offset sized
sized_bad s t (Err f) c h n = cc
sized_bad s t (Ok p) c h n = let is : p.0 ≡ c = ap (λ q. q.0) (same_ok h) in rw (is, ne_eqb (length c) 32 n)

sized_ok : (s t : State) (r : Result (List ℕ × List ℕ) Fault) (c : List ℕ) → at_offset r s ≡ Ok (c, t) → length c ≡ 32 → at_offset (sized r) s ≡ Ok (c, t)
unfolding at_offset sized
sized_ok s t (Err f) c h n = cc
sized_ok s t (Ok p) c h n = let is : p.0 ≡ c = ap (λ q. q.0) (same_ok h) in let long : length p.0 ≡ 32 = ap length is ∙ n in rw (eq-eqb (length p.0) 32 long) h

pub octets_err : (s : State) (e : Refusal) → placed (element 4) s ≡ Err e → octets_at s ≡ Err e
unfolding octets_at placed octets
octets_err s e h = sized_err s (element 4 s.0) e h

pub octets_bad : (s t : State) (c : List ℕ) (at : ℕ) → placed (element 4) s ≡ Ok (c, t) → at ≡ s.1 → (length c ≡ 32 → ⊥)
    → octets_at s ≡ Err (record { fault = Octets; at = at })
unfolding octets_at placed octets
octets_bad s t c at h q n = rw q (sized_bad s t (element 4 s.0) c h n)

pub octets_ok : (s t : State) (c m : List ℕ) → placed (element 4) s ≡ Ok (c, t) → length c ≡ 32 → m ≡ c → octets_at s ≡ Ok (m, t)
unfolding octets_at placed octets
octets_ok s t c m h n e = rw e (sized_ok s t (element 4 s.0) c h n)

-- SEQUENCEs, and the end

pub ended_none : (xs : List ℕ) (at : ℕ) → length xs ≡ 0 → ended xs at ≡ Ok (tt, (xs, at))
unfolding ended
ended_none [] at h = refl
ended_none (x ∷ xs) at h = absurd (omega arith)

pub ended_some : (xs : List ℕ) (at : ℕ) → 0 < length xs → ended xs at ≡ Err (record { fault = LeftOver; at = at })
unfolding ended
ended_some [] at h = absurd (omega arith)
ended_some (x ∷ xs) at h = refl
