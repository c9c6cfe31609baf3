-- Decimal and hex digits.
use Rattle.std.proofs.Common.{◌≡◌, ℕ, zero, suc, ◌+◌, ◌-◌, ◌*◌, ◌/◌, ◌<◌, List, [], ◌∷◌, map, length, get_or, take, refl, ap, arith}
use Rattle.std.proofs.lemmas.Int.Digits.{number_push}
use Rattle.std.proofs.lemmas.List.{map_more}
use Rattle.std.specs.Simd.{first_chunks}
use Rattle.command.specs.Words.{decimal_of, byte_of, unhex}

-- a loop's step over decimal digits
pub decimal_more : (w : List ℕ) (i : ℕ) → i < length w → decimal_of (take (i + 1) w) ≡ decimal_of (take i w) * 10 + (get_or w i 0 - 48)
unfolding decimal_of
decimal_more w i l = rw (map_more (λ b. b - 48) w i 0 l) (number_push 10 (map (λ b. b - 48) (take i w)) (get_or w i 0 - 48))

-- digits in pairs
pairs_of : (n : ℕ) (xs : List ℕ) → length xs / 2 ≡ n → map byte_of (first_chunks 2 n xs) ≡ unhex xs
unfolding unhex
pairs_of zero [] h = refl
pairs_of zero (a ∷ []) h = refl
pairs_of zero (a ∷ b ∷ xs) h = absurd (omega arith)
pairs_of (suc n) [] h = absurd (omega arith)
pairs_of (suc n) (a ∷ []) h = absurd (omega arith)
pairs_of (suc n) (a ∷ b ∷ xs) h = ap (λ v. byte_of (a ∷ b ∷ []) ∷ v) (pairs_of n xs (omega arith))

pub unhex_pairs : (xs : List ℕ) → map byte_of (first_chunks 2 (length xs / 2) xs) ≡ unhex xs
unhex_pairs xs = pairs_of (length xs / 2) xs refl
