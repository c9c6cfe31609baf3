-- Hexadecimal digits.
use Rattle.std.proofs.Common.{◌≡◌, ℕ, zero, suc, ◌+◌, ◌*◌, ◌/◌, ◌%◌, ◌<◌, ◌≤◌, true, ltb, List, [], ◌∷◌, ◌++◌, length, get_or, take, set, codes, sym, refl, ap, ◌∙◌, ⊎_elim, arith}
use Rattle.std.specs.Str.{IsAscii, IsUtf8}
use Rattle.std.specs.List.{list_all}
use Rattle.std.proofs.lemmas.Bool.{cases_eq, cases_lt, ltb-true, and_parts}
use Rattle.std.proofs.lemmas.List.{take_more, take_more_set, flat_map_more, append_assoc, length-set, get_or-set_same, get_or-set_other, set_past}
use Rattle.std.proofs.lemmas.Str.{IsUtf8-from_ascii}
use Rattle.account.specs.Texts.{digit_of, byte_text, hex_text}

-- ASCII is text
pub text_of : (bs : List ℕ) → IsAscii bs → IsUtf8 bs
text_of = IsUtf8-from_ascii

-- the digits of one byte more
pub hex_more : (bytes xs : List ℕ) (i : ℕ) → i < length bytes → 2 * i + 1 < length xs → take (2 * i) xs ≡ hex_text (take i bytes)
    → take (2 * (i + 1)) (set (set xs (2 * i) (digit_of (get_or bytes i 0 / 16))) (2 * i + 1) (digit_of (get_or bytes i 0 % 16))) ≡ hex_text (take (i + 1) bytes)
hex_more bytes xs i h l e =
    let b = get_or bytes i 0 in
    let ys = set xs (2 * i) (digit_of (b / 16)) in
    let at : 2 * (i + 1) ≡ 2 * i + 1 + 1 = omega arith in
    let room : 2 * i + 1 < length ys = rw (length-set xs (2 * i) (digit_of (b / 16))) l in
    ap (λ n. take n (set ys (2 * i + 1) (digit_of (b % 16)))) at
    ∙ take_more_set ys (2 * i + 1) (digit_of (b % 16)) room
    ∙ ap (λ z. z ++ (digit_of (b % 16) ∷ [])) (take_more_set xs (2 * i) (digit_of (b / 16)) (omega arith))
    ∙ append_assoc (take (2 * i) xs) (digit_of (b / 16) ∷ []) (digit_of (b % 16) ∷ [])
    ∙ ap (λ z. z ++ byte_text b) e
    ∙ flat_map_more byte_text [] (take i bytes) b
    ∙ sym (ap hex_text (take_more bytes i 0 h))

-- bytes that are tested one by one
pub ascii_of : (xs : List ℕ) → list_all (λ b. ltb b 128) xs ≡ true → IsAscii xs
ascii_of [] e i = omega arith
ascii_of (x ∷ xs) e zero = ltb-true x 128 (and_parts (ltb x 128) (list_all (λ b. ltb b 128) xs) e).0
ascii_of (x ∷ xs) e (suc i) = ascii_of xs (and_parts (ltb x 128) (list_all (λ b. ltb b 128) xs) e).1 i

-- a digit is ASCII
pub digit_ascii : (d : ℕ) → digit_of d < 128
digit_ascii d = ascii_of (codes "0123456789abcdef") refl d

-- and so are bytes where another one is set
pub ascii_set : (xs : List ℕ) (i x : ℕ) → IsAscii xs → x < 128 → IsAscii (set xs i x)
ascii_set xs i x a h j =
    ⊎_elim
    (λ (s : j ≡ i). ⊎_elim
    (λ (l : i < length xs). rw (s, get_or-set_same xs i x 0 l) h)
    (λ (l : length xs ≤ i). rw (set_past xs i x l) (a j))
    (cases_lt i (length xs)))
    (λ (ne : j ≡ i → ⊥). rw (get_or-set_other xs i j x 0 ne) (a j))
    (cases_eq j i)
