-- The contents of an INTEGER: the fewest bytes of a number, and the number of such bytes.
use Rattle.std.proofs.Common.{◌≡◌, ℕ, zero, suc, ◌+◌, ◌-◌, ◌*◌, ◌/◌, ◌%◌, ◌^◌, ◌<◌, ◌≤◌, true, false, ◌&&◌, ◌||◌, ltb, leb, List, [], ◌∷◌, ◌++◌, reverse, length, get_or, drop, Some, None, sym, refl, ap, ◌∙◌, subst, inl, inr, le_trans, mul-le-mul_right, mul_assoc, arith}
use native.Mathlib.Nat.{pow-succ', pow-le-pow_right}
use Rattle.std.specs.Int.Digits.{number_from_digits, number_from_digits_after, AllBelowBase}
use Rattle.std.proofs.lemmas.Int.Digits.{number_push}
use Rattle.std.proofs.lemmas.List.{drop_all, reverse-append, reverse-reverse, length-append}
use Rattle.std.proofs.lemmas.Bool.{cases_lt, lt-ltb, le-ltb, ltb-true, leb-true, le-leb, and_parts, and_from, or_cases, or_left, or_right, false≢true, cases_Bool, lt-leb}
use Rattle.certificate.specs.Der.{shortest, content_by, content, value_of, acceptable, wrap, encode_integer}

-- an induction from a list's end

back : (P : List ℕ → Type 0) → P [] → ((d : List ℕ) (x : ℕ) → P d → P (d ++ (x ∷ []))) → (r : List ℕ) → P (reverse r)
back P none more [] = none
back P none more (x ∷ r) = subst P (sym (reverse-append (x ∷ []) r)) (more (reverse r) x (back P none more r))

pub from_end : (P : List ℕ → Type 0) → P [] → ((d : List ℕ) (x : ℕ) → P d → P (d ++ (x ∷ []))) → (xs : List ℕ) → P xs
from_end P none more xs = subst P (reverse-reverse xs) (back P none more (reverse xs))

-- the fewest bytes

by_small : (k n : ℕ) → n < 128 → content_by k n ≡ n ∷ []
unfolding content_by
by_small zero n h = refl
by_small (suc k) n h = rw (lt-ltb n 128 h)

by_large : (k n : ℕ) → 128 ≤ n → content_by (suc k) n ≡ content_by k (n / 256) ++ (n % 256 ∷ [])
unfolding content_by
by_large k n h = rw (le-ltb n 128 h)

by_turns : (j k n : ℕ) → n ≤ j → n ≤ k → content_by j n ≡ content_by k n
by_turns zero k n h l = by_small zero n (omega arith) ∙ sym (by_small k n (omega arith))
by_turns (suc j) zero n h l = by_small (suc j) n (omega arith) ∙ sym (by_small zero n (omega arith))
by_turns (suc j) (suc k) n h l =
    elim (cases_lt n 128) [
      | inl s ↦ by_small (suc j) n s ∙ sym (by_small (suc k) n s)
      | inr g ↦ by_large j n g ∙ ap (λ x. x ++ (n % 256 ∷ [])) (by_turns j k (n / 256) (omega arith) (omega arith)) ∙ sym (by_large k n g)
    ]

pub content_small : (n : ℕ) → n < 128 → content n ≡ n ∷ []
unfolding content
content_small n h = by_small n n h

pub content_large : (n : ℕ) → 128 ≤ n → content n ≡ content (n / 256) ++ (n % 256 ∷ [])
unfolding content
content_large n h =
    let e : n ≡ suc (n - 1) = omega arith in
    ap (λ k. content_by k n) e ∙ by_large (n - 1) n h ∙ ap (λ x. x ++ (n % 256 ∷ [])) (by_turns (n - 1) (n / 256) (n / 256) (omega arith) (omega arith))

by_number : (k n : ℕ) → number_from_digits 256 (content_by k n) ≡ n
unfolding content_by
by_number zero n = omega arith
by_number (suc k) n =
    elim (cases_lt n 128) [
      | inl s ↦ rw (by_small (suc k) n s) (omega arith)
      | inr g ↦ ap (number_from_digits 256) (by_large k n g) ∙ number_push 256 (content_by k (n / 256)) (n % 256) ∙ ap (λ x. x * 256 + n % 256) (by_number k (n / 256)) ∙ omega arith
    ]

pub content_number : (n : ℕ) → number_from_digits 256 (content n) ≡ n
unfolding content
content_number n = by_number n n

-- tests

pub shortest_snoc : (d : List ℕ) (x : ℕ) → shortest d ≡ true → 128 ≤ number_from_digits 256 d * 256 + x → shortest (d ++ (x ∷ [])) ≡ true
unfolding shortest
shortest_snoc [] x h l = absurd (false≢true h)
shortest_snoc (y ∷ []) x h l =
    and_from (ltb y 128) (ltb 0 y || leb 128 x) h
    (elim (cases_lt 0 y) [ inl p ↦ or_left (ltb 0 y) (leb 128 x) (lt-ltb 0 y p) | inr z ↦ or_right (ltb 0 y) (leb 128 x) (le-leb 128 x (omega arith)) ])
shortest_snoc (y ∷ z ∷ zs) x h l = h

pub shortest_init : (y : ℕ) (ys : List ℕ) (x : ℕ) → shortest ((y ∷ ys) ++ (x ∷ [])) ≡ true → shortest (y ∷ ys) ≡ true
unfolding shortest
shortest_init y [] x h = (and_parts (ltb y 128) (ltb 0 y || leb 128 x) h).0
shortest_init y (z ∷ zs) x h = h

by_short : (k n : ℕ) → n ≤ k → shortest (content_by k n) ≡ true
unfolding shortest
by_short zero n h = rw (by_small zero n (omega arith)) (lt-ltb n 128 (omega arith))
by_short (suc k) n h =
    elim (cases_lt n 128) [
      | inl s ↦ rw (by_small (suc k) n s) (lt-ltb n 128 s)
      | inr g ↦ rw (by_large k n g) (shortest_snoc (content_by k (n / 256)) (n % 256) (by_short k (n / 256) (omega arith)) (omega (arith, by_number k (n / 256))))
    ]

pub content_short : (n : ℕ) → shortest (content n) ≡ true
unfolding content
content_short n = by_short n n (omega arith)

-- how large the number of many bytes is

number_low : (n : ℕ) (ds : List ℕ) → n * 256 ^ length ds ≤ number_from_digits_after 256 n ds
number_low n [] = omega arith
number_low n (d ∷ ds) =
    le_trans (rw (pow-succ' 256 (length ds), ← mul_assoc n 256 (256 ^ length ds)) (mul-le-mul_right {m = n * 256} {n = n * 256 + d} (256 ^ length ds) (omega arith))) (number_low (n * 256 + d) ds)

pub shortest_low : (x y : ℕ) (ys : List ℕ) → shortest (x ∷ y ∷ ys) ≡ true → 128 * 256 ^ length ys ≤ number_from_digits 256 (x ∷ y ∷ ys)
unfolding shortest
shortest_low x y ys h =
    let top : 128 ≤ (0 * 256 + x) * 256 + y =
    elim (or_cases (ltb 0 x) (leb 128 y) (and_parts (ltb x 128) (ltb 0 x || leb 128 y) h).1) [
      | inl p ↦ omega (arith, ltb-true 0 x p)
      | inr q ↦ omega (arith, leb-true 128 y q)
    ] in
    le_trans (mul-le-mul_right {m = 128} {n = (0 * 256 + x) * 256 + y} (256 ^ length ys) top) (number_low ((0 * 256 + x) * 256 + y) ys)

pos_pow : (k : ℕ) → 1 ≤ 256 ^ k
pos_pow zero = omega arith
pos_pow (suc k) = omega (arith, pos_pow k, pow-succ' 256 k)

shortest_long : (xs : List ℕ) → shortest xs ≡ true → 2 ≤ length xs → 128 ≤ number_from_digits 256 xs
shortest_long [] h l = absurd (omega arith)
shortest_long (x ∷ []) h l = absurd (omega arith)
shortest_long (x ∷ y ∷ ys) h l = omega (arith, shortest_low x y ys h, pos_pow (length ys))

under_init : (d : List ℕ) (x : ℕ) → AllBelowBase 256 (d ++ (x ∷ [])) → AllBelowBase 256 d × (x < 256)
under_init [] x h = (tt, h.0)
under_init (y ∷ d) x h = let p = under_init d x h.1 in ((h.0, p.0), p.1)

-- contents in the fewest bytes are those of their number

Own : List ℕ → Type 0
Own xs = AllBelowBase 256 xs → shortest xs ≡ true → xs ≡ content (number_from_digits 256 xs)

own_none : Own []
unfolding Own shortest
own_none u h = absurd (false≢true h)

own_more : (d : List ℕ) (x : ℕ) → Own d → Own (d ++ (x ∷ []))
unfolding Own shortest
own_more [] x ih u h =
    let e : 0 * 256 + x ≡ x = omega arith in
    sym (ap content e ∙ content_small x (ltb-true x 128 h))
own_more (y ∷ ys) x ih u h =
    let d : List ℕ = y ∷ ys in
    let n : ℕ = number_from_digits 256 (d ++ (x ∷ [])) in
    let p = under_init d x u in
    let two : 2 ≤ length (d ++ (x ∷ [])) = simp length-append (omega arith) in
    let big : 128 ≤ n = shortest_long (d ++ (x ∷ [])) h two in
    let is : n ≡ number_from_digits 256 d * 256 + x = number_push 256 d x in
    let low : x < 256 = p.1 in
    let q : n / 256 ≡ number_from_digits 256 d = omega arith in
    let r : n % 256 ≡ x = omega arith in
    let first : d ≡ content (number_from_digits 256 d) = ih p.0 (shortest_init y ys x h) in
    sym (content_large n big ∙ ap (λ k. content k ++ (n % 256 ∷ [])) q ∙ ap (λ k. content (number_from_digits 256 d) ++ (k ∷ [])) r ∙ ap (λ k. k ++ (x ∷ [])) (sym first))

pub one_content : (xs : List ℕ) → AllBelowBase 256 xs → shortest xs ≡ true → xs ≡ content (number_from_digits 256 xs)
unfolding Own
one_content = from_end Own own_none own_more

-- a list's own tests, by its places

pub shortest_none : (xs : List ℕ) → length xs ≡ 0 → shortest xs ≡ false
unfolding shortest
shortest_none [] h = refl
shortest_none (x ∷ xs) h = absurd (omega arith)

pub shortest_one : (xs : List ℕ) → length xs ≡ 1 → shortest xs ≡ ltb (get_or xs 0 0) 128
unfolding shortest
shortest_one [] h = absurd (omega arith)
shortest_one (x ∷ []) h = refl
shortest_one (x ∷ y ∷ ys) h = absurd (omega arith)

pub shortest_more : (xs : List ℕ) → 2 ≤ length xs → shortest xs ≡ ltb (get_or xs 0 0) 128 && (ltb 0 (get_or xs 0 0) || leb 128 (get_or xs 1 0))
unfolding shortest
shortest_more [] h = absurd (omega arith)
shortest_more (x ∷ []) h = absurd (omega arith)
shortest_more (x ∷ y ∷ ys) h = refl

-- widths: a number below 128 * 256 ^ k has at most k + 1 bytes, and one of k + 2 bytes is not below it

pub length-content : (k n : ℕ) → n < 128 * 256 ^ k → length (content n) ≤ k + 1
length-content zero n h = rw (content_small n (omega arith)) (omega arith)
length-content (suc k) n h =
    elim (cases_lt n 128) [
      | inl s ↦ rw (content_small n s) (omega arith)
      | inr g ↦
          let q : n / 256 < 128 * 256 ^ k = omega (arith, pow-succ' 256 k) in
          rw (content_large n g) (simp length-append (omega (arith, length-content k (n / 256) q)))
    ]

pub too_long : (max k : ℕ) (xs : List ℕ) → max < 128 * 256 ^ k → k + 2 ≤ length xs → value_of max xs ≡ None
unfolding value_of acceptable
too_long max k [] m l = absurd (omega arith)
too_long max k (x ∷ []) m l = absurd (omega arith)
too_long max k (x ∷ y ∷ ys) m l =
    elim (cases_Bool (shortest (x ∷ y ∷ ys))) [
      | inr f ↦ rw f
      | inl t ↦
          let more : 256 ^ k ≤ 256 ^ length ys = pow-le-pow_right (omega arith) (omega arith) in
          rw (t, lt-leb (number_from_digits 256 (x ∷ y ∷ ys)) max (omega (arith, shortest_low x y ys t)))
    ]

-- contents of more than five bytes are of no number of 32 bits
pub value_long : (xs : List ℕ) → 5 < length xs → None ≡ value_of 4294967295 xs
value_long xs h = sym (too_long 4294967295 4 xs (omega arith) (omega arith))

pub value_good : (max n : ℕ) (xs : List ℕ) → n ≡ number_from_digits 256 xs → n ≤ max → shortest xs ≡ true → Some n ≡ value_of max xs
unfolding value_of acceptable
value_good max n xs e h s = rw (s, le-leb (number_from_digits 256 xs) max (omega arith)) (ap Some e)

pub value_large : (max n : ℕ) (xs : List ℕ) → n ≡ number_from_digits 256 xs → max < n → None ≡ value_of max xs
unfolding value_of acceptable
value_large max n xs e h =
    elim (cases_Bool (shortest xs)) [ inr f ↦ rw f | inl t ↦ rw (t, lt-leb (number_from_digits 256 xs) max (omega arith)) ]

pub value_bad : (max : ℕ) (xs : List ℕ) → shortest xs ≡ false → None ≡ value_of max xs
unfolding value_of acceptable
value_bad max xs f = rw f

-- the digits that follow make a number no smaller
pub after_low : (n : ℕ) (ds : List ℕ) → n ≤ number_from_digits_after 256 n ds
after_low n [] = omega arith
after_low n (d ∷ ds) = omega (arith, after_low (n * 256 + d) ds)

-- nor does one digit that is there
pub after_more : (n : ℕ) (ds : List ℕ) → 0 < length ds → n * 256 ≤ number_from_digits_after 256 n ds
after_more n [] h = absurd (omega arith)
after_more n (d ∷ ds) h = omega (arith, after_low (n * 256 + d) ds)

-- no digit follows the last
pub after_all : (n i : ℕ) (xs : List ℕ) → number_from_digits_after 256 n (drop i xs) ≡ number_from_digits 256 xs → length xs ≤ i → n ≡ number_from_digits 256 xs
after_all n i xs e h = rw (drop_all i xs h) at e

-- the bytes of a number of 32 bits, by how many they are
pub content_two : (n : ℕ) → 128 ≤ n → n < 32768 → content n ≡ n / 256 % 256 ∷ n % 256 ∷ []
content_two n l u =
    let e : n / 256 ≡ n / 256 % 256 = omega arith in
    content_large n l ∙ ap (λ xs. xs ++ (n % 256 ∷ [])) (content_small (n / 256) (omega arith)) ∙ ap (λ x. x ∷ n % 256 ∷ []) e

pub content_three : (n : ℕ) → 32768 ≤ n → n < 8388608 → content n ≡ n / 65536 % 256 ∷ n / 256 % 256 ∷ n % 256 ∷ []
content_three n l u =
    let e : n / 256 / 256 ≡ n / 65536 = omega arith in
    content_large n (omega arith)
    ∙ ap (λ xs. xs ++ (n % 256 ∷ [])) (content_two (n / 256) (omega arith) (omega arith))
    ∙ ap (λ x. x % 256 ∷ n / 256 % 256 ∷ n % 256 ∷ []) e

pub content_four : (n : ℕ) → 8388608 ≤ n → n < 2147483648 → content n ≡ n / 16777216 ∷ n / 65536 % 256 ∷ n / 256 % 256 ∷ n % 256 ∷ []
content_four n l u =
    let e : n / 256 / 65536 % 256 ≡ n / 16777216 = omega arith in
    let f : n / 256 / 256 ≡ n / 65536 = omega arith in
    content_large n (omega arith)
    ∙ ap (λ xs. xs ++ (n % 256 ∷ [])) (content_three (n / 256) (omega arith) (omega arith))
    ∙ ap (λ x. x ∷ n / 256 / 256 % 256 ∷ n / 256 % 256 ∷ n % 256 ∷ []) e
    ∙ ap (λ x. n / 16777216 ∷ x % 256 ∷ n / 256 % 256 ∷ n % 256 ∷ []) f

pub content_five : (n : ℕ) → 2147483648 ≤ n → n ≤ 4294967295 → content n ≡ 0 ∷ n / 16777216 ∷ n / 65536 % 256 ∷ n / 256 % 256 ∷ n % 256 ∷ []
content_five n l u =
    let m : ℕ = n / 16777216 in
    let e : n / 256 / 256 / 256 ≡ m = omega arith in
    let f : n / 256 / 256 ≡ n / 65536 = omega arith in
    let z : m / 256 ≡ 0 = omega arith in
    let r : m % 256 ≡ m = omega arith in
    content_large n (omega arith)
    ∙ ap (λ xs. xs ++ (n % 256 ∷ []))
    (content_large (n / 256) (omega arith)
    ∙ ap (λ xs. xs ++ (n / 256 % 256 ∷ []))
    (content_large (n / 256 / 256) (omega arith)
    ∙ ap (λ k. content k ++ (n / 256 / 256 % 256 ∷ [])) e
    ∙ ap (λ k. content m ++ (k % 256 ∷ [])) f
    ∙ ap (λ xs. xs ++ (n / 65536 % 256 ∷ []))
    (content_large m (omega arith) ∙ ap (λ k. content k ++ (m % 256 ∷ [])) z ∙ ap (λ k. content 0 ++ (k ∷ [])) r ∙ ap (λ xs. xs ++ (m ∷ [])) (content_small 0 (omega arith)))))

-- and of its INTEGER
pub integer_one : (n : ℕ) → n < 128 → encode_integer n ≡ 2 ∷ 1 ∷ n % 256 ∷ []
unfolding encode_integer wrap
integer_one n u = let e : n ≡ n % 256 = omega arith in ap (wrap 2) (content_small n u) ∙ ap (λ x. 2 ∷ 1 ∷ x ∷ []) e

pub integer_two : (n : ℕ) → 128 ≤ n → n < 32768 → encode_integer n ≡ 2 ∷ 2 ∷ n / 256 % 256 ∷ n % 256 ∷ []
unfolding encode_integer wrap
integer_two n l u = ap (wrap 2) (content_two n l u)

pub integer_three : (n : ℕ) → 32768 ≤ n → n < 8388608 → encode_integer n ≡ 2 ∷ 3 ∷ n / 65536 % 256 ∷ n / 256 % 256 ∷ n % 256 ∷ []
unfolding encode_integer wrap
integer_three n l u = ap (wrap 2) (content_three n l u)

pub integer_four : (n : ℕ) → 8388608 ≤ n → n < 2147483648 → encode_integer n ≡ 2 ∷ 4 ∷ n / 16777216 ∷ n / 65536 % 256 ∷ n / 256 % 256 ∷ n % 256 ∷ []
unfolding encode_integer wrap
integer_four n l u = ap (wrap 2) (content_four n l u)

pub integer_five : (n : ℕ) → 2147483648 ≤ n → n ≤ 4294967295 → encode_integer n ≡ 2 ∷ 5 ∷ 0 ∷ n / 16777216 ∷ n / 65536 % 256 ∷ n / 256 % 256 ∷ n % 256 ∷ []
unfolding encode_integer wrap
integer_five n l u = ap (wrap 2) (content_five n l u)
