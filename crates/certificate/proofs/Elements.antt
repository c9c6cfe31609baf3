-- Elements and the two laws.
use Rattle.std.proofs.Common.{◌≡◌, ℕ, ◌<◌, ◌≤◌, true, false, ◌&&◌, eqb, ltb, leb, List, [], ◌∷◌, ◌++◌, length, get_or, take, drop, Some, None, Ok, Err, Option, Result, MatchResult, Bor, sym, refl, ap, ◌∙◌, subst, inl, inr, arith}
use Rattle.std.specs.Int.Digits.{number_from_digits, AllBelowBase}
use Rattle.std.specs.List.{IsSplitAt}
use Rattle.std.specs.Option.{MatchOption, ok_or}
use Rattle.std.proofs.lemmas.List.{take_at, drop_at, length-append, length-take-le, take-append-drop}
use Rattle.std.proofs.lemmas.Bool.{eq-eqb, ne_eqb, lt-ltb, lt-leb, eqb-true, le-ltb, ltb-false, le-leb, leb-true, cases_Bool, and_parts, and_from}
use Rattle.certificate.specs.declared.fault.Fault.{Fault}
use Rattle.certificate.specs.declared.fault.Fault.TheVariants.{CutShort, Tag, LengthByte}
use Rattle.certificate.specs.Der.{element, wrap, shortest, acceptable, valued, integer, octets, sized, content, encode_integer}
use Rattle.certificate.proofs.Contents.{content_number, content_short, one_content}

-- two results are equal where two Oks are
pub same_ok : {A E : Type 0} {p q : A} → ◌≡◌ {A = Result A E} (Ok p) (Ok q) → p ≡ q
same_ok e = cc

pub element_wrap : (tag : ℕ) (xs rest : List ℕ) → length xs ≤ 127 → element tag (wrap tag xs ++ rest) ≡ Ok (xs, rest)
unfolding element wrap
element_wrap tag xs rest h =
    let same : eqb tag tag ≡ true = eq-eqb tag tag refl in
    let low : ltb 127 (length xs) ≡ false = le-ltb 127 (length xs) h in
    let whole : leb (length xs) (length (xs ++ rest)) ≡ true = le-leb _ _ (simp length-append (omega arith)) in
    rw (same, low, whole, take_at xs rest (length xs) refl, drop_at xs rest (length xs) refl)

-- what reads as an element is that element
pub element_only : (tag : ℕ) (xs c rest : List ℕ) → element tag xs ≡ Ok (c, rest) → (xs ≡ wrap tag c ++ rest) × (length c ≤ 127)
unfolding element wrap
element_only tag [] c rest h = absurd cc
element_only tag (t ∷ []) c rest h =
    elim (cases_Bool (eqb t tag)) [ inl e ↦ absurd (cc (rw e at h)) | inr e ↦ absurd (cc (rw e at h)) ]
element_only tag (t ∷ n ∷ xs) c rest h =
    elim (cases_Bool (eqb t tag)) [
      | inr e ↦ absurd (cc (rw e at h))
      | inl e ↦ elim (cases_Bool (ltb 127 n)) [
        | inl f ↦ absurd (cc (rw (e, f) at h))
        | inr f ↦ elim (cases_Bool (leb n (length xs))) [
          | inr g ↦ absurd (cc (rw (e, f, g) at h))
          | inl g ↦
              let k : ◌≡◌ {A = Result (List ℕ × List ℕ) Fault} (Ok (take n xs, drop n xs)) (Ok (c, rest)) = rw (e, f, g) at h in
              let c-is : take n xs ≡ c = ap (λ p. p.0) (same_ok k) in
              let rest-is : drop n xs ≡ rest = ap (λ p. p.1) (same_ok k) in
              let le : n ≤ length xs = leb-true n (length xs) g in
              let len : length c ≡ n = sym (ap length c-is) ∙ length-take-le n xs le in
              let tag_is : t ≡ tag = eqb-true t tag e in
              let all : take n xs ++ drop n xs ≡ xs = take-append-drop n xs in
              (cc, omega (arith, ltb-false 127 n f))
        ]
      ]
    ]

pub valued_only : (max n : ℕ) (rest : List ℕ) (r : Result (List ℕ × List ℕ) Fault) → valued max r ≡ Ok (n, rest)
    → (c : List ℕ) × (r ≡ Ok (c, rest)) × (acceptable max c ≡ true) × (number_from_digits 256 c ≡ n)
unfolding valued
valued_only max n rest (Err f) h = absurd cc
valued_only max n rest (Ok p) h =
    elim (cases_Bool (acceptable max p.0)) [
      | inr e ↦ absurd (cc (rw e at h))
      | inl e ↦
          let k : ◌≡◌ {A = Result (ℕ × List ℕ) Fault} (Ok (number_from_digits 256 p.0, p.1)) (Ok (n, rest)) = rw e at h in
          (p.0, ap (λ q. Ok (p.0, q.1)) (same_ok k), e, ap (λ q. q.0) (same_ok k))
    ]

-- what was written is read back, whatever follows it
pub read_back : (max n : ℕ) (rest : List ℕ) → n ≤ max → length (content n) ≤ 127 → integer max (encode_integer n ++ rest) ≡ Ok (n, rest)
unfolding integer valued acceptable encode_integer
read_back max n rest h l =
    let good : shortest (content n) && leb (number_from_digits 256 (content n)) max ≡ true =
    and_from (shortest (content n)) (leb (number_from_digits 256 (content n)) max) (content_short n) (le-leb _ _ (omega (arith, content_number n))) in
    rw (element_wrap 2 (content n) rest l, good, content_number n)

under_split : (xs ys : List ℕ) → AllBelowBase 256 (xs ++ ys) → AllBelowBase 256 xs
under_split [] ys h = tt
under_split (x ∷ xs) ys h = (h.0, under_split xs ys h.1)

-- bytes that read as n begin with the encoding of n
pub one_encoding : (max n : ℕ) (xs rest : List ℕ) → AllBelowBase 256 xs → integer max xs ≡ Ok (n, rest) → xs ≡ encode_integer n ++ rest
unfolding integer acceptable encode_integer wrap
one_encoding max n xs rest u h =
    let v = valued_only max n rest (element 2 xs) h in
    let c : List ℕ = v.0 in
    let e = element_only 2 xs c rest v.1 in
    let short : shortest c ≡ true = (and_parts (shortest c) (leb (number_from_digits 256 c) max) v.2).0 in
    let inner : AllBelowBase 256 (2 ∷ length c ∷ (c ++ rest)) = subst (AllBelowBase 256) e.0 u in
    let is : c ≡ content (number_from_digits 256 c) = one_content c (under_split c rest inner.1.1) short in
    let same : content (number_from_digits 256 c) ≡ content n = ap content v.3 in
    e.0 ∙ ap (λ x. wrap 2 x ++ rest) (is ∙ same)

-- an element's faults, by the places of the list

pub element_none : (tag : ℕ) (xs : List ℕ) → length xs ≡ 0 → element tag xs ≡ Err CutShort
unfolding element
element_none tag [] h = refl
element_none tag (x ∷ xs) h = absurd (omega arith)

pub element_other : (tag : ℕ) (xs : List ℕ) → 0 < length xs → (get_or xs 0 0 ≡ tag → ⊥) → element tag xs ≡ Err Tag
unfolding element
element_other tag [] h n = absurd (omega arith)
element_other tag (t ∷ []) h n = rw (ne_eqb t tag n)
element_other tag (t ∷ k ∷ xs) h n = rw (ne_eqb t tag n)

pub element_one : (tag : ℕ) (xs : List ℕ) → length xs ≡ 1 → get_or xs 0 0 ≡ tag → element tag xs ≡ Err CutShort
unfolding element
element_one tag [] h e = absurd (omega arith)
element_one tag (t ∷ []) h e = rw (eq-eqb t tag e)
element_one tag (t ∷ k ∷ xs) h e = absurd (omega arith)

pub element_long : (tag : ℕ) (xs : List ℕ) → 2 ≤ length xs → get_or xs 0 0 ≡ tag → 127 < get_or xs 1 0 → element tag xs ≡ Err LengthByte
unfolding element
element_long tag [] h e l = absurd (omega arith)
element_long tag (t ∷ []) h e l = absurd (omega arith)
element_long tag (t ∷ k ∷ xs) h e l = rw (eq-eqb t tag e, lt-ltb 127 k l)

split_at : (tag : ℕ) (xs : List ℕ) (o : Option (Bor (List ℕ) × Bor (List ℕ))) → 1 ≤ length (drop 1 xs) → get_or xs 0 0 ≡ tag → get_or (drop 1 xs) 0 0 ≤ 127
    → MatchOption o (length (drop 1 (drop 1 xs)) < get_or (drop 1 xs) 0 0) (λ p. IsSplitAt (drop 1 (drop 1 xs)) (get_or (drop 1 xs) 0 0) p.0.now p.1.now)
    → MatchResult (ok_or o CutShort) (λ p. element tag xs ≡ Ok (p.0.now, p.1.now)) (λ fault. element tag xs ≡ Err fault)
unfolding element
split_at tag [] o h e l s = absurd (omega arith)
split_at tag (t ∷ []) o h e l s = absurd (omega arith)
split_at tag (t ∷ k ∷ xs) None h e l s = rw (eq-eqb t tag e, le-ltb 127 k l, lt-leb k (length xs) s)
split_at tag (t ∷ k ∷ xs) (Some p) h e l s = rw (eq-eqb t tag e, le-ltb 127 k l, le-leb k (length xs) s.0, s.1, s.2)

-- what follows the length byte is split behind the contents, or the element is cut short
pub element_split : (tag n : ℕ) (xs after rest : List ℕ) (o : Option (Bor (List ℕ) × Bor (List ℕ))) → after ≡ drop 1 xs → rest ≡ drop 1 after → n ≡ get_or after 0 0
    → 1 ≤ length after → get_or xs 0 0 ≡ tag → get_or after 0 0 ≤ 127 → MatchOption o (length rest < n) (λ p. IsSplitAt rest n p.0.now p.1.now)
    → MatchResult (ok_or o CutShort) (λ p. element tag xs ≡ Ok (p.0.now, p.1.now)) (λ fault. element tag xs ≡ Err fault)
element_split tag n xs after rest o a b m h e l s = split_at tag xs o (rw a at h) e (rw a at l) (rw (m, b, a) at s)

-- an OCTET STRING, by its element
pub octets_good : (xs c rest : List ℕ) → element 4 xs ≡ Ok (c, rest) → length c ≡ 32 → octets xs ≡ Ok (c, rest)
unfolding octets sized
octets_good xs c rest e n = rw (e, eq-eqb (length c) 32 n)
