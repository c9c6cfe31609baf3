-- Pairs in a list, and one more.
use Rattle.std.proofs.Common.{◌≡◌, ℕ, ◌+◌, ◌-◌, ◌<◌, true, false, ◌&&◌, ◌||◌, List, [], ◌∷◌, ◌++◌, length, Some, sym, refl, ap, ◌∙◌, ⊎_elim, arith, length-append}
use Rattle.std.specs.Str.{bytes_eq}
use Rattle.std.proofs.Math.Bool.{or-false}
use Rattle.std.proofs.lemmas.List.Folds.{list_any-append}
use Rattle.std.proofs.lemmas.Slice.Eq.{bytes_eq-Decides}
use Rattle.std.proofs.lemmas.Bool.{eq-eqb, eqb-true, le-leb, and_parts, and_from, or_left, or_right, cases_Bool}
use Rattle.sha256.specs.Hash.{sha256}
use Rattle.seal.specs.declared.pair.Pair.{Pair}
use Rattle.seal.specs.Pairs.{is_pair, listed}
use Rattle.seal.specs.Listed.{listed_by}
use Rattle.seal.specs.Seals.{Made}

-- one more pair is looked at last
listed_more : (ps : List Pair) (p : Pair) (issuer : ℕ) (digest : List ℕ) → listed (ps ++ (p ∷ [])) issuer digest ≡ listed ps issuer digest || is_pair p issuer digest
listed_more ps p issuer digest = list_any-append (λ q. is_pair q issuer digest) ps (p ∷ []) ∙ ap (λ b. listed ps issuer digest || b) (or-false (is_pair p issuer digest))

-- a pair is itself, and no other
pair_self : (n : ℕ) (d : List ℕ) → is_pair (record { issuer = n; digest = d }) n d ≡ true
pair_self n d = and_from _ _ (eq-eqb n n refl) ((bytes_eq-Decides d d).1 refl)

pair_other : (n i : ℕ) (d k : List ℕ) → ((i ≡ n) × (k ≡ d) → ⊥) → is_pair (record { issuer = n; digest = d }) i k ≡ false
pair_other n i d k h =
    ⊎_elim
    (λ (t : is_pair (record { issuer = n; digest = d }) i k ≡ true).
    let p = and_parts _ _ t in absurd (h (sym (eqb-true n i p.0), sym ((bytes_eq-Decides d k).0 p.1))))
    (λ f. f)
    (cases_Bool (is_pair (record { issuer = n; digest = d }) i k))

-- listing a message's digest under the own name is making a mark of it
module _ (n : ℕ) (ps ps' : List Pair) (m mark : List ℕ) (is : mark ≡ sha256 m) (more : ps' ≡ ps ++ (record { issuer = n; digest = mark } ∷ [])) where
  listed_after : (i : ℕ) (k : List ℕ) → listed ps' i k ≡ listed ps i k || is_pair (record { issuer = n; digest = mark }) i k
  listed_after i k = rw more (listed_more ps (record { issuer = n; digest = mark }) i k)

  pub listing_made : length ps < 64 → length mark ≡ 32 → Made (listed_by n ps) m mark (listed_by n ps')
  listing_made h s = record {
    able = le-leb 1 (64 - length ps) (omega arith);
    sized = s;
    name = refl;
    marked = and_from _ _ ((bytes_eq-Decides mark (sha256 m)).1 is) (listed_after n mark ∙ or_right _ _ (pair_self n mark));
    kept = λ i x k g. let a = and_parts (bytes_eq k (sha256 x)) (listed ps i k) g in and_from _ _ a.0 (listed_after i k ∙ or_left _ _ a.1);
    others = λ i x k o. ap (λ b. bytes_eq k (sha256 x) && b) (listed_after i k ∙ ap (λ b. listed ps i k || b) (pair_other n i mark k o) ∙ or-false (listed ps i k));
    left = let l : length ps' ≡ length ps + 1 = ap length more ∙ length-append ps (record { issuer = n; digest = mark } ∷ []) in ap Some (omega arith);
  }
