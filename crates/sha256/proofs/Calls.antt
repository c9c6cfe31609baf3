-- What `array::map` and `array::from_fn` make, where the closure computes a function and stays as it is.
use Rattle.std.proofs.Common.{◌≡◌, ℕ, zero, suc, ◌+◌, ◌<◌, ◌≤◌, List, length, map, get_or, sym, ap, ◌∙◌, subst, ⊎_elim, arith}
use Rattle.std.specs.Array.{MapsFrom, IsMapOf, IsFromFnResultFrom, IsFromFnResult}
use Rattle.std.specs.Fn.{Called, Mut}
use Rattle.std.specs.List.{range_with_len}
use Rattle.std.proofs.lemmas.Bool.{cases_eq}
use Rattle.std.proofs.lemmas.List.{get_or-map, same_lists, length-map}
use Rattle.std.proofs.lemmas.List.FromFn.{fill_by_all}

module _ {F A B : Type 0} (g : Mut F (A × Unit {0}) B) (h : A → B) (f : F) (same : (x : A) (y : B) (q : F) → Called g f (x, tt) y q → (y ≡ h x) × (q ≡ f)) (xs : List A) (ys : List B) (d : A) where
  maps_at : (i n : ℕ) → MapsFrom g f xs ys i n → (j : ℕ) (e : B) → i ≤ j → j < i + n → get_or ys j e ≡ h (get_or xs j d)
  maps_at i zero m j e l u = absurd (omega arith)
  maps_at i (suc n) (q, x, y, is_x, is_y, call, more) j e l u =
      let this = same x y q call in
      ⊎_elim
      (λ (here : j ≡ i). subst (λ k. get_or ys k e ≡ h (get_or xs k d)) (sym here) (is_y.1 e ∙ this.0 ∙ ap h (sym (is_x.1 d))))
      (λ (later : j ≡ i → ⊥). maps_at (i + 1) n (subst (λ p. MapsFrom g p xs ys (i + 1) n) this.1 more) j e (omega arith) (omega arith))
      (cases_eq j i)

  -- the elements that `map` made
  pub mapped : (n : ℕ) → length xs ≡ n → IsMapOf g f xs ys n → ys ≡ map h xs
  mapped n l m =
      let long : length ys ≡ n = m.long in
      same_lists ys (map h xs) (long ∙ sym l ∙ sym (length-map xs h))
      (λ k b u. maps_at 0 n m.each k b (omega arith) (omega arith) ∙ sym (get_or-map h xs k d b (omega arith)))

module _ {F B : Type 0} (g : Mut F (ℕ × Unit {0}) B) (h : ℕ → B) (f : F) (n : ℕ) (same : (i : ℕ) (y : B) (q : F) → i < n → Called g f (i, tt) y q → (y ≡ h i) × (q ≡ f)) (ys : List B) (e : B) where
  makes_at : (i m : ℕ) → i + m ≡ n → IsFromFnResultFrom g f ys i m → (j : ℕ) → i ≤ j → j < n → get_or ys j e ≡ h j
  makes_at i zero s m j l u = absurd (omega arith)
  makes_at i (suc k) s (q, y, is_y, call, more) j l u =
      let this = same i y q (omega arith) call in
      ⊎_elim
      (λ (here : j ≡ i). subst (λ k. get_or ys k e ≡ h k) (sym here) (is_y.1 e ∙ this.0))
      (λ (later : j ≡ i → ⊥). makes_at (i + 1) k (omega arith) (subst (λ p. IsFromFnResultFrom g p ys (i + 1) k) this.1 more) j (omega arith) u)
      (cases_eq j i)

  -- the elements that `from_fn` made
  pub made : IsFromFnResult g f ys n → ys ≡ map h (range_with_len 0 n)
  made m = fill_by_all h ys n e m.long (λ k u. makes_at 0 n (omega arith) m.each k (omega arith) u)
