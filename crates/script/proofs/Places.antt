-- The place of the first card of a label.
use Rattle.std.proofs.Common.{◌≡◌, ℕ, ◌<◌, ◌≤◌, Bool, List, [], ◌∷◌, length, get_or, set, position, Some, None, Option, refl, ap, ◌∙◌, inl, inr, one-add, arith}
use Rattle.std.specs.List.{position_or_len}
use Rattle.std.proofs.lemmas.Bool.{cases_Bool}
use Rattle.std.proofs.lemmas.Bool.Decides.{nat_tests}
use Rattle.std.proofs.lemmas.List.Folds.{find_at}
use Rattle.std.proofs.lemmas.Option.{slice_get-get_or, slice_get_past}
use Rattle.card.specs.declared.part.Part.{Part}
use Rattle.script.specs.Labels.{Labelled}
use Rattle.script.specs.Cards.{has_label, given, card_named, part_put}
use Rattle.script.specs.Sessions.{Place}
use Rattle.account.specs.declared.reason.Reason.TheVariants.{NoSuchCard}
use Rattle.std.specs.Option.{ok_or}

-- a place that was found, and none
pub found : {X : Type 0} (p : X → Bool) (xs : List X) (i : ℕ) → Some i ≡ position p xs → (position_or_len p xs ≡ i) × (i < length xs)
found p xs i e = grind (arith, nat_tests)

pub missing : {X : Type 0} (p : X → Bool) (xs : List X) → None ≡ position p xs → length xs ≤ position_or_len p xs
missing p xs e = grind (arith, nat_tests)

-- the card at that place is the first of the label, and a part put there is put into that card
module _ (cs : List Labelled) (label : List ℕ) where
  pub named_some : (i : ℕ) (d : Labelled) → Some i ≡ position (has_label label) cs → card_named cs label ≡ Some (get_or cs i d)
  named_some i d e =
      let f = found (has_label label) cs i e in
      find_at (has_label label) cs ∙ rw f.0 (slice_get-get_or cs i d f.1)

pub put_first : (cs : List Labelled) (label : List ℕ) (part : Part) (bytes : List ℕ) (d : Labelled)
    → part_put cs label part bytes ≡ set cs (position_or_len (has_label label) cs) (given (get_or cs (position_or_len (has_label label) cs) d) part bytes)
put_first [] label part bytes d = refl
put_first (c ∷ cs) label part bytes d =
    elim (cases_Bool (has_label label c)) [
      | inl e ↦ rw e
      | inr e ↦ rw (e, one-add) (ap (λ z. c ∷ z) (put_first cs label part bytes d))
    ]

module _ (cs : List Labelled) (label : List ℕ) where
  pub named_none : None ≡ position (has_label label) cs → card_named cs label ≡ None
  named_none e = find_at (has_label label) cs ∙ slice_get_past cs _ (missing (has_label label) cs e)

  pub put_some : (i : ℕ) (part : Part) (bytes : List ℕ) (d : Labelled) → Some i ≡ position (has_label label) cs
      → part_put cs label part bytes ≡ set cs i (given (get_or cs i d) part bytes)
  put_some i part bytes d e =
      let f = found (has_label label) cs i e in
      put_first cs label part bytes d ∙ ap (λ n. set cs n (given (get_or cs n d) part bytes)) f.0

pub placed : (cs : List Labelled) (label : List ℕ) (o : Option ℕ) → o ≡ position (has_label label) cs → Place cs label (ok_or o NoSuchCard)
placed cs label None e = (named_none cs label e, refl)
placed cs label (Some i) e = ((found (has_label label) cs i e).1, λ d. named_some cs label i d e, λ d part bytes. put_some cs label i part bytes d e)
