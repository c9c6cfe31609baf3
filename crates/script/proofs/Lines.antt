-- The lines of a text.
use Rattle.std.proofs.Common.{◌≡◌, ℕ, suc, ◌+◌, ◌<◌, List, [], ◌∷◌, ◌++◌, length, take, drop, sym, refl, ap, ◌∙◌, inl, inr, add-one, one-add, arith}
use Rattle.std.specs.List.{position_or_len, before_first, after_first}
use Rattle.std.proofs.lemmas.List.{append_assoc, append-nil, length-append}
use Rattle.std.proofs.lemmas.Bool.{cases_Bool}
use Rattle.command.specs.Commands.{line_of}
use Rattle.script.specs.Lines.{session_after, printed_by}
use Rattle.script.specs.State.{State}
use Rattle.script.specs.Replays.{is_newline, last_line, lines_after, lines_of, printed_from}

-- the first line, where the bytes of w were read before
lines_first : (w xs : List ℕ) → 0 < length w + length xs
    → lines_after w xs ≡ (w ++ before_first is_newline xs) ∷ lines_after [] (after_first is_newline xs)
unfolding lines_after last_line
lines_first [] [] h = absurd (omega arith)
lines_first (b ∷ w) [] h = ap (λ z. z ∷ []) (sym (append-nil (b ∷ w)))
lines_first w (b ∷ xs) h =
    elim (cases_Bool (is_newline b)) [
      | inl e ↦ rw e (ap (λ z. z ∷ lines_after [] xs) (sym (append-nil w)))
      | inr e ↦
          let n : ℕ = position_or_len is_newline xs in
          rw (e, one-add n, add-one (suc n))
          (lines_first (w ++ (b ∷ [])) xs (simp length-append (omega arith))
          ∙ ap (λ z. z ∷ lines_after [] (drop (n + 1) xs)) (append_assoc w (b ∷ []) (take n xs))
          ∙ ap (λ k. (w ++ (b ∷ take n xs)) ∷ lines_after [] (drop k xs)) (add-one n))
    ]

-- one line more is printed
pub printed_more : (s : State) (n : ℕ) (xs : List ℕ) → 0 < length xs
    → printed_from s n (lines_of xs)
    ≡ printed_by s n (line_of (before_first is_newline xs)) ++ printed_from (session_after s (line_of (before_first is_newline xs))) (n + 1) (lines_of (after_first is_newline xs))
unfolding lines_of printed_from
printed_more s n xs h = ap (printed_from s n) (lines_first [] xs (omega arith))

pub printed_none : (s : State) (n : ℕ) (xs : List ℕ) → length xs ≡ 0 → printed_from s n (lines_of xs) ≡ []
unfolding lines_of lines_after last_line printed_from
printed_none s n [] h = refl
printed_none s n (b ∷ xs) h = absurd (omega arith)

-- a loop's step: one line is carried out
pub replay_step : (s s' : State) (n : ℕ) (out out' xs line rest all : List ℕ) → 0 < length xs → line ≡ before_first is_newline xs → rest ≡ after_first is_newline xs
    → s' ≡ session_after s (line_of line) → out' ≡ out ++ printed_by s (n + 1) (line_of line) → out ++ printed_from s (n + 1) (lines_of xs) ≡ all
    → out' ++ printed_from s' (n + 1 + 1) (lines_of rest) ≡ all
replay_step s s' n out out' xs line rest all h is-line is-rest session printed inv =
    rw (printed, session, is-rest, is-line)
    (append_assoc out _ _ ∙ ap (λ z. out ++ z) (sym (printed_more s (n + 1) xs h)) ∙ inv)
