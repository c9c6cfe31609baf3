-- How a text splits into words.
use Rattle.std.proofs.Common.{◌≡◌, ℕ, List, [], ◌∷◌, ◌++◌, length, ◌<◌, take, drop, refl, ap, ◌∙◌, inl, inr, append_assoc, append-nil, one-add, arith}
use Rattle.std.proofs.lemmas.Bool.{cases_Bool}
use Rattle.std.specs.List.{prefix_len}
use Rattle.command.specs.Words.{blank, in_word, ended, words_after, words}

-- blanks before the first word do not count
words_skip : (xs : List ℕ) → words xs ≡ words (drop (prefix_len blank xs) xs)
unfolding words
words_skip [] = refl
words_skip (b ∷ xs) = elim (cases_Bool (blank b)) [ inl h ↦ rw (h, one-add) (words_skip xs) | inr h ↦ rw (h, h) ]

-- the first word goes on to the next blank
words_first : (w xs : List ℕ) → words_after w xs ≡ ended (w ++ take (prefix_len in_word xs) xs) (words (drop (prefix_len in_word xs) xs))
unfolding words
words_first w [] = rw append-nil
words_first w (b ∷ xs) =
    elim (cases_Bool (blank b)) [
      | inl h ↦ rw (h, h, append-nil)
      | inr h ↦ rw (h, one-add) (words_first (w ++ (b ∷ [])) xs ∙ ap (λ v. ended v (words (drop (prefix_len in_word xs) xs))) (append_assoc w (b ∷ []) (take (prefix_len in_word xs) xs)))
    ]

words_of : (xs : List ℕ) → words xs ≡ ended (take (prefix_len in_word xs) xs) (words (drop (prefix_len in_word xs) xs))
unfolding words
words_of xs = words_first [] xs

-- no word begins where the blanks end: there is none
pub words_none : (xs : List ℕ) → prefix_len in_word (drop (prefix_len blank xs) xs) ≡ 0 → words xs ≡ []
unfolding words
words_none [] e = refl
words_none (b ∷ xs) e =
    elim (cases_Bool (blank b)) [
      | inl h ↦ rw h (words_none xs (rw (h, one-add) at e))
      | inr h ↦ absurd (omega (arith, rw (h, h) at e))
    ]

ended_some : (w : List ℕ) (ws : List (List ℕ)) → 0 < length w → ended w ws ≡ w ∷ ws
ended_some [] ws h = absurd (omega arith)
ended_some (b ∷ w) ws h = refl

-- the first word of a text, and the text after it
pub words_next : (xs text : List ℕ) (n : ℕ) (w rest : List ℕ) → text ≡ drop (prefix_len blank xs) xs → n ≡ prefix_len in_word text
    → w ≡ take n text → rest ≡ drop n text → 0 < length w → words xs ≡ w ∷ words rest
words_next xs text n w rest e f g h l = rw (words_skip xs, ← e, words_of text, ← f, ← g, ← h) (ended_some w (words rest) l)
