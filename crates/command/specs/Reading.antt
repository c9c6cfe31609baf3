-- Reading the words of a line in turn.
use Rattle.std.specs.Prelude.{◌≡◌, ℕ, List, [], ◌∷◌, Some, None, Option}
use Rattle.std.specs.Option.{option_map}
use Rattle.command.specs.Words.{label_of, number_of, hex_of, bytes32_of}

-- the words that are left to read
abbrev pub Rest : Type 0
Rest = List (List ℕ)

-- a call reads as p does: its answer, seen by f, and the words that it leaves
abbrev pub Reads : {A B : Type 0} → (A → B) → (Rest → Option (B × Rest)) → Rest → Rest → Option A → Type 0
Reads f p s s' r = p s ≡ option_map (λ x. (f x, s')) r

-- one reading, and then the rest
abbrev pub followed : {A B : Type 0} → Option (A × Rest) → (A → Rest → Option B) → Option B
followed None f = None
followed (Some p) f = f p.0 p.1

-- the next word
abbrev pub next_word : Rest → Option (List ℕ × Rest)
next_word [] = None
next_word (w ∷ ws) = Some (w, ws)

-- the next word, where f gives it a meaning
abbrev pub word_by : {A : Type 0} → (List ℕ → Option A) → Rest → Option (A × Rest)
word_by f [] = None
word_by f (w ∷ ws) = option_map (λ x. (x, ws)) (f w)

-- a label
abbrev pub next_label : Rest → Option (List ℕ × Rest)
next_label ws = word_by label_of ws

-- a number
abbrev pub next_number : Rest → Option (ℕ × Rest)
next_number ws = word_by number_of ws

-- hex, or `-` for none
abbrev pub next_hex : Rest → Option (List ℕ × Rest)
next_hex ws = word_by hex_of ws

-- a print, 32 bytes as 64 hex digits
abbrev pub next_bytes32 : Rest → Option (List ℕ × Rest)
next_bytes32 ws = word_by bytes32_of ws

-- no word is left
abbrev pub no_more : Rest → Option (Unit {0} × Rest)
no_more [] = Some (tt, [])
no_more (w ∷ ws) = None

-- a line that ends here
abbrev pub finished : {A : Type 0} → Rest → A → Option A
finished ws x = followed (no_more ws) (λ _ _. Some x)
