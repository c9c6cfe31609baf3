-- The cards of a script.
use Rattle.std.specs.Prelude.{ℕ, Bool, cond, List, [], ◌∷◌, Option, find}
use Rattle.std.specs.Str.{bytes_eq}
use Rattle.card.specs.declared.part.Part.{Part}
use Rattle.card.specs.Cards.{blank_card, with_part, put_in}
use Rattle.script.specs.Labels.{Labelled}

-- a new card has four empty parts
abbrev pub new_card : List ℕ → ℕ → Bool → Labelled
new_card label number writable = record { label = label; card = blank_card number writable }

-- the card with other bytes in a part
abbrev pub given : Labelled → Part → List ℕ → Labelled
given c part bytes = record { label = c.label; card = with_part c.card part bytes }

-- the same, where they are no more than a part can have
abbrev pub put_into : Labelled → Part → List ℕ → Labelled
put_into c part bytes = record { label = c.label; card = put_in c.card part bytes }

-- whether a card has this label
abbrev pub has_label : List ℕ → Labelled → Bool
has_label label c = bytes_eq c.label label

-- the first card of a label
abbrev pub card_named : List Labelled → List ℕ → Option Labelled
card_named cs label = find (has_label label) cs

-- the cards, where the first of a label gets other bytes in a part
abbrev pub part_put : List Labelled → List ℕ → Part → List ℕ → List Labelled
part_put [] label part bytes = []
part_put (c ∷ cs) label part bytes = cond (has_label label c) (given c part bytes ∷ cs) (c ∷ part_put cs label part bytes)
