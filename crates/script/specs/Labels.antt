-- A card under a label.
use Rattle.std.specs.Prelude.{ℕ, List}
use Rattle.card.specs.Cards.{Card}

-- a card, and the label that lines name it by
pub record Labelled : Type 0 where
  pub label : List ℕ
  pub card : Card
