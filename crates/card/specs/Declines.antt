-- The numbers of the declines.
use Rattle.std.specs.Prelude.{ℕ, Ok, Err, Result}
use Rattle.card.specs.declared.decline.SlotDecline.{SlotDecline}
use Rattle.card.specs.declared.decline.SlotDecline.TheVariants.{NoCard, ShortBuffer, NotWritable, NotSequence}
use Rattle.card.specs.declared.decline.CardDecline.{CardDecline}
use Rattle.card.specs.declared.decline.CardDecline.TheVariants.{PartTooLong}

-- the number of what a slot declines
abbrev pub slot_number : SlotDecline → ℕ
slot_number NoCard = 20
slot_number ShortBuffer = 21
slot_number NotWritable = 22
slot_number NotSequence = 23

-- the number of what the making of a card declines
abbrev pub card_number : CardDecline → ℕ
card_number PartTooLong = 25

-- what a slot answers, as a number: 0, or the number of the decline
abbrev pub code : {A : Type 0} → Result A SlotDecline → ℕ
code (Ok a) = 0
code (Err d) = slot_number d

-- what the making of a card answers, as a number: 0, or the number of the decline
abbrev pub making_code : {A : Type 0} → Result A CardDecline → ℕ
making_code (Ok a) = 0
making_code (Err d) = card_number d
