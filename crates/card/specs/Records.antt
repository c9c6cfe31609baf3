-- The card that a record holds.
use Rattle.std.specs.Prelude.{◌≤◌, length, Some, None, Option}
use Rattle.card.specs.declared.record.CardRecord.{CardRecord}
use Rattle.card.specs.declared.part.Part.{Part}
use Rattle.card.specs.declared.part.Part.TheVariants.{Id, Privilege, Ianda, Authorisation}
use Rattle.card.specs.Cards.{Card, CardFits, Fits, part_of}

-- the card of a record
abbrev pub card_in : CardRecord → Card
card_in r = record { number = r.number; id = r.id; privilege = r.privilege; ianda = r.ianda; authorisation = r.authorisation; writable = r.writable }

-- its parts are short
parts_short : (r : CardRecord) (p : Part) → length (part_of (card_in r) p) ≤ 128
parts_short r Id = r.within.0
parts_short r Privilege = r.within.1
parts_short r Ianda = r.within.2
parts_short r Authorisation = r.within.3

-- what a record holds is a card that fits
pub holds_card : (r : CardRecord) → CardFits (card_in r)
holds_card r = (r.bits, parts_short r)

-- the card of a record, if there is one
abbrev pub held_card : Option CardRecord → Option Card
held_card None = None
held_card (Some r) = Some (card_in r)

-- and it fits
pub holds_fit : (o : Option CardRecord) → Fits (held_card o)
holds_fit None = tt
holds_fit (Some r) = holds_card r
