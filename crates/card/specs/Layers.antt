-- A card that fits still fits where it is not writable.
use Rattle.std.specs.Prelude.{◌≤◌, length, Some, None, Option}
use Rattle.card.specs.declared.part.Part.{Part}
use Rattle.card.specs.declared.part.Part.TheVariants.{Id, Privilege, Ianda, Authorisation}
use Rattle.card.specs.Cards.{Card, Fits, part_of, unwritable, read_only}

-- its parts are the same
parts_stay : (c : Card) → ((p : Part) → length (part_of c p) ≤ 128) → (p : Part) → length (part_of (unwritable c) p) ≤ 128
parts_stay c f Id = f Id
parts_stay c f Privilege = f Privilege
parts_stay c f Ianda = f Ianda
parts_stay c f Authorisation = f Authorisation

pub fits_stays : (o : Option Card) → Fits o → Fits (read_only o)
fits_stays None f = tt
fits_stays (Some c) f = (f.0, parts_stay c f.1)
