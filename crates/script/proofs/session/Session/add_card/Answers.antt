use Rattle.script.specs.Cards.{new_card}
use Rattle.std.proofs.Common.{false, []}
use Rattle.script.proofs.session.Session.add_card.Goals as goal

pub returns-in-Ok : goal.returns-in-Ok
returns-in-Ok c = rw (c.in-Ok.ensures.1 (new_card [] 0 false))
