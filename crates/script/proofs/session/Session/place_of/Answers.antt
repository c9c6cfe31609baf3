use Rattle.script.proofs.Places.{placed}
use Rattle.script.proofs.session.Session.place_of.Goals as goal

pub returns : goal.returns
returns c = rw c.ok_or.ensures.value (placed c.args.self.now.cards c.args.label.now c.position.result c.position.ensures)
