use Rattle.std.proofs.Common.{arith}
use Rattle.certificate.specs.Der.{element}
use Rattle.certificate.specs.Tags.{tag_byte}
use Rattle.certificate.proofs.Readings.{placed_err, placed_ok}
use Rattle.certificate.proofs.reader.Reader.element.Goals as goal

pub returns-in-Ok-clause-reads : goal.returns-in-Ok-clause-reads
returns-in-Ok-clause-reads c =
    rw (← c.self.view_is) (placed_ok (element (tag_byte c.args.tag)) (c.self.inside.left.now, c.self.inside.at) _ _ _ c.in-Ok.ensures.reads (omega (arith, c.in-Ok.ensures.room)))

pub returns-in-Err-clause-reads : goal.returns-in-Err-clause-reads
returns-in-Err-clause-reads c =
    rw (← c.self.view_is) (placed_err (element (tag_byte c.args.tag)) (c.self.inside.left.now, c.self.inside.at) _ c.in-Err.ensures.reads)
