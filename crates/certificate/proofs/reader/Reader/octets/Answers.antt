use Rattle.certificate.proofs.Readings.{octets_ok}
use Rattle.certificate.proofs.reader.Reader.octets.Goals as goal

pub returns : goal.returns
returns c =
    let chunk = c.in-Ok.ensures.1 in
    octets_ok c.args.self.now c.element.new.self c.in_ok-contents.contents.now c.in-Ok.mark c.in_ok-contents.ensures.reads chunk.long chunk.same
