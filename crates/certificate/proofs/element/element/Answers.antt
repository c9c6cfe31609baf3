use Rattle.std.proofs.Common.{◌∙◌}
use Rattle.std.proofs.lemmas.List.{take_rest}
use Rattle.certificate.specs.Tags.{tag_byte}
use Rattle.certificate.proofs.Elements.{element_split}
use Rattle.certificate.proofs.element.element.Goals as goal

pub returns-clause-reads : goal.returns-clause-reads
returns-clause-reads c =
    let bytes = c.args.bytes.now in
    rw c.ok_or.ensures.value (element_split (tag_byte c.args.tag) c.from-2.result bytes _ _ c.split_at_checked.result (take_rest bytes 1) (take_rest _ 1)
    c.from-2.ensures c.in-len1-up-after.len_at_least (c.if-found-from.false ∙ c.from.ensures) c.if-length-gt127.false c.split_at_checked.ensures.cases)
