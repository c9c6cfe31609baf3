use Rattle.std.proofs.Common.{◌≡◌, ◌/◌, length, arith, rules}
use Rattle.sha256.proofs.Laws.{finish_is, after_chunks, after_first_chunks, tail_few}
use Rattle.sha256.proofs.message.finish.Goals as goal

pub returns : goal.returns
returns c =
    let long : length c.tail-tail.result ≡ 128 = search rules in
    let rest = c.as_chunks.result.1.now in
    rw (c.into.ensures, c.hash_blocks-2.ensures, c.hash_blocks.ensures, c.tail_blocks.ensures.value, c.as_chunks-2.ensures.front, c.as_chunks.ensures.front, after_chunks (length c.args.message.now / 64) c.args.start c.args.message.now, after_first_chunks _ _ c.tail-tail.result long (tail_few (length rest)))
    (finish_is c.args.start c.args.done _ c.args.message.now rest c.tail-tail.result c.requires long c.as_chunks.ensures.back (omega arith) c.tail-tail.ensures)
