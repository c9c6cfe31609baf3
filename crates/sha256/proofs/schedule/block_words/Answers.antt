use Rattle.std.proofs.Common.{rules, [], arith}
use Rattle.sha256.specs.Hash.{word}
use Rattle.sha256.proofs.Calls.{made}
use Rattle.sha256.proofs.Laws.{word_chunk}
use Rattle.sha256.proofs.schedule.block_words.Goals as goal

pub returns : goal.returns
returns c = made _ (word c.args.block.now) _ 16 (λ t y q u k. let e = c.as_chunks.ensures.front in let w = word_chunk 16 t c.args.block.now [] u (omega arith) in search rules) c.from_fn.result 0 c.from_fn.ensures.items
