use Rattle.std.proofs.Common.{rules}
use Rattle.command.proofs.Digits.{unhex_pairs}
use Rattle.command.proofs.hex.bytes_of.Goals as goal

pub returns : goal.returns
returns c = rw (← unhex_pairs c.args.hex.now, ← c.as_chunks.ensures.front) (search rules)
