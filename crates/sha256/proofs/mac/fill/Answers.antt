use Rattle.std.proofs.Common.{◌++◌, length, ap}
use Rattle.std.proofs.lemmas.List.{drop-replicate}
use Rattle.sha256.proofs.mac.fill.Goals as goal

pub returns : goal.returns
returns c = rw c.copy_from_slice.ensures.after (ap (λ k. c.args.key.now ++ k) (drop-replicate (length c.args.key.now) 64 0))
