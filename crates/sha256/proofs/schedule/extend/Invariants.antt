use Rattle.std.proofs.Common.{◌≡◌, ◌+◌, length, take}
use Rattle.sha256.specs.Hash.{extended}
use Rattle.sha256.proofs.schedule.extend.Given as goal

abbrev pub invariant-loop-t : goal.invariant-loop-t
invariant-loop-t l = (take (l.t + 16) l.w ≡ extended l.t l.fn.words) × (length l.w ≡ 64)
