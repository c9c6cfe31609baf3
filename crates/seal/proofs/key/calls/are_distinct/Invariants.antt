use Rattle.std.proofs.Common.{◌≡◌, length}
use Rattle.seal.specs.Keys.{distinct}
use Rattle.seal.proofs.key.calls.are_distinct.Given as goal

-- the names passed do not come again
abbrev pub invariant-loop-rest : goal.invariant-loop-rest
invariant-loop-rest l = distinct l.rest ≡ distinct l.keys

abbrev pub decreases-loop-rest : goal.decreases-loop-rest
decreases-loop-rest l = length l.rest
