use Rattle.std.proofs.Common.{◌≡◌, ◌+◌, ◌≤◌, ◌++◌, length, vec_items}
use Rattle.script.specs.Replays.{lines_of, printed_from, replayed}
use Rattle.script.proofs.replay.replay_all.Given as goal

-- what was printed, and what the rest will print, is what the script prints; a line has at least its newline
abbrev pub invariant-loop-rest : goal.invariant-loop-rest
invariant-loop-rest l =
    (vec_items l.out ++ printed_from l.session (l.n + 1) (lines_of l.rest) ≡ replayed l.text)
    × (l.n + length l.rest ≤ length l.text)

abbrev pub decreases-loop-rest : goal.decreases-loop-rest
decreases-loop-rest l = length l.rest
