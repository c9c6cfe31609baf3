use Rattle.std.proofs.Common.{◌≡◌, drop}
use Rattle.command.specs.Commands.{chosen}
use Rattle.command.proofs.Choices.{table}
use Rattle.command.proofs.command.options.chosen.Given as goal

-- no row before has the name
abbrev pub invariant-loop-word : goal.invariant-loop-word
invariant-loop-word g l = chosen l.name (table l.rows) ≡ chosen l.name (table (drop l.word-index l.rows))
