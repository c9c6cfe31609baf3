-- What a script has led to so far.
use Rattle.std.specs.Prelude.{List, Option}
use Rattle.command.specs.declared.command.Kind.{Kind}
use Rattle.seal.specs.declared.key.Key.{Key}
use Rattle.script.specs.Labels.{Labelled}

-- the clearance kind, if one was chosen; the keys of the latest seal; the cards, in the order of their making
pub record State : Type 0 where
  pub kind : Option Kind
  pub keys : List Key
  pub cards : List Labelled
