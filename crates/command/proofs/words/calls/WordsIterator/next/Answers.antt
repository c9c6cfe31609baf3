use Rattle.std.proofs.Common.{◌∙◌, ap, drop, rules, arith}
use Rattle.std.proofs.lemmas.Grind.{common_steps}
use Rattle.command.proofs.Splits.{words_next, words_none}
use Rattle.command.proofs.words.calls.WordsIterator.next.Goals as goal

pub returns-then-is_empty-clause-steps : goal.returns-then-is_empty-clause-steps
returns-then-is_empty-clause-steps c =
    let xs = c.self.inside.left.now in
    let e = words_none xs (rw (← c.blanks.ensures.count, ← c.split_at.ensures.back, ← c.width.ensures.count) (grind (arith, common_steps))) in
    rw (← c.self.view_is) (e, e)

pub returns : goal.returns
returns c =
    let xs = c.self.inside.left.now in
    let e = words_next xs _ c.width.result c.split_at-2.result.0.now c.split_at-2.result.1.now (c.split_at.ensures.back ∙ ap (λ i. drop i xs) c.blanks.ensures.count) c.width.ensures.count c.split_at-2.ensures.front c.split_at-2.ensures.back (grind (arith, common_steps)) in
    rw (← c.self.view_is, e) (search rules)
