use Rattle.std.proofs.Common.{ℕ, ◌+◌, take, drop, sym, ap, ◌∙◌, arith}
use Rattle.std.proofs.lemmas.List.{take_all, drop_all, take_rest}
use Rattle.script.specs.Replays.{is_newline}
use Rattle.script.proofs.Places.{found, missing}
use Rattle.script.proofs.replay.first_line.Goals as goal

pub returns-in-Some-clause-line : goal.returns-in-Some-clause-line
returns-in-Some-clause-line c = ap (λ n. take n c.args.text.now) (sym (found is_newline c.args.text.now c.in-Some.end c.in-Some.ensures).0)

pub returns-in-Some-clause-rest : goal.returns-in-Some-clause-rest
returns-in-Some-clause-rest c =
    let text = c.args.text.now in
    take_rest text (c.in-Some.end + 1) ∙ ap (λ (n : ℕ). drop (n + 1) text) (sym (found is_newline text c.in-Some.end c.in-Some.ensures).0)

pub returns-in-None-clause-line : goal.returns-in-None-clause-line
returns-in-None-clause-line c = sym (take_all _ c.args.text.now (missing is_newline c.args.text.now c.in-None.ensures))

pub returns-in-None-clause-rest : goal.returns-in-None-clause-rest
returns-in-None-clause-rest c = sym (drop_all _ c.args.text.now (omega (arith, missing is_newline c.args.text.now c.in-None.ensures)))
