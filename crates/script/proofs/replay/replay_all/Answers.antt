use Rattle.std.proofs.Common.{◌≡◌, ◌+◌, ◌<◌, ◌++◌, length, vec_items, sym, ap, ◌∙◌, arith}
use Rattle.std.proofs.lemmas.List.{append-nil, length-drop}
use Rattle.std.specs.List.{position_or_len}
use Rattle.std.proofs.lemmas.Bool.Decides.{nat_tests}
use Rattle.std.proofs.lemmas.Grind.{common_steps}
use Rattle.script.specs.Replays.{is_newline, replayed}
use Rattle.script.proofs.Lines.{replay_step, printed_none}
use Rattle.script.proofs.replay.replay_all.Goals as goal

pub loop-rest-init : goal.loop-rest-init
unfolding replayed
loop-rest-init c = (rw (c.new-out.ensures.items, c.new-session.ensures), omega arith)

pub loop-rest-preserved : goal.loop-rest-preserved
loop-rest-preserved c =
    let rest = c.loop-rest.rest.now in
    let some : 0 < length rest = grind (arith, nat_tests) in (
      replay_step c.loop-rest.session c.line.new.self c.loop-rest.n (vec_items c.loop-rest.out) (vec_items c.line.new.out) rest c.first_line.result.0.now _ _
          some c.first_line.ensures.line (grind (arith, common_steps, c.first_line.ensures.rest)) c.in_ok-line.ensures.after c.in_ok-line.ensures.printed c.loop-rest.invariant.0,
      omega (arith, some, ap length c.first_line.ensures.rest, length-drop (position_or_len is_newline rest + 1) rest, c.loop-rest.invariant.1),
    )

pub returns : goal.returns
returns c =
    let none : length c.loop-rest.rest.now ≡ 0 = grind (arith, nat_tests) in
    sym (ap (λ z. vec_items c.loop-rest.out ++ z) (printed_none c.loop-rest.session (c.loop-rest.n + 1) c.loop-rest.rest.now none) ∙ append-nil (vec_items c.loop-rest.out))
    ∙ c.loop-rest.invariant.0
