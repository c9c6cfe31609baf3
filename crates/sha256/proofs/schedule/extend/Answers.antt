use Rattle.std.proofs.Common.{length, ◌≡◌, ◌+◌, sym, ap, ◌∙◌, arith, rules}
use Rattle.std.proofs.lemmas.List.{take_all, take_at, length-set, length-append}
use Rattle.sha256.specs.Hash.{extended}
use Rattle.sha256.proofs.Laws.{extended_more}
use Rattle.sha256.proofs.schedule.extend.Goals as goal

pub loop-t-preserved : goal.loop-t-preserved
loop-t-preserved c =
    (extended_more c.loop-t.w c.args.words c.loop-t.t _ (omega (arith, c.loop-t.invariant.1)) c.loop-t.invariant.0 (cc), rw length-set c.loop-t.invariant.1)

pub returns : goal.returns
returns c =
    let t : c.loop-t.t ≡ 48 = omega arith in
    sym (take_all (c.loop-t.t + 16) c.loop-t.w (omega (arith, c.loop-t.invariant.1))) ∙ c.loop-t.invariant.0 ∙ ap (λ n. extended n c.args.words) t

pub loop-t-init : goal.loop-t-init
unfolding extended
loop-t-init c =
    let long : length c.args.words ≡ 16 = search rules in
    rw c.copy_from_slice.ensures.after (take_at c.args.words _ 16 long, simp length-append (omega arith))
