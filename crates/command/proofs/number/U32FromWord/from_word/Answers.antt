use Rattle.std.proofs.Common.{rules, arith}
use Rattle.std.proofs.lemmas.Grind.{common_steps}
use Rattle.command.proofs.Digits.{decimal_more}
use Rattle.command.proofs.number.U32FromWord.from_word.Goals as goal

pub loop-b-preserved : goal.loop-b-preserved
loop-b-preserved c =
    let e = decimal_more c.args.word.now c.loop-b.b-index (omega arith) in
    (search rules, grind (arith, common_steps), grind (arith, common_steps))
