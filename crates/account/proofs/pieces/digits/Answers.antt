use Rattle.std.proofs.Common.{replicate, refl, ◌∙◌, rules, arith}
use Rattle.std.proofs.lemmas.List.{length-set}
use Rattle.account.proofs.Hex.{hex_more, ascii_of, ascii_set, digit_ascii}
use Rattle.account.proofs.pieces.digits.Goals as goal

pub loop-i-init : goal.loop-i-init
loop-i-init c = (refl, refl, ascii_of (replicate 64 0) refl)

pub loop-i-preserved : goal.loop-i-preserved
loop-i-preserved c =
    let inv = c.loop-i.invariant in
    rw (c.from.ensures, c.from-in-loop-i.ensures) (
      hex_more c.args.bytes.now c.loop-i.digits c.loop-i.i (search rules) (omega (arith, inv.1, c.loop-i-test.true)) inv.0,
      length-set _ _ _ ∙ length-set _ _ _ ∙ inv.1,
      ascii_set _ _ _ (ascii_set _ _ _ inv.2 (digit_ascii _)) (digit_ascii _),
    )
