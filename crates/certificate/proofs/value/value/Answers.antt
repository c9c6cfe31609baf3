use Rattle.std.proofs.Common.{refl, drop, sym, arith}
use Rattle.std.specs.Int.Digits.{number_from_digits}
use Rattle.std.proofs.lemmas.List.{length-drop}
use Rattle.certificate.proofs.Contents.{value_good, value_large, value_bad, value_long, after_more, after_all}
use Rattle.certificate.proofs.value.value.Goals as goal

pub returns-then-contents-gt5 : goal.returns-then-contents-gt5
returns-then-contents-gt5 c = value_long c.args.contents.now (omega arith)

pub returns-then-not-is_shortest : goal.returns-then-not-is_shortest
returns-then-not-is_shortest c = value_bad 4294967295 c.args.contents.now (sym c.if-not-is_shortest.ensures)

pub returns-in_err-number : goal.returns-in_err-number
returns-in_err-number c =
    let xs = c.args.contents.now in
    let i = c.loop-byte.byte-index in
    let more = after_more c.loop-byte.number (drop i xs) (omega (arith, length-drop i xs)) in
    rw c.from_residual.ensures (value_large 4294967295 (number_from_digits 256 xs) xs refl (omega (arith, c.loop-byte.invariant.0, c.in_err-number.ensures)))

pub returns : goal.returns
returns c =
    value_good 4294967295 c.loop-byte.number c.args.contents.now
    (after_all c.loop-byte.number c.loop-byte.byte-index c.args.contents.now c.loop-byte.invariant.0 c.loop-byte-test.false)
    (omega arith) (sym c.if-not-is_shortest.ensures)
