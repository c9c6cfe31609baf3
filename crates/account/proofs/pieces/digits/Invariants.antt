use Rattle.std.proofs.Common.{◌≡◌, ◌*◌, length, take}
use Rattle.std.specs.Str.{IsAscii}
use Rattle.account.specs.Texts.{hex_text}
use Rattle.account.proofs.pieces.digits.Given as goal

-- the digits of the bytes before this one; what stands behind them is ASCII too
abbrev pub invariant-loop-i : goal.invariant-loop-i
invariant-loop-i l = (take (2 * l.i) l.digits ≡ hex_text (take l.i l.fn.bytes)) × (length l.digits ≡ 64) × IsAscii l.digits
