use Rattle.std.proofs.Common.{◌≡◌, map, length, take}
use Rattle.command.specs.Words.{byte_of}
use Rattle.command.proofs.hex.ArrayU832FromWord.from_word.Given as goal

-- each pair so far has given its byte
abbrev pub invariant-loop-i : goal.invariant-loop-i
invariant-loop-i l = (take l.i l.bytes ≡ map byte_of (take l.i l.pairs)) × (length l.bytes ≡ 32)
