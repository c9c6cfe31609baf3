use Rattle.std.proofs.Common.{◌≡◌, ◌^◌, ◌<◌, true, take}
use Rattle.std.specs.List.{list_all}
use Rattle.command.specs.Words.{is_digit, decimal_of}
use Rattle.command.proofs.number.U32FromWord.from_word.Given as goal

-- the bytes read are digits, of this value
abbrev pub invariant-loop-b : goal.invariant-loop-b
invariant-loop-b l =
    (l.n ≡ decimal_of (take l.b-index l.word)) × (list_all is_digit (take l.b-index l.word) ≡ true) × (l.n < 10 ^ l.b-index)
