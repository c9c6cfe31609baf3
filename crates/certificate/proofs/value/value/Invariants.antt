use Rattle.std.proofs.Common.{◌≡◌, ◌≤◌, drop}
use Rattle.std.specs.Int.Digits.{number_from_digits, number_from_digits_after}
use Rattle.certificate.proofs.value.value.Given as goal

abbrev pub invariant-loop-byte : goal.invariant-loop-byte
invariant-loop-byte l =
    (number_from_digits_after 256 l.number (drop l.byte-index l.contents) ≡ number_from_digits 256 l.contents) × (l.number ≤ 4294967295)
