use Rattle.std.proofs.Common.{◌≡◌, ◌++◌, map, length, take, drop, bit_xor}
use Rattle.sha256.proofs.mac.xor.Given as goal

-- the bytes so far are combined, and the others are as they were
abbrev pub invariant-loop-byte : goal.invariant-loop-byte
invariant-loop-byte l = (l.byte-items ≡ map (λ x. bit_xor x l.fn.pad) (take l.byte-index l.fn.block) ++ drop l.byte-index l.fn.block) × (length l.byte-items ≡ 64)
