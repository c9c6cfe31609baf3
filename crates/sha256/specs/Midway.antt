-- What the code has part of the way through a message. The digest itself is `sha256` of Hash.
use Rattle.std.specs.Prelude.{ℕ, ◌+◌, ◌/◌, cond, List, ◌++◌, length, nat_lt}
use Rattle.sha256.specs.declared.words.Words.{Words}
use Rattle.sha256.specs.Hash.{padding, after_blocks, bytes_of}

-- how many blocks the last n bytes of a message, n below 64, fill together with the padding
abbrev pub tail_blocks : ℕ → ℕ
tail_blocks n = cond (nat_lt n 56) 1 2

-- the digest of a message whose first `done` bytes, whole blocks, have led to v, and of which `rest` is to come
unfoldable pub digest_after : Words → ℕ → List ℕ → List ℕ
digest_after v done rest =
    let padded : List ℕ = rest ++ padding (done + length rest) in
    bytes_of (after_blocks (length padded / 64) v padded)
