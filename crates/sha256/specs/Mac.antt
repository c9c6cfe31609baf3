-- HMAC as RFC 2104 defines it, with SHA-256 and its blocks of 64 bytes.
use Rattle.std.specs.Prelude.{ℕ, ◌-◌, cond, List, ◌++◌, map, length, replicate, bit_xor, nat_le}
use Rattle.sha256.specs.Hash.{sha256}

-- the key with zeros after it, up to the 64 bytes of a block
abbrev pub zero_filled : List ℕ → List ℕ
zero_filled key = key ++ replicate (64 - length key) 0

-- the key as a block; a key that is longer than a block goes by its digest
abbrev pub key_block : List ℕ → List ℕ
key_block key = zero_filled (cond (nat_le (length key) 64) key (sha256 key))

-- a block with each of its bytes combined with the byte `pad` by exclusive or
abbrev pub xored : ℕ → List ℕ → List ℕ
xored pad block = map (λ x. bit_xor x pad) block

-- the byte that is repeated in the inner block
abbrev pub ipad : ℕ
ipad = 0x36

-- the byte that is repeated in the outer block
abbrev pub opad : ℕ
opad = 0x5c

-- H (K xor opad, H (K xor ipad, message))
unfoldable pub hmac : List ℕ → List ℕ → List ℕ
hmac key message = sha256 (xored opad (key_block key) ++ sha256 (xored ipad (key_block key) ++ message))
