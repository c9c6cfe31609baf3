-- SHA-256 as FIPS 180-4 defines it; the numbers are those of its sections. A byte is a number below 2^8, a word a number below 2^32, and a
-- message is a list of bytes.
use Rattle.std.specs.Prelude.{ℕ, zero, suc, ◌+◌, ◌-◌, ◌*◌, ◌/◌, ◌%◌, ◌^◌, List, [], ◌∷◌, ◌++◌, map, length, take, drop, replicate, bit_and, bit_or, bit_xor, slice_index}
use Rattle.std.specs.List.{flat_map, fold, range_with_len, zip}
use Rattle.sha256.specs.declared.words.Words.{Words}

-- FIPS 180-4, 2.2.2 and 3.2: operations on words

-- addition modulo 2^32
infixl 65 ◌⊞◌
abbrev pub ◌⊞◌ : ℕ → ℕ → ℕ
a ⊞ b = (a + b) % 2 ^ 32

-- the word x rotated right by n bits
unfoldable pub ROTR : ℕ → ℕ → ℕ
ROTR n x = bit_or (x / 2 ^ n) ((x * 2 ^ (32 - n)) % 2 ^ 32)

-- the word x shifted right by n bits
abbrev pub SHR : ℕ → ℕ → ℕ
SHR n x = x / 2 ^ n

-- the word x with each bit turned
abbrev pub complement : ℕ → ℕ
complement x = 2 ^ 32 - 1 - x

-- FIPS 180-4, 4.1.2: functions

-- each bit is that of y where x has a 1, and that of z where x has a 0
abbrev pub Ch : ℕ → ℕ → ℕ → ℕ
Ch x y z = bit_xor (bit_and x y) (bit_and (complement x) z)

-- each bit is the one that two or three of x, y and z have
abbrev pub Maj : ℕ → ℕ → ℕ → ℕ
Maj x y z = bit_xor (bit_xor (bit_and x y) (bit_and x z)) (bit_and y z)

-- x rotated right by a, b and c bits, combined by exclusive or: what (4.4) and (4.5) have in common
abbrev pub big_sigma : ℕ → ℕ → ℕ → ℕ → ℕ
big_sigma a b c x = bit_xor (bit_xor (ROTR a x) (ROTR b x)) (ROTR c x)

-- x rotated right by a and b bits and shifted right by s bits, combined by exclusive or: what (4.6) and (4.7) have in common
abbrev pub small_sigma : ℕ → ℕ → ℕ → ℕ → ℕ
small_sigma a b s x = bit_xor (bit_xor (ROTR a x) (ROTR b x)) (SHR s x)

-- equation (4.4)
abbrev pub Σ0 : ℕ → ℕ
Σ0 x = bit_xor (bit_xor (ROTR 2 x) (ROTR 13 x)) (ROTR 22 x)

-- equation (4.5)
abbrev pub Σ1 : ℕ → ℕ
Σ1 x = bit_xor (bit_xor (ROTR 6 x) (ROTR 11 x)) (ROTR 25 x)

-- equation (4.6)
abbrev pub σ0 : ℕ → ℕ
σ0 x = bit_xor (bit_xor (ROTR 7 x) (ROTR 18 x)) (SHR 3 x)

-- equation (4.7)
abbrev pub σ1 : ℕ → ℕ
σ1 x = bit_xor (bit_xor (ROTR 17 x) (ROTR 19 x)) (SHR 10 x)

-- FIPS 180-4, 4.2.2: the 64 constants K, one for each round
abbrev pub constants : List ℕ
constants =
    0x428a2f98 ∷ 0x71374491 ∷ 0xb5c0fbcf ∷ 0xe9b5dba5 ∷ 0x3956c25b ∷ 0x59f111f1 ∷ 0x923f82a4 ∷ 0xab1c5ed5
    ∷ 0xd807aa98 ∷ 0x12835b01 ∷ 0x243185be ∷ 0x550c7dc3 ∷ 0x72be5d74 ∷ 0x80deb1fe ∷ 0x9bdc06a7 ∷ 0xc19bf174
    ∷ 0xe49b69c1 ∷ 0xefbe4786 ∷ 0x0fc19dc6 ∷ 0x240ca1cc ∷ 0x2de92c6f ∷ 0x4a7484aa ∷ 0x5cb0a9dc ∷ 0x76f988da
    ∷ 0x983e5152 ∷ 0xa831c66d ∷ 0xb00327c8 ∷ 0xbf597fc7 ∷ 0xc6e00bf3 ∷ 0xd5a79147 ∷ 0x06ca6351 ∷ 0x14292967
    ∷ 0x27b70a85 ∷ 0x2e1b2138 ∷ 0x4d2c6dfc ∷ 0x53380d13 ∷ 0x650a7354 ∷ 0x766a0abb ∷ 0x81c2c92e ∷ 0x92722c85
    ∷ 0xa2bfe8a1 ∷ 0xa81a664b ∷ 0xc24b8b70 ∷ 0xc76c51a3 ∷ 0xd192e819 ∷ 0xd6990624 ∷ 0xf40e3585 ∷ 0x106aa070
    ∷ 0x19a4c116 ∷ 0x1e376c08 ∷ 0x2748774c ∷ 0x34b0bcb5 ∷ 0x391c0cb3 ∷ 0x4ed8aa4a ∷ 0x5b9cca4f ∷ 0x682e6ff3
    ∷ 0x748f82ee ∷ 0x78a5636f ∷ 0x84c87814 ∷ 0x8cc70208 ∷ 0x90befffa ∷ 0xa4506ceb ∷ 0xbef9a3f7 ∷ 0xc67178f2 ∷ []

-- FIPS 180-4, 5.1.1: padding

-- the eight bytes of x, the most significant first
unfoldable pub eight_bytes : ℕ → List ℕ
eight_bytes x =
    (x / 2 ^ 56 % 256) ∷ (x / 2 ^ 48 % 256) ∷ (x / 2 ^ 40 % 256) ∷ (x / 2 ^ 32 % 256)
    ∷ (x / 2 ^ 24 % 256) ∷ (x / 2 ^ 16 % 256) ∷ (x / 2 ^ 8 % 256) ∷ (x % 256) ∷ []

-- what follows n bytes of a message of `bits` bits: a 1 bit, as few zeros as leave eight bytes of a block, and `bits`
unfoldable pub padding_with : ℕ → ℕ → List ℕ
padding_with n bits = 0x80 ∷ (replicate ((119 - n % 64) % 64) 0 ++ eight_bytes bits)

-- the padding of a message of n bytes. The standard ends at 2^64 bits; past that the length is taken modulo 2^64
unfoldable pub padding : ℕ → List ℕ
padding n = padding_with n ((n * 8) % 2 ^ 64)

-- the message with its padding: whole blocks of 64 bytes
unfoldable pub padded : List ℕ → List ℕ
padded message = message ++ padding (length message)

-- FIPS 180-4, 5.2.1: word t of a block, of four bytes, the most significant first
abbrev pub word : List ℕ → ℕ → ℕ
word block t = slice_index block (4 * t) * 2 ^ 24 + slice_index block (4 * t + 1) * 2 ^ 16 + slice_index block (4 * t + 2) * 2 ^ 8 + slice_index block (4 * t + 3)

-- FIPS 180-4, 5.3.3: the initial hash value
abbrev pub initial : Words
initial = record { a = 0x6a09e667; b = 0xbb67ae85; c = 0x3c6ef372; d = 0xa54ff53a; e = 0x510e527f; f = 0x9b05688c; g = 0x1f83d9ab; h = 0x5be0cd19 }

-- FIPS 180-4, 6.2.2, step 1: the message schedule

-- the sixteen words of a block
abbrev pub block_words : List ℕ → List ℕ
block_words block = map (word block) (range_with_len 0 16)

-- the word that follows the words ws: with t for their number, σ1 (W t-2) + W t-7 + σ0 (W t-15) + W t-16
unfoldable pub next_word : List ℕ → ℕ
next_word ws =
    σ1 (slice_index ws (length ws - 2)) ⊞ slice_index ws (length ws - 7) ⊞ σ0 (slice_index ws (length ws - 15)) ⊞ slice_index ws (length ws - 16)

-- the words ws and the n words that follow them
unfoldable pub extended : ℕ → List ℕ → List ℕ
extended zero ws = ws
extended (suc n) ws = extended n ws ++ next_word (extended n ws) ∷ []

-- the 64 words W of a block
abbrev pub schedule : List ℕ → List ℕ
schedule block = extended 48 (block_words block)

-- FIPS 180-4, 6.2.2, steps 2 and 3: the working variables a to h, from the hash value v so far

-- T1 of a round with the constant k and the word w
abbrev pub T1 : Words → ℕ → ℕ → ℕ
T1 v k w = v.h ⊞ Σ1 v.e ⊞ Ch v.e v.f v.g ⊞ k ⊞ w

-- T2 of a round
abbrev pub T2 : Words → ℕ
T2 v = Σ0 v.a ⊞ Maj v.a v.b v.c

-- the working variables after one round
abbrev pub round : Words → ℕ → ℕ → Words
round v k w = record { a = T1 v k w ⊞ T2 v; b = v.a; c = v.b; d = v.c; e = v.d ⊞ T1 v k w; f = v.e; g = v.f; h = v.g }

-- the working variables after a round for each constant and word
abbrev pub rounds : Words → List ℕ → List ℕ → Words
rounds v ks ws = fold (λ u turn. round u turn.0 turn.1) v (zip ks ws)

-- FIPS 180-4, 6.2.2, step 4: the next hash value

-- the sum of two hash values, word by word
abbrev pub added : Words → Words → Words
added x y =
    record { a = x.a ⊞ y.a; b = x.b ⊞ y.b; c = x.c ⊞ y.c; d = x.d ⊞ y.d; e = x.e ⊞ y.e; f = x.f ⊞ y.f; g = x.g ⊞ y.g; h = x.h ⊞ y.h }

-- the hash value that follows v, after one block
abbrev pub compressed : Words → List ℕ → Words
compressed v block = added v (rounds v constants (schedule block))

-- FIPS 180-4, 6.2.2: the digest

-- the hash value that follows v, after the first n blocks of xs
unfoldable pub after_blocks : ℕ → Words → List ℕ → Words
after_blocks zero v xs = v
after_blocks (suc n) v xs = after_blocks n (compressed v (take 64 xs)) (drop 64 xs)

-- the four bytes of x, the most significant first
unfoldable pub four_bytes : ℕ → List ℕ
four_bytes x = (x / 2 ^ 24 % 256) ∷ (x / 2 ^ 16 % 256) ∷ (x / 2 ^ 8 % 256) ∷ (x % 256) ∷ []

-- the 32 bytes of a hash value
unfoldable pub bytes_of : Words → List ℕ
bytes_of v = flat_map four_bytes (v.a ∷ v.b ∷ v.c ∷ v.d ∷ v.e ∷ v.f ∷ v.g ∷ v.h ∷ [])

-- the digest of a message
unfoldable pub sha256 : List ℕ → List ℕ
sha256 message = bytes_of (after_blocks (length (padded message) / 64) initial (padded message))
