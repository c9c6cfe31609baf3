-- Lemmas on the definitions of SHA-256 and HMAC.
use Rattle.std.proofs.Common.{w32, ◌≡◌, ℕ, zero, suc, ◌+◌, ◌-◌, ◌*◌, ◌/◌, ◌%◌, ◌<◌, ◌≤◌, List, ◌∷◌, ◌++◌, length, get_or, take, drop, set, replicate, sym, refl, ap, ◌∙◌, inl, inr, suc-add, zero-add, add-one, arith}
use Rattle.std.proofs.lemmas.List.{take_more_set, length-take-le, get_or-take, append_assoc, length-append, length-replicate, length-drop, take-append-le, drop-append-le, drop-drop, take-append-drop, take_at, drop_at, set_at, drop-replicate, take-replicate}
use Rattle.std.proofs.lemmas.Bool.{cases_lt, lt-ltb, le-ltb}
use lib.Seq.{take-append-add}
use Rattle.sha256.specs.declared.words.Words.{Words}
use Rattle.std.specs.Int.{rotate_right, from_be_bytes}
use Rattle.std.specs.Simd.{first_chunks}
use Rattle.sha256.specs.Hash.{ROTR, word, extended, next_word, σ0, σ1, ◌⊞◌, compressed, after_blocks, padding_with, padding, padded, eight_bytes, bytes_of, initial, sha256}
use Rattle.sha256.specs.Midway.{tail_blocks, digest_after}
use Rattle.std.specs.List.{fold}

-- the library's rotation of a word is ROTR, below a whole turn
pub rotation : (n x : ℕ) → 0 < n → n < 32 → rotate_right w32 x n ≡ ROTR n x
unfolding ROTR
rotation n x p h =
    let e : n % 32 ≡ n = omega arith in
    let f : (32 - n) % 32 ≡ 32 - n = omega arith in
    rw (e, f) refl

-- the library's chunks of four bytes are the words of a block
pub word_chunk : (k t : ℕ) (xs d : List ℕ) → t < k → 4 * k ≤ length xs → from_be_bytes w32 (get_or (first_chunks 4 k xs) t d) ≡ word xs t
word_chunk zero t xs d h l = absurd (omega arith)
word_chunk (suc k) zero (a ∷ b ∷ c ∷ e ∷ xs) d h l = refl
word_chunk (suc k) (suc t) (a ∷ b ∷ c ∷ e ∷ xs) d h l =
    let n0 : 4 * suc t ≡ suc (suc (suc (suc (4 * t)))) = omega arith in
    let n1 : 4 * suc t + 1 ≡ suc (suc (suc (suc (4 * t + 1)))) = omega arith in
    let n2 : 4 * suc t + 2 ≡ suc (suc (suc (suc (4 * t + 2)))) = omega arith in
    let n3 : 4 * suc t + 3 ≡ suc (suc (suc (suc (4 * t + 3)))) = omega arith in
    rw (n3, n2, n1, n0) (word_chunk k t xs d (omega arith) (omega arith))
word_chunk (suc k) t xs d h l = absurd (omega arith)

-- a word that `next_word` reads, k before the end, is the word j of the whole schedule
before : (w : List ℕ) (n k j : ℕ) → n + 16 ≤ length w → j + k ≡ n + 16 → 0 < k → get_or (take (n + 16) w) (length (take (n + 16) w) - k) 0 ≡ get_or w j 0
before w n k j h e p =
    let at : length (take (n + 16) w) - k ≡ j = omega (arith, length-take-le (n + 16) w h) in rw at (get_or-take (n + 16) w j 0 (omega arith))

next_word_take : (w : List ℕ) (n : ℕ) → n + 16 ≤ length w
    → next_word (take (n + 16) w) ≡ σ1 (get_or w (n + 14) 0) ⊞ get_or w (n + 9) 0 ⊞ σ0 (get_or w (n + 1) 0) ⊞ get_or w n 0
unfolding next_word
next_word_take w n h =
    rw (
      before w n 2 (n + 14) h (omega arith) (omega arith),
      before w n 7 (n + 9) h (omega arith) (omega arith),
      before w n 15 (n + 1) h (omega arith) (omega arith),
      before w n 16 n h (omega arith) (omega arith),
    )

-- one word more of the schedule, written at its place
pub extended_more : (w ws : List ℕ) (n x : ℕ) → n + 16 < length w → take (n + 16) w ≡ extended n ws
    → x ≡ σ1 (get_or w (n + 14) 0) ⊞ get_or w (n + 9) 0 ⊞ σ0 (get_or w (n + 1) 0) ⊞ get_or w n 0
    → take (n + 1 + 16) (set w (n + 16) x) ≡ extended (n + 1) ws
unfolding extended
extended_more w ws n x h e v =
    let at : n + 1 + 16 ≡ n + 16 + 1 = omega arith in
    rw (at, take_more_set w (n + 16) x h, add-one n, ← e, v, next_word_take w n (omega arith))

-- blocks

pub after_blocks_add : (m n : ℕ) (v : Words) (xs : List ℕ) → after_blocks (m + n) v xs ≡ after_blocks n (after_blocks m v xs) (drop (64 * m) xs)
unfolding after_blocks
after_blocks_add zero n v xs = rw zero-add
after_blocks_add (suc m) n v xs =
    let e : 64 + 64 * m ≡ 64 * suc m = omega arith in
    rw (suc-add m n) (after_blocks_add m n (compressed v (take 64 xs)) (drop 64 xs) ∙ ap (after_blocks n (after_blocks m (compressed v (take 64 xs)) (drop 64 xs))) (drop-drop (64 * m) 64 xs ∙ ap (λ k. drop k xs) e))

-- the hash of n blocks reads these blocks only
pub after_blocks_front : (n : ℕ) (v : Words) (xs ys : List ℕ) → 64 * n ≤ length xs → after_blocks n v (xs ++ ys) ≡ after_blocks n v xs
unfolding after_blocks
after_blocks_front zero v xs ys h = refl
after_blocks_front (suc n) v xs ys h =
    let some : 64 ≤ length xs = omega arith in
    rw (take-append-le 64 xs ys some, drop-append-le 64 xs ys some) (after_blocks_front n (compressed v (take 64 xs)) (drop 64 xs) ys (simp length-drop (omega arith)))

pub after_blocks_take : (n : ℕ) (v : Words) (xs : List ℕ) → 64 * n ≤ length xs → after_blocks n v (take (64 * n) xs) ≡ after_blocks n v xs
after_blocks_take n v xs h =
    sym (after_blocks_front n v (take (64 * n) xs) (drop (64 * n) xs) (omega (arith, length-take-le (64 * n) xs h))) ∙ ap (after_blocks n v) (take-append-drop (64 * n) xs)

-- the library's chunks of 64 bytes are the blocks
pub after_chunks : (n : ℕ) (v : Words) (xs : List ℕ) → fold compressed v (first_chunks 64 n xs) ≡ after_blocks n v xs
unfolding after_blocks
after_chunks zero v xs = refl
after_chunks (suc n) v xs = after_chunks n (compressed v (take 64 xs)) (drop 64 xs)

chunks_take : (j k : ℕ) (xs : List ℕ) → j ≤ k → take j (first_chunks 64 k xs) ≡ first_chunks 64 j xs
chunks_take zero k xs h = refl
chunks_take (suc j) zero xs h = absurd (omega arith)
chunks_take (suc j) (suc k) xs h = ap (λ ys. take 64 xs ∷ ys) (chunks_take j k (drop 64 xs) (omega arith))

-- the first blocks of two
pub after_first_chunks : (n : ℕ) (v : Words) (xs : List ℕ) → length xs ≡ 128 → n ≤ 2 → fold compressed v (take n (first_chunks 64 (length xs / 64) xs)) ≡ after_blocks n v xs
after_first_chunks n v xs l h = let some : n ≤ length xs / 64 = omega arith in ap (fold compressed v) (chunks_take n (length xs / 64) xs some) ∙ after_chunks n v xs

-- padding

length-padding : (n bits : ℕ) → length (padding_with n bits) ≡ (119 - n % 64) % 64 + 9
unfolding padding_with eight_bytes
length-padding n bits = simp (length-append, length-replicate) (omega arith)

pub tail_room : (n : ℕ) → n < 64 → n + 9 + (119 - n % 64) % 64 ≡ 64 * tail_blocks n
tail_room n h = elim (cases_lt n 56) [ inl l ↦ rw (lt-ltb n 56 l) (omega arith) | inr g ↦ rw (le-ltb n 56 g) (omega arith) ]

pub tail_few : (n : ℕ) → tail_blocks n ≤ 2
tail_few n = elim (cases_lt n 56) [ inl l ↦ rw (lt-ltb n 56 l) (omega arith) | inr g ↦ rw (le-ltb n 56 g) (omega arith) ]

padding_same : (m n a b : ℕ) → m % 64 ≡ n % 64 → a ≡ b → padding_with m a ≡ padding_with n b
unfolding padding_with
padding_same m n a b p q = rw (p, q)

-- the tail as it is written: the rest, the mark at its end, zeros up to e - 8, and the length
pub tail_is : (rest be more : List ℕ) (n e z : ℕ) → length rest ≡ n → length be ≡ 8 → n + 9 + z ≡ e → e ≤ 128
    → take e (take (e - 8) (set (rest ++ drop n (replicate 128 0)) n 0x80) ++ (be ++ more)) ≡ rest ++ (0x80 ∷ (replicate z 0 ++ be))
tail_is rest be more n e z len eight at fits =
    let zeros : List ℕ = replicate (127 - n) 0 in
    let front : List ℕ = rest ++ (0x80 ∷ replicate z 0) in
    let left : 128 - n ≡ suc (127 - n) = omega arith in
    let blank : drop n (replicate 128 0) ≡ 0 ∷ zeros = drop-replicate n 128 0 ∙ ap (λ k. replicate k 0) left in
    let marked : set (rest ++ drop n (replicate 128 0)) n 0x80 ≡ rest ++ (0x80 ∷ zeros) = rw blank (set_at rest 0 zeros 0x80 n len) in
    let cut : e - 8 ≡ length rest + suc z = omega arith in
    let fits-z : z ≤ 127 - n = omega arith in
    let taken : take (e - 8) (rest ++ (0x80 ∷ zeros)) ≡ front =
    rw cut (take-append-add rest (0x80 ∷ zeros) (suc z) ∙ ap (λ k. rest ++ (0x80 ∷ k)) (take-replicate z (127 - n) 0 fits-z)) in
    let long : length (front ++ be) ≡ e = simp (length-append, length-replicate) (omega arith) in
    rw (marked, taken, ← append_assoc front be more, take_at (front ++ be) more e long, append_assoc rest (0x80 ∷ replicate z 0) be)

-- the whole blocks, then the tail
pub finish_is : (start : Words) (done bits : ℕ) (m rest t : List ℕ) → done % 64 ≡ 0 → length t ≡ 128
    → rest ≡ drop (length m / 64 * 64) m
    → bits ≡ ((done + length m) * 8) % 18446744073709551616
    → take (64 * tail_blocks (length rest)) t ≡ rest ++ padding_with (length rest) bits
    → bytes_of (after_blocks (tail_blocks (length rest)) (after_blocks (length m / 64) start m) t) ≡ digest_after start done m
unfolding digest_after padding
finish_is start done bits m rest t whole long cut is-bits written =
    let q : ℕ = length m / 64 in
    let is-rest : rest ≡ drop (64 * q) m = let at : 64 * q ≡ q * 64 = omega arith in rw at cut in
    let nb : ℕ = tail_blocks (length rest) in
    let pad : List ℕ = padding_with (done + length m) (((done + length m) * 8) % 18446744073709551616) in
    let size : length rest ≡ length m - 64 * q = ap length is-rest ∙ length-drop (64 * q) m in
    let same : (done + length m) % 64 ≡ length rest % 64 = omega arith in
    let padded : pad ≡ padding_with (length rest) bits = padding_same (done + length m) (length rest) _ bits same (sym is-bits) in
    let room = tail_room (length rest) (omega arith) in
    let whole-m : 64 * q ≤ length m = omega arith in
    let room-t : 64 * nb ≤ length t = omega (arith, tail_few (length rest)) in
    let count : length (m ++ pad) / 64 ≡ q + nb = omega (arith, length-append m pad, ap length padded, length-padding (length rest) bits) in
    let tail : drop (64 * q) (m ++ pad) ≡ take (64 * nb) t =
    drop-append-le (64 * q) m pad whole-m ∙ ap (λ x. x ++ pad) (sym is-rest) ∙ ap (λ x. rest ++ x) padded ∙ sym written in
    ap bytes_of (sym (
    ap (λ k. after_blocks k start (m ++ pad)) count
    ∙ after_blocks_add q nb start (m ++ pad)
    ∙ ap (λ v. after_blocks nb v (drop (64 * q) (m ++ pad))) (after_blocks_front q start m pad whole-m)
    ∙ ap (after_blocks nb (after_blocks q start m)) tail
    ∙ after_blocks_take nb (after_blocks q start m) t room-t))

after_blocks_one : (n : ℕ) (v : Words) (b p : List ℕ) → length b ≡ 64 → after_blocks (suc n) v (b ++ p) ≡ after_blocks n (compressed v b) p
unfolding after_blocks
after_blocks_one n v b p h = ap (λ x. after_blocks n (compressed v x) (drop 64 (b ++ p))) (take_at b p 64 h) ∙ ap (after_blocks n (compressed v b)) (drop_at b p 64 h)

-- a block that has been hashed
after_one : (v : Words) (done : ℕ) (b rest : List ℕ) → length b ≡ 64 → digest_after v done (b ++ rest) ≡ digest_after (compressed v b) (done + 64) rest
unfolding digest_after
after_one v done b rest h =
    let n : done + length (b ++ rest) ≡ done + 64 + length rest = simp length-append (omega arith) in
    let p : List ℕ = rest ++ padding (done + 64 + length rest) in
    let e : (b ++ rest) ++ padding (done + length (b ++ rest)) ≡ b ++ p = append_assoc b rest _ ∙ ap (λ k. b ++ (rest ++ padding k)) n in
    let count : length (b ++ p) / 64 ≡ suc (length p / 64) = simp length-append (omega arith) in
    ap (λ x. bytes_of (after_blocks (length x / 64) v x)) e ∙ ap (λ k. bytes_of (after_blocks k v (b ++ p))) count ∙ ap bytes_of (after_blocks_one (length p / 64) v b p h)

-- from the start on, with nothing done
pub from_start : (m : List ℕ) → digest_after initial 0 m ≡ sha256 m
unfolding digest_after sha256 padded
from_start m = ap (λ n. bytes_of (after_blocks (length (m ++ padding n) / 64) initial (m ++ padding n))) (zero-add (length m))

-- from a block on, that has been hashed
pub from_block : (x m : List ℕ) → length x ≡ 64 → digest_after (compressed initial x) 64 m ≡ sha256 (x ++ m)
from_block x m h = sym (after_one initial 0 x m h) ∙ from_start (x ++ m)
