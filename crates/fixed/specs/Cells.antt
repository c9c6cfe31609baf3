-- The cells of a short run of bytes: the bytes, and zeros up to the end.
use Rattle.std.specs.Prelude.{◌≡◌, ℕ, ◌-◌, ◌≤◌, List, ◌++◌, length, take, drop, replicate}
use Rattle.std.proofs.Common.{arith}
use Rattle.std.proofs.lemmas.List.{length-take-le, take-append-drop}

pub cells_back : (n len : ℕ) (cells : List ℕ) → len ≤ n → length cells ≡ n → drop len cells ≡ replicate (n - len) 0
    → take len cells ++ replicate (n - length (take len cells)) 0 ≡ cells
cells_back n len cells h l z =
    let t : length (take len cells) ≡ len = length-take-le len cells (omega arith) in
    rw (t, ← z) (take-append-drop len cells)

pub len_back : (n len : ℕ) (cells : List ℕ) → len ≤ n → length cells ≡ n → length (take len cells) ≡ len
len_back n len cells h l = length-take-le len cells (omega arith)
