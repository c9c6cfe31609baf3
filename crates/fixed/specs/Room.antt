-- What has room in fixed bytes.
use Rattle.std.specs.Prelude.{ℕ, ◌+◌, Bool, cond, List, ◌++◌, length, Ok, Err, Result, nat_le}
use Rattle.fixed.specs.declared.fixed.TooLong.{TooLong}

-- whether n bytes have room for ys behind xs
abbrev pub room : ℕ → List ℕ → List ℕ → Bool
room n xs ys = nat_le (length xs + length ys) n

-- the bytes xs with ys behind them; where there is no room, xs as they were
abbrev pub extended : ℕ → List ℕ → List ℕ → List ℕ
extended n xs ys = cond (room n xs ys) (xs ++ ys) xs

-- bytes as they are taken: all of them, unless they are more than n
abbrev pub taken : ℕ → List ℕ → Result (List ℕ) TooLong
taken n bytes = cond (nat_le (length bytes) n) (Ok bytes) (Err (record {}))
