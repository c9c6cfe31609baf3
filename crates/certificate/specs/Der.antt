-- The part of DER (X.690) that certificates use: elements with a tag and a length of one byte each, INTEGERs that are not negative.
use Rattle.std.specs.Prelude.{ℕ, zero, suc, ◌/◌, ◌%◌, Bool, false, cond, ◌&&◌, ◌||◌, List, [], ◌∷◌, ◌++◌, length, take, drop, Some, None, Ok, Err, Option, Result, ◌==◌, nat_le, nat_lt}
use Rattle.std.specs.Int.Digits.{number_from_digits}
use Rattle.certificate.specs.declared.fault.Fault.{Fault}
use Rattle.certificate.specs.declared.fault.Fault.TheVariants.{CutShort, Tag, LengthByte, Integer, Octets}

-- the element of this tag at the start of xs: its contents, and what follows it. In this order: no byte is left, another tag, no length byte,
-- a length byte above 7F, fewer bytes than it announces
unfoldable pub element : ℕ → List ℕ → Result (List ℕ × List ℕ) Fault
element tag [] = Err CutShort
element tag (t ∷ []) = cond (t == tag) (Err CutShort) (Err Tag)
element tag (t ∷ n ∷ xs) =
    cond (t == tag) (cond (nat_lt 127 n) (Err LengthByte) (cond (nat_le n (length xs)) (Ok (take n xs, drop n xs)) (Err CutShort))) (Err Tag)

-- contents that are a number, 0 or more, in the fewest bytes
unfoldable pub shortest : List ℕ → Bool
shortest [] = false
shortest (x ∷ []) = nat_lt x 128
shortest (x ∷ y ∷ ys) = nat_lt x 128 && (nat_lt 0 x || nat_le 128 y)

-- contents that stand for a number of at most max
unfoldable pub acceptable : ℕ → List ℕ → Bool
acceptable max xs = shortest xs && nat_le (number_from_digits 256 xs) max

-- the number that contents stand for, if it is at most max
unfoldable pub value_of : ℕ → List ℕ → Option ℕ
value_of max xs = cond (acceptable max xs) (Some (number_from_digits 256 xs)) None

-- an element whose contents are to be a number of at most max
unfoldable pub valued : ℕ → Result (List ℕ × List ℕ) Fault → Result (ℕ × List ℕ) Fault
valued max (Ok p) = cond (acceptable max p.0) (Ok (number_from_digits 256 p.0, p.1)) (Err Integer)
valued max (Err f) = Err f

-- the INTEGER, at most max, at the start of xs, and what follows it
unfoldable pub integer : ℕ → List ℕ → Result (ℕ × List ℕ) Fault
integer max xs = valued max (element 2 xs)

-- an element whose contents are to be 32 bytes
unfoldable pub sized : Result (List ℕ × List ℕ) Fault → Result (List ℕ × List ℕ) Fault
sized (Ok p) = cond (length p.0 == 32) (Ok p) (Err Octets)
sized (Err f) = Err f

-- the OCTET STRING of 32 bytes at the start of xs, and what follows it
unfoldable pub octets : List ℕ → Result (List ℕ × List ℕ) Fault
octets xs = sized (element 4 xs)

-- writing

-- the fewest bytes of n, highest first and the first below 128: its last byte, after those of n / 256. The count of turns only makes the definition end
unfoldable pub content_by : ℕ → ℕ → List ℕ
content_by zero n = n ∷ []
content_by (suc k) n = cond (nat_lt n 128) (n ∷ []) (content_by k (n / 256) ++ (n % 256 ∷ []))

-- n turns are enough
unfoldable pub content : ℕ → List ℕ
content n = content_by n n

-- an element: tag, length and contents
unfoldable pub wrap : ℕ → List ℕ → List ℕ
wrap tag xs = tag ∷ length xs ∷ xs

-- the INTEGER n
unfoldable pub encode_integer : ℕ → List ℕ
encode_integer n = wrap 2 (content n)
