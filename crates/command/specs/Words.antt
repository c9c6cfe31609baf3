-- The words of a line, and what a word can stand for.
use Rattle.std.specs.Prelude.{ℕ, ◌+◌, ◌-◌, ◌*◌, ◌%◌, Bool, cond, not, ◌&&◌, ◌||◌, List, [], ◌∷◌, ◌++◌, map, length, get_or, is_some, Some, None, codes, Option, ◌==◌, nat_le}
use Rattle.std.specs.Option.{unwrap_or}
use Rattle.std.specs.List.{list_all}
use Rattle.std.specs.Int.Digits.{number_from_digits}
use Rattle.std.specs.Str.{bytes_eq}

-- a blank or a tab, which separate words
abbrev pub blank : ℕ → Bool
blank b = b == 32 || b == 9

-- any other byte is part of a word
abbrev pub in_word : ℕ → Bool
in_word b = not (blank b)

-- a word that has ended, and the words after it; where no byte of it was read there is none
abbrev pub ended : List ℕ → List (List ℕ) → List (List ℕ)
ended [] ws = ws
ended (b ∷ w) ws = (b ∷ w) ∷ ws

-- the words of a text, where the bytes of w were read before it
abbrev pub words_after : List ℕ → List ℕ → List (List ℕ)
words_after w [] = ended w []
words_after w (b ∷ xs) = cond (blank b) (ended w (words_after [] xs)) (words_after (w ++ (b ∷ [])) xs)

-- the words of a text
unfoldable pub words : List ℕ → List (List ℕ)
words xs = words_after [] xs

-- a decimal digit
abbrev pub is_digit : ℕ → Bool
is_digit b = nat_le 48 b && nat_le b 57

-- the value of decimal digits
unfoldable pub decimal_of : List ℕ → ℕ
decimal_of w = number_from_digits 10 (map (λ b. b - 48) w)

-- 1 to ten decimal digits, for 0 to 4294967295
unfoldable pub is_number : List ℕ → Bool
is_number w = nat_le 1 (length w) && (nat_le (length w) 10 && (list_all is_digit w && nat_le (decimal_of w) 4294967295))

-- the number that a word stands for
unfoldable pub number_of : List ℕ → Option ℕ
number_of w = cond (is_number w) (Some (decimal_of w)) None

-- what a hex digit stands for, of either case
unfoldable pub hex_digit : ℕ → Option ℕ
hex_digit b =
    cond (nat_le 48 b && nat_le b 57) (Some (b - 48)) (
    cond (nat_le 65 b && nat_le b 70) (Some (10 + (b - 65))) (
    cond (nat_le 97 b && nat_le b 102) (Some (10 + (b - 97))) None))

-- a hex digit
abbrev pub is_hex : ℕ → Bool
is_hex b = is_some (hex_digit b)

-- what a hex digit stands for; any other byte counts as 0
unfoldable pub nibble : ℕ → ℕ
nibble b = unwrap_or (hex_digit b) 0

-- the byte that two digits stand for
abbrev pub byte_of : List ℕ → ℕ
byte_of p = 16 * nibble (get_or p 0 0) + nibble (get_or p 1 0)

-- the bytes that hex digits stand for, two digits to a byte
unfoldable pub unhex : List ℕ → List ℕ
unhex [] = []
unhex (a ∷ []) = []
unhex (a ∷ b ∷ xs) = (16 * nibble a + nibble b) ∷ unhex xs

-- hex has an even number of digits, at least two
abbrev pub is_hex_text : List ℕ → Bool
is_hex_text w = nat_le 2 (length w) && (length w % 2 == 0 && list_all is_hex w)

-- a word of hex, and no digit for the word `-`
abbrev pub hex_of : List ℕ → Option (List ℕ)
hex_of w = cond (bytes_eq w (codes "-")) (Some []) (cond (is_hex_text w) (Some w) None)

-- the 32 bytes that 64 hex digits stand for
unfoldable pub bytes32_of : List ℕ → Option (List ℕ)
bytes32_of w = cond (length w == 64 && list_all is_hex w) (Some (unhex w)) None

-- a label is any word but `-`
abbrev pub label_of : List ℕ → Option (List ℕ)
label_of w = cond (bytes_eq w (codes "-")) None (Some w)
