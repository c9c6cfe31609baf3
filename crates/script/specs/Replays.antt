-- A whole script.
use Rattle.std.specs.Prelude.{ℕ, ◌+◌, Bool, cond, List, [], ◌∷◌, ◌++◌, ◌==◌}
use Rattle.command.specs.Commands.{line_of}
use Rattle.script.specs.Lines.{session_after, printed_by}
use Rattle.script.specs.Sessions.{fresh}
use Rattle.script.specs.State.{State}

-- the byte that ends a line
abbrev pub is_newline : ℕ → Bool
is_newline b = b == 10

-- what stands after the last newline is a line, unless it is nothing
unfoldable pub last_line : List ℕ → List (List ℕ)
last_line [] = []
last_line (b ∷ w) = (b ∷ w) ∷ []

-- the lines of a text, where the bytes of w were read before it; each newline ends a line
unfoldable pub lines_after : List ℕ → List ℕ → List (List ℕ)
lines_after w [] = last_line w
lines_after w (b ∷ xs) = cond (is_newline b) (w ∷ lines_after [] xs) (lines_after (w ++ (b ∷ [])) xs)

-- the lines of a text
unfoldable pub lines_of : List ℕ → List (List ℕ)
lines_of text = lines_after [] text

-- what the lines print one after another, the first of them being the n-th
unfoldable pub printed_from : State → ℕ → List (List ℕ) → List ℕ
printed_from s n [] = []
printed_from s n (line ∷ lines) = printed_by s n (line_of line) ++ printed_from (session_after s (line_of line)) (n + 1) lines

-- what a script prints
unfoldable pub replayed : List ℕ → List ℕ
replayed text = printed_from fresh 1 (lines_of text)
