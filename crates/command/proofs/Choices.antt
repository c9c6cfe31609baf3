-- What words choose.
use Rattle.std.proofs.Common.{◌≡◌, ℕ, ◌+◌, List, [], map, length, drop, ◌≤◌, ◌==◌, Bor, Some, None, Option, refl, arith}
use Rattle.std.proofs.lemmas.List.{drop_all}
use Rattle.std.proofs.lemmas.Bool.Decides.{nat_tests}
use Rattle.std.specs.List.{position, prefix_len}
use Rattle.command.specs.Keys.{not_colon, named, key_of}
use Rattle.command.specs.Words.{number_of, bytes32_of}

-- the rows of a table, as `chosen` takes them
abbrev pub table : {A : Type 0} → List (Bor (List ℕ) × A) → List (List ℕ × A)
table rows = map (λ row. (row.0.now, row.1)) rows

no_colon : (w : List ℕ) → position (λ b. b == 58) w ≡ None → length w ≤ prefix_len not_colon w
no_colon w h = grind (arith, nat_tests)

named_none : (o : Option ℕ) → named o None ≡ None
named_none None = refl
named_none (Some n) = refl

-- a word with no colon gives no key
pub key_no_colon : (w : List ℕ) → position (λ b. b == 58) w ≡ None → key_of w ≡ None
unfolding bytes32_of
key_no_colon w h =
    let l = no_colon w h in
    let e : drop (prefix_len not_colon w + 1) w ≡ [] = drop_all (prefix_len not_colon w + 1) w (omega arith) in
    rw e (named_none (number_of _))
