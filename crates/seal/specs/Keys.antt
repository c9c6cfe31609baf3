-- Keys and their names.
use Rattle.std.specs.Prelude.{ℕ, Bool, true, cond, not, ◌&&◌, List, [], ◌∷◌, length, is_some, Option, ◌==◌, nat_le}
use Rattle.std.specs.List.{find}
use Rattle.std.specs.Option.{option_map}
use Rattle.seal.specs.declared.key.Key.{Key}

-- the first key of a name
abbrev pub key_named : List Key → ℕ → Option (List ℕ)
key_named ks name = option_map (λ k. k.key) (find (λ k. k.name == name) ks)

-- no name comes twice
abbrev pub distinct : List Key → Bool
distinct [] = true
distinct (k ∷ ks) = not (is_some (key_named ks k.name)) && distinct ks

-- whether keys make a seal: 26 where there are not 1 to 16, then 27 where a name comes twice
abbrev pub keys_code : List Key → ℕ
keys_code ks = cond (nat_le 1 (length ks) && nat_le (length ks) 16) (cond (distinct ks) 0 27) 26

-- the first key; a key of no bytes where there is none
abbrev pub first_key : List Key → Key
first_key [] = record { name = 0; key = [] }
first_key (k ∷ ks) = k
