-- The keys of a seal.
use Rattle.std.specs.Prelude.{ℕ, ◌+◌, Bool, not, List, take, drop, filter_map, is_some, Some, None, Option, ◌==◌}
use Rattle.std.specs.List.{list_all, prefix_len}
use Rattle.seal.specs.declared.key.Key.{Key}
use Rattle.command.specs.Words.{words, number_of, bytes32_of}

-- any byte but a colon
abbrev pub not_colon : ℕ → Bool
not_colon b = not (b == 58)

-- a key of that name, if both are there
abbrev pub named : Option ℕ → Option (List ℕ) → Option Key
named None p = None
named (Some n) None = None
named (Some n) (Some k) = Some (record { name = n; key = k })

-- a word that gives a key: a number, a colon and 64 hex digits
abbrev pub key_of : List ℕ → Option Key
key_of w = named (number_of (take (prefix_len not_colon w) w)) (bytes32_of (drop (prefix_len not_colon w + 1) w))

-- each word gives a key
abbrev pub all_keys : List (List ℕ) → Bool
all_keys ws = list_all (λ w. is_some (key_of w)) ws

-- the keys that words give
abbrev pub keys_in : List (List ℕ) → List Key
keys_in ws = filter_map key_of ws

-- the keys that the words of a text give
abbrev pub keys_of : List ℕ → List Key
keys_of text = keys_in (words text)
