-- The seal of keys.
use Rattle.std.specs.Prelude.{ℕ, Bool, false, List, Some, None, vec_items, Option}
use Rattle.std.specs.Str.{bytes_eq}
use Rattle.sha256.specs.Mac.{hmac}
use Rattle.seal.specs.declared.key.Key.{Key}
use Rattle.seal.specs.declared.hmac.HmacSeal.{HmacSeal}
use Rattle.seal.specs.Keys.{key_named, first_key}
use Rattle.seal.specs.Seals.{Meaning}

-- the keys of a seal
abbrev pub hmac_keys : HmacSeal → List Key
hmac_keys s = vec_items s.keys

-- a mark is good where the issuer has a key, and the mark is the message's HMAC under it
abbrev pub is_under : Option (List ℕ) → List ℕ → List ℕ → Bool
is_under None message mark = false
is_under (Some key) message mark = bytes_eq mark (hmac key message)

-- what keys mean as a seal: the first is the own one, and marks never end
abbrev pub keyed_by : List Key → Meaning
keyed_by ks = record { name = (first_key ks).name; good = λ issuer message mark. is_under (key_named ks issuer) message mark; left = None }

-- the mark that such a seal makes of a message
abbrev pub own_mark : List Key → List ℕ → List ℕ
own_mark ks message = hmac (first_key ks).key message
