-- The marks that the keys of a script make, and what they make of a mark.
use Rattle.std.specs.Prelude.{ℕ, Bool, cond, List, replicate, Some, None, Option, ◌==◌}
use Rattle.std.specs.Str.{bytes_eq}
use Rattle.account.specs.declared.verdict.Verdict.{Verdict}
use Rattle.account.specs.declared.verdict.Verdict.TheVariants.{Good, Bad, Unchecked}
use Rattle.seal.specs.declared.key.Key.{Key}
use Rattle.seal.specs.Keys.{key_named, keys_code}
use Rattle.sha256.specs.Mac.{hmac}

-- HMAC-SHA-256 under a key, and 32 zeros where there is none
abbrev pub mark_under : Option (List ℕ) → List ℕ → List ℕ
mark_under (Some key) message = hmac key message
mark_under None message = replicate 32 0

-- the mark of a message under its issuer's key
abbrev pub mark_by : List Key → ℕ → List ℕ → List ℕ
mark_by ks issuer message = mark_under (key_named ks issuer) message

-- 1 to 16 keys, no name twice
abbrev pub makes_seal : List Key → Bool
makes_seal ks = keys_code ks == 0

-- a mark is good where the issuer has a key, and the mark is the one under it
abbrev pub good_under : Option (List ℕ) → List ℕ → List ℕ → Verdict
good_under None message mark = Bad
good_under (Some key) message mark = cond (bytes_eq (hmac key message) mark) Good Bad

-- what keys make of a mark; unchecked where they make no seal
abbrev pub verdict_of : List Key → ℕ → List ℕ → List ℕ → Verdict
verdict_of ks issuer message mark = cond (makes_seal ks) (good_under (key_named ks issuer) message mark) Unchecked
