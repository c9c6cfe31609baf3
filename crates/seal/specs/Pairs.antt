-- Pairs of an issuer and a digest.
use Rattle.std.specs.Prelude.{ℕ, Bool, ◌&&◌, List, ◌==◌}
use Rattle.std.specs.Str.{bytes_eq}
use Rattle.std.specs.List.{list_any}
use Rattle.seal.specs.declared.pair.Pair.{Pair}

-- a pair is this issuer with this digest
abbrev pub is_pair : Pair → ℕ → List ℕ → Bool
is_pair p issuer digest = p.issuer == issuer && bytes_eq p.digest digest

-- one of the pairs is
abbrev pub listed : List Pair → ℕ → List ℕ → Bool
listed ps issuer digest = list_any (λ p. is_pair p issuer digest) ps
