-- What a seal means, and what making a mark does to that meaning.
use Rattle.std.specs.Prelude.{◌≡◌, ℕ, ◌-◌, Bool, true, List, length, Some, None, Ok, Err, Option, Result, nat_le}
use Rattle.seal.specs.declared.decline.SealDecline.{SealDecline}
use Rattle.seal.specs.Declines.{seal_number}

-- the own issuer name; which triples of issuer, message and mark are good; how many marks can still be made, None for without end
pub record Meaning : Type 0 where
  pub name : ℕ
  pub good : ℕ → List ℕ → List ℕ → Bool
  pub left : Option ℕ

-- a mark can be made: marks never end, or one is left
abbrev pub can_make : Option ℕ → Bool
can_make None = true
can_make (Some n) = nat_le 1 n

-- one mark less, where they end
abbrev pub one_less : Option ℕ → Option ℕ
one_less None = None
one_less (Some n) = Some (n - 1)

-- a mark was made of a message: its triple under the own name is good, good triples stay good, those of another issuer or with
-- another mark are as before, and one mark less is left
pub record Made (before : Meaning) (message mark : List ℕ) (after : Meaning) : Type 0 where
  pub able : can_make before.left ≡ true
  pub sized : length mark ≡ 32
  pub name : after.name ≡ before.name
  pub marked : after.good before.name message mark ≡ true
  pub kept : (i : ℕ) (m k : List ℕ) → before.good i m k ≡ true → after.good i m k ≡ true
  pub others : (i : ℕ) (m k : List ℕ) → ((i ≡ before.name) × (k ≡ mark) → ⊥) → after.good i m k ≡ before.good i m k
  pub left : after.left ≡ one_less before.left

-- no mark was made: none is left, and nothing changes
pub record Spent (before : Meaning) (why : SealDecline) (after : Meaning) : Type 0 where
  pub number : seal_number why ≡ 24
  pub none : before.left ≡ Some 0
  pub same : after ≡ before

-- what a call that is to make a mark may answer, and what it leaves
abbrev pub Makes : Meaning → List ℕ → Result (List ℕ) SealDecline → Meaning → Type 0
Makes before message (Ok mark) after = Made before message mark after
Makes before message (Err why) after = Spent before why after
