-- The seal of listed digests.
use Rattle.std.specs.Prelude.{◌≡◌, ℕ, ◌-◌, ◌<◌, Bool, cond, ◌&&◌, List, [], ◌∷◌, ◌++◌, length, Some, None, Ok, Err, vec_items, vec_capacity, Option, Result, nat_le}
use Rattle.std.specs.Str.{bytes_eq}
use Rattle.sha256.specs.Hash.{sha256}
use Rattle.seal.specs.declared.decline.MakingDecline.{MakingDecline}
use Rattle.seal.specs.declared.decline.SealDecline.{SealDecline}
use Rattle.seal.specs.declared.listed.ListedSeal.{ListedSeal}
use Rattle.seal.specs.declared.pair.Pair.{Pair}
use Rattle.seal.specs.Declines.{making_number}
use Rattle.seal.specs.Pairs.{listed}
use Rattle.seal.specs.Seals.{Meaning}

-- the pairs of a seal
abbrev pub listed_pairs : ListedSeal → List Pair
listed_pairs s = vec_items s.pairs

-- a mark is good where it is the message's digest, and listed for the issuer
abbrev pub listed_good : List Pair → ℕ → List ℕ → List ℕ → Bool
listed_good ps issuer message mark = bytes_eq mark (sha256 message) && listed ps issuer mark

-- what a name and a list mean as a seal: a mark takes one of 64 places
abbrev pub listed_by : ℕ → List Pair → Meaning
listed_by name ps = record { name = name; good = listed_good ps; left = Some (64 - length ps) }

-- whether pairs make a seal: 26 where there are more than 64
abbrev pub list_code : List Pair → ℕ
list_code ps = cond (nat_le (length ps) 64) 0 26

-- why no seal was made of these pairs, which were handed over with memory for `room` of them: their number, or, with no number, want
-- of memory, where that for 64 was not there already
abbrev pub NoNewListed : List Pair → ℕ → Option ℕ → Type 0
NoNewListed ps room (Some n) = n ≡ list_code ps
NoNewListed ps room None = (list_code ps ≡ 0) × (room < 64)

-- the seal of this name and these pairs, or why there is none
abbrev pub NewListed : ℕ → List Pair → ℕ → Result ListedSeal MakingDecline → Type 0
NewListed name ps room (Ok s) = (list_code ps ≡ 0) × (s.name ≡ name) × (listed_pairs s ≡ ps)
NewListed name ps room (Err why) = NoNewListed ps room (making_number why)

-- a mark that such a seal makes is the message's digest, the pair stands at the end of the list, and no more memory is held
pub record Adds (before : ListedSeal) (message mark : List ℕ) (after : ListedSeal) : Type 0 where
  pub digest : mark ≡ sha256 message
  pub name : after.name ≡ before.name
  pub pairs : listed_pairs after ≡ listed_pairs before ++ (record { issuer = before.name; digest = sha256 message } ∷ [])
  pub room : vec_capacity after.pairs ≡ vec_capacity before.pairs

-- it makes one unless the list has 64 pairs; then it stays as it was
abbrev pub ListedMark : ListedSeal → List ℕ → Result (List ℕ) SealDecline → ListedSeal → Type 0
ListedMark before message (Ok mark) after = Adds before message mark after
ListedMark before message (Err why) after = (length (listed_pairs before) ≡ 64) × (after ≡ before)
