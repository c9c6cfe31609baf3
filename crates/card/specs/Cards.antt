-- What a slot means, no card or a card, and what the calls on it do.
use Rattle.std.specs.Prelude.{ℕ, ◌+◌, ◌^◌, ◌<◌, ◌≤◌, Bool, false, cond, ◌&&◌, List, [], ◌++◌, length, drop, Some, None, Option, IfSome, ◌==◌, nat_le, nat_lt, slice_index}
use Rattle.card.specs.declared.part.Part.{Part}
use Rattle.card.specs.declared.part.Part.TheVariants.{Id, Privilege, Ianda, Authorisation}

-- a card: its number, the bytes of its four parts, and whether the authorisation can be written
pub record Card : Type 0 where
  pub number : ℕ
  pub id : List ℕ
  pub privilege : List ℕ
  pub ianda : List ℕ
  pub authorisation : List ℕ
  pub writable : Bool

-- the bytes of a part
abbrev pub part_of : Card → Part → List ℕ
part_of c Id = c.id
part_of c Privilege = c.privilege
part_of c Ianda = c.ianda
part_of c Authorisation = c.authorisation

-- the card's number has 32 bits, and none of its parts more than 128 bytes
abbrev pub CardFits : Card → Type 0
CardFits c = (c.number < 2 ^ 32) × ((p : Part) → length (part_of c p) ≤ 128)

-- the card fits, if there is one
abbrev pub Fits : Option Card → Type 0
Fits o = IfSome o CardFits

-- ---- asking for the number

-- the number of the card, if there is one
abbrev pub number_of : Option Card → Option ℕ
number_of None = None
number_of (Some c) = Some c.number

-- ---- reading a part

-- the answer to a read into a buffer of n bytes: 20 where there is no card, 21 where the buffer is shorter than the part
abbrev pub read_code : Option Card → Part → ℕ → ℕ
read_code None p n = 20
read_code (Some c) p n = cond (nat_lt n (length (part_of c p))) 21 0

-- how many bytes a read gives
abbrev pub read_length : Option Card → Part → ℕ
read_length None p = 0
read_length (Some c) p = length (part_of c p)

-- the buffer after a read: the part at its start and then its rest as it was; where the read is declined, all as it was
abbrev pub read_into : Option Card → Part → List ℕ → List ℕ
read_into None p b = b
read_into (Some c) p b = cond (nat_lt (length b) (length (part_of c p))) b (part_of c p ++ drop (length (part_of c p)) b)

-- ---- writing the authorisation

-- one SEQUENCE of at most 128 bytes that fills its input: the tag 30, the count of the bytes inside, and as many bytes
abbrev pub sequence : List ℕ → Bool
sequence b = nat_le 2 (length b) && (nat_le (length b) 128 && (slice_index b 0 == 0x30 && slice_index b 1 + 2 == length b))

-- the answer to a write: 20 where there is no card, then 23 where the input is no such SEQUENCE, then 22 where the card is not writable
abbrev pub write_code : Option Card → List ℕ → ℕ
write_code None b = 20
write_code (Some c) b = cond (sequence b) (cond c.writable 0 22) 23

-- the card with other bytes in one part
abbrev pub with_part : Card → Part → List ℕ → Card
with_part c Id b = record c { id = b }
with_part c Privilege b = record c { privilege = b }
with_part c Ianda b = record c { ianda = b }
with_part c Authorisation b = record c { authorisation = b }

-- the card after a write: with the input as its authorisation; where the write is declined, as it was
abbrev pub written : Option Card → List ℕ → Option Card
written None b = None
written (Some c) b = Some (cond (sequence b && c.writable) (with_part c Authorisation b) c)

-- ---- the layer that only reads

-- the same card, not writable
abbrev pub unwritable : Card → Card
unwritable c = record c { writable = false }

-- the same card, if there is one, never writable
abbrev pub read_only : Option Card → Option Card
read_only None = None
read_only (Some c) = Some (unwritable c)

-- ---- making a card

-- a card with four empty parts
abbrev pub blank_card : ℕ → Bool → Card
blank_card n w = record { number = n; id = []; privilege = []; ianda = []; authorisation = []; writable = w }

-- the answer to putting n bytes into a part: 25 where they are more than 128
abbrev pub put_code : ℕ → ℕ
put_code n = cond (nat_le n 128) 0 25

-- the card after bytes are put into a part; where that is declined, as it was
abbrev pub put_in : Card → Part → List ℕ → Card
put_in c p b = cond (nat_le (length b) 128) (with_part c p b) c
