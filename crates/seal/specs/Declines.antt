-- The numbers by which a mark, or the making of a seal, is declined.
use Rattle.std.specs.Prelude.{ℕ, Some, None, Ok, Err, Option, Result}
use Rattle.seal.specs.declared.decline.SealDecline.{SealDecline}
use Rattle.seal.specs.declared.decline.SealDecline.TheVariants.{NoneLeft}
use Rattle.seal.specs.declared.decline.MakingDecline.{MakingDecline}
use Rattle.seal.specs.declared.decline.MakingDecline.TheVariants.{Count, NameTwice, NoMemory}

-- why no mark was made
abbrev pub seal_number : SealDecline → ℕ
seal_number NoneLeft = 24

-- why no seal was made; want of memory has no number
abbrev pub making_number : MakingDecline → Option ℕ
making_number Count = Some 26
making_number NameTwice = Some 27
making_number NoMemory = None

-- 0 where a seal was made, else the number of the decline, if it has one
abbrev pub making_code : {A : Type 0} → Result A MakingDecline → Option ℕ
making_code (Ok s) = Some 0
making_code (Err d) = making_number d
