-- The class as a clearance.
use Rattle.std.specs.Prelude.{ℕ, Bool, cond, [], ◌∷◌, Some, None, Option, nat_le, slice_index_or}
use Rattle.clearance.specs.declared.class.Class.{Class}
use Rattle.clearance.specs.declared.class.Class.TheVariants.{Unmarked, Unclassified, Restricted, Confidential, Secret, TopSecret}

-- the number of each class
abbrev pub class_number : Class → ℕ
class_number Unmarked = 0
class_number Unclassified = 1
class_number Restricted = 2
class_number Confidential = 3
class_number Secret = 4
class_number TopSecret = 5

-- the class that a number stands for; a number above 5 stands for none
abbrev pub class_of : ℕ → Option Class
class_of n = slice_index_or (Some Unmarked ∷ Some Unclassified ∷ Some Restricted ∷ Some Confidential ∷ Some Secret ∷ Some TopSecret ∷ []) n None

-- a class covers those of no larger number
abbrev pub class_covers : Class → Class → Bool
class_covers x y = nat_le (class_number y) (class_number x)

-- the meet of two classes is the one of the smaller number
abbrev pub class_meet : Class → Class → Class
class_meet x y = cond (nat_le (class_number x) (class_number y)) x y
