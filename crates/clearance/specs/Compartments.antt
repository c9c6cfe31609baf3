-- The class with compartments as a clearance.
use Rattle.std.specs.Prelude.{ℕ, ◌+◌, ◌*◌, ◌/◌, ◌%◌, Bool, ◌&&◌, Some, None, Option, ◌==◌, bit_and}
use Rattle.std.proofs.Common.{mod-lt, lt_of_le_of_lt, arith}
use Rattle.std.proofs.lemmas.Nat.{and_le_l}
use Rattle.clearance.specs.declared.class.Class.{Class}
use Rattle.clearance.specs.declared.compartments.Compartments.{Compartments}
use Rattle.clearance.specs.Classes.{class_number, class_of, class_covers, class_meet}

-- the class's number above the 16 bits of the compartments
abbrev pub compartments_number : Compartments → ℕ
compartments_number x = class_number x.class * 65536 + x.bits

-- the class, if there is one, with the lowest 16 bits of n
abbrev pub compartments_from : ℕ → Option Class → Option Compartments
compartments_from n (Some c) = Some record { class = c; bits = n % 65536; fits = mod-lt n (omega arith) }
compartments_from n None = None

-- what a number stands for: the class that its upper part stands for, with the lowest 16 bits
abbrev pub compartments_of : ℕ → Option Compartments
compartments_of n = compartments_from n (class_of (n / 65536))

-- x covers y if its class covers that of y, and it has each compartment that y has
abbrev pub compartments_covers : Compartments → Compartments → Bool
compartments_covers x y = class_covers x.class y.class && bit_and x.bits y.bits == y.bits

-- the lower class, and the compartments that both have
abbrev pub compartments_meet : Compartments → Compartments → Compartments
compartments_meet x y = record { class = class_meet x.class y.class; bits = bit_and x.bits y.bits; fits = lt_of_le_of_lt (and_le_l x.bits y.bits) x.fits }
