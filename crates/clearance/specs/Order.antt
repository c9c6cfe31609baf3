-- The class with compartments keeps the laws of a clearance.
use Rattle.std.specs.Prelude.{◌≡◌, ℕ, ◌/◌, ◌%◌, ◌<◌, ◌≤◌, true, Some, None, Option, bit_and, refl}
use Rattle.std.proofs.Common.{sym, rules, ap, subst, ◌∙◌, div-add-mod', arith}
use Rattle.std.proofs.Math.Bridge.{le_prop}
use Rattle.std.proofs.Math.Arith.{digits_div, digits_mod}
use Rattle.std.specs.Int.Bits.{and_self}
use Rattle.std.proofs.lemmas.Nat.{and_assoc, and_comm}
use Rattle.std.proofs.lemmas.Bool.Decides.{nat_tests}
use Rattle.clearance.specs.declared.class.Class.{Class}
use Rattle.clearance.specs.declared.compartments.Compartments.{Compartments}
use Rattle.clearance.specs.Classes.{class_number, class_of, class_meet}
use Rattle.clearance.specs.Compartments.{compartments_number, compartments_from, compartments_of, compartments_covers, compartments_meet}

-- ---- the class

pub class_back : (x : Class) → class_of (class_number x) ≡ Some x
class_back x = search rules

pub class_forth : (n : ℕ) (x : Class) → class_of n ≡ Some x → class_number x ≡ n
class_forth n x e = grind arith

-- a class is known by its number
pub class_same : (x y : Class) → class_number x ≡ class_number y → x ≡ y
class_same x y e = search rules

-- ---- the class with compartments

-- a value by its parts
abbrev made : Class → (b : ℕ) → b < 65536 → Compartments
made k b v = record { class = k; bits = b; fits = v }

-- a value is known by its class and its bits
pub compartments_same : (x y : Compartments) → x.class ≡ y.class → x.bits ≡ y.bits → x ≡ y
compartments_same x y e f =
    let P : ℕ → Type 0 = λ m. (q : m < 65536) → x ≡ made x.class m q in
    let Q : Class → Type 0 = λ k. x ≡ made k y.bits y.fits in
    subst Q e (subst P f (λ q. ap (made x.class x.bits) (le_prop x.fits q)) y.fits)

-- what a number of the right form stands for
pub compartments_of_number : (n : ℕ) (k : Class) (v : n % 65536 < 65536) → class_of (n / 65536) ≡ Some k → compartments_of n ≡ Some (made k (n % 65536) v)
compartments_of_number n k v e = ap (compartments_from n) e ∙ ap (λ q. Some (made k (n % 65536) q)) (le_prop _ v)

pub compartments_back : (x : Compartments) → compartments_of (compartments_number x) ≡ Some x
compartments_back x =
    let n = compartments_number x in
    let hi : n / 65536 ≡ class_number x.class = digits_div (class_number x.class) x.fits in
    let lo : n % 65536 ≡ x.bits = digits_mod (class_number x.class) x.fits in
    let v : n % 65536 < 65536 = rw lo x.fits in
    compartments_of_number n x.class v (ap class_of hi ∙ class_back x.class) ∙ ap Some (compartments_same (made x.class (n % 65536) v) x refl lo)

from_compartments : (n : ℕ) (x : Compartments) (o : Option Class) → o ≡ class_of (n / 65536) → compartments_from n o ≡ Some x → compartments_number x ≡ n
from_compartments n x (Some k) q e =
    let r = class_forth (n / 65536) k (sym q) in
    let c : x.class ≡ k = grind arith in
    let b : x.bits ≡ n % 65536 = grind arith in
    let d = div-add-mod' n 65536 in
    let cr : class_number x.class ≡ class_number k = ap class_number c in
    omega arith
from_compartments n x None q e = grind arith

pub compartments_forth : (n : ℕ) (x : Compartments) → compartments_of n ≡ Some x → compartments_number x ≡ n
compartments_forth n x e = from_compartments n x (class_of (n / 65536)) refl e

-- `compartments_covers` as two facts
abbrev Above : Compartments → Compartments → Type 0
Above x y = (class_number y.class ≤ class_number x.class) × (bit_and x.bits y.bits ≡ y.bits)

pub above : (x y : Compartments) → compartments_covers x y ≡ true → Above x y
above x y e = (grind (arith, nat_tests), grind (arith, nat_tests))

pub covers_from : (x y : Compartments) → Above x y → compartments_covers x y ≡ true
covers_from x y a = grind (arith, nat_tests)

pub compartments_reflexive : (x : Compartments) → compartments_covers x x ≡ true
compartments_reflexive x = covers_from x x (omega arith, and_self x.bits)

pub compartments_antisymmetric : (x y : Compartments) → compartments_covers x y ≡ true → compartments_covers y x ≡ true → x ≡ y
compartments_antisymmetric x y p q =
    let a = above x y p in
    let b = above y x q in
    compartments_same x y (class_same x.class y.class (omega arith)) (sym b.1 ∙ and_comm y.bits x.bits ∙ a.1)

pub compartments_transitive : (x y z : Compartments) → compartments_covers x y ≡ true → compartments_covers y z ≡ true → compartments_covers x z ≡ true
compartments_transitive x y z p q =
    let a = above x y p in
    let b = above y z q in
    covers_from x z (omega arith, ap (bit_and x.bits) (sym b.1) ∙ sym (and_assoc z.bits x.bits y.bits) ∙ ap (λ n. bit_and n z.bits) a.1 ∙ b.1)

-- the meet of two classes is no higher than either
lower : (x y : Class) → (class_number (class_meet x y) ≤ class_number x) × (class_number (class_meet x y) ≤ class_number y)
lower x y = (grind (arith, nat_tests), grind (arith, nat_tests))

pub compartments_left : (x y : Compartments) → compartments_covers x (compartments_meet x y) ≡ true
compartments_left x y = covers_from x (compartments_meet x y) ((lower x.class y.class).0, sym (and_assoc y.bits x.bits x.bits) ∙ ap (λ n. bit_and n y.bits) (and_self x.bits))

pub compartments_right : (x y : Compartments) → compartments_covers y (compartments_meet x y) ≡ true
compartments_right x y =
    covers_from y (compartments_meet x y) (
      (lower x.class y.class).1,
      and_comm y.bits (bit_and x.bits y.bits) ∙ and_assoc y.bits x.bits y.bits ∙ ap (bit_and x.bits) (and_self y.bits),
    )

pub compartments_greatest : (x y z : Compartments) → compartments_covers x z ≡ true → compartments_covers y z ≡ true → compartments_covers (compartments_meet x y) z ≡ true
compartments_greatest x y z p q =
    let a = above x z p in
    let b = above y z q in
    covers_from (compartments_meet x y) z (
      grind (arith, nat_tests),
      and_assoc z.bits x.bits y.bits ∙ ap (bit_and x.bits) b.1 ∙ a.1,
    )
