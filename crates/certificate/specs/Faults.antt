-- What a refusal is called by.
use Rattle.std.specs.Prelude.{ℕ}
use Rattle.certificate.specs.declared.fault.Fault.{Fault}
use Rattle.certificate.specs.declared.fault.Fault.TheVariants.{CutShort, Tag, LengthByte, Integer, Octets, LeftOver, RoleOrClearance}
use Rattle.certificate.specs.declared.fault.Refusal.{Refusal}

-- the number of each fault
abbrev pub fault_number : Fault → ℕ
fault_number CutShort = 40
fault_number Tag = 41
fault_number LengthByte = 42
fault_number Integer = 43
fault_number Octets = 44
fault_number LeftOver = 45
fault_number RoleOrClearance = 46

-- a refusal is told by the number of its fault and the offset of its element
abbrev pub told_by : Refusal → ℕ × ℕ
told_by e = (fault_number e.fault, e.at)
