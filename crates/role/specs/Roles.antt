-- The numbers of the roles.
use Rattle.std.specs.Prelude.{ℕ, zero, suc, Some, None, Option}
use Rattle.role.specs.declared.role.Role.{Role}
use Rattle.role.specs.declared.role.Role.TheVariants.{UserOnly, Guard, SecurityOfficer, AuditManager}

-- the number of each role
abbrev pub role_number : Role → ℕ
role_number UserOnly = 0
role_number Guard = 1
role_number SecurityOfficer = 2
role_number AuditManager = 3

-- the role of a number; a number above 3 has none
abbrev pub role_of : ℕ → Option Role
role_of zero = Some UserOnly
role_of (suc zero) = Some Guard
role_of (suc (suc zero)) = Some SecurityOfficer
role_of (suc (suc (suc zero))) = Some AuditManager
role_of (suc (suc (suc (suc n)))) = None
