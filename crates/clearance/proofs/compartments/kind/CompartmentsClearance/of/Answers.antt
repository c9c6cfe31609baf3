use Rattle.std.proofs.Common.{sym}
use Rattle.clearance.specs.Order.{compartments_of_number}
use Rattle.clearance.proofs.compartments.kind.CompartmentsClearance.of.Goals as goal

pub returns : goal.returns
returns c = sym (compartments_of_number c.args.number c.in_ok-of.field-0 _ (sym c.in_ok-of.ensures))
