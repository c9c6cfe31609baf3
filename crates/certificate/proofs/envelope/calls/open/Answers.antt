use Rattle.std.proofs.Common.{◌+◌, ◌≤◌, length, ap, arith}
use Rattle.std.proofs.lemmas.List.{length-take-le}
use Rattle.certificate.proofs.States.{sequence_room}
use Rattle.certificate.proofs.envelope.calls.open.Goals as goal

pub slice_bounds-result-end : goal.slice_bounds-result-end
slice_bounds-result-end c =
    let end = length c.left.result.now + 2 in
    let contents = c.left-contents.result.now in
    let room : end ≤ length contents = omega (arith, sequence_room _ _ _ c.in_ok-body.ensures, ap length c.left-contents.ensures, ap length c.left.ensures) in
    omega (arith, length-take-le end contents room)
