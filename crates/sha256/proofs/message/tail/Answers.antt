use Rattle.std.proofs.Common.{ℕ, refl, ◌-◌, ◌*◌, ◌%◌, length, arith}
use Rattle.sha256.specs.Hash.{padding_with, eight_bytes}
use Rattle.sha256.specs.Midway.{tail_blocks}
use Rattle.sha256.proofs.Laws.{tail_is, tail_room, tail_few}
use Rattle.sha256.proofs.message.tail.Goals as goal

pub returns : goal.returns
unfolding padding_with eight_bytes
returns c =
    let n : ℕ = length c.args.rest.now in
    let z : ℕ = (119 - n % 64) % 64 in
    rw (c.copy_from_slice-2.ensures.after, c.to_be_bytes.ensures, c.copy_from_slice.ensures.after, c.tail_blocks-end.ensures.value)
    (tail_is c.args.rest.now _ _ n (64 * tail_blocks n) z refl refl (tail_room n c.requires) (omega (arith, tail_few n)))
