use Rattle.std.proofs.Common.{◌≡◌, length, get_or, bit_xor, ◌∙◌, arith, rules}
use Rattle.std.proofs.lemmas.List.{length-set, get_or_default}
use Rattle.std.proofs.lemmas.List.Edits.{map_over_more}
use Rattle.sha256.proofs.mac.xor.Goals as goal

pub loop-byte-preserved : goal.loop-byte-preserved
loop-byte-preserved c =
    let n : length c.args.block ≡ 64 = search rules in (
      map_over_more (λ x. bit_xor x c.args.pad) c.args.block c.loop-byte.byte-items c.loop-byte.byte-index (get_or c.loop-byte.byte-items c.loop-byte.byte-index 0) (omega (arith, n, c.loop-byte.invariant.1, c.loop-byte-test.true)) c.loop-byte.invariant.0
          (get_or_default c.loop-byte.byte-items c.loop-byte.byte-index 0 _ (omega (arith, c.loop-byte.invariant.1, c.loop-byte-test.true))),
      length-set _ _ _ ∙ c.loop-byte.invariant.1,
    )
