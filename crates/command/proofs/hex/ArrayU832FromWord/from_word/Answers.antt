use Rattle.std.proofs.Common.{◌≡◌, rules, arith, sym, ap, ◌∙◌, length, map}
use Rattle.std.proofs.lemmas.List.{take_all}
use Rattle.command.specs.Words.{byte_of, unhex, bytes32_of}
use Rattle.command.proofs.Digits.{unhex_pairs}
use Rattle.command.proofs.hex.ArrayU832FromWord.from_word.Goals as goal

pub returns : goal.returns
unfolding bytes32_of
returns c =
    let n : length c.as_chunks.result.0.now ≡ 32 = omega arith in
    let e : c.loop-i.bytes ≡ unhex c.args.word.now =
    sym (take_all c.loop-i.i c.loop-i.bytes (omega (arith, n, c.loop-i.invariant.1)))
    ∙ c.loop-i.invariant.0
    ∙ ap (map byte_of) (take_all c.loop-i.i c.as_chunks.result.0.now (omega (arith, n)) ∙ c.as_chunks.ensures.front)
    ∙ unhex_pairs c.args.word.now
    in
    rw e (search rules)
