use Rattle.std.proofs.Common.{◌≡◌, map, rules, [], ◌∷◌, ◌∙◌, ap}
use Rattle.sha256.specs.Hash.{four_bytes, bytes_of}
use Rattle.std.specs.List.{flat_map}
use Rattle.sha256.proofs.Calls.{mapped}
use Rattle.sha256.proofs.words.ArrayU832FromWords.from.Goals as goal

pub returns : goal.returns
unfolding four_bytes bytes_of
returns c =
    let v = c.args.v in
    let each : c.map.result ≡ map four_bytes (v.a ∷ v.b ∷ v.c ∷ v.d ∷ v.e ∷ v.f ∷ v.g ∷ v.h ∷ []) = mapped _ four_bytes _ (λ x y q k. search rules) _ c.map.result 0 8 (search rules) c.map.ensures.items in
    c.copy_from_slice.ensures.after ∙ c.as_flattened.ensures.value ∙ ap (flat_map (λ bytes. bytes)) each
