use Rattle.std.proofs.Common.{arith, rules, vec_items}
use Rattle.seal.specs.Listed.{listed_pairs}
use Rattle.seal.proofs.Lists.{listing_made}
use Rattle.seal.proofs.listed.ListedSeal.add.Goals as goal

pub returns-clause-made : goal.returns-clause-made
returns-clause-made c =
    let s = c.args.self.now in
    listing_made s.name (listed_pairs s) (vec_items c.push_reserved.new.self) c.args.message.now c.digest-mark.result c.digest-mark.ensures c.push_reserved.ensures.items
    (omega (arith, c.requires, s.pairs.ok.0)) (search rules)
