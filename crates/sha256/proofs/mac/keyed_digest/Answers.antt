use Rattle.std.proofs.Common.{◌≡◌, length, rules}
use Rattle.sha256.proofs.Laws.{from_block}
use Rattle.sha256.proofs.mac.keyed_digest.Goals as goal

pub returns : goal.returns
returns c =
    let long : length c.xor.result ≡ 64 = search rules in
    rw (c.finish.ensures, c.compress.ensures, ← c.xor.ensures) (from_block c.xor.result c.args.message.now long)
