use Rattle.std.proofs.Common.{refl, ◌∙◌}
use Rattle.sha256.proofs.Laws.{rotation}
use Rattle.sha256.proofs.functions.small_sigma.Goals as goal

pub returns : goal.returns
returns g c =
    let a = c.rotate_right.ensures ∙ rotation g.row.A c.args.x c.requires.first.0 c.requires.first.1 in
    let b = c.rotate_right-2.ensures ∙ rotation g.row.B c.args.x c.requires.second.0 c.requires.second.1 in
    rw (a, b) refl
