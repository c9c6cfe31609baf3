-- What stands behind the bytes that are put into cells.
use Rattle.std.proofs.lemmas.List.{drop-drop, drop-replicate}
use Rattle.std.proofs.lemmas.Slice.{drop-put_mid}

pub ruleset ends = (drop-put_mid, drop-drop, drop-replicate)
