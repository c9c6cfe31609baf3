-- The tags of elements.
use Rattle.std.specs.Prelude.{ℕ}
use Rattle.certificate.specs.declared.tag.Tag.{Tag}
use Rattle.certificate.specs.declared.tag.Tag.TheVariants.{Integer, OctetString, Sequence}

-- the byte of each tag
abbrev pub tag_byte : Tag → ℕ
tag_byte Integer = 2
tag_byte OctetString = 4
tag_byte Sequence = 0x30
