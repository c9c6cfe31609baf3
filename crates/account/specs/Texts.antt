-- The lines of an account, as lists of bytes.
use Rattle.std.specs.Prelude.{ℕ, ◌/◌, ◌%◌, Bool, true, false, List, [], ◌∷◌, ◌++◌, codes, decimal, flat_map, slice_index}
use Rattle.certificate.specs.declared.fields.Base.{Base}
use Rattle.certificate.specs.declared.fields.Header.{Header}
use Rattle.certificate.specs.declared.fields.Ianda.{Ianda as IandaFields}
use Rattle.certificate.specs.declared.fields.Id.{Id as IdFields}
use Rattle.card.specs.Declines.{card_number}
use Rattle.card.specs.declared.part.Part.{Part}
use Rattle.card.specs.declared.part.Part.TheVariants.{Id, Privilege, Ianda, Authorisation}
use Rattle.account.specs.declared.lines.PartLine.{PartLine}
use Rattle.account.specs.declared.lines.PartLine.TheVariants as line
use Rattle.account.specs.declared.reason.Reason.{Reason}
use Rattle.account.specs.declared.reason.Reason.TheVariants.{NotUnderstood, NoSuchCard, CardNamedBefore, NoClearanceKind, BadRoleOrClearance, Declined}
use Rattle.account.specs.declared.verdict.Verdict.{Verdict}
use Rattle.account.specs.declared.verdict.Verdict.TheVariants.{Good, Bad, Unchecked}

-- the end of a line
abbrev pub newline : List ℕ
newline = 10 ∷ []

-- a hexadecimal digit, in lower case
abbrev pub digit_of : ℕ → ℕ
digit_of d = slice_index (codes "0123456789abcdef") d

-- a byte as two hexadecimal digits
abbrev pub byte_text : ℕ → List ℕ
byte_text b = digit_of (b / 16) ∷ digit_of (b % 16) ∷ []

-- two digits for each byte
abbrev pub hex_text : List ℕ → List ℕ
hex_text bytes = flat_map byte_text bytes

-- a name and its number, with a space before each
abbrev pub field_text : List ℕ → ℕ → List ℕ
field_text name n = codes " " ++ name ++ codes " " ++ decimal n

-- what every certificate begins with
unfoldable pub header_text : Header → List ℕ
header_text h = field_text (codes "issuer") h.identity.issuer ++ field_text (codes "serial") h.identity.serial ++ field_text (codes "first") h.first ++ field_text (codes "last") h.last

-- what a certificate rests on
unfoldable pub base_text : Base → List ℕ
base_text b = field_text (codes "base-issuer") b.identity.issuer ++ field_text (codes "base-serial") b.identity.serial ++ field_text (codes "card") b.card

-- how a line on a part begins
abbrev pub place_text : Part → List ℕ
place_text Id = codes "part 1 id:"
place_text Privilege = codes "part 2 privilege:"
place_text Ianda = codes "part 3 ianda:"
place_text Authorisation = codes "part 4 authorisation:"

-- what the mark was found to be
abbrev pub verdict_text : Verdict → List ℕ
verdict_text Good = codes "good"
verdict_text Bad = codes "bad"
verdict_text Unchecked = codes "unchecked"

-- how a line on a certificate ends
abbrev pub mark_text : Verdict → List ℕ
mark_text v = codes " mark " ++ verdict_text v ++ newline

-- the line of an ID certificate
unfoldable pub id_line : IdFields → Verdict → List ℕ
id_line c v = place_text Id ++ header_text c.header ++ field_text (codes "subject") c.subject ++ mark_text v

-- the line of a privilege or an authorisation certificate
unfoldable pub grant_line : Part → Header → Base → ℕ → ℕ → Verdict → List ℕ
grant_line p h b role clearance v = place_text p ++ header_text h ++ base_text b ++ field_text (codes "role") role ++ field_text (codes "clearance") clearance ++ mark_text v

-- the line of an I&A certificate
unfoldable pub ianda_line : IandaFields → Verdict → List ℕ
ianda_line c v = place_text Ianda ++ header_text c.header ++ base_text c.base ++ codes " template " ++ hex_text c.template ++ mark_text v

-- the line of a part whose bytes are no certificate: the fault's number, and where it is
unfoldable pub fault_line : Part → ℕ → ℕ → List ℕ
fault_line p fault at = place_text p ++ field_text (codes "fault") fault ++ field_text (codes "at") at ++ newline

-- the line of a part for which there is no clearance kind
unfoldable pub no_kind_line : Part → List ℕ
no_kind_line p = place_text p ++ codes " no clearance kind" ++ newline

-- the line of a part
abbrev pub part_text : PartLine → List ℕ
part_text (line.Id x v) = id_line x v
part_text (line.Ianda x v) = ianda_line x v
part_text (line.Grant p h b role clearance v) = grant_line p h b role clearance v
part_text (line.Fault p fault at) = fault_line p fault at
part_text (line.NoKind p) = no_kind_line p

-- whether part 4 of a card can be written
abbrev pub state_text : Bool → List ℕ
state_text true = codes " writable"
state_text false = codes " fixed"

-- the line that begins the account of a card: its label, its number and its state
unfoldable pub card_line : List ℕ → ℕ → Bool → List ℕ
card_line label n writable = codes "card" ++ field_text label n ++ state_text writable ++ newline

-- why a line of the script was not carried out
abbrev pub reason_text : Reason → List ℕ
reason_text NotUnderstood = codes "not understood"
reason_text NoSuchCard = codes "no such card"
reason_text CardNamedBefore = codes "card named before"
reason_text NoClearanceKind = codes "no clearance kind"
reason_text BadRoleOrClearance = codes "bad role or clearance"
reason_text (Declined d) = codes "declined " ++ decimal (card_number d)

-- the line that says so of the script's n-th line
unfoldable pub refused_line : ℕ → Reason → List ℕ
refused_line n why = codes "line " ++ decimal n ++ codes ": " ++ reason_text why ++ newline
