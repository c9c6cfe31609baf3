-- What a line of a script does, and what it prints.
use Rattle.std.specs.Prelude.{ℕ, List, [], ◌++◌, Some, None, Ok, Err, Option, Result}
use Rattle.account.specs.declared.reason.Reason.{Reason}
use Rattle.account.specs.declared.reason.Reason.TheVariants.{NotUnderstood}
use Rattle.account.specs.Texts.{refused_line}
use Rattle.certificate.specs.Fields.{id_bytes, ianda_bytes}
use Rattle.card.specs.declared.part.Part.TheVariants as place
use Rattle.command.specs.Commands.{Line, nothing, clearance, seal, card, part, id, grant, ianda, shown}
use Rattle.script.specs.Cards.{card_named}
use Rattle.script.specs.Issues.{sealed_body}
use Rattle.script.specs.Sessions.{Step, done, card_step, put_step, part_step, grant_step, on_card, shown_text}
use Rattle.script.specs.State.{State}

-- what a line that was understood leads to
abbrev pub carried_out : State → Line → Step
carried_out s nothing = done s
carried_out s (clearance k) = done (record { kind = Some k; keys = s.keys; cards = s.cards })
carried_out s (seal ks) = done (record { kind = s.kind; keys = ks; cards = s.cards })
carried_out s (card label number writable) = card_step s label number writable
carried_out s (part label place bytes) = part_step s label place bytes
carried_out s (id label x) = put_step s label place.Id (sealed_body s.keys x.header.identity.issuer (id_bytes x))
carried_out s (grant label place g) = grant_step s label place g
carried_out s (ianda label x) = put_step s label place.Ianda (sealed_body s.keys x.header.identity.issuer (ianda_bytes x))
carried_out s (shown label) = on_card s (card_named s.cards label) (done s)

-- what it prints: only `show` prints an account
abbrev pub account_of : State → Line → List ℕ
account_of s nothing = []
account_of s (clearance k) = []
account_of s (seal ks) = []
account_of s (card label number writable) = []
account_of s (part label place bytes) = []
account_of s (id label x) = []
account_of s (grant label place g) = []
account_of s (ianda label x) = []
account_of s (shown label) = shown_text s (card_named s.cards label)

-- the n-th line, where it is refused, says why
abbrev pub reason_line : ℕ → Result (Unit {0}) Reason → List ℕ
reason_line n (Ok u) = []
reason_line n (Err why) = refused_line n why

-- the session after a line
abbrev pub session_after : State → Option Line → State
session_after s None = s
session_after s (Some line) = (carried_out s line).0

-- what the n-th line prints
abbrev pub printed_by : State → ℕ → Option Line → List ℕ
printed_by s n None = refused_line n NotUnderstood
printed_by s n (Some line) = account_of s line ++ reason_line n (carried_out s line).1
