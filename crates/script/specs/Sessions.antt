-- What a line leads to.
use Rattle.std.specs.Prelude.{◌≡◌, ℕ, ◌<◌, Bool, cond, List, [], ◌∷◌, ◌++◌, length, Some, None, Ok, Err, Option, Result, nat_le, slice_index_or, slice_set}
use Rattle.account.specs.declared.reason.Reason.{Reason}
use Rattle.account.specs.declared.reason.Reason.TheVariants.{NoSuchCard, CardNamedBefore, NoClearanceKind, BadRoleOrClearance, Declined}
use Rattle.card.specs.declared.decline.CardDecline.TheVariants.{PartTooLong}
use Rattle.card.specs.declared.part.Part.{Part}
use Rattle.clearance.specs.Classes.{class_of, class_number}
use Rattle.clearance.specs.Compartments.{compartments_of, compartments_number}
use Rattle.command.specs.declared.command.Grant.{Grant}
use Rattle.command.specs.declared.command.Kind.{Kind}
use Rattle.command.specs.declared.command.Kind.TheVariants.{Class, Compartments}
use Rattle.script.specs.declared.stop.Stop.{Stop}
use Rattle.script.specs.declared.stop.Stop.TheVariants.{Refused, NoMemory}
use Rattle.script.specs.Cards.{new_card, given, card_named, part_put}
use Rattle.script.specs.Labels.{Labelled}
use Rattle.script.specs.Issues.{grant_bytes}
use Rattle.script.specs.State.{State}
use Rattle.script.specs.Views.{card_text}

-- before the first line
abbrev pub fresh : State
fresh = record { kind = None; keys = []; cards = [] }

-- what a line leads to: the session after it, and the reason if it was refused
abbrev pub Step : Type 0
Step = State × Result (Unit {0}) Reason

-- a line that was carried out, and one that was refused and changes nothing
abbrev pub done : State → Step
done s = (s, Ok tt)

abbrev pub refused : State → Reason → Step
refused s why = (s, Err why)

-- the same session with other cards
abbrev pub with_cards : State → List Labelled → State
with_cards s cards = record { kind = s.kind; keys = s.keys; cards = cards }

-- a new card, unless the label is taken
abbrev pub card_added : State → Labelled → Option Labelled → Step
card_added s c (Some other) = refused s CardNamedBefore
card_added s c None = done (with_cards s (s.cards ++ (c ∷ [])))

-- `card`
abbrev pub card_step : State → List ℕ → ℕ → Bool → Step
card_step s label number writable = card_added s (new_card label number writable) (card_named s.cards label)

-- the place of the first card of a label: what stands there is that card, and a part that is put there is put into it; else there is no
-- such card
abbrev pub Place : List Labelled → List ℕ → Result ℕ Reason → Type 0
Place cs label (Ok i) =
    (i < length cs)
    × ((d : Labelled) → card_named cs label ≡ Some (slice_index_or cs i d))
    × ((d : Labelled) (part : Part) (bytes : List ℕ) → part_put cs label part bytes ≡ slice_set cs i (given (slice_index_or cs i d) part bytes))
Place cs label (Err why) = (card_named cs label ≡ None) × (why ≡ NoSuchCard)

-- a step on the card of a label, if there is one
abbrev pub on_card : State → Option Labelled → Step → Step
on_card s None step = refused s NoSuchCard
on_card s (Some c) step = step

-- the part is put into the card of the label, if there is one
abbrev pub put_step : State → List ℕ → Part → List ℕ → Step
put_step s label part bytes = on_card s (card_named s.cards label) (done (with_cards s (part_put s.cards label part bytes)))

-- `part`: of at most 128 bytes
abbrev pub part_step : State → List ℕ → Part → List ℕ → Step
part_step s label part bytes =
    on_card s (card_named s.cards label) (cond (nat_le (length bytes) 128) (put_step s label part bytes) (refused s (Declined PartTooLong)))

-- the bytes of a privilege or an authorisation certificate, if there are any
abbrev pub grant_put : State → List ℕ → Part → Option (List ℕ) → Step
grant_put s label part None = refused s BadRoleOrClearance
grant_put s label part (Some bytes) = put_step s label part bytes

-- by the clearance kind, if one was chosen
abbrev pub grant_by : State → List ℕ → Part → Grant → Option Kind → Step
grant_by s label part g None = refused s NoClearanceKind
grant_by s label part g (Some Class) = grant_put s label part (grant_bytes class_of class_number s.keys g)
grant_by s label part g (Some Compartments) = grant_put s label part (grant_bytes compartments_of compartments_number s.keys g)

-- `privilege` and `authorisation`
abbrev pub grant_step : State → List ℕ → Part → Grant → Step
grant_step s label part g = on_card s (card_named s.cards label) (grant_by s label part g s.kind)

-- what `show` prints
abbrev pub shown_text : State → Option Labelled → List ℕ
shown_text s None = []
shown_text s (Some c) = card_text s.kind s.keys c

-- what a call that carries out a step answers, and leaves: what the step says; where memory is wanting nothing is said
abbrev pub Takes : Step → State → Result (Unit {0}) Stop → Type 0
Takes step after (Ok u) = done after ≡ step
Takes step after (Err (Refused why)) = refused after why ≡ step
Takes step after (Err (NoMemory e)) = Unit {0}

-- what such a call prints behind what was printed before
abbrev pub Prints : List ℕ → List ℕ → List ℕ → Result (Unit {0}) Stop → Type 0
Prints text before after (Err (NoMemory e)) = Unit {0}
Prints text before after (Err (Refused why)) = after ≡ before ++ text
Prints text before after (Ok u) = after ≡ before ++ text
