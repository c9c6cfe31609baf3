-- What a line says.
use Rattle.std.specs.Prelude.{ℕ, Bool, true, false, cond, List, [], ◌∷◌, Some, None, codes, Option, ◌==◌}
use Rattle.std.specs.Option.{option_and_then}
use Rattle.std.specs.Str.{bytes_eq}
use Rattle.certificate.specs.declared.fields.Identity.{Identity}
use Rattle.certificate.specs.declared.fields.Header.{Header}
use Rattle.certificate.specs.declared.fields.Base.{Base}
use Rattle.certificate.specs.declared.fields.Id.{Id as IdFields}
use Rattle.certificate.specs.declared.fields.Ianda.{Ianda as IandaFields}
use Rattle.seal.specs.declared.key.Key.{Key as SealKey}
use Rattle.command.specs.declared.command.Grant.{Grant}
use Rattle.command.specs.declared.command.Kind.{Kind}
use Rattle.command.specs.declared.command.Kind.TheVariants.{Class, Compartments}
use Rattle.card.specs.declared.part.Part.{Part}
use Rattle.card.specs.declared.part.Part.TheVariants as place
use Rattle.command.specs.declared.command.options.Scheme.{Scheme}
use Rattle.command.specs.declared.command.options.Scheme.TheVariants.{Hmac}
use Rattle.command.specs.declared.command.options.Verb.{Verb}
use Rattle.command.specs.declared.command.options.Verb.TheVariants as verb
use Rattle.command.specs.declared.command.Command.{Command}
use Rattle.command.specs.declared.command.Command.TheVariants as command
use Rattle.command.specs.Words.{words, number_of, unhex}
use Rattle.command.specs.Keys.{keys_of, keys_in, all_keys}
use Rattle.command.specs.Reading.{Rest, followed, finished, word_by, next_word, next_label, next_number, next_hex, next_bytes32}

-- what a line says: a command, with the keys of a seal and the bytes of a part as values
pub data Line : Type 0 where
  nothing : Line
  clearance : Kind → Line
  seal : List SealKey → Line
  card : List ℕ → ℕ → Bool → Line
  part : List ℕ → Part → List ℕ → Line
  id : List ℕ → IdFields → Line
  grant : List ℕ → Part → Grant → Line
  ianda : List ℕ → IandaFields → Line
  shown : List ℕ → Line

-- what a command says
abbrev pub said : Command → Line
said command.Nothing = nothing
said (command.Clearance k) = clearance k
said (command.Seal t) = seal (keys_of t.now)
said (command.Card l n w) = card l.now n w
said (command.Part l p h) = part l.now p (unhex h.now)
said (command.Id l f) = id l.now f
said (command.Grant l p f) = grant l.now p f
said (command.Ianda l f) = ianda l.now f
said (command.Show l) = shown l.now

-- what the first row says whose word this is
abbrev pub chosen : {A : Type 0} → List ℕ → List (List ℕ × A) → Option A
chosen w [] = None
chosen w (row ∷ rows) = cond (bytes_eq w row.0) (Some row.1) (chosen w rows)

-- `class` or `compartments`
unfoldable pub kind_of : List ℕ → Option Kind
kind_of w = chosen w ((codes "class", Class) ∷ (codes "compartments", Compartments) ∷ [])

-- `writable` or `fixed`
unfoldable pub writable_of : List ℕ → Option Bool
writable_of w = chosen w ((codes "writable", true) ∷ (codes "fixed", false) ∷ [])

-- the part of a card that has a number, 1 to 4
abbrev pub place_at : Option ℕ → Option Part
place_at None = None
place_at (Some n) =
    cond (n == 1) (Some place.Id) (
    cond (n == 2) (Some place.Privilege) (
    cond (n == 3) (Some place.Ianda) (
    cond (n == 4) (Some place.Authorisation) None)))

-- a word that is such a number
unfoldable pub place_of : List ℕ → Option Part
place_of w = place_at (number_of w)

-- the word `hmac`
unfoldable pub scheme_of : List ℕ → Option Scheme
scheme_of w = chosen w ((codes "hmac", Hmac) ∷ [])

-- what a line asks for, by its first word
unfoldable pub verb_of : List ℕ → Option Verb
verb_of w =
    chosen w (
    (codes "clearance", verb.Clearance) ∷
    (codes "seal", verb.Seal) ∷
    (codes "card", verb.Card) ∷
    (codes "part", verb.Part) ∷
    (codes "id", verb.Id) ∷
    (codes "privilege", verb.Privilege) ∷
    (codes "ianda", verb.Ianda) ∷
    (codes "authorisation", verb.Authorisation) ∷
    (codes "show", verb.Show) ∷ [])

-- ISSUER SERIAL
abbrev pub next_identity : Rest → Option (Identity × Rest)
next_identity ws =
    followed (next_number ws) (λ issuer ws1.
    followed (next_number ws1) (λ serial ws2.
    Some (record { issuer = issuer; serial = serial }, ws2)))

-- ISSUER SERIAL FIRST LAST
abbrev pub next_header : Rest → Option (Header × Rest)
next_header ws =
    followed (next_identity ws) (λ identity ws1.
    followed (next_number ws1) (λ first ws2.
    followed (next_number ws2) (λ last ws3.
    Some (record { identity = identity; first = first; last = last }, ws3))))

-- BASEISSUER BASESERIAL CARD
abbrev pub next_base : Rest → Option (Base × Rest)
next_base ws =
    followed (next_identity ws) (λ identity ws1.
    followed (next_number ws1) (λ card ws2.
    Some (record { identity = identity; card = card }, ws2)))

-- ISSUER SERIAL FIRST LAST BASEISSUER BASESERIAL CARD ROLE CLEARANCE
abbrev pub next_grant : Rest → Option (Grant × Rest)
next_grant ws =
    followed (next_header ws) (λ header ws1.
    followed (next_base ws1) (λ base ws2.
    followed (next_number ws2) (λ role ws3.
    followed (next_number ws3) (λ clearance ws4.
    Some (record { header = header; base = base; role = role; clearance = clearance }, ws4)))))

-- clearance class | compartments
abbrev pub clearance_command : Rest → Option Line
clearance_command ws =
    followed (word_by kind_of ws) (λ kind ws1.
    finished ws1 (clearance kind))

-- seal hmac NAME:KEYHEX ...
abbrev pub seal_command : Rest → Option Line
seal_command ws =
    followed (word_by scheme_of ws) (λ _ ws1.
    followed (next_word ws1) (λ _ _.
    cond (all_keys ws1) (Some (seal (keys_in ws1))) None))

-- card LABEL NUMBER writable | fixed
abbrev pub card_command : Rest → Option Line
card_command ws =
    followed (next_label ws) (λ label ws1.
    followed (next_number ws1) (λ number ws2.
    followed (word_by writable_of ws2) (λ writable ws3.
    finished ws3 (card label number writable))))

-- part LABEL K HEX
abbrev pub part_command : Rest → Option Line
part_command ws =
    followed (next_label ws) (λ label ws1.
    followed (word_by place_of ws1) (λ place ws2.
    followed (next_hex ws2) (λ hex ws3.
    finished ws3 (part label place (unhex hex)))))

-- id LABEL ISSUER SERIAL FIRST LAST SUBJECT
abbrev pub id_command : Rest → Option Line
id_command ws =
    followed (next_label ws) (λ label ws1.
    followed (next_header ws1) (λ header ws2.
    followed (next_number ws2) (λ subject ws3.
    finished ws3 (id label (record { header = header; subject = subject })))))

-- privilege LABEL, or authorisation LABEL, and the fields of a grant
abbrev pub grant_command : Part → Rest → Option Line
grant_command place ws =
    followed (next_label ws) (λ label ws1.
    followed (next_grant ws1) (λ fields ws2.
    finished ws2 (grant label place fields)))

-- ianda LABEL ISSUER SERIAL FIRST LAST BASEISSUER BASESERIAL CARD TEMPLATEHEX
abbrev pub ianda_command : Rest → Option Line
ianda_command ws =
    followed (next_label ws) (λ label ws1.
    followed (next_header ws1) (λ header ws2.
    followed (next_base ws2) (λ base ws3.
    followed (next_bytes32 ws3) (λ template ws4.
    finished ws4 (ianda label (record { header = header; base = base; template = template }))))))

-- show LABEL
abbrev pub show_command : Rest → Option Line
show_command ws =
    followed (next_label ws) (λ label ws1.
    finished ws1 (shown label))

-- the words after the first, by what it asks for
abbrev pub asked : Verb → Rest → Option Line
asked verb.Clearance ws = clearance_command ws
asked verb.Seal ws = seal_command ws
asked verb.Card ws = card_command ws
asked verb.Part ws = part_command ws
asked verb.Id ws = id_command ws
asked verb.Privilege ws = grant_command place.Privilege ws
asked verb.Ianda ws = ianda_command ws
asked verb.Authorisation ws = grant_command place.Authorisation ws
asked verb.Show ws = show_command ws

-- the words after the first, by that one
abbrev pub command_named : List ℕ → Rest → Option Line
command_named name ws = option_and_then (λ v. asked v ws) (verb_of name)

-- a word that starts with `#`
abbrev pub is_remark : List ℕ → Bool
is_remark [] = false
is_remark (b ∷ w) = b == 35

-- no word or a remark does nothing
abbrev pub words_say : Rest → Option Line
words_say [] = Some nothing
words_say (w ∷ ws) = cond (is_remark w) (Some nothing) (command_named w ws)

-- what a line says; None where it is not understood
abbrev pub line_of : List ℕ → Option Line
line_of line = words_say (words line)
