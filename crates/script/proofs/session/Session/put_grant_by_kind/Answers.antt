use Rattle.std.proofs.Common.{◌≡◌, ℕ, List, [], false, Some, Option, sym, ap, ◌∙◌, subst}
use Rattle.card.specs.declared.part.Part.{Part}
use Rattle.command.specs.declared.command.Grant.{Grant}
use Rattle.command.specs.declared.command.Kind.{Kind}
use Rattle.script.specs.Cards.{new_card, card_named}
use Rattle.script.specs.Labels.{Labelled}
use Rattle.script.specs.Sessions.{grant_by, grant_step, Takes}
use Rattle.script.specs.State.{State}
use Rattle.script.proofs.session.Session.put_grant_by_kind.Goals as goal

-- where there is a card of the label, the kind decides
by_kind : (s : State) (label : List ℕ) (part : Part) (g : Grant) (c : Labelled) (kind : Option Kind) → card_named s.cards label ≡ Some c → s.kind ≡ kind
    → grant_by s label part g kind ≡ grant_step s label part g
by_kind s label part g c kind e f = rw (e, f)

pub returns-in_default : goal.returns-in_default
returns-in_default c =
    by_kind c.args.self.now c.args.label.now c.args.part c.args.grant _ _ (c.in_ok-place_of.ensures.1 (new_card [] 0 false)) (ap (λ (s : State). s.kind) (sym c.self.view_is) ∙ c.in_default.is)

pub returns-in-Class : goal.returns-in-Class
returns-in-Class c =
    subst (λ step. Takes step c.put_grant.new.self c.put_grant.result)
    (by_kind c.args.self.now c.args.label.now c.args.part c.args.grant _ _ (c.in_ok-place_of.ensures.1 (new_card [] 0 false))
    (ap (λ (s : State). s.kind) (sym c.self.view_is) ∙ c.in-Some.is ∙ ap Some c.in-Class.is))
    c.put_grant.ensures

pub returns-in-Compartments : goal.returns-in-Compartments
returns-in-Compartments c =
    subst (λ step. Takes step c.put_grant-in-Compartments.new.self c.put_grant-in-Compartments.result)
    (by_kind c.args.self.now c.args.label.now c.args.part c.args.grant _ _ (c.in_ok-place_of.ensures.1 (new_card [] 0 false))
    (ap (λ (s : State). s.kind) (sym c.self.view_is) ∙ c.in-Some.is ∙ ap Some c.in-Compartments.is))
    c.put_grant-in-Compartments.ensures
