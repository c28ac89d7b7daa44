use Rattle.tx_engine.proofs.Common.{◌≡◌, ◌<◌, ◌-◌, ◌^◌, is_some, true, sym, ap, subst, ◌∙◌, Decision, Route, call_of, Net, carried_out}
use Rattle.tx_machine.specs.declared.deciding.Decision.TheVariants.{Answer, Connect, Seize}
use Rattle.tx_machine.proofs.Unrefused.{can_count, can_route}
use Rattle.tx_engine.proofs.Deciding.{is_decided, is_routed}
use Rattle.tx_engine.proofs.engine.Engine.route.Goals as goal

pub key_of-key-requires : goal.key_of-key-requires
key_of-key-requires g c =
    let v = c.args.self.now in
    subst (λ (v : Net). is_some (call_of c.args.number v.state.calls) ≡ true) (sym c.self.view_is) (can_route v.plan v.state c.args.number c.requires)

pub at-requires : goal.at-requires
at-requires g c = ap is_some c.key_of-key.ensures.1.kept

pub answer-requires-clause-there : goal.answer-requires-clause-there
answer-requires-clause-there g c = ap is_some c.key_of-key.ensures.1.kept

pub answer-requires-clause-events : goal.answer-requires-clause-events
answer-requires-clause-events g c =
    let v = c.args.self.now in
    subst (λ (v : Net). v.state.events < 2 ^ 64 - 1) (sym c.self.view_is) (can_count v.plan v.state (Route c.args.number) c.requires)

pub connect-requires-clause-decided : goal.connect-requires-clause-decided
connect-requires-clause-decided g c =
    let v = c.args.self.now in
    let f = c.key_of-key.ensures in
    let told = c.decide.ensures ∙ ap (carried_out v.plan v.state c.at.result.now.number) c.in-Connect.is in
    (f.0, is_decided c.self.inside.inner v c.self.view_is c.args.number c.key_of-key.result c.requires f.0 _ f.1 c.at.ensures (Connect c.in-Connect.line) told)

pub seize-requires-clause-decided : goal.seize-requires-clause-decided
seize-requires-clause-decided g c =
    let v = c.args.self.now in
    let f = c.key_of-key.ensures in
    let told = c.decide.ensures ∙ ap (carried_out v.plan v.state c.at.result.now.number) c.in-Seize.is in
    (f.0, is_decided c.self.inside.inner v c.self.view_is c.args.number c.key_of-key.result c.requires f.0 _ f.1 c.at.ensures (Seize c.in-Seize.circuit) told)

pub returns-in-Answer-clause-ok : goal.returns-in-Answer-clause-ok
returns-in-Answer-clause-ok g c =
    let v = c.args.self.now in
    let f = c.key_of-key.ensures in
    let told = c.decide.ensures ∙ ap (carried_out v.plan v.state c.at.result.now.number) c.in-Answer.is in
    is_routed c.self.inside.inner v c.self.view_is c.args.number c.key_of-key.result c.requires f.0 _ f.1 c.at.ensures (Answer c.in-Answer.service) told
    ∙ c.answer.ensures.step f.0 f.1.kept

pub returns-in_ok-connect-in-Connect-clause-ok : goal.returns-in_ok-connect-in-Connect-clause-ok
returns-in_ok-connect-in-Connect-clause-ok g c =
    let v = c.args.self.now in
    let f = c.key_of-key.ensures in
    let told = c.decide.ensures ∙ ap (carried_out v.plan v.state c.at.result.now.number) c.in-Connect.is in
    is_routed c.self.inside.inner v c.self.view_is c.args.number c.key_of-key.result c.requires f.0 _ f.1 c.at.ensures (Connect c.in-Connect.line) told
    ∙ c.in_ok-connect-in-Connect.ensures.ok f.0 f.1.kept

pub returns-in_ok-seize-in-Seize-clause-ok : goal.returns-in_ok-seize-in-Seize-clause-ok
returns-in_ok-seize-in-Seize-clause-ok g c =
    let v = c.args.self.now in
    let f = c.key_of-key.ensures in
    let told = c.decide.ensures ∙ ap (carried_out v.plan v.state c.at.result.now.number) c.in-Seize.is in
    is_routed c.self.inside.inner v c.self.view_is c.args.number c.key_of-key.result c.requires f.0 _ f.1 c.at.ensures (Seize c.in-Seize.circuit) told
    ∙ c.in_ok-seize-in-Seize.ensures.ok f.0 f.1.kept
