use Rattle.tx_engine.proofs.Common.{◌≡◌, Some, sym, subst, ◌∙◌, CanThrowOff, thrown_off, Kept, kept_of}
use Rattle.tx_engine.proofs.HeadOn.{may_throw_off, keys_differ, sound_thrown, state_thrown, kept_thrown}
use Rattle.tx_engine.proofs.engine.EngineState.throw_back.Goals as goal

pub throw_off-requires : goal.throw_off-requires
throw_off-requires g c =
    let n = c.args.self.now in
    let m = c.requires.meeting in
    let one : Some m.0 ≡ Some (kept_of c.at.result.now) = sym m.2.one ∙ c.at.ensures in
    let two : Some m.1 ≡ Some (kept_of c.at-2.result.now) = sym m.2.two ∙ c.at-2.ensures in
    let k : m.0 ≡ kept_of c.at.result.now = cc in
    let d : m.1 ≡ kept_of c.at-2.result.now = cc in
    let x = c.args.circuit.now in
    subst (λ (z : Kept). CanThrowOff n.plan.now z.call (kept_of c.at-2.result.now).call x n.circuits) k (subst (λ (z : Kept). CanThrowOff n.plan.now m.0.call z.call x n.circuits) d (may_throw_off n c.requires.sound c.args.key c.args.other_key x m.0 m.1 m.2))

pub returns-clause-sound : goal.returns-clause-sound
returns-clause-sound g c =
    let k = c.requires.meeting.0 in
    let d = c.requires.meeting.1 in
    let m = c.requires.meeting.2 in
    let n = c.args.self.now in
    let x = c.args.circuit.now in
    let one : Some (kept_of c.at.result.now) ≡ Some k = sym c.at.ensures ∙ m.one in
    let two : Some (kept_of c.at-2.result.now) ≡ Some d = sym c.at-2.ensures ∙ m.two in
    let is_k : kept_of c.at.result.now ≡ k = cc in
    let is_d : kept_of c.at-2.result.now ≡ d = cc in
    let up1 = c.throw_back.ensures.changes k m.one in
    let was2 = up1.others c.args.other_key (keys_differ n c.requires.sound c.args.key c.args.other_key x k d m) ∙ m.two in
    let up2 = c.throw_back-2.ensures.changes d was2 in
    sound_thrown n c.requires.sound c.args.key c.args.other_key x k d m c.throw_off.new.circuits (c.throw_off.ensures ∙ (λ i. thrown_off n.plan.now (is_k i).call (is_d i).call x n.circuits)) c.throw_back.new.self c.throw_back-2.new.self
    up1 (c.throw_back.ensures.calls k m.one) up2 (c.throw_back-2.ensures.calls d was2)

pub returns-clause-state : goal.returns-clause-state
returns-clause-state g c = λ k d m.
    let n = c.args.self.now in
    let x = c.args.circuit.now in
    let one : Some (kept_of c.at.result.now) ≡ Some k = sym c.at.ensures ∙ m.one in
    let two : Some (kept_of c.at-2.result.now) ≡ Some d = sym c.at-2.ensures ∙ m.two in
    let is_k : kept_of c.at.result.now ≡ k = cc in
    let is_d : kept_of c.at-2.result.now ≡ d = cc in
    let up1 = c.throw_back.ensures.changes k m.one in
    let was2 = up1.others c.args.other_key (keys_differ n c.requires.sound c.args.key c.args.other_key x k d m) ∙ m.two in
    let up2 = c.throw_back-2.ensures.changes d was2 in
    state_thrown n c.requires.sound c.args.key c.args.other_key x k d m c.throw_off.new.circuits (c.throw_off.ensures ∙ (λ i. thrown_off n.plan.now (is_k i).call (is_d i).call x n.circuits)) c.throw_back.new.self c.throw_back-2.new.self
    up1 (c.throw_back.ensures.calls k m.one) up2 (c.throw_back-2.ensures.calls d was2)

pub returns-clause-kept : goal.returns-clause-kept
returns-clause-kept g c = λ k d m.
    let n = c.args.self.now in
    let x = c.args.circuit.now in
    let one : Some (kept_of c.at.result.now) ≡ Some k = sym c.at.ensures ∙ m.one in
    let two : Some (kept_of c.at-2.result.now) ≡ Some d = sym c.at-2.ensures ∙ m.two in
    let is_k : kept_of c.at.result.now ≡ k = cc in
    let is_d : kept_of c.at-2.result.now ≡ d = cc in
    let up1 = c.throw_back.ensures.changes k m.one in
    let was2 = up1.others c.args.other_key (keys_differ n c.requires.sound c.args.key c.args.other_key x k d m) ∙ m.two in
    let up2 = c.throw_back-2.ensures.changes d was2 in
    kept_thrown n c.requires.sound c.args.key c.args.other_key x k d m c.throw_off.new.circuits (c.throw_off.ensures ∙ (λ i. thrown_off n.plan.now (is_k i).call (is_d i).call x n.circuits)) c.throw_back.new.self c.throw_back-2.new.self
    up1 (c.throw_back.ensures.calls k m.one) up2 (c.throw_back-2.ensures.calls d was2)
