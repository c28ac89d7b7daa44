use Rattle.tx_engine.proofs.Common.{ℕ, ◌==◌, ◌<◌, ◌-◌, ◌^◌, not, sym, ap, ◌∙◌, subst, Nc, HeadOn, State, kept_at, keys_of, pick, state_of}
use Rattle.tx_machine.specs.declared.cause.Cause.TheVariants.{Service as ByService}
use Rattle.tx_engine.specs.inner.InTurn.{pair_ended}
use Rattle.tx_engine.proofs.Accepted.{head_on_done}
use Rattle.tx_engine.specs.declared.head_on.Met.{Met}
use Rattle.tx_engine.proofs.HeadOn.{meeting, keys_differ}
use Rattle.tx_engine.proofs.engine.EngineState.meet.Goals as goal

pub met-one-requires : goal.met-one-requires
met-one-requires g c = let q = c.requires.calls in (q.0, q.1.kept)

pub met-other-requires : goal.met-other-requires
met-other-requires g c =
    let n = c.args.self.now in
    let x = c.args.circuit.now in
    let q = c.requires.calls in
    let k = q.0 in
    let mt = meeting n c.requires.sound c.args.number c.args.key x k q.1 q.2 c.args.far q.3 c.requires.met c.get-other_key.result (c.get-other_key.ensures ∙ ap (λ z. pick z (keys_of n.keys x)) (c.eq.ensures ∙ ap (λ (z : ℕ × ℕ). z.0 == c.args.far) c.ends-first.ensures)) in
    let d = mt.0 in
    (d, mt.1.two)

pub throw_back-requires-clause-meeting : goal.throw_back-requires-clause-meeting
throw_back-requires-clause-meeting g c =
    let n = c.args.self.now in
    let x = c.args.circuit.now in
    let q = c.requires.calls in
    let k = q.0 in
    let mt = meeting n c.requires.sound c.args.number c.args.key x k q.1 q.2 c.args.far q.3 c.requires.met c.get-other_key.result (c.get-other_key.ensures ∙ ap (λ z. pick z (keys_of n.keys x)) (c.eq.ensures ∙ ap (λ (z : ℕ × ℕ). z.0 == c.args.far) c.ends-first.ensures)) in
    let d = mt.0 in
    (k, d, mt.1)

pub end_collided-requires : goal.end_collided-requires
end_collided-requires g c =
    let n = c.args.self.now in
    let x = c.args.circuit.now in
    let q = c.requires.calls in
    let k = q.0 in
    let mt = meeting n c.requires.sound c.args.number c.args.key x k q.1 q.2 c.args.far q.3 c.requires.met c.get-other_key.result (c.get-other_key.ensures ∙ ap (λ z. pick z (keys_of n.keys x)) (c.eq.ensures ∙ ap (λ (z : ℕ × ℕ). z.0 == c.args.far) c.ends-first.ensures)) in
    let d = mt.0 in
    let one = c.met-one.ensures k q.1.kept in
    let other = c.met-other.ensures d mt.1.two in
    let th = c.throw_back.ensures.kept k d mt.1 in
    let now = c.throw_back.ensures.state k d mt.1 in
    record {
      sound = c.throw_back.ensures.sound;
      events = subst (λ (z : State). z.events < 2 ^ 64 - 1) (sym now) c.requires.events;
      differ = λ e. keys_differ n c.requires.sound c.args.key c.get-other_key.result x k d mt.1 (sym (ap (λ (z : Met). z.key) other) ∙ e ∙ ap (λ (z : Met). z.key) one);
      one = (_, ap (kept_at c.throw_back.new.self.calls) (ap (λ (z : Met). z.key) one) ∙ th.one, sym (ap (λ (z : Met). z.number) one));
      other = (_, ap (kept_at c.throw_back.new.self.calls) (ap (λ (z : Met). z.key) other) ∙ th.two, sym (ap (λ (z : Met). z.number) other));
    }

pub returns-clause-step : goal.returns-clause-step
returns-clause-step g c =
    let n = c.args.self.now in
    let x = c.args.circuit.now in
    let q = c.requires.calls in
    let k = q.0 in
    let mt = meeting n c.requires.sound c.args.number c.args.key x k q.1 q.2 c.args.far q.3 c.requires.met c.get-other_key.result (c.get-other_key.ensures ∙ ap (λ z. pick z (keys_of n.keys x)) (c.eq.ensures ∙ ap (λ (z : ℕ × ℕ). z.0 == c.args.far) c.ends-first.ensures)) in
    let d = mt.0 in
    let one = c.met-one.ensures k q.1.kept in
    let other = c.met-other.ensures d mt.1.two in
    let th = c.throw_back.ensures.kept k d mt.1 in
    let now = c.throw_back.ensures.state k d mt.1 in
    let a = c.met-one.result in
    let b = c.met-other.result in
    head_on_done n.plan.now (state_of n) c.args.number k.call d.call x c.requires.sound.together.inv q.1.open' mt.1.calls mt.1.met
    ∙ (λ i. (
      HeadOn (sym one i).number (sym other i).number (not (sym one i).collided) (not (sym other i).collided),
      pair_ended (sym c.throw_back.ensures.plan i) (ByService Nc) (sym one i).number (sym one i).collided (sym other i).number (sym other i).collided (sym now i),
    ))
    ∙ ap (λ (z : State). (HeadOn a.number b.number (not a.collided) (not b.collided), z)) (sym c.end_collided.ensures.state)
