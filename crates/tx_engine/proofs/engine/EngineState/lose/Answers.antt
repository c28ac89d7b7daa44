use Rattle.tx_engine.proofs.Common.{ℕ, ◌+◌, ◌<◌, ◌-◌, ◌^◌, ◌∙◌, sym, ap, subst, drop, refl, arith, get_or, Plan, end_call, calls_in, state_of}
use Rattle.std.proofs.lemmas.List.{drop_all}
use Rattle.tx_machine.specs.declared.cause.Cause.TheVariants.{Lost as ByLoss}
use Rattle.tx_engine.proofs.Losing.{losing_begins}
use Rattle.tx_engine.proofs.Users.{AreLeft, none_left}
use Rattle.tx_engine.proofs.Lost.{drop_first, mem_there, least_there, goes_on}
use Rattle.tx_engine.proofs.engine.EngineState.lose.Goals as goal

pub loop-number-init : goal.loop-number-init
loop-number-init g c =
    let n = c.args.self.now in
    record {
      sound = c.requires.sound;
      plan = refl;
      events = refl;
      failed = refl;
      losing = losing_begins n.plan.now c.args.group (state_of n) c.requires.sound.together.inv;
      left = record { among = λ d m. m; users = c.requires.users.all };
      few = omega arith;
    }

pub lose_one-lost-requires-clause-sound : goal.lose_one-lost-requires-clause-sound
lose_one-lost-requires-clause-sound g c = c.loop-number.invariant.sound

pub lose_one-lost-requires-clause-events : goal.lose_one-lost-requires-clause-events
lose_one-lost-requires-clause-events g c = subst (λ (e : ℕ). e < 2 ^ 64 - 1) (sym c.loop-number.invariant.events) c.requires.events

pub overflow_add-lost : goal.overflow_add-lost
overflow_add-lost g c =
    let within = c.loop-number-test.true in
    omega (arith, c.loop-number.invariant.few, c.lose_one-lost.ensures.few, c.requires.few)

pub loop-number-preserved : goal.loop-number-preserved
loop-number-preserved g c =
    let n = c.args.self.now in
    let m = c.loop-number.self in
    let i = c.loop-number.invariant in
    let at = c.loop-number.number-index in
    let ns = c.args.numbers.now in
    let e = c.lose_one-lost.ensures in
    let next = goes_on n.plan.now c.args.group (state_of n) (state_of m) (state_of c.lose_one-lost.new.self) c.loop-number.lost c.lose_one-lost.result (get_or ns at 0) (drop (at + 1) ns) i.losing
    (subst (AreLeft c.args.group (calls_in n.calls) (calls_in m.calls)) (drop_first ns at c.loop-number-test.true) i.left)
    c.requires.sound.together.inv.one (c.requires.users.only (get_or ns at 0) (mem_there ns at c.loop-number-test.true)) (least_there ns c.requires.ascending at c.loop-number-test.true)
    (λ d found. let f = e.lost d found in (f.0, f.1 ∙ ap (λ (p : Plan). end_call p ByLoss (get_or ns at 0) (state_of m)) i.plan)) e.none in
    record {
      sound = e.sound;
      plan = e.plan ∙ i.plan;
      events = e.events ∙ i.events;
      failed = e.failed ∙ i.failed;
      losing = next.0;
      left = next.1;
      few = omega (arith, i.few, e.few);
    }

pub returns : goal.returns
returns g c =
    let n = c.args.self.now in
    let m = c.loop-number.self in
    let over = c.loop-number-test.false in
    record {
      sound = c.loop-number.invariant.sound;
      plan = c.loop-number.invariant.plan;
      losing = c.loop-number.invariant.losing;
      none = none_left c.args.group (calls_in n.calls) (calls_in m.calls) (subst (AreLeft c.args.group (calls_in n.calls) (calls_in m.calls)) (drop_all c.loop-number.number-index c.args.numbers.now (omega arith)) c.loop-number.invariant.left);
      failed = c.loop-number.invariant.failed;
      events = c.loop-number.invariant.events;
    }
