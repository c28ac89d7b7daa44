use Rattle.tx_engine.proofs.Common.{◌≡◌, Some, is_some, false, ap, ◌∙◌, sym, arith, Updates-with_value, Standing, carried_on, call_seen}
use Rattle.tx_engine.proofs.open_calls.add_hop.Goals as goal

pub push_reserved-requires : goal.push_reserved-requires
push_reserved-requires g c = let r = c.requires c.in-Some.call.now (sym c.in-Some.ensures.value) in omega (arith, r)

pub returns-in-Some : goal.returns-in-Some
returns-in-Some g c = λ old was.
    let both : Some c.in-Some.call.now ≡ Some old = c.in-Some.ensures.value ∙ was in
    let same : c.in-Some.call.now ≡ old = cc in
    let now = c.in-Some.call.now in (
      record now { hops = c.push_reserved.new.self; phase = Standing; collided = false },
      Updates-with_value c.args.calls.now c.args.key (record now { hops = c.push_reserved.new.self; phase = Standing; collided = false }) (ap is_some was),
      (λ i. record { number = now.number; line = now.line; keyed = now.keyed; keyed_at = now.keyed_at; hops = c.push_reserved.ensures.items i; phase = Standing; collided = false })
          ∙ ap (λ z. carried_on c.args.hop.circuit c.args.hop.far (call_seen z)) same,
    )
