use Rattle.tx_engine.proofs.Common.{◌≡◌, ◌<◌, ◌≤◌, Some, is_some, refl, ap, sym, ◌∙◌, arith, subst, rules, false≢true, Updates-with_value, kept_of, call_seen}
use Rattle.tx_engine.proofs.open_calls.more_hops.Goals as goal

pub returns-in_ok-more_room : goal.returns-in_ok-more_room
returns-in_ok-more_room g c = λ old was.
    let both : Some c.in-Some.call.now ≡ Some old = c.in-Some.ensures.value ∙ was in
    let same : c.in-Some.call.now ≡ old = cc in
    let now = c.in-Some.call.now in (
      record now { hops = c.more_room.new.hops },
      Updates-with_value c.args.calls.now c.args.key (record now { hops = c.more_room.new.hops }) (ap is_some was),
      (λ i. record { number = now.number; line = now.line; keyed = now.keyed; keyed_at = now.keyed_at; hops = c.more_room.ensures.items i; phase = now.phase; collided = now.collided })
          ∙ ap call_seen same,
      subst (λ z. (kept_of z).room ≤ (kept_of (record now { hops = c.more_room.new.hops })).room) same (omega (arith, c.more_room.ensures.capacity, c.more_room.ensures.len)),
      omega (arith, c.in_ok-more_room.ensures.ok, c.more_room.ensures.len),
      λ some. (
        refl,
        (let more : 0 < (kept_of now).room = subst (λ z. 0 < (kept_of z).room) (sym same) some in
            let kept = (c.more_room.ensures.unasked (omega (arith, more))).1 in subst (λ z. (kept_of (record now { hops = c.more_room.new.hops })).room ≡ (kept_of z).room) same (omega (arith, kept, c.more_room.ensures.len))),
      ),
    )

pub returns-in_err-more_room : goal.returns-in_err-more_room
returns-in_err-more_room g c = λ old was.
    let both : Some c.in-Some.call.now ≡ Some old = c.in-Some.ensures.value ∙ was in
    let same : c.in-Some.call.now ≡ old = cc in
    let now = c.in-Some.call.now in (
      record now { hops = c.more_room.new.hops },
      Updates-with_value c.args.calls.now c.args.key (record now { hops = c.more_room.new.hops }) (ap is_some was),
      (λ i. record { number = now.number; line = now.line; keyed = now.keyed; keyed_at = now.keyed_at; hops = c.more_room.ensures.items i; phase = now.phase; collided = now.collided })
          ∙ ap call_seen same,
      subst (λ z. (kept_of z).room ≤ (kept_of (record now { hops = c.more_room.new.hops })).room) same (omega (arith, c.more_room.ensures.capacity, c.more_room.ensures.len)),
      search rules,
      λ some. absurd (let more : 0 < (kept_of now).room = subst (λ z. 0 < (kept_of z).room) (sym same) some in false≢true (c.in_err-more_room.ensures.unasked (omega (arith, more))).0),
    )
