use Rattle.std.proofs.Common.{◌≡◌, ◌∙◌, Bool, ◌||◌, codes, is_some, rules, refl, sym, ap, inl, inr}
use Rattle.clap.specs.Words.{found_of, rows_of}
use Rattle.tx_commands.specs.Commands.{GivesNow, AsksForStage, AreOfStage, AreOfWholePlan}
use Rattle.tx_commands.proofs.order.order_of.Goals as goal
use Rattle.tx_commands.proofs.order.order_of.Goals.{then-is_some, else-is_some, then-is_given-2+in_ok-spare, else-is_given-2, in-Some, in-Some-2, in-None+in_ok-number_of-in-None, in-None-3}

pub returns-in_err-number_of-in-None-clause-refused : goal.returns-in_err-number_of-in-None-clause-refused
returns-in_err-number_of-in-None-clause-refused c =
    let refused = c.in_err-number_of-in-None.ensures.refused (codes "order") in search rules

pub returns-in_err-limit-clause-refused : goal.returns-in_err-limit-clause-refused
returns-in_err-limit-clause-refused c =
    let refused = c.in_err-limit.ensures.refused (codes "order") in search rules

pub returns-in_err-spare-clause-refused : goal.returns-in_err-spare-clause-refused
returns-in_err-spare-clause-refused c =
    let refused = c.in_err-spare.ensures.refused (codes "order") in search rules

pub returns-in_err-down-clause-refused : goal.returns-in_err-down-clause-refused
returns-in_err-down-clause-refused c =
    let refused = c.in_err-down.ensures.refused (codes "order") in search rules

pub returns-in-Some-Some-clause-asked : goal.returns-in-Some-Some-clause-asked
returns-in-Some-Some-clause-asked c =
    let found = rows_of (found_of c.args.matches.now) in
    let some = is_some c.in_ok-plan.plan || is_some c.in_ok-cert.cert in
    let made : c.if-is_some.made ≡ some = elim c.if-is_some.branch [
      | then-is_some w ↦ w.made-is ∙ w.if-is_some.true
          ∙ sym (ap (λ (b : Bool). b || is_some c.in_ok-cert.cert) (sym c.is_some.ensures ∙ w.if-is_some.true))
      | else-is_some w ↦ w.made-is ∙ w.is_some-made.ensures
          ∙ sym (ap (λ (b : Bool). b || is_some c.in_ok-cert.cert) (sym c.is_some.ensures ∙ w.if-is_some.false))
    ] in
    let now : GivesNow found c.if-is_given-2.spare = elim c.if-is_given-2.branch [
      | then-is_given-2+in_ok-spare w ↦ rw w.spare-is (inl w.in_ok-spare.ensures.given)
      | else-is_given-2 w ↦ rw w.spare-is
          (inr (sym c.is_given-2.ensures ∙ w.if-is_given-2.false, c.in_ok-limit.ensures.given.1))
    ] in
    let stage : AsksForStage found c.in_ok-stopped.stopped some c.match-stopped.stage = elim c.match-stopped.branch [
      | in-Some w ↦ rw (w.in-Some.is, w.stage-is, sym made ∙ w.if-made.true) refl
      | in-Some-2 w ↦ rw (w.in-Some.is, w.stage-is, sym made ∙ w.if-made.false) refl
      | in-None+in_ok-number_of-in-None w ↦ rw (w.in-None.is, w.stage-is) w.in_ok-number_of-in-None.ensures.given
      | in-None-3 w ↦ rw (w.in-None.is, w.stage-is) (search rules)
    ] in
    let of_stage : AreOfStage c.match-stopped.stage c.in_ok-plan.plan c.in_ok-cert.cert = elim c.match-stopped.branch [
      | in-Some w ↦ rw w.stage-is tt
      | in-Some-2 w ↦ rw w.stage-is (sym made ∙ w.if-made.false)
      | in-None+in_ok-number_of-in-None w ↦ rw w.stage-is tt
      | in-None-3 w ↦ rw w.stage-is (sym made ∙ w.if-made-2.false)
    ] in
    let whole : AreOfWholePlan c.in_ok-down.down some = rw made at c.in_ok-down.ensures.whole in
    search rules
