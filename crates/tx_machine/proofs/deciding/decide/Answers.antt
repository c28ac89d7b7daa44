use Rattle.tx_machine.proofs.Common.{◌≡◌, ◌==◌, inl, inr, false, true, Some, sym, ap, ◌∙◌, code_of, Plan, home_of, is_barred, is_first, exchange_of, choice, line_answer, routed_for, at_line, at_trunk, line_of, call_seen}
use Rattle.tx_machine.proofs.Routed.{IsLet, first_is_empty, routed_barred, routed_home, routed_trunk}
use Rattle.tx_machine.proofs.deciding.decide.Goals as goal
use Rattle.tx_machine.proofs.deciding.decide.Goals.{else-is_empty-via-then-is_empty+else-is_barred, else-is_empty-via-else-is_empty}

pub returns-in_default : goal.returns-in_default
returns-in_default g c =
    let p = g.N.Facts.plan c.args.network.now in
    let s = g.N.Facts.state c.args.network.now in
    let d = call_seen c.args.call.now in
    ap (routed_for p s d) (ap (code_of p) (sym c.bytes-keyed.ensures.value) ∙ sym c.code_of.ensures ∙ c.in_default.is)

pub returns-then-is_barred : goal.returns-then-is_barred
returns-then-is_barred g c =
    let p = g.N.Facts.plan c.args.network.now in
    let s = g.N.Facts.state c.args.network.now in
    let d = call_seen c.args.call.now in
    let code = c.in-Some.code in
    let hops = c.args.call.now.hops in
    let begins : code_of p d.keyed ≡ Some code = ap (code_of p) (sym c.bytes-keyed.ensures.value) ∙ sym c.in-Some.ensures in
    let exchange : c.exchange_of-here.result ≡ exchange_of p d = c.exchange_of-here.ensures ∙ ap (λ p. exchange_of p d) c.plan-plan.ensures in
    let first : is_first d.hops ≡ true = first_is_empty hops.items hops.len hops.ok.0 ∙ sym c.is_empty.ensures ∙ c.if-is_empty.true in
    let barred : is_barred p (exchange_of p d) code ≡ true = (λ i. is_barred (sym c.plan-plan.ensures i) (sym exchange i) code) ∙ sym c.is_barred.ensures ∙ c.if-is_barred.true in
    routed_barred p s d code begins first barred

pub returns-then-eq : goal.returns-then-eq
returns-then-eq g c =
    let p = g.N.Facts.plan c.args.network.now in
    let s = g.N.Facts.state c.args.network.now in
    let d = call_seen c.args.call.now in
    let code = c.in-Some.code in
    let hops = c.args.call.now.hops in
    let begins : code_of p d.keyed ≡ Some code = ap (code_of p) (sym c.bytes-keyed.ensures.value) ∙ sym c.in-Some.ensures in
    let exchange : c.exchange_of-here.result ≡ exchange_of p d = c.exchange_of-here.ensures ∙ ap (λ p. exchange_of p d) c.plan-plan.ensures in
    let past : IsLet p s d code begins = elim c.else-is_empty.branch [
      | else-is_empty-via-then-is_empty+else-is_barred w ↦ inr ((λ i. is_barred (sym c.plan-plan.ensures i) (sym exchange i) code) ∙ sym w.is_barred.ensures ∙ w.if-is_barred.false)
      | else-is_empty-via-else-is_empty w ↦ inl (first_is_empty hops.items hops.len hops.ok.0 ∙ sym c.is_empty.ensures ∙ w.if-is_empty.false)
    ] in
    let home : (home_of p code == exchange_of p d) ≡ true = (λ i. home_of (sym c.plan-plan.ensures i) code == sym exchange i) ∙ ap (λ h. h == c.exchange_of-here.result) (sym c.home.ensures) ∙ sym c.eq.ensures ∙ c.if-eq.true in
    routed_home p s d code begins past home
    ∙ ap (λ k. at_line p s d (line_of p code k) (line_answer p s (line_of p code k))) (sym c.bytes-keyed.ensures.value) ∙ c.at_home.ensures d

pub returns-in-Some-choice : goal.returns-in-Some-choice
returns-in-Some-choice g c =
    let p = g.N.Facts.plan c.args.network.now in
    let s = g.N.Facts.state c.args.network.now in
    let d = call_seen c.args.call.now in
    let code = c.in-Some.code in
    let hops = c.args.call.now.hops in
    let begins : code_of p d.keyed ≡ Some code = ap (code_of p) (sym c.bytes-keyed.ensures.value) ∙ sym c.in-Some.ensures in
    let exchange : c.exchange_of-here.result ≡ exchange_of p d = c.exchange_of-here.ensures ∙ ap (λ p. exchange_of p d) c.plan-plan.ensures in
    let past : IsLet p s d code begins = elim c.else-is_empty.branch [
      | else-is_empty-via-then-is_empty+else-is_barred w ↦ inr ((λ i. is_barred (sym c.plan-plan.ensures i) (sym exchange i) code) ∙ sym w.is_barred.ensures ∙ w.if-is_barred.false)
      | else-is_empty-via-else-is_empty w ↦ inl (first_is_empty hops.items hops.len hops.ok.0 ∙ sym c.is_empty.ensures ∙ w.if-is_empty.false)
    ] in
    let home : (home_of p code == exchange_of p d) ≡ false = (λ i. home_of (sym c.plan-plan.ensures i) code == sym exchange i) ∙ ap (λ h. h == c.exchange_of-here.result) (sym c.home.ensures) ∙ sym c.eq.ensures ∙ c.if-eq.false in
    routed_trunk p s d code begins past home ∙ ap (at_trunk p s d) (ap (λ x. choice p s x code) (sym exchange) ∙ sym c.choice.ensures ∙ c.in-Some-choice.is)

pub returns-in-None : goal.returns-in-None
returns-in-None g c =
    let p = g.N.Facts.plan c.args.network.now in
    let s = g.N.Facts.state c.args.network.now in
    let d = call_seen c.args.call.now in
    let code = c.in-Some.code in
    let hops = c.args.call.now.hops in
    let begins : code_of p d.keyed ≡ Some code = ap (code_of p) (sym c.bytes-keyed.ensures.value) ∙ sym c.in-Some.ensures in
    let exchange : c.exchange_of-here.result ≡ exchange_of p d = c.exchange_of-here.ensures ∙ ap (λ p. exchange_of p d) c.plan-plan.ensures in
    let past : IsLet p s d code begins = elim c.else-is_empty.branch [
      | else-is_empty-via-then-is_empty+else-is_barred w ↦ inr ((λ i. is_barred (sym c.plan-plan.ensures i) (sym exchange i) code) ∙ sym w.is_barred.ensures ∙ w.if-is_barred.false)
      | else-is_empty-via-else-is_empty w ↦ inl (first_is_empty hops.items hops.len hops.ok.0 ∙ sym c.is_empty.ensures ∙ w.if-is_empty.false)
    ] in
    let home : (home_of p code == exchange_of p d) ≡ false = (λ i. home_of (sym c.plan-plan.ensures i) code == sym exchange i) ∙ ap (λ h. h == c.exchange_of-here.result) (sym c.home.ensures) ∙ sym c.eq.ensures ∙ c.if-eq.false in
    routed_trunk p s d code begins past home ∙ ap (at_trunk p s d) (ap (λ x. choice p s x code) (sym exchange) ∙ sym c.choice.ensures ∙ c.in-None.is)
