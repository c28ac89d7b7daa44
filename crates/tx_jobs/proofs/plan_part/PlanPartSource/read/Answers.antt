use Rattle.tx_jobs.proofs.Common.{◌≡◌, ◌+◌, ◌≤◌, ℕ, ◌++◌, false, List, length, take, drop, min, refl, sym, ap, subst, ◌∙◌, arith, prepend_known, false≢true, length-take-le, plan_of, script_of}
use Rattle.tx_jobs.specs.inner.Seen.{is_over, end_from}
use Rattle.tx_jobs.proofs.Taking.{split_known, plan_given, script_kept, plan_ended, none_left, input_called}
use Rattle.tx_jobs.proofs.PlanCalls.{over_ended}
use Rattle.tx_jobs.proofs.plan_part.PlanPartSource.read.Goals as goal

pub returns-then-is_over-clause-end : goal.returns-then-is_over-clause-end
returns-then-is_over-clause-end g c none = over_ended c.args.self.now.seen _ (sym c.is_over.ensures ∙ c.if-is_over.true)

pub returns-clause-bytes : goal.returns-clause-bytes
returns-clause-bytes g c =
    let old = c.args.self.now.seen in
    let s = c.refill.new.self in
    let new = c.take-n.new.self in
    let m = c.min.result in
    let n = c.take-n.result in
    let held = c.bytes-bytes.ensures.bytes in
    let input = g.R.Source.rest c.refill.new.input in
    let within : n ≤ length (take m s.held) = subst (λ h. n ≤ length (take m h)) held c.take-n.ensures.within in
    let end = subst (λ h. (more : List ℕ) → end_from old (take m h ++ more) ≡ n + end_from new (drop n (take m h) ++ more)) held c.take-n.ensures.end in
    let m_within : m ≤ length s.held = omega (arith, c.min.ensures, ap length held) in
    ap (plan_of old) (sym c.in_ok-refill.ensures.bytes) ∙ plan_given old new s.held m n within m_within end input
    ∙ (λ i. prepend_known (sym c.give.ensures.given i) (plan_of new (prepend_known (sym c.give.ensures.left i) input)))

pub returns-clause-end : goal.returns-clause-end
returns-clause-end g c none =
    let s = c.refill.new.self in
    let m = c.min.result in
    let held = c.bytes-bytes.ensures.bytes in
    let going : is_over c.args.self.now.seen ≡ false = sym c.is_over.ensures ∙ c.if-is_over.false in
    let least : m ≡ min (length s.held) (length c.args.buf.now) = omega (arith, c.min.ensures, ap length held) in
    rw c.give.ensures.left
    (plan_ended s.held m c.take-n.result (length c.args.buf.now) c.take-n.new.self (g.R.Source.rest c.refill.new.input) least c.requires
    (λ full. c.take-n.ensures.some going (λ e. full (ap (take m) (sym held) ∙ e))) none c.in_ok-refill.ensures.end)

pub returns-clause-call : goal.returns-clause-call
returns-clause-call g c =
    let old = c.args.self.now.seen in
    let s = c.refill.new.self in
    let new = c.take-n.new.self in
    let m = c.min.result in
    let n = c.take-n.result in
    let held = c.bytes-bytes.ensures.bytes in
    let input = g.R.Source.rest c.refill.new.input in
    let going : is_over old ≡ false = sym c.is_over.ensures ∙ c.if-is_over.false in
    let within : n ≤ length (take m s.held) = subst (λ h. n ≤ length (take m h)) held c.take-n.ensures.within in
    let end = subst (λ h. (more : List ℕ) → end_from old (take m h ++ more) ≡ n + end_from new (drop n (take m h) ++ more)) held c.take-n.ensures.end in
    let least : m ≡ min (length s.held) (length c.args.buf.now) = omega (arith, c.min.ensures, ap length held) in
    let m_within : m ≤ length s.held = omega (arith, least) in
    let some : n ≤ length s.held = omega (arith, length-take-le m s.held m_within, within, m_within) in
    let short : length s.held ≤ 4096 = omega (arith, c.bytes-bytes.ensures.short, ap length held) in
    record {
      part =
          record {
            same_input = refl;
            same_ahead = refl;
            input = input_called g.R.Source.called _ _ s n some c.in_ok-refill.ensures.call;
            stays = λ over. absurd (false≢true (sym going ∙ over));
            going = λ _. going;
            emptied = λ much on. none_left n m (length c.args.buf.now) s.held c.give.new.self (c.take-n.ensures.all on ∙ ap (λ h. length (take m h)) held) least much short c.give.ensures.left;
            kept = tt;
            mark = c.in_ok-refill.ensures.mark;
            fails = tt;
          };
      script = (λ i. script_of new (prepend_known (c.give.ensures.left i) input)) ∙ script_kept old new s.held m n within m_within end input ∙ ap (script_of old) c.in_ok-refill.ensures.bytes;
      given = take n s.held;
      plan =
          ap (plan_of old) (sym c.in_ok-refill.ensures.bytes) ∙ plan_given old new s.held m n within m_within end input
          ∙ (λ i. prepend_known (take n s.held) (plan_of new (prepend_known (sym c.give.ensures.left i) input)));
      gone = sym c.in_ok-refill.ensures.bytes ∙ split_known n s.held input ∙ (λ i. prepend_known (take n s.held) (prepend_known (sym c.give.ensures.left i) input));
    }
