use Rattle.tx_trace.proofs.Common.{ℕ, List, subst, Among}
use Rattle.tx_trace.proofs.Ends.{leads_to}
use Rattle.tx_trace.proofs.Rounds.{all_reached, reached_on}
use Rattle.tx_trace.proofs.Ranking.{start_reached}
use Rattle.tx_trace.proofs.tracing.trace_calls.Goals as goal

pub returns-clause-trace : goal.returns-clause-trace
returns-clause-trace g c =
    let p = c.args.plan.now in
    let code = c.args.code in
    let x = c.args.exchange in
    record {
      code = c.requires.code;
      exchange = c.requires.exchange;
      first = c.in_ok-first.ensures;
      met = c.in_ok-met.ensures;
      ranks = λ y z m n.
          let here = all_reached p code x (start_reached p code x) y (subst (λ (l : List ℕ). Among y l) c.in_ok-met.ensures m) in
          c.in_ok-ranks.ensures z (reached_on p code x y z here (leads_to p code y z n));
    }
