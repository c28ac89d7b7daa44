use Rattle.tx_text.proofs.Writing.{some, some_first, some_last}
use Rattle.tx_text.proofs.Putting.{puts_wrote, puts_then}
use Rattle.tx_rank.proofs.report.write_report.Goals as goal
use Rattle.tx_rank.proofs.report.write_report.Goals.{in-Found, in-Fails}

pub returns : goal.returns
returns g c =
    puts_wrote _ (some_first _ _ (some_last c.args.word.now _ some))
    (puts_then c.write_asked.ensures (elim c.match-ranking.branch [
      | in-Found w ↦ rw (w.in-Found.is, w.sink-is) w.write_verdict.ensures
      | in-Fails w ↦ rw (w.in-Fails.is, ← w.deref.ensures.value, w.sink-is) w.write_findings.ensures
    ])) c.finish.ensures
