use Rattle.tx_cert.proofs.Common.{length, range_with_len, code_lines, lines_more}
use Rattle.tx_cert.proofs.cert_writer.write_ranks.Goals as goal

pub loop-index-preserved : goal.loop-index-preserved
loop-index-preserved g c =
    lines_more (λ i. code_lines c.args.plan.now c.args.cert.now i (range_with_len 0 (length c.args.plan.now.exchanges))) c.of.ensures c.loop-index.invariant c.write_code.ensures
