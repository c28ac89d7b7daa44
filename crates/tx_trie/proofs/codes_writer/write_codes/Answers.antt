use Rattle.tx_trie.proofs.Common.{◌<◌, ◌≤◌, length, arith, code_line}
use Rattle.tx_text.proofs.Putting.{puts_none, puts_then, puts_all, puts_wrote}
use Rattle.tx_trie.proofs.CodesWritten.{code_more, codes_some}
use Rattle.tx_trie.proofs.codes_writer.write_codes.Goals as goal

pub loop-index-init : goal.loop-index-init
loop-index-init g c = puts_none

pub loop-index-preserved : goal.loop-index-preserved
loop-index-preserved g c =
    let p = c.args.plan.now in
    let low : c.loop-index.index < length p.codes = (let e = c.codes-index-end.ensures.count in omega arith) in
    code_more p c.loop-index.index low c.loop-index.invariant (rw c.of.ensures at c.write_code.ensures)

pub returns : goal.returns
returns g c =
    let p = c.args.plan.now in
    let end : length p.codes ≤ c.loop-index.index = (let e = c.codes-index-end.ensures.count in omega arith) in
    puts_wrote _ (codes_some p) (puts_then (puts_all (code_line p) p.codes end c.loop-index.invariant) (rw (c.ambiguous.ensures, c.requires) at c.write_pair.ensures)) c.finish.ensures
