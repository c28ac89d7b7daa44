use Rattle.std.proofs.Common.{arith, rules}
use Rattle.tx_text.proofs.ReaderFields.{start_feed}
use Rattle.tx_text.proofs.reader.TextReader.new.Goals as goal

pub invariant_of-result : goal.invariant_of-result
invariant_of-result g c = rw c.in_ok-feeder.ensures.ok (record { order = omega arith; within = omega arith; room = search rules; feed = start_feed c.args.left; bound = omega arith; lent = λ e. cc })
