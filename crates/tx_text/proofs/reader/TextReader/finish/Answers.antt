use Rattle.tx_text.proofs.ReaderFields.{after_end}
use Rattle.tx_text.proofs.reader.TextReader.finish.Goals as goal

pub invariant_of-self : goal.invariant_of-self
invariant_of-self g c = after_end c.self.inside c.finish.new.self c.self.invariant c.finish.ensures.leaves

pub invariant_of-self-2 : goal.invariant_of-self-2
invariant_of-self-2 g c = after_end c.self.inside c.finish.new.self c.self.invariant c.finish.ensures.leaves
