use Rattle.tx_files.proofs.fault_line.put_hint.Goals as goal

pub returns-in-Some : goal.returns-in-Some
returns-in-Some g c = rw c.in-Some.is (rw c.bytes.ensures.value at c.put_parts.ensures)
