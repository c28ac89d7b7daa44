use Rattle.tx_files.proofs.two_plans.joined_of.Goals as goal

pub returns-in-Ok-clause-joined : goal.returns-in-Ok-clause-joined
returns-in-Ok-clause-joined g c =
    let e = c.in-Ok.ensures in
    record { before = e.old; after = e.new; unrefused = e.unrefused; network = e.network; lists = e.lists }

pub returns-in-Err-clause-refused : goal.returns-in-Err-clause-refused
returns-in-Err-clause-refused g c = record { refusal = c.in-Err.refusal; refused = c.in-Err.ensures.refused; told = c.join_fault.ensures }
