use Rattle.std.proofs.Common.{ℕ, rules, tests}
use Rattle.std.proofs.lemmas.Iterator.{YieldsList-from_slice, YieldsList-from_zip}
use Rattle.std.proofs.lemmas.Iterator.Search.{all_from_yields_List}
use Rattle.tx_trace.specs.WayChanges.{is_same_step}
use Rattle.tx_trace.proofs.way_changes.are_same_steps.Goals as goal

pub returns : goal.returns
returns g c =
    all_from_yields_List (λ (e : (ℕ × ℕ) × (ℕ × ℕ)). is_same_step c.args.plan.now c.args.old.now e.0 e.1) c.all.new.self _ _ c.all.ensures.ran
    (YieldsList-from_zip (YieldsList-from_slice c.args.way.now cc) (YieldsList-from_slice c.args.other.now cc))
    (λ x b q k. search (rules, tests))
