use Rattle.std.proofs.Common.{rules, tests}
use Rattle.std.specs.Str.{bytes_eq}
use Rattle.std.proofs.lemmas.Iterator.{YieldsList-from_slice}
use Rattle.std.proofs.lemmas.Iterator.Search.{any_from_yields_List}
use Rattle.tx_plan.specs.Plan.{group_name}
use Rattle.tx_down.proofs.network.is_one_of.Goals as goal

pub returns : goal.returns
returns g c =
    any_from_yields_List (λ h. bytes_eq (group_name c.args.plan.now h) c.args.name.now) _ _ _ c.any.ensures.ran
    (YieldsList-from_slice c.args.down.now cc) (λ x b q k. search (rules, tests))
