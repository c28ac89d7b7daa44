use Rattle.tx_plan.proofs.Common.{◌∙◌, ap, list_any, is_some-lookup}
use Rattle.tx_plan.proofs.PairRows.{same_pair, is_route, any_route}
use Rattle.tx_plan.proofs.routes.Routes.has.Goals as goal

pub returns : goal.returns
returns g c =
    let p = c.args.pair.now in
    let entries = c.self.inside.rows.entries in
    c.contains_key.ensures ∙ is_some-lookup (same_pair p) entries ∙ any_route p entries ∙ ap (list_any (is_route p)) c.self.view_is
