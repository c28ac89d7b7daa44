use Rattle.tx_risk.proofs.Common.{◌≡◌, ◌++◌, ◌∙◌, map, length, ap, sym, append_assoc, append-nil, range_with_len, Group, Exchange, Named}
use Rattle.tx_risk.proofs.outages.outages_of.Goals as goal

pub returns-then-named_only : goal.returns-then-named_only
returns-then-named_only g c =
    let named = map Named (range_with_len 0 (length c.args.risks.now)) in
    let first : c.add_named.new.outages.items ≡ named =
    rw c.new-outages.ensures.items at c.in_ok-add_named.ensures in
    rw c.if-named_only.true (first ∙ sym (append-nil named))

pub returns : goal.returns
returns g c =
    let p = c.args.plan.now in
    let named = map Named (range_with_len 0 (length c.args.risks.now)) in
    let groups = map Group (range_with_len 0 (length p.groups)) in
    let exchanges = map Exchange (range_with_len 0 (length p.exchanges)) in
    let first : c.add_named.new.outages.items ≡ named =
    rw c.new-outages.ensures.items at c.in_ok-add_named.ensures in
    rw c.if-named_only.false (c.in_ok-add_exchanges.ensures
    ∙ ap (λ l. l ++ exchanges) (c.in_ok-add_groups.ensures ∙ ap (λ l. l ++ groups) first)
    ∙ append_assoc named groups exchanges)
