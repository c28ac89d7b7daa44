use Rattle.tx_mend.proofs.Common.{◌≡◌, ℕ, ◌∷◌, [], ◌∙◌, List, Option, sym, ap, subst, OnOk, fold, option_map_or, route_list, among_at, RanksOfCode, put_back, rank_list, listed_within}
use Rattle.tx_mend.proofs.put_back.put_back_at.Goals as goal

pub put_back-requires-clause-exchange : goal.put_back-requires-clause-exchange
put_back-requires-clause-exchange g c =
    let p = c.args.task.now.plan.now in
    let x = c.args.exchange in
    listed_within p c.rules.ensures x c.args.code c.in-Some.group (among_at (route_list p x c.args.code) c.args.choice c.in-Some.group (sym c.choice_of.ensures ∙ c.in-Some.is))

pub returns-in-Some : goal.returns-in-Some
returns-in-Some g c =
    let t = c.args.task.now in
    let p = t.plan.now in
    let x = c.args.exchange in
    let put = put_back p c.args.code t.limits.limit t.limits.spare in
    let at = sym c.choice_of.ensures ∙ c.in-Some.is in
    subst (λ (l : List (ℕ × ℕ)). OnOk c.put_back.result ((of : RanksOfCode) → c.args.ranks.now.items ≡ rank_list p of → c.put_back.new.ranks.items ≡ rank_list p (fold put of l)))
    (sym (ap (λ (o : Option ℕ). option_map_or (λ (g : ℕ). (x, g) ∷ []) o []) at)) c.put_back.ensures

pub returns-in-None : goal.returns-in-None
returns-in-None g c = λ of e.
    let t = c.args.task.now in
    let p = t.plan.now in
    let x = c.args.exchange in
    let put = put_back p c.args.code t.limits.limit t.limits.spare in
    let at = sym c.choice_of.ensures ∙ c.in-None.is in
    e ∙ sym (ap (λ (o : Option ℕ). rank_list p (fold put of (option_map_or (λ (g : ℕ). (x, g) ∷ []) o []))) at)
