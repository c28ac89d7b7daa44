use Rattle.tx_mend.proofs.Common.{◌∙◌, ◌||◌, ◌&&◌, ◌==◌, sym, ap, ranked}
use Rattle.tx_mend.proofs.Trying.{ranked_list}
use Rattle.tx_mend.proofs.trial.Trial.keeps.Goals as goal

pub returns-then-stays : goal.returns-then-stays
returns-then-stays g c =
    let s = c.args.self.now in
    let k = sym (c.stays.ensures (ranked s.ranks.now) (ranked_list s.plan.now s.ranks.now s.long)) ∙ c.if-stays.true in
    c.if-stays.true ∙ sym (ap (λ b. b || ((c.args.exchange == s.exchange) && (c.args.group == s.group))) k)

pub returns-else-stays : goal.returns-else-stays
returns-else-stays g c =
    let s = c.args.self.now in
    let k = sym (c.stays.ensures (ranked s.ranks.now) (ranked_list s.plan.now s.ranks.now s.long)) ∙ c.if-stays.false in
    c.is_tried.ensures ∙ sym (ap (λ b. b || ((c.args.exchange == s.exchange) && (c.args.group == s.group))) k)
