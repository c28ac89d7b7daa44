use Rattle.tx_mend.proofs.Common.{◌∙◌, ◌||◌, ◌&&◌, ◌==◌, sym, ap, list_all, route_list, can_follow, leads_on, stays_by, list_with, ranked}
use Rattle.std.proofs.Math.Bool.{and-true}
use Rattle.std.proofs.lemmas.Bool.{and_right}
use Rattle.tx_mend.proofs.Dropping.{all_kept}
use Rattle.tx_mend.proofs.trial.TrialRule.follows.Goals as goal

pub returns-then-all_on : goal.returns-then-all_on
returns-then-all_on g c = λ of e.
    let s = c.args.self.now in
    let p = s.plan.now in
    let x = c.args.exchange in
    let stay = all_kept (λ h. stays_by p (ranked s.ranks.now) x h || ((x == s.exchange) && (h == s.group))) (λ h. leads_on p of x h) (route_list p x s.code) in
    let all = sym stay ∙ sym (c.all_on.ensures of e) ∙ c.if-all_on.true in
    c.can_follow.ensures of e ∙ sym (ap (λ b. can_follow p s.spare of x && b) all ∙ and-true (can_follow p s.spare of x))

pub returns-else-all_on : goal.returns-else-all_on
returns-else-all_on g c = λ of e.
    let s = c.args.self.now in
    let p = s.plan.now in
    let x = c.args.exchange in
    let stay = all_kept (λ h. stays_by p (ranked s.ranks.now) x h || ((x == s.exchange) && (h == s.group))) (λ h. leads_on p of x h) (route_list p x s.code) in
    let all = sym stay ∙ sym (c.all_on.ensures of e) ∙ c.if-all_on.false in
    c.if-all_on.false ∙ sym (and_right (can_follow p s.spare of x) (list_all (λ h. leads_on p of x h) (list_with p s.code (ranked s.ranks.now) s.exchange s.group x)) all)
