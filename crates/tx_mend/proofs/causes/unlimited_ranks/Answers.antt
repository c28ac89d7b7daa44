use Rattle.tx_mend.proofs.Common.{◌≡◌, ℕ, suc, refl, subst, home_of, ranked_in, can_follow, rank_list}
use Rattle.std.specs.Prelude.{IfOk}
use Rattle.tx_mend.specs.Unserved.{no_limit}
use Rattle.tx_mend.proofs.causes.unlimited_ranks.Goals as goal

rounds : 255 ≡ suc no_limit
unfolding no_limit
rounds = refl

pub returns : goal.returns
returns g c =
    let t = c.args.task.now in
    let p = t.plan.now in
    subst (λ (n : ℕ). IfOk c.least_ranks.result (λ ranks. ranks.items ≡ rank_list p (ranked_in (home_of p c.args.code) (can_follow p t.limits.spare) n))) rounds c.least_ranks.ensures
