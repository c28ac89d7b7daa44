use Rattle.tx_mend.proofs.Common.{◌≡◌, ◌++◌, ◌∙◌, List, sym, ap, subst, append-nil, [], if◌then◌else◌, OnOk, Missing, Unserved, least_rank, unlimited_rank, lacking_at, rank_list}
use Rattle.tx_mend.proofs.Tables.{length_ranks}
use Rattle.tx_mend.proofs.Mendable.{ranked_served}
use Rattle.tx_mend.proofs.causes.add_lacking.Goals as goal

pub all_ranked-requires-clause-long : goal.all_ranked-requires-clause-long
all_ranked-requires-clause-long g c =
    let t = c.args.task.now in
    length_ranks t.plan.now c.args.least.now (least_rank t.plan.now c.args.code t.limits.limit t.limits.spare) c.requires

pub returns-then-all_ranked-clause-unserved : goal.returns-then-all_ranked-clause-unserved
returns-then-all_ranked-clause-unserved g c =
    let t = c.args.task.now in
    let p = t.plan.now in
    let k = sym (c.all_ranked.ensures (least_rank p c.args.code t.limits.limit t.limits.spare) c.requires) ∙ c.if-all_ranked.true in
    let had = c.args.lacking.now.unserved.items in
    sym (ap (λ (l : List Unserved). had ++ l) (ranked_served p c.args.code t.limits.limit t.limits.spare k) ∙ append-nil had)

pub returns-then-all_ranked-clause-missing : goal.returns-then-all_ranked-clause-missing
returns-then-all_ranked-clause-missing g c =
    let t = c.args.task.now in
    let p = t.plan.now in
    let k = sym (c.all_ranked.ensures (least_rank p c.args.code t.limits.limit t.limits.spare) c.requires) ∙ c.if-all_ranked.true in
    let had = c.args.lacking.now.missing.items in
    sym (ap (λ b. had ++ (if b then [] else lacking_at p t.limits.limit t.limits.spare c.args.code)) k ∙ append-nil had)

pub invariant_of-reach : goal.invariant_of-reach
invariant_of-reach g c =
    let t = c.args.task.now in
    let p = t.plan.now in
    let all : c.deref-2.result.now ≡ rank_list p (unlimited_rank p c.args.code t.limits.spare) = c.deref-2.ensures.value ∙ c.in_ok-unlimited.ensures in
    record { groups = t.groups; wide = length_ranks p c.args.least.now (least_rank p c.args.code t.limits.limit t.limits.spare) c.requires; long = length_ranks p c.deref-2.result.now (unlimited_rank p c.args.code t.limits.spare) all; within = c.requires; below = c.deref.ensures.value ∙ c.in_ok-near.ensures; without = all }

pub returns-clause-missing : goal.returns-clause-missing
returns-clause-missing g c =
    let t = c.args.task.now in
    let p = t.plan.now in
    let k = sym (c.all_ranked.ensures (least_rank p c.args.code t.limits.limit t.limits.spare) c.requires) ∙ c.if-all_ranked.false in
    let had = c.args.lacking.now.missing.items in
    subst (λ (l : List Missing). OnOk c.add_missing.result (c.add_missing.new.missing.items ≡ had ++ l)) (sym (ap (λ b. if b then [] else lacking_at p t.limits.limit t.limits.spare c.args.code) k)) c.add_missing.ensures
