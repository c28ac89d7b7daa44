use Rattle.tx_mend.proofs.Common.{◌++◌, ◌∙◌, List, [], sym, ap, append-nil, if◌then◌else◌, option_copied, least_rank, lacking_at, Unserved}
use Rattle.tx_mend.proofs.Mendable.{ranked_served, kept_ranked}
use Rattle.tx_mend.proofs.Tables.{was_kept, was_ranked}
use Rattle.tx_mend.proofs.causes.add_for_code.Goals as goal

pub add_lacking-requires : goal.add_lacking-requires
add_lacking-requires g c =
    let t = c.args.task.now in
    let p = t.plan.now in
    (was_ranked p t.limits.limit t.limits.spare c.args.code (least_rank p c.args.code t.limits.limit t.limits.spare) c.in-Some.least.now (sym (ap option_copied c.in-Some.is) ∙ c.requires.least)).1

pub returns-in-None : goal.returns-in-None
returns-in-None g c =
    let t = c.args.task.now in
    let p = t.plan.now in
    let kept = was_kept p t.limits.limit t.limits.spare c.args.code (least_rank p c.args.code t.limits.limit t.limits.spare) (sym (ap option_copied c.in-None.is) ∙ c.requires.least) in
    let k = kept_ranked p c.rules.ensures c.args.code t.limits.limit t.limits.spare c.requires.code kept in
    record {
      unserved =
          let had = c.args.lacking.now.unserved.items in
          sym (ap (λ (l : List Unserved). had ++ l) (ranked_served p c.args.code t.limits.limit t.limits.spare k) ∙ append-nil had);
      missing =
          let had = c.args.lacking.now.missing.items in
          sym (ap (λ b. had ++ (if b then [] else lacking_at p t.limits.limit t.limits.spare c.args.code)) k ∙ append-nil had);
    }
