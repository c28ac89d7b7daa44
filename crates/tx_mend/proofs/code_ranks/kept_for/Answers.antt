use Rattle.tx_mend.proofs.Common.{ℕ, ◌++◌, ◌∙◌, List, Option, Some, None, length, sym, ap, if◌then◌else◌, fold, option_copied, RanksOfCode, least_rank, put_back, choices, kept_rank, rank_list}
use Rattle.tx_mend.proofs.Tables.{length_ranks, was_kept, was_ranked}
use Rattle.tx_mend.proofs.code_ranks.kept_for.Goals as goal

pub nearest_first-requires : goal.nearest_first-requires
nearest_first-requires g c =
    let t = c.args.task.now in
    let p = t.plan.now in
    let least : RanksOfCode = least_rank p c.args.code t.limits.limit t.limits.spare in
    let w = was_ranked p t.limits.limit t.limits.spare c.args.code least c.in-Some.least.now (sym (ap option_copied c.in-Some.is) ∙ c.requires) in
    length_ranks p c.in-Some.least.now least w.1

pub put_back_all-requires : goal.put_back_all-requires
put_back_all-requires g c =
    let t = c.args.task.now in
    let p = t.plan.now in
    let least : RanksOfCode = least_rank p c.args.code t.limits.limit t.limits.spare in
    let w = was_ranked p t.limits.limit t.limits.spare c.args.code least c.in-Some.least.now (sym (ap option_copied c.in-Some.is) ∙ c.requires) in
    let copied = c.in_ok-extend_from_slice-in-Some.ensures.items ∙ ap (λ (l : List (Option ℕ)). l ++ c.in-Some.least.now) c.new-ranks.ensures.items in
    ap length copied ∙ length_ranks p c.in-Some.least.now least w.1

pub returns-in_ok-put_back_all-in-Some : goal.returns-in_ok-put_back_all-in-Some
returns-in_ok-put_back_all-in-Some g c =
    let t = c.args.task.now in
    let p = t.plan.now in
    let put = put_back p c.args.code t.limits.limit t.limits.spare in
    let least : RanksOfCode = least_rank p c.args.code t.limits.limit t.limits.spare in
    let w = was_ranked p t.limits.limit t.limits.spare c.args.code least c.in-Some.least.now (sym (ap option_copied c.in-Some.is) ∙ c.requires) in
    let copied = c.in_ok-extend_from_slice-in-Some.ensures.items ∙ ap (λ (l : List (Option ℕ)). l ++ c.in-Some.least.now) c.new-ranks.ensures.items in
    let nearest = c.deref.ensures.value ∙ c.in_ok-nearest-in-Some.ensures least w.1 in
    let kept = c.in_ok-put_back_all-in-Some.ensures least (copied ∙ w.1) ∙ ap (λ (xs : List ℕ). rank_list p (fold put least (choices p c.args.code xs))) nearest in
    ap (λ (l : List (Option ℕ)). Some l) kept ∙ sym (ap (λ b. if b then None else Some (rank_list p (kept_rank p c.args.code t.limits.limit t.limits.spare))) w.0)

pub returns-in-None : goal.returns-in-None
returns-in-None g c =
    let t = c.args.task.now in
    let p = t.plan.now in
    let k = was_kept p t.limits.limit t.limits.spare c.args.code (least_rank p c.args.code t.limits.limit t.limits.spare) (sym (ap option_copied c.in-None.is) ∙ c.requires) in
    sym (ap (λ b. if b then None else Some (rank_list p (kept_rank p c.args.code t.limits.limit t.limits.spare))) k)
