use Rattle.tx_files.proofs.Common.{rules, tests, arith, ◌≡◌, ◌+◌, ◌<◌, ℕ, Bool, true, cond, List, [], Some, length, get_or, drop, sym, ◌∙◌, at_drop_more, find, names_of, is_within}
use Rattle.tx_files.proofs.missing.first_within.Goals as goal

-- the first element from a place on is there
found_here : {X : Type 0} (t : X → Bool) (xs : List X) (i : ℕ) (d : X) → i < length xs
    → t (get_or xs i d) ≡ true → find t (drop i xs) ≡ Some (get_or xs i d)
found_here t xs i d here passes = at_drop_more (find t) xs i d here
    ∙ (λ j. cond (passes j) (Some (get_or xs i d)) (find t (drop (i + 1) xs)))

pub returns-then-branch-most : goal.returns-then-branch-most
returns-then-branch-most g c =
    let t = is_within c.args.most c.args.word.now in
    let names = names_of c.args.plan.now c.args.named in
    let passes : t c.name_at-name.result.now ≡ true =
    search (rules, tests, c.in_ok-generic_levenshtein.ensures, c.if-branch-most.true) in
    rw (c.new.ensures, c.name_at-name.ensures.value)
    (sym (c.loop-index.invariant ∙ found_here t names c.loop-index.index []
    (rw c.count-index-end.ensures at c.loop-index-test.true)
    (rw c.name_at-name.ensures.value at passes)))
