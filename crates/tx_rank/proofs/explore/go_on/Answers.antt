use Rattle.tx_rank.proofs.Common.{subst, sym, ap, ◌∙◌, ◌≡◌, List, [], ◌∷◌, ◌++◌, ℕ, Some, length, arith, slice_get, IsLoop, IsStep, IsTrail, rank_in, Tried, Mark, Unseen, Open, set}
use Rattle.tx_rank.proofs.Turns.{closes, went_on}
use Rattle.tx_rank.proofs.Trails.{trail_on}
use Rattle.tx_rank.proofs.explore.go_on.Goals as goal

pub returns-then-is_open-clause-ok : goal.returns-then-is_open-clause-ok
returns-then-is_open-clause-ok g c =
    let n = g.N.CodeNet.net c.args.net.now in
    let marks = c.args.search.now.marks.items in
    let start = c.args.search.now.start in
    let steps = c.args.search.now.steps.items in
    let a = subst (λ (l : List Mark). slice_get l c.args.to ≡ Some Open) c.deref.ensures.value (c.is_open.ensures.open c.if-is_open.true) in
    subst (λ (l : List (ℕ × ℕ)). IsLoop n start l) (sym c.in_ok-push.ensures.items) (closes n marks start steps (c.args.group, c.args.to) c.requires.marked c.requires.hand c.requires.onward a)

pub returns-clause-ok : goal.returns-clause-ok
returns-clause-ok g c =
    let n = g.N.CodeNet.net c.args.net.now in
    let marks = c.args.search.now.marks.items in
    let start = c.args.search.now.start in
    let steps = c.args.search.now.steps.items in
    let fresh = ap (λ (l : List Mark). rank_in l c.args.to) c.deref.ensures.value ∙ c.requires.onward.fresh in
    let was = subst (λ (l : List Mark). slice_get l c.args.to ≡ Some Unseen) c.deref.ensures.value (c.is_open.ensures.unseen c.if-is_open.false fresh) in
    let step = went_on n marks start steps c.args.group c.args.to c.requires.marked c.requires.hand c.requires.onward was in
    subst (λ (k : ℕ). IsStep n start marks (set marks k Open) c.push.new.self.items) (sym c.index.ensures) (subst (λ (l : List (ℕ × ℕ)). IsStep n start marks (set marks c.args.to Open) l) (sym c.in_ok-push.ensures.items) step)

pub returns-clause-tried : goal.returns-clause-tried
returns-clause-tried g c = λ _.
    let n = g.N.CodeNet.net c.args.net.now in
    let search = c.args.search.now in
    let marks = search.marks.items in
    let new = set marks c.args.to Open in
    let last = c.untried-search.result in
    let fresh = ap (λ (l : List Mark). rank_in l c.args.to) c.deref.ensures.value ∙ c.requires.onward.fresh in
    let was = subst (λ (l : List Mark). slice_get l c.args.to ≡ Some Unseen) c.deref.ensures.value (c.is_open.ensures.unseen c.if-is_open.false fresh) in
    let step = went_on n marks search.start search.steps.items c.args.group c.args.to c.requires.marked c.requires.hand c.requires.onward was in
    let trail = trail_on n marks new search.start search.steps.items (c.args.group, c.args.to) search.before.items search.last last step.grew c.requires.tried (c.untried-search.ensures new) in
    subst (λ (k : ℕ). IsTrail n (set marks k Open) search.start c.push.new.self.items c.push-2.new.self.items last) (sym c.index.ensures)
    (subst (λ (l : List Tried). IsTrail n new search.start c.push.new.self.items l last) (sym c.in_ok-push-2.ensures.items)
    (subst (λ (l : List (ℕ × ℕ)). IsTrail n new search.start l (search.before.items ++ search.last ∷ []) last) (sym c.in_ok-push.ensures.items) trail))

pub is_open-requires : goal.is_open-requires
is_open-requires g c = let o = c.requires.onward.within in let l = c.requires.marked.long in let d = ap length c.deref.ensures.value in omega arith

pub index_mut-requires : goal.index_mut-requires
index_mut-requires g c = let e = c.index.ensures in let o = c.requires.onward.within in let l = c.requires.marked.long in let k = c.args.search.now.marks.ok.0 in omega arith

pub returns-then-is_open-clause-tried : goal.returns-then-is_open-clause-tried
returns-then-is_open-clause-tried g c = λ h. let bad : ⊥ = cc in absurd bad
