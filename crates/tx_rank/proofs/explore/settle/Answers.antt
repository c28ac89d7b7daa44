use Rattle.tx_rank.proofs.Common.{subst, sym, ◌≡◌, ◌+◌, refl, List, ℕ, suc, length, [], ◌∷◌, arith, IsStep, IsEnd, IsTrail, Grew, Ranked, set}
use Rattle.tx_rank.proofs.Turns.{end_within, settled_back, settled_done}
use Rattle.tx_rank.proofs.Trails.{trail_back}
use Rattle.tx_rank.proofs.explore.settle.Goals as goal

pub index_mut-requires : goal.index_mut-requires
index_mut-requires g c =
    let w = end_within (g.N.CodeNet.net c.args.net.now) c.args.search.now.marks.items c.args.search.now.start c.args.search.now.steps.items c.requires.marked c.requires.hand in
    let e = c.index.ensures in
    let f = c.requires.end in
    let l = c.requires.marked.long in
    omega arith

pub returns-in-Some-clause-ok : goal.returns-in-Some-clause-ok
returns-in-Some-clause-ok g c =
    let n = g.N.CodeNet.net c.args.net.now in
    let marks = c.args.search.now.marks.items in
    let start = c.args.search.now.start in
    let steps = c.args.search.now.steps.items in
    let back = settled_back n marks start steps c.args.exchange c.args.top c.requires.marked c.requires.hand c.requires.end c.requires.top c.pop.new.self.items c.in-Some.field-0 c.in-Some.ensures.items in
    let e : suc c.args.top ≡ c.args.top + 1 = omega arith in
    subst (λ (k : ℕ). IsStep n start marks (set marks k (Ranked (c.args.top + 1))) c.pop.new.self.items) (sym c.index.ensures) (subst (λ (r : ℕ). IsStep n start marks (set marks c.args.exchange (Ranked r)) c.pop.new.self.items) e back)

nothing : (steps : List (ℕ × ℕ)) → length steps ≡ 0 → steps ≡ []
nothing [] h = refl
nothing (s ∷ steps) h = absurd (omega arith)

pub returns-in-None-clause-ok : goal.returns-in-None-clause-ok
returns-in-None-clause-ok g c =
    let n = g.N.CodeNet.net c.args.net.now in
    let marks = c.args.search.now.marks.items in
    let start = c.args.search.now.start in
    let steps = c.args.search.now.steps.items in
    let back = settled_done n marks start steps c.args.exchange c.args.top c.requires.marked c.requires.hand c.requires.end c.requires.top (nothing steps (let z = c.in-None.ensures.cases.0 in omega arith)) in
    let e : suc c.args.top ≡ c.args.top + 1 = omega arith in
    subst (λ (k : ℕ). IsEnd n start marks (set marks k (Ranked (c.args.top + 1)))) (sym c.index.ensures) (subst (λ (r : ℕ). IsEnd n start marks (set marks c.args.exchange (Ranked r))) e back)

pub returns-in-Some-clause-tried : goal.returns-in-Some-clause-tried
returns-in-Some-clause-tried g c = λ _.
    let n = g.N.CodeNet.net c.args.net.now in
    let search = c.args.search.now in
    let e : suc c.args.top ≡ c.args.top + 1 = omega arith in
    let new = set search.marks.items c.args.exchange (Ranked (c.args.top + 1)) in
    let back = settled_back n search.marks.items search.start search.steps.items c.args.exchange c.args.top c.requires.marked c.requires.hand c.requires.end c.requires.top c.pop.new.self.items c.in-Some.field-0 c.in-Some.ensures.items in
    let grew = subst (λ (r : ℕ). Grew search.marks.items (set search.marks.items c.args.exchange (Ranked r))) e back.grew in
    let t = c.take_last-search in
    let trail = trail_back n search.marks.items new search.start search.steps.items c.pop.new.self.items c.in-Some.field-0 search.before.items t.new.before.items search.last t.result c.in-Some.ensures.items grew c.requires.tried t.ensures.others t.ensures.last in
    subst (λ (k : ℕ). IsTrail n (set search.marks.items k (Ranked (c.args.top + 1))) search.start c.pop.new.self.items t.new.before.items t.result) (sym c.index.ensures) trail
