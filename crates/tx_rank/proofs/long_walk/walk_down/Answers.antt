use Rattle.tx_rank.proofs.Common.{ap, sym, ◌-◌, subst, List, ℕ, arith, length, length-append, ◌++◌, ◌∷◌, [], ◌≡◌, ◌∙◌, rank_in}
use Rattle.tx_rank.proofs.Tracing.{IsDown, down_more, goes_down, down_none}
use Rattle.tx_rank.proofs.long_walk.walk_down.Goals as goal

pub unreachable-requires : goal.unreachable-requires
unreachable-requires g c =
    let n = g.N.CodeNet.net c.args.net.now in
    let i = c.loop-i.invariant.count in
    let h = c.requires.high in
    goes_down n (rank_in c.args.marks.now) c.requires.passed.ranks c.args.origin c.args.rank c.loop-i.at (c.args.rank - c.loop-i.i - 1) c.loop-i.steps.items c.loop-i.invariant.down (omega arith) (let t = c.loop-i-test.true in omega arith) c.in-None.ensures

pub loop-i-preserved : goal.loop-i-preserved
loop-i-preserved g c =
    let n = g.N.CodeNet.net c.args.net.now in
    let i = c.loop-i.invariant.count in
    let h = c.requires.high in
    let t = c.loop-i-test.true in
    let d : IsDown n (rank_in c.args.marks.now) c.args.origin c.args.rank c.in-Some.step.1 (c.loop-i.steps.items ++ (c.in-Some.step.0, c.in-Some.step.1) ∷ []) = down_more n (rank_in c.args.marks.now) c.requires.passed.ranks c.args.origin c.args.rank c.loop-i.at (c.args.rank - c.loop-i.i - 1) c.in-Some.step.0 c.in-Some.step.1 c.loop-i.steps.items c.loop-i.invariant.down (omega arith) (omega arith) c.in-Some.ensures in
    let e = c.in_ok-push-in-Some.ensures.items in
    record {
      down = subst (λ (s : List (ℕ × ℕ)). IsDown n (rank_in c.args.marks.now) c.args.origin c.args.rank c.in-Some.step.1 s) (sym e) d;
      count = let k = c.in_ok-push-in-Some.ensures.len in let z = ap length e in omega (arith, length-append {A = ℕ × ℕ});
    }

pub loop-i-init : goal.loop-i-init
loop-i-init g c =
    let n = g.N.CodeNet.net c.args.net.now in
    let e = c.new-steps.ensures.items in
    record { down = subst (λ (s : List (ℕ × ℕ)). IsDown n (rank_in c.args.marks.now) c.args.origin c.args.rank c.args.origin s) (sym e) (down_none n (rank_in c.args.marks.now) c.args.origin c.args.rank c.requires.ranked); count = ap length e }

pub lower-requires : goal.lower-requires
lower-requires g c = c.requires.passed.long

pub returns-clause-walk : goal.returns-clause-walk
returns-clause-walk g c = record { origin = c.requires.origin; goes = c.loop-i.invariant.down.goes }

pub returns-clause-count : goal.returns-clause-count
returns-clause-count g c = let k = c.loop-i.invariant.count in let t = c.loop-i-test.false in let a = c.loop-i.auto.i-end in omega arith

pub returns-clause-end : goal.returns-clause-end
returns-clause-end g c = λ h.
    let d = c.loop-i.invariant.down in
    let home = ap (rank_in c.args.marks.now) (sym d.ends ∙ h) in
    let none : d.high ≡ 0 = let z = sym d.ranked ∙ home ∙ c.requires.passed.ranks.home in cc in
    let s = d.sum in let k = c.loop-i.invariant.count in let a = c.loop-i.auto.i-end in let l = c.requires.high in omega arith
