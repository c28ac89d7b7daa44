use Rattle.tx_rank.proofs.Common.{◌≡◌, ◌≢◌, ◌∙◌, ◌+◌, ◌++◌, ◌∷◌, ℕ, List, Option, None, length, vec_len, [], sym, ap, subst, arith, eqb-true, eqb-false, ambiguous_of, rank_at, ranks_of, Some, RanksByHeight, Bounds, net_of, pair_findings, IsJudged, IsGrade, CanBeCertifiedFor}
use Rattle.std.specs.Prelude.{IfSome}
use Rattle.tx_rank.specs.Grades.{AreRanksOfGrades}
use Rattle.tx_rank.proofs.Listing.{none_of, no_pair, ranked_first, ranked_next}
use Rattle.tx_rank.proofs.Graded.{IsGradedBelow, none_at, graded_first, graded_none, graded_next, heights_next, graded_plan, graded_codes, graded_listed, graded_true, graded_clean, graded_fails, graded_clear, graded_ranks}
use Rattle.tx_rank.proofs.grading.grade.Goals as goal
use Rattle.tx_rank.proofs.grading.grade.Goals.{then-is_empty, else-is_empty}

pub loop-index-init : goal.loop-index-init
loop-index-init g c =
    let p = c.args.plan.now in
    let findings = c.in_ok-findings.findings in
    record {
      ranked = ranked_first p 255 0 c.in_ok-cert.cert findings.items
          c.in_ok-cert.ensures c.in_ok-findings.ensures;
      graded = rw c.in_ok-codes.ensures.items (elim c.if-is_empty.branch [
        | then-is_empty w ↦
            let empty =
            eqb-true (vec_len findings) 0 (sym c.is_empty.ensures ∙ w.if-is_empty.true) in
            let nothing = none_of findings.items (omega arith) in
            let none = no_pair (ambiguous_of p.codes) (sym c.in_ok-findings.ensures ∙ nothing) in
            let e = w.widest.ensures in
            rw w.together-is (graded_first p w.widest.result none e.limit e.spare)
        | else-is_empty w ↦
            let full =
            eqb-false (vec_len findings) 0 (sym c.is_empty.ensures ∙ w.if-is_empty.false) in
            let some : ambiguous_of p.codes ≢ None = λ e.
            let l = ap length (c.in_ok-findings.ensures ∙ ap pair_findings e) in full (omega arith)
            in
            rw w.together-is (graded_none p some)
      ]);
      heights = rw c.in_ok-codes.ensures.items (λ d b at. absurd (none_at d (d, Some b) at));
      room = let r = c.in_ok-codes.ensures.capacity in let n = c.codes.ensures.count in omega arith;
    }

pub loop-index-preserved : goal.loop-index-preserved
loop-index-preserved g c =
    let p = c.args.plan.now in
    let i = c.loop-index.invariant in
    let e = c.in_ok-alone.ensures in
    let at = c.of-code.ensures in
    let k = c.push_reserved.ensures in
    let index = c.loop-index.index in
    let alone = c.in_ok-alone.alone in
    let one = subst (λ (d : ℕ). IsGrade (CanBeCertifiedFor p d) alone) at e.grade in
    let before = c.loop-index.codes.items in
    let plan = c.both-together.result in
    let next = graded_next p index c.loop-index.together alone before i.graded one in
    let both = subst
    (λ (b : Option Bounds). IsGradedBelow p (index + 1) b (before ++ (index, alone) ∷ []))
    (sym c.both-together.ensures) next in
    let same = subst
    (λ (d : ℕ). IsGradedBelow p (index + 1) plan (before ++ (d, alone) ∷ []))
    (sym at) both in
    record {
      ranked = ranked_next p 255 0 index c.loop-index.cert c.code_grade.new.cert
          c.loop-index.findings.items c.code_grade.new.findings.items i.ranked
          (subst (λ (d : ℕ). IsJudged {A = g.row.A.Denot} (net_of p d) d 255 0
          c.loop-index.findings.items c.code_grade.new.findings.items
          (rank_at c.code_grade.new.cert d)) at e.judged)
          (λ d x away. e.others d x (λ q. away (q ∙ at))) e.codes e.exchanges;
      graded = subst
          (λ (codes : List (ℕ × Option Bounds)). IsGradedBelow p (index + 1) plan codes)
          (sym k.items) same;
      heights = subst
          (λ (codes : List (ℕ × Option Bounds)). AreRanksOfGrades p (ranks_of c.code_grade.new.cert) codes)
          (sym k.items) (subst
          (λ (d : ℕ). AreRanksOfGrades p (ranks_of c.code_grade.new.cert) (before ++ (d, alone) ∷ []))
          (sym at) (heights_next p index alone before (ranks_of c.loop-index.cert)
          (ranks_of c.code_grade.new.cert) i.graded.long i.heights
          (λ d x away. e.others d x (λ q. away (q ∙ at)))
          (subst (λ (d : ℕ). IfSome alone (λ _.
          RanksByHeight (net_of p d) (rank_at c.code_grade.new.cert d))) at e.heights)));
      room = let r = i.room in let q = k.capacity in omega arith;
    }

pub returns-clause-plan : goal.returns-clause-plan
returns-clause-plan g c =
    let l = c.loop-index in
    let all : l.index ≡ length c.args.plan.now.codes =
    let test = c.loop-index-test.false in
    let end = l.auto.index-end in
    let e = c.codes-index-end.ensures.count in
    omega arith in
    graded_plan c.args.plan.now c.codes.ensures.rules l.index all l.together l.codes.items
    l.invariant.graded

pub returns-clause-clear : goal.returns-clause-clear
returns-clause-clear g c =
    let l = c.loop-index in
    let all : l.index ≡ length c.args.plan.now.codes =
    let test = c.loop-index-test.false in
    let end = l.auto.index-end in
    let e = c.codes-index-end.ensures.count in
    omega arith in
    graded_clear c.args.plan.now c.codes.ensures.rules l.index all l.together l.codes.items
    l.invariant.graded l.cert l.findings.items l.invariant.ranked

pub returns-clause-codes : goal.returns-clause-codes
returns-clause-codes g c =
    let l = c.loop-index in
    let all : l.index ≡ length c.args.plan.now.codes =
    let test = c.loop-index-test.false in
    let end = l.auto.index-end in
    let e = c.codes-index-end.ensures.count in
    omega arith in
    graded_codes c.args.plan.now c.codes.ensures.rules l.index all l.together l.codes.items
    l.invariant.graded

pub returns-clause-fails : goal.returns-clause-fails
returns-clause-fails g c =
    let l = c.loop-index in
    let all : l.index ≡ length c.args.plan.now.codes =
    let test = c.loop-index-test.false in
    let end = l.auto.index-end in
    let e = c.codes-index-end.ensures.count in
    omega arith in
    graded_fails c.args.plan.now c.codes.ensures.rules l.index all l.together l.codes.items
    l.invariant.graded l.cert l.findings.items l.invariant.ranked

pub returns-clause-clean : goal.returns-clause-clean
returns-clause-clean g c =
    let l = c.loop-index in
    let all : l.index ≡ length c.args.plan.now.codes =
    let test = c.loop-index-test.false in
    let end = l.auto.index-end in
    let e = c.codes-index-end.ensures.count in
    omega arith in
    graded_clean c.args.plan.now c.codes.ensures.rules l.index all l.together l.codes.items
    l.invariant.graded l.cert l.findings.items l.invariant.ranked

pub returns-clause-each : goal.returns-clause-each
returns-clause-each g c =
    let l = c.loop-index in
    let all : l.index ≡ length c.args.plan.now.codes =
    let test = c.loop-index-test.false in
    let end = l.auto.index-end in
    let e = c.codes-index-end.ensures.count in
    omega arith in
    graded_true c.args.plan.now c.codes.ensures.rules l.index all l.together l.codes.items
    l.invariant.graded l.cert l.findings.items l.invariant.ranked

pub returns-clause-listed : goal.returns-clause-listed
returns-clause-listed g c =
    let l = c.loop-index in
    let all : l.index ≡ length c.args.plan.now.codes =
    let test = c.loop-index-test.false in
    let end = l.auto.index-end in
    let e = c.codes-index-end.ensures.count in
    omega arith in
    graded_listed c.args.plan.now c.codes.ensures.rules l.index all l.together l.codes.items
    l.invariant.graded l.cert l.findings.items l.invariant.ranked

pub returns-clause-ranks : goal.returns-clause-ranks
returns-clause-ranks g c =
    let l = c.loop-index in
    let all : l.index ≡ length c.args.plan.now.codes =
    let test = c.loop-index-test.false in
    let end = l.auto.index-end in
    let e = c.codes-index-end.ensures.count in
    omega arith in
    graded_ranks c.args.plan.now c.codes.ensures.rules l.index all l.together l.codes.items
    l.invariant.graded l.cert l.findings.items l.invariant.ranked
