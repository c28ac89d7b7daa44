-- What the outages of two plans cut off, as it is written.
use Rattle.std.specs.Prelude.{ℕ, ◌+◌, nat_lt, Bool, true, not, ◌&&◌, ◌||◌, ◌==◌, List, [], ◌++◌, if◌then◌else◌, length, Option, None, Some, count_by, codes, decimal}
use Rattle.std.specs.List.{flat_map}
use Rattle.tx_plan.specs.Plan.{Plan}
use Rattle.tx_rank.specs.declared.bounds.Bounds.{Bounds}
use Rattle.tx_rank.specs.declared.plan_grade.Grade.{Grade}
use Rattle.tx_rank.specs.GradeText.{grade_text}
use Rattle.tx_rank.specs.Report.{verdict_line}
use Rattle.tx_risk.specs.Compared.{Side, cuts_in, legs_in, stray_in, is_other_than, has_worse}
use Rattle.tx_risk.specs.declared.cut.Cut.{Cut}
use Rattle.tx_risk.specs.declared.cut.Leg.{Leg}
use Rattle.tx_risk.specs.declared.outage.Outage.{Outage}
use Rattle.tx_risk_report.specs.declared.comparison.Comparison.{Comparison}
use Rattle.tx_risk_report.specs.declared.totals.Kind.{Kind}
use Rattle.tx_risk_report.specs.declared.totals.Kind.TheVariants.{Risks, Groups, Exchanges}
use Rattle.tx_risk_report.specs.OutageReport.{head_text, outage_words, is_of, harmless_line, counts_text, cut_line}

-- how the new plan stands to the old one, and a blank
abbrev pub change_word : (worse better : Bool) → List ℕ
change_word worse better =
    if worse then codes "WORSE " else (if better then codes "BETTER " else codes "SAME ")

-- a grade is lower than another one: it asks for a greater limit, or allows a smaller spare number
abbrev pub is_lower : Bounds → Bounds → Bool
is_lower a b = nat_lt b.limit a.limit || nat_lt a.spare b.spare

-- a limit and a spare number
abbrev pub bounds_words : Bounds → List ℕ
bounds_words b = codes " LIMIT " ++ (decimal b.limit ++ (codes " SPARE " ++ decimal b.spare))

-- both grades
abbrev pub grades_line : (new old : Bounds) → List ℕ
grades_line new old = change_word (is_lower new old) (is_lower old new) ++ (codes "GRADE"
    ++ (bounds_words new ++ (codes " WAS" ++ (bounds_words old ++ codes "\n"))))

-- the lines of those cuts of p that are other ones than what cuts of q are for their starts
abbrev pub other_line : List ℕ → (p q : Plan) → List Leg → List Cut → Cut → List ℕ
other_line head p q legs others c =
    if is_other_than (stray_in p q others c) c then head ++ cut_line p legs c else []

abbrev pub other_lines : List ℕ → (p q : Plan) → List Leg → (mine others : List Cut) → List ℕ
other_lines head p q legs mine others = flat_map (other_line head p q legs others) mine

module _ {A : Type 0} where
  module _ (c : Comparison A) where
    -- whom an outage cuts off in one of the plans
    abbrev pub cuts_of : Side A → Outage → List Cut
    cuts_of side o = cuts_in c.network.now c.risks.now side o

    -- the legs of their walks
    abbrev pub legs_of : Side A → Outage → List Leg
    legs_of side o = legs_in c.network.now c.risks.now side o

    -- somebody is worse off in the new plan
    abbrev pub is_worse : Outage → Bool
    is_worse o = has_worse c.new.plan c.old.plan (cuts_of c.new o) (cuts_of c.old o)

    -- somebody was worse off in the old one
    abbrev pub is_better : Outage → Bool
    is_better o = has_worse c.old.plan c.new.plan (cuts_of c.old o) (cuts_of c.new o)

    -- it cuts nobody off in either plan
    abbrev pub is_free : Outage → Bool
    is_free o = (length (cuts_of c.new o) == 0) && (length (cuts_of c.old o) == 0)

    -- how many starts an outage cuts off in each plan; nothing, if it cuts nobody off
    abbrev pub compared_total : Outage → List ℕ
    compared_total o = if is_free o then [] else change_word (is_worse o) (is_better o)
        ++ (outage_words c.network.now c.risks.now o ++ (counts_text (cuts_of c.new o)
        ++ (codes " WAS" ++ (counts_text (cuts_of c.old o) ++ codes "\n"))))

    -- how many outages of a kind cut nobody off
    abbrev pub free_of : Kind → ℕ
    free_of kind = count_by (λ o. is_of kind o && is_free o) c.outages.now

    -- those of each kind
    abbrev pub free_text : List ℕ
    free_text = harmless_line Risks (free_of Risks)
        ++ (harmless_line Groups (free_of Groups) ++ harmless_line Exchanges (free_of Exchanges))

    -- whom it cuts off in the new plan and not in the old one, and in the old one and not in the new
    abbrev pub compared_block : Outage → List ℕ
    compared_block o = if is_worse o || is_better o
        then outage_words c.network.now c.risks.now o ++ (codes "\n"
        ++ (other_lines [] c.new.plan c.old.plan (legs_of c.new o) (cuts_of c.new o) (cuts_of c.old o)
        ++ other_lines (codes "WAS ") c.old.plan c.new.plan (legs_of c.old o) (cuts_of c.old o)
        (cuts_of c.new o)))
        else []

    -- how many lines say that the new plan is worse
    abbrev pub worse_count : (new old : Bounds) → ℕ
    worse_count new old = count_by is_worse c.outages.now + (if is_lower new old then 1 else 0)

    -- the grades, how many starts each outage cuts off, where the plans differ, and the verdict
    abbrev pub compared_text : (new old : Bounds) → List ℕ
    compared_text new old = head_text c.risks.now (length c.outages.now) ++ (grades_line new old
        ++ (flat_map compared_total c.outages.now ++ (free_text
        ++ (flat_map compared_block c.outages.now ++ verdict_line (worse_count new old)))))

    -- The report: of both plans; or the text of the grade of the first that has none, the new plan
    -- first, and that of the old one after WAS
    abbrev pub text_by : (new old : Option Bounds) → (new_grade old_grade : Grade A) → List ℕ
    text_by (Some new) (Some old) g h = compared_text new old
    text_by (Some new) None g h = codes "WAS " ++ grade_text c.old.plan h
    text_by None old g h = grade_text c.new.plan g

    abbrev pub comparison_text : (new old : Grade A) → List ℕ
    comparison_text g h = text_by g.plan h.plan g h

    -- something is worse, or a plan has no grade
    abbrev pub is_against : (new old : Option Bounds) → Bool
    is_against (Some new) (Some old) = not (worse_count new old == 0)
    is_against new old = true
