-- Plan texts that were written read back.
use Rattle.tx_plantext.proofs.Common.{◌≡◌, ℕ, ◌<◌, Bool, true, false, List, [], ◌∷◌, ◌++◌, map, length, Some, codes, nat_lt, refl, ap, subst, append-nil, arith, lt-ltb, IsWrittenLine, LeadsTo, line_of_short, fixed_word, Pair, IsPlan}
use Rattle.tx_text.specs.Frame.{header_of}
use Rattle.tx_text.proofs.ReadBack.{reads_back}
use Rattle.tx_plan.specs.Plan.{Plan, no_plan}
use Rattle.tx_plantext.specs.PlanText.{declare}
use Rattle.tx_plantext.specs.PlanWritten.{plan_lines, head_of, version_of, has_bars, exchange_words, code_words, range_words, group_words, route_words, bar_words, ReadsBack}
use Rattle.tx_plantext.proofs.ListLines.{list_leads}
use Rattle.tx_plantext.proofs.PlanLines.{exchanges_so_far, codes_so_far, ranges_so_far, groups_so_far, exchange_declared, code_declared, range_declared, group_declared}
use Rattle.tx_plantext.proofs.RouteLines.{routes_so_far, bars_so_far, route_declared, bar_declared}
use Rattle.tx_plantext.proofs.Indexes.{length_front}

head_written : (bars : Bool) → IsWrittenLine (head_of bars)
head_written false = line_of_short (head_of false) (fixed_word (codes "PLAN") refl, (fixed_word (codes "1") refl, tt)) (omega arith)
head_written true = line_of_short (head_of true) (fixed_word (codes "PLAN") refl, (fixed_word (codes "2") refl, tt)) (omega arith)

head_some : (bars : Bool) → 0 < length (head_of bars)
head_some false = omega arith
head_some true = omega arith

head_known : (bars : Bool) → header_of (codes "PLAN") 2 (head_of bars) ≡ Some (version_of bars)
head_known false = refl
head_known true = refl

-- a list of bars that is not empty stands under the second version
second_at : (bars f : List Pair) (x : Pair) (b : List Pair) → f ++ x ∷ b ≡ bars → version_of (nat_lt 0 (length bars)) ≡ 2
second_at bars f x b e =
    let s = length_front f x b in
    let l = ap length e in
    let t = lt-ltb 0 (length bars) (omega arith) in
    rw t refl

bars_lead : (p : Plan) (h : IsPlan p) → LeadsTo declare (version_of (has_bars p)) (bars_so_far (version_of (has_bars p)) p h []) (map (bar_words p) p.bars) p
bars_lead p h =
    let v = version_of (has_bars p) in
    subst (λ (wss : List (List (List ℕ))). LeadsTo declare v (bars_so_far v p h []) wss p) (append-nil (map (bar_words p) p.bars))
    (list_leads declare v (bars_so_far v p h) (bar_words p) [] p.bars [] p (λ f x b e. bar_declared v p h (second_at p.bars f x b e) f x b e) refl)

-- the lines of a plan declare it, one after another
pub lines_lead : (p : Plan) → IsPlan p → LeadsTo declare (version_of (has_bars p)) no_plan (plan_lines p) p
lines_lead p h =
    let v = version_of (has_bars p) in
    list_leads declare v (exchanges_so_far v p h) exchange_words [] p.exchanges _ p (exchange_declared v p h)
    (list_leads declare v (codes_so_far v p h) (code_words p) [] p.codes _ p (code_declared v p h)
    (list_leads declare v (ranges_so_far v p h) (range_words p) [] p.ranges _ p (range_declared v p h)
    (list_leads declare v (groups_so_far v p h) (group_words p) [] p.groups _ p (group_declared v p h)
    (list_leads declare v (routes_so_far v p h) (route_words p) [] p.routes _ p (route_declared v p h) (bars_lead p h)))))

pub plan_back : ReadsBack
plan_back p h =
    reads_back (header_of (codes "PLAN") 2) declare 1 (version_of (has_bars p)) no_plan p (head_of (has_bars p)) (plan_lines p)
    (head_written (has_bars p)) (head_some (has_bars p)) (head_known (has_bars p)) (lines_lead p h)
