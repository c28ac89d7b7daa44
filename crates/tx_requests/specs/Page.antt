-- The command `page`.
use Rattle.std.specs.Prelude.{◌≡◌, ◌⊎◌, ◌≤◌, ℕ, Bool, false, ◌||◌, ◌==◌, if◌then◌else◌, List, [], ◌∷◌, Option, None, Some, Result, Ok, Err, codes, drop, filter, length, map, count_by, option_map, option_and_then, string_bytes, IfSome}
use Rattle.std.specs.List.{range_with_len}
use Rattle.std.specs.Option.{option_map_or}
use Rattle.httpdate.specs.Date.{unix_secs, date_text}
use Rattle.httpdate.specs.declared.date.HttpDate.{HttpDate}
use Rattle.sha2.specs.Sha256.{sha256}
use Rattle.tx_text.specs.Words.{before}
use Rattle.tx_plan.specs.Codes.{is_prefix}
use Rattle.tx_plan.specs.Plan.{Plan}
use Rattle.tx_cert.specs.Certificate.{ranks_of}
use Rattle.tx_rank.specs.declared.ranking.Ranking.{Ranking}
use Rattle.tx_rank.specs.Grades.{AreRanksOfGrades}
use Rattle.tx_audit.specs.Audits.{IsRightRanking}
use Rattle.tx_join.specs.Joined.{joined_old, joined_new}
use Rattle.tx_order.specs.Switchings.{IsRightSwitching, plans_of}
use Rattle.tx_risk.specs.NamedRisks.{NamedRisk}
use Rattle.tx_risk.specs.Outages.{AreOutcomes, all_outages}
use Rattle.tx_risk.specs.declared.cut.Outcome.{Outcome}
use Rattle.tx_risk_report.specs.declared.comparison.Comparison.{Comparison}
use Rattle.tx_risk_report.specs.Comparison.{is_worse, is_better}
use Rattle.tx_rank.specs.declared.bounds.Bounds.{Bounds}
use Rattle.tx_rank.specs.declared.plan_grade.Grade.{Grade}
use Rattle.tx_html.specs.Shows.{ShowedBy}
use Rattle.tx_page_change.specs.declared.change.Change.{Change}
use Rattle.tx_page_change.specs.declared.outlook.Outlook.{Outlook as PageOutlook}
use Rattle.tx_page_change.specs.Numbers.{if_graded}
use Rattle.tx_page.specs.Page.{is_safe, page_texts}
use Rattle.tx_page.specs.declared.subject.Subject.{Subject}
use Rattle.tx_commands.specs.declared.grammar.TheConstants.{VERSION}
use Rattle.tx_files.specs.declared.ending.Ending.{Ending}
use Rattle.tx_files.specs.declared.fault.CommandFault.{CommandFault}
use Rattle.tx_commands.specs.declared.down.Down.{Down}
use Rattle.tx_commands.specs.declared.page.PageRequest.{PageRequest}
use Rattle.tx_files.specs.declared.page_reading.PageTexts.{PageTexts}
use Rattle.tx_files.specs.declared.two_plans.PlanText.{PlanText}
use Rattle.tx_files.specs.Ending.{EndsWith}
use Rattle.tx_files.specs.Faults.{memory_stop}
use Rattle.tx_files.specs.TwoPlans.{IsJoin, IsNoJoinOf}
use Rattle.tx_requests.specs.declared.compare.Outlook.{Outlook}
use Rattle.tx_requests.specs.declared.page.Paged.{Paged}
use Rattle.tx_requests.specs.declared.page_change.FoundChange.{FoundChange}
use Rattle.tx_requests.specs.declared.page_found.Found.{Found}
use Rattle.tx_requests.specs.Compare.{AreBeside, IsOutlookOf}
use Rattle.tx_requests.specs.Grade.{IsGradeOf}
use Rattle.tx_requests.specs.PageCodes.{is_shown, missing_code, IsNoCode}
use Rattle.tx_requests.specs.Printing.{Printing}

-- a byte that ends a line of a text
abbrev pub is_line_end : ℕ → Bool
is_line_end b = (b == 10) || (b == 13)

-- this name, or another one if it is empty
abbrev pub name_or : (other name : List ℕ) → List ℕ
name_or other [] = other
name_or other (b ∷ name) = b ∷ name

-- the title of a page: what follows `# NAME ` in the first line of the text, or the name of the file
abbrev pub title_of : (file text : List ℕ) → List ℕ
title_of file text = if is_prefix (codes "# NAME ") text
    then name_or file (before is_line_end (drop 7 text)) else file

-- the word for groups that are to be down, if there is one
abbrev pub groups_asked : Option Down → Option (List ℕ)
groups_asked None = None
groups_asked (Some d) = option_map string_bytes d.groups

-- the name of an exchange of which all groups are to be down, if there is one
abbrev pub exchange_asked : Option Down → Option (List ℕ)
exchange_asked None = None
exchange_asked (Some d) = option_map string_bytes d.exchange

-- a number, if both plans have a grade
abbrev pub if_both : (old new : Option Bounds) → ℕ → Option ℕ
if_both old new n = option_and_then (λ b. if_graded new n) old

-- the date and the time of day of a moment, in seconds since 1970, up to the year 9999
abbrev pub IsDateAt : ℕ → Option (List ℕ) → Type 0
IsDateAt moment None = 253402300800 ≤ moment
IsDateAt moment (Some text) = (d : HttpDate) × (unix_secs d ≡ moment) × (text ≡ date_text d)

-- the same, if there is a moment
abbrev pub IsDateOf : Option ℕ → Option (List ℕ) → Type 0
IsDateOf None date = date ≡ None
IsDateOf (Some moment) date = IsDateAt moment date

module _ {A : Type 0} where
  -- the codes of which a page has pictures, in order of declaration
  abbrev pub shown_codes : PageRequest → PageTexts A → Ranking A → Option (FoundChange A) → List ℕ
  shown_codes r t ranking change =
      filter (is_shown r t ranking change) (range_with_len 0 (length t.plan.plan.codes))

  -- what is found of a plan is right: the verdict of the audit, the grade, the ranks of each code
  -- that has one, and what outages cut off
  pub record IsFound (p : Plan) (limit spare : ℕ) (risks : List NamedRisk) (f : Found A)
      : Type 0 where
    pub ranking : IsRightRanking p limit spare f.ranking
    pub grade : IsGradeOf p f.grade
    pub heights : AreRanksOfGrades p (ranks_of f.grade.ranks) f.grade.codes.items
    pub outcomes : IfSome f.grade.plan (λ _. AreOutcomes p risks false f.outcomes.items)
    pub none : f.grade.plan ≡ None → f.outcomes.items ≡ []

  -- after how many outages somebody is worse off in the new plan, and after how many better
  pub record AreCounted (old new network : Plan) (risks : List NamedRisk) (before : Outlook A)
      (after : Found A) (worse better : Option ℕ) : Type 0 where
    pub beside : Comparison A
    pub are : AreBeside network risks (all_outages network risks false)
        (record { plan = new; outcomes = after.outcomes.items })
        (record { plan = old; outcomes = before.outcomes.items }) beside
    pub worse_is : worse
        ≡ if_both before.grade.plan after.grade.plan (count_by (is_worse beside) beside.outages.now)
    pub better_is : better
        ≡ if_both before.grade.plan after.grade.plan (count_by (is_better beside) beside.outages.now)

  -- what is told of the change of a plan into another one: both over their joined network, the order
  -- of switching from the one to the other over it, what the old one comes to, and after how many
  -- outages somebody is worse off, and better, if both have a grade
  pub record IsChangeOf (old new : Plan) (limit spare : ℕ) (risks : List NamedRisk) (f : Found A)
      (c : FoundChange A) : Type 0 where
    pub joined : IsJoin old new (plans_of c.switching)
    pub right : IsRightSwitching (joined_old old new) (joined_new old new) limit spare c.switching
    pub outlook : IsOutlookOf new risks false old c.outlook
    pub counted : AreCounted old new (plans_of c.switching).new risks c.outlook f c.worse c.better

  -- that is told of an old plan, if one is asked for
  abbrev pub IsChangeIfAny : Option (PlanText A) → (new : Plan) → (limit spare : ℕ)
      → List NamedRisk → Found A → Option (FoundChange A) → Type 0
  IsChangeIfAny None new limit spare risks f change = change ≡ None
  IsChangeIfAny (Some old) new limit spare risks f None = ⊥
  IsChangeIfAny (Some old) new limit spare risks f (Some c) =
      IsChangeOf old.plan new limit spare risks f c

  -- there is an old plan, and the two have no joined network, or there was no memory for it
  abbrev pub IsNoChange : Option (PlanText A) → PlanText A → CommandFault → Type 0
  IsNoChange None new fault = ⊥
  IsNoChange (Some old) new fault = IsNoJoinOf old new fault

  -- what a page shows is right
  pub record IsPageOf (r : PageRequest) (t : PageTexts A) (a : Paged A) : Type 0 where
    pub texts : a.texts ≡ t
    pub asked : missing_code t.plan.plan (option_map string_bytes r.code) ≡ None
    pub found : IsFound t.plan.plan r.limits.limit r.limits.spare t.risks a.found
    pub change : IsChangeIfAny t.old t.plan.plan r.limits.limit r.limits.spare t.risks a.found a.change
    pub pictures : map (λ q. q.code) a.pictures.items
        ≡ shown_codes r t a.found.ranking a.change

  -- it is shown; or the plan has no code of figures that are asked for, or no joined network with
  -- the old one; or memory ran out
  abbrev pub PageAnswers : PageRequest → PageTexts A → Result (Paged A) CommandFault → Type 0
  PageAnswers r t (Ok a) = IsPageOf r t a
  PageAnswers r t (Err fault) =
      IsNoCode t.plan.plan (option_map string_bytes r.code) fault
      ⊎ (IsNoChange t.old t.plan fault ⊎ (fault ≡ memory_stop))

  -- a plan, its grade and its outages, as a page shows them
  abbrev pub IsShownAs : Plan → Grade A → List (Outcome A) → PageOutlook A → Type 0
  IsShownAs p grade outcomes o =
      (o.plan.now ≡ p) × (o.grade.now ≡ grade) × (o.outcomes.now ≡ outcomes)

  -- a change from an old plan, as a page shows it
  pub record IsShownChange (r : PageRequest) (a : Paged A) (old : PlanText A) (f : FoundChange A)
      (c : Change A) : Type 0 where
    pub name : c.name.now
        ≡ title_of (option_map_or string_bytes r.old []) old.text.items
    pub digest : c.digest ≡ sha256 old.text.items
    pub date : IsDateOf r.moment c.date
    pub old_is : IsShownAs old.plan f.outlook.grade f.outlook.outcomes.items c.old
    pub new_is : IsShownAs a.texts.plan.plan a.found.grade a.found.outcomes.items c.new
    pub worse : c.worse ≡ f.worse
    pub better : c.better ≡ f.better
    pub switching : c.switching.now ≡ f.switching
    pub by_exchange : c.by_exchange ≡ r.by_exchange

  -- it is shown, if there is one
  abbrev pub IsSameChange : PageRequest → Paged A → Option (PlanText A) → Option (FoundChange A)
      → Option (Change A) → Type 0
  IsSameChange r a (Some old) (Some f) (Some c) = IsShownChange r a old f c
  IsSameChange r a (Some old) (Some f) None = ⊥
  IsSameChange r a old f None = Unit {0}
  IsSameChange r a old f c = ⊥

  -- what a page is about: the title, the digest of its text, the version of the program,
  -- and all that was found
  pub record IsSubjectOf (r : PageRequest) (a : Paged A) (s : Subject A) : Type 0 where
    pub name : s.name.now ≡ title_of (string_bytes r.plan) a.texts.plan.text.items
    pub digest : s.digest ≡ sha256 a.texts.plan.text.items
    pub version : s.version.now ≡ VERSION.now
    pub plan : s.plan.now ≡ a.texts.plan.plan
    pub limits : s.limits ≡ r.limits
    pub down : option_map (λ w. w.now) s.down ≡ groups_asked r.down
    pub down_exchange : option_map (λ w. w.now) s.down_exchange ≡ exchange_asked r.down
    pub risks : s.risks.now ≡ a.texts.risks
    pub ranking : s.ranking.now ≡ a.found.ranking
    pub grade : s.grade.now ≡ a.found.grade
    pub change : IsSameChange r a a.texts.old a.change s.change
    pub outcomes : s.outcomes.now ≡ a.found.outcomes.items
    pub pictures : s.pictures.now ≡ a.pictures.items

  -- a page was written that shows this, or the sink failed
  abbrev pub PagePrints : PageRequest → Paged A → Printing
  PagePrints r a old new marked_old marked_new result = (s : Subject A) × IsSubjectOf r a s
      × ShowedBy (record { taken = old; shown = None; failed = marked_old })
      (record { taken = new; shown = None; failed = marked_new }) (page_texts s) result

  -- status 0 if a certificate was found
  abbrev pub PageEnds : Paged A → Result (Ending A) CommandFault → Type 0
  PageEnds a = EndsWith (if is_safe a.found.ranking then 0 else 1)
