-- What is left of the plans of texts while groups are down.
use Rattle.std.specs.Prelude.{◌≡◌, ◌⊎◌, ℕ, Bool, false, ◌||◌, ◌&&◌, if◌then◌else◌, List, Option, None, Some, is_none, is_some, length, filter, option_map, string_bytes, Result, Ok, Err}
use Rattle.std.specs.List.{position, range_with_len}
use Rattle.std.specs.Option.{option_map_or, option_or}
use Rattle.tx_plan.specs.Plan.{Plan, exchange_named, group_named, group_name}
use Rattle.tx_plan.specs.Circuits.{other_end}
use Rattle.tx_plan.specs.Rules.{IsPlan}
use Rattle.tx_down.specs.Without.{plan_without}
use Rattle.tx_trace.specs.Left.{plan_left}
use Rattle.tx_commands.specs.declared.down.Down.{Down}
use Rattle.tx_files.specs.declared.fault.CommandFault.{CommandFault}
use Rattle.tx_files.specs.declared.fault.CommandFault.TheVariants.{NoSuchName}
use Rattle.tx_files.specs.declared.missing.Named.TheVariants.{Exchange, Group}
use Rattle.tx_files.specs.Missing.{missing}
use Rattle.tx_files.specs.Names.{names_in, is_named, name_at}
use Rattle.tx_files.specs.declared.page_reading.PageTexts.{PageTexts}
use Rattle.tx_files.specs.declared.reading.PlanRisks.{PlanRisks}
use Rattle.tx_files.specs.declared.two_plans.PlanText.{PlanText}
use Rattle.tx_files.specs.declared.two_plans.PlansRisks.{PlansRisks}
use Rattle.tx_files.specs.declared.two_plans.TwoPlans.{TwoPlans}
use Rattle.tx_files.specs.Faults.{memory_stop}
use Rattle.tx_files.specs.TwoPlans.{IsJoin}

-- WHAT IS DOWN

-- the exchange of a name is an end of the group
abbrev pub is_end_of : Plan → (group : ℕ) → (name : List ℕ) → Bool
is_end_of p g name = option_map_or (λ x. is_some (other_end p g x)) (exchange_named p name) false

-- a group is down: it has one of the names, or the exchange is an end of it
abbrev pub is_down : Plan → Down → ℕ → Bool
is_down p d g =
    option_map_or (is_named (group_name p g)) (option_map string_bytes d.groups) false
    || option_map_or (is_end_of p g) (option_map string_bytes d.exchange) false

-- the groups that are down
abbrev pub groups_down : Down → Plan → List ℕ
groups_down d p = filter (is_down p d) (range_with_len 0 (length p.groups))

-- the plan without them in its lists
abbrev pub plan_while : Down → Plan → Plan
plan_while d p = plan_left p (groups_down d p)

-- the plan without them in its network too: no list can have them
abbrev pub plan_up : Down → Plan → Plan
plan_up d p = plan_without p (groups_down d p)

-- WHAT NO PLAN HAS

-- neither plan has an exchange of this name
abbrev pub lack_exchange : (p q : Plan) → List ℕ → Bool
lack_exchange p q name = is_none (exchange_named p name) && is_none (exchange_named q name)

-- neither plan has a group of this name
abbrev pub lack_group : (p q : Plan) → List ℕ → Bool
lack_group p q name = is_none (group_named p name) && is_none (group_named q name)

-- the name of an exchange that neither plan has, if there is a name; the first plan has the near one
abbrev pub missing_exchange : (p q : Plan) → Option (List ℕ) → Option CommandFault
missing_exchange p q None = None
missing_exchange p q (Some name) =
    if lack_exchange p q name then Some (NoSuchName (missing p Exchange 0 name)) else None

-- the first name in a word of which neither plan has a group, if there is a word
abbrev pub missing_group : (p q : Plan) → Option (List ℕ) → Option CommandFault
missing_group p q None = None
missing_group p q (Some word) =
    option_map (λ place. NoSuchName (missing p Group place (name_at (Some word) place)))
    (position (lack_group p q) (names_in word))

-- what is to be down by a name that neither plan has: the exchange first
abbrev pub missing_down : (p q : Plan) → Down → Option CommandFault
missing_down p q d = option_or (missing_exchange p q (option_map string_bytes d.exchange))
    (missing_group p q (option_map string_bytes d.groups))

-- refused for what is missing, or for lack of memory
abbrev pub IsRefusedFor : Option CommandFault → Result (Unit {0}) CommandFault → Type 0
IsRefusedFor lack (Ok x) = lack ≡ None
IsRefusedFor lack (Err fault) = (lack ≡ Some fault) ⊎ (fault ≡ memory_stop)

-- THE TEXTS

module _ {T : Type 0} (plans : T → Plan × Plan) (left : Down → T → T → Type 0) where
  -- they are left while this is down; or neither of their plans has something of it; or memory ran
  -- out
  abbrev pub IsLeftWhile : Down → T → Result T CommandFault → Type 0
  IsLeftWhile d t (Ok l) = (missing_down (plans t).0 (plans t).1 d ≡ None) × left d t l
  IsLeftWhile d t (Err fault) =
      (missing_down (plans t).0 (plans t).1 d ≡ Some fault) ⊎ (fault ≡ memory_stop)

  -- the same of what was read, if something is to be down
  abbrev pub IsLeft : (read : Result T CommandFault) → Option Down → (result : Result T CommandFault)
      → Type 0
  IsLeft (Ok t) None result = result ≡ Ok t
  IsLeft (Ok t) (Some d) result = IsLeftWhile d t result
  IsLeft (Err fault) down result = result ≡ Err fault

  -- so texts are read
  abbrev pub ReadsLeft : Option Down → (reads : Result T CommandFault → Type 0)
      → Result T CommandFault → Type 0
  ReadsLeft down reads result = (read : Result T CommandFault) × reads read × IsLeft read down result

-- of a plan alone
abbrev pub one_plan : Plan → Plan × Plan
one_plan p = (p, p)

abbrev pub IsPlanLeft : Down → Plan → Plan → Type 0
IsPlanLeft d p l = l ≡ plan_while d p

module _ {A : Type 0} where
  -- the text stays
  abbrev pub text_while : Down → PlanText A → PlanText A
  text_while d t = record t { plan = plan_while d t.plan }

  -- of a plan for which lists are found
  abbrev pub plan_said : PlanText A → Plan × Plan
  plan_said t = (t.plan, t.plan)

  abbrev pub IsTextLeft : Down → PlanText A → PlanText A → Type 0
  IsTextLeft d t l = l ≡ record t { plan = plan_up d t.plan }

  -- its plan obeys the rules
  abbrev pub HasRules : PlanText A → Type 0
  HasRules t = IsPlan t.plan

  -- of a plan with its risks
  abbrev pub plan_at_risk : PlanRisks A → Plan × Plan
  plan_at_risk t = (t.plan, t.plan)

  abbrev pub IsLeftAtRisk : Down → PlanRisks A → PlanRisks A → Type 0
  IsLeftAtRisk d t l = l ≡ record t { plan = plan_while d t.plan }

  -- of two plans: of each what is down there, and so they are joined
  abbrev pub two_plans : TwoPlans A → Plan × Plan
  two_plans t = (t.old.plan, t.new.plan)

  pub record AreLeft (d : Down) (t l : TwoPlans A) : Type 0 where
    pub old : l.old ≡ text_while d t.old
    pub new : l.new ≡ text_while d t.new
    pub joined : IsJoin l.old.plan l.new.plan l.joined

  -- of two plans with named risks
  abbrev pub plans_at_risk : PlansRisks A → Plan × Plan
  plans_at_risk t = two_plans t.plans

  abbrev pub AreLeftAtRisk : Down → PlansRisks A → PlansRisks A → Type 0
  AreLeftAtRisk d t l = AreLeft d t.plans l.plans × (l.risks ≡ t.risks)

  -- of a page, with an old plan if it has one
  abbrev pub page_plans : PageTexts A → Plan × Plan
  page_plans t = (t.plan.plan, option_map_or (λ o. o.plan) t.old t.plan.plan)

  abbrev pub IsLeftForPage : Down → PageTexts A → PageTexts A → Type 0
  IsLeftForPage d t l =
      l ≡ record t { plan = text_while d t.plan; old = option_map (text_while d) t.old }
