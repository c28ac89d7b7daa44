-- What a page shows of findings.
use Rattle.std.specs.Prelude.{ℕ, ◌==◌, List, [], ◌∷◌, ◌++◌, length, map, decimal}
use Rattle.std.specs.List.{flat_map}
use Rattle.tx_text.specs.Words.{before}
use Rattle.tx_plan.specs.Plan.{Plan, exchange_name, figures_of, group_name, home_of}
use Rattle.tx_plan.specs.Routes.{route_list}
use Rattle.tx_rank.specs.Walks.{Walk, end_of}
use Rattle.tx_rank.specs.declared.finding.Finding.{Finding}
use Rattle.tx_rank.specs.declared.finding.Finding.TheVariants.{Ambiguous, Loop, Short, Long}
use Rattle.tx_rank.specs.declared.ranking.Ranking.{Ranking}
use Rattle.tx_rank.specs.declared.ranking.Ranking.TheVariants.{Found, Fails}

-- the groups that a list has before one of them
abbrev pub listed_before : ℕ → List ℕ → List ℕ
listed_before g list = before (λ h. h == g) list

-- where the call stands, the group by which it goes on, and those before it in the list
abbrev pub step_texts : Plan → ℕ → (x g : ℕ) → List (List ℕ)
step_texts p c x g = exchange_name p x ∷ group_name p g
    ∷ map (group_name p) (listed_before g (route_list p x c))

-- the steps from x, and the exchange where they end
abbrev pub steps_texts : Plan → ℕ → ℕ → List (ℕ × ℕ) → List (List ℕ)
steps_texts p c x [] = exchange_name p x ∷ []
steps_texts p c x (s ∷ steps) = step_texts p c x s.0 ++ steps_texts p c s.1 steps

-- a walk, and the groups that the call does not find free where it ends
abbrev pub walk_texts : Plan → ℕ → Walk → List ℕ → List (List ℕ)
walk_texts p c w full = steps_texts p c w.start w.steps ++ map (group_name p) full

-- the list where a walk ends
abbrev pub last_list : Plan → ℕ → Walk → List ℕ
last_list p c w = route_list p (end_of w.start w.steps) c

-- where a call can come back, and how
abbrev pub loop_texts : Plan → ℕ → Walk → List (List ℕ)
loop_texts p c w =
    (figures_of p c ∷ exchange_name p (end_of w.start w.steps) ∷ []) ++ walk_texts p c w []

-- where a call can find too few groups: how many there are, and how many are to spare
abbrev pub short_texts : Plan → (spare : ℕ) → ℕ → Walk → List (List ℕ)
short_texts p spare c w = (figures_of p c ∷ exchange_name p (end_of w.start w.steps)
    ∷ decimal (length (last_list p c w)) ∷ decimal spare ∷ [])
    ++ walk_texts p c w (last_list p c w)

-- by how many groups a call can go, how far, and where it does not come then
abbrev pub long_texts : Plan → ℕ → Walk → List (List ℕ)
long_texts p c w = (figures_of p c ∷ decimal (length w.steps)
    ∷ exchange_name p (end_of w.start w.steps) ∷ exchange_name p (home_of p c) ∷ [])
    ++ walk_texts p c w []

-- what is wrong, and the walk that shows it
abbrev pub finding_texts : {A : Type 0} → Plan → (spare : ℕ) → Finding A → List (List ℕ)
finding_texts p spare (Ambiguous a b) = figures_of p a ∷ figures_of p b ∷ []
finding_texts p spare (Loop c w) = loop_texts p c w
finding_texts p spare (Short c w) = short_texts p spare c w
finding_texts p spare (Long c w) = long_texts p c w

-- all findings, in their order
abbrev pub findings_texts : {A : Type 0} → Plan → (spare : ℕ) → List (Finding A) → List (List ℕ)
findings_texts p spare findings = flat_map (finding_texts p spare) findings

-- nothing for a certificate that was found
abbrev pub wrong_texts : {A : Type 0} → Plan → (spare : ℕ) → Ranking A → List (List ℕ)
wrong_texts p spare (Found cert) = []
wrong_texts p spare (Fails findings) = findings_texts p spare findings.items
