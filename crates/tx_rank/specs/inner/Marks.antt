-- The marks of a ranking pass, and what holds of them and of the walk in hand.
use Rattle.std.specs.Prelude.{◌≡◌, ◌≢◌, ℕ, suc, ◌+◌, ◌*◌, ◌<◌, ◌≤◌, true, List, [], ◌∷◌, length, take, Option, Some, None, ◌⊎◌, slice_get}
use Rattle.std.specs.Option.{option_and_then}
use Rattle.tx_plan.specs.Among.{Among}
use Rattle.tx_rank.specs.Walks.{Net, AllDiffer, end_of, before_end, passed, IsWalk, IsLoop}
use Rattle.tx_rank.specs.Heights.{IsReached}
use Rattle.tx_rank.specs.Nets.{LeadsBelow}
use Rattle.tx_rank.specs.declared.list_scan.Look.{Look}
use Rattle.tx_rank.specs.declared.list_scan.Tried.{Tried}
use Rattle.tx_rank.specs.declared.list_scan.Look.TheVariants.{Onward, Settled}
use Rattle.tx_rank.specs.declared.explore.Progress.{Progress}
use Rattle.tx_rank.specs.declared.explore.Progress.TheVariants.{More, Done, Closed}
use Rattle.tx_rank.specs.declared.mark.Mark.{Mark}
use Rattle.tx_rank.specs.declared.mark.Mark.TheVariants.{Unseen, Open, Ranked}

-- the rank of a mark
abbrev pub rank_of : Mark → Option ℕ
rank_of Unseen = None
rank_of Open = None
rank_of (Ranked r) = Some r

-- the steps that an exchange still costs: one to open it, and one to rank it
abbrev pub cost_of : Mark → ℕ
cost_of Unseen = 2
cost_of Open = 1
cost_of (Ranked r) = 0

-- the rank of an exchange
abbrev pub rank_in : List Mark → ℕ → Option ℕ
rank_in marks x = option_and_then rank_of (slice_get marks x)

-- the costs of all marks together
abbrev pub cost : List Mark → ℕ
cost [] = 0
cost (m ∷ marks) = cost_of m + cost marks

-- the rank of x is one more than the greatest to which its list leads
pub record IsSettled (n : Net) (ranks : ℕ → Option ℕ) (x r : ℕ) : Type 0 where
  pub positive : 0 < r
  pub lower : (g : ℕ) → Among g (n.list x) → LeadsBelow n ranks x r g
  pub tight : (r ≡ 1) ⊎ ((g : ℕ) × (y : ℕ) × (m : ℕ)
      × Among g (n.list x) × (n.far g x ≡ Some y) × (ranks y ≡ Some m) × (suc m ≡ r))

-- of the marks: the ranked exchanges are those whose walks were all gone over
pub record IsMarked (n : Net) (marks : List Mark) : Type 0 where
  pub long : length marks ≡ n.exchanges
  pub home : rank_in marks n.home ≡ Some 0
  pub settled : (x r : ℕ) → rank_in marks x ≡ Some r → x ≢ n.home → IsSettled n (rank_in marks) x r
  pub ranked : (x r : ℕ) → rank_in marks x ≡ Some r → x ≢ n.home → IsReached n x
  pub small : (x r : ℕ) → rank_in marks x ≡ Some r → r + cost marks ≤ 2 * n.exchanges

-- of the walk in hand: it is one, and the open exchanges are those that it passes, each once
pub record IsInHand (n : Net) (marks : List Mark) (start : ℕ) (steps : List (ℕ × ℕ)) : Type 0 where
  pub walk : IsWalk n start steps
  pub once : AllDiffer (passed start steps)
  pub on : (x : ℕ) → Among x (passed start steps) → slice_get marks x ≡ Some Open
  pub only : (x : ℕ) → slice_get marks x ≡ Some Open → Among x (passed start steps)

-- ranks stay
abbrev pub Grew : List Mark → List Mark → Type 0
Grew old new = (x r : ℕ) → rank_in old x ≡ Some r → rank_in new x ≡ Some r

-- no exchange is open
abbrev pub NoneOpen : List Mark → Type 0
NoneOpen marks = (x : ℕ) → slice_get marks x ≡ Some Open → ⊥

-- a group leads from x to an exchange that has no rank
pub record IsOnward (n : Net) (marks : List Mark) (x : ℕ) (s : ℕ × ℕ) : Type 0 where
  pub listed : Among s.0 (n.list x)
  pub leads : n.far s.0 x ≡ Some s.1
  pub within : s.1 < n.exchanges
  pub fresh : rank_in marks s.1 ≡ None

-- these groups of x lead to ranks of at most top, and one of them to top, unless that is 0
pub record IsTop (n : Net) (marks : List Mark) (x : ℕ) (groups : List ℕ) (top : ℕ) : Type 0 where
  pub lower : (g : ℕ) → Among g groups → LeadsBelow n (rank_in marks) x (suc top) g
  pub tight : (top ≡ 0)
      ⊎ ((g : ℕ) × (y : ℕ) × Among g groups × (n.far g x ≡ Some y) × (rank_in marks y ≡ Some top))

-- the list of x, of which the first groups lead to ranks of at most top
pub record IsTried (n : Net) (marks : List Mark) (x : ℕ) (t : Tried) : Type 0 where
  pub list : t.list.now ≡ n.list x
  pub count : t.count ≤ length (n.list x)
  pub top : IsTop n marks x (take t.count (n.list x)) t.top

-- the same of each of these exchanges
abbrev pub AreTried : Net → List Mark → List ℕ → List Tried → Type 0
AreTried n marks [] [] = Unit {0}
AreTried n marks [] (t ∷ ts) = ⊥
AreTried n marks (x ∷ xs) [] = ⊥
AreTried n marks (x ∷ xs) (t ∷ ts) = IsTried n marks x t × AreTried n marks xs ts

-- what was tried on the walk in hand: the lists of the exchanges before the last, and that of the
-- last
pub record IsTrail (n : Net) (marks : List Mark)
    (start : ℕ) (steps : List (ℕ × ℕ)) (before : List Tried) (last : Tried) : Type 0 where
  pub lists : AreTried n marks (before_end start steps) before
  pub list : IsTried n marks (end_of start steps) last

-- what a look at the list of x finds
abbrev pub IsLook : Net → List Mark → ℕ → Look → Type 0
IsLook n marks x (Onward g y) = IsOnward n marks x (g, y)
IsLook n marks x (Settled top) = IsTop n marks x (n.list x) top

-- the walk in hand goes on
pub record IsStep (n : Net) (start : ℕ) (old new : List Mark) (steps : List (ℕ × ℕ)) : Type 0 where
  pub marked : IsMarked n new
  pub hand : IsInHand n new start steps
  pub nearer : cost new < cost old
  pub grew : Grew old new

-- all walks from start are ranked
pub record IsEnd (n : Net) (start : ℕ) (old new : List Mark) : Type 0 where
  pub marked : IsMarked n new
  pub none : NoneOpen new
  pub rank : ℕ
  pub ranked : rank_in new start ≡ Some rank
  pub grew : Grew old new

-- what a step of the pass leaves
abbrev pub IsAdvanced : Net → ℕ → Progress → List Mark → List Mark → List (ℕ × ℕ) → Type 0
IsAdvanced n start More old new steps = IsStep n start old new steps
IsAdvanced n start Done old new steps = IsEnd n start old new
IsAdvanced n start Closed old new steps = IsLoop n start steps

-- the exchanges before index i were tried
pub record IsPassing (n : Net) (marks : List Mark) (i : ℕ) : Type 0 where
  pub marked : IsMarked n marks
  pub none : NoneOpen marks
  pub origins : (x : ℕ) → x < i → n.is_origin x ≡ true → (r : ℕ) × (rank_in marks x ≡ Some r)

-- of ranks: those that walks pass are ranked by what their lists lead to
pub record AreSettled (n : Net) (ranks : ℕ → Option ℕ) : Type 0 where
  pub home : ranks n.home ≡ Some 0
  pub origins : (x : ℕ) → n.is_origin x ≡ true → (r : ℕ) × (ranks x ≡ Some r)
  pub settled : (x r : ℕ) → ranks x ≡ Some r → x ≢ n.home → IsSettled n ranks x r
  pub ranked : (x r : ℕ) → ranks x ≡ Some r → x ≢ n.home → IsReached n x
  pub low : (x r : ℕ) → ranks x ≡ Some r → r ≤ 2 * n.exchanges
  pub within : (x r : ℕ) → ranks x ≡ Some r → x < n.exchanges

-- a pass is over that met no loop
pub record IsPassed (n : Net) (marks : List Mark) : Type 0 where
  pub long : length marks ≡ n.exchanges
  pub ranks : AreSettled n (rank_in marks)

-- a group of these that leads from x to this rank, or none
abbrev pub IsLower : Net → (ℕ → Option ℕ) → ℕ → List ℕ → ℕ → Option (ℕ × ℕ) → Type 0
IsLower n ranks x groups rank None = (g y : ℕ)
    → Among g groups → n.far g x ≡ Some y → ranks y ≡ Some rank → ⊥
IsLower n ranks x groups rank (Some s) = Among s.0 groups
    × (n.far s.0 x ≡ Some s.1) × (ranks s.1 ≡ Some rank)
