-- What is marked while the exchanges that calls for a code come to are looked for.
use Rattle.std.specs.Prelude.{◌≡◌, ◌≢◌, ℕ, Bool, true, List, length, Some}
use Rattle.tx_plan.specs.Among.{Among}
use Rattle.tx_rank.specs.Walks.{Net}
use Rattle.tx_rank.specs.Heights.{IsReached}
use Rattle.tx_rank.specs.Reached.{is_marked}

-- where calls may start is marked, and what is marked is reached
pub record AreSeen (n : Net) (seen : List Bool) : Type 0 where
  pub long : length seen ≡ n.exchanges
  pub origins : (x : ℕ) → n.is_origin x ≡ true → is_marked seen x ≡ true
  pub reached : (x : ℕ) → is_marked seen x ≡ true → IsReached n x

-- each group in the list of x leads to a marked exchange, unless x is the home
abbrev pub LeadsToSeen : Net → List Bool → ℕ → Type 0
LeadsToSeen n seen x = x ≢ n.home → (g y : ℕ)
    → Among g (n.list x) → n.far g x ≡ Some y → is_marked seen y ≡ true

-- marks stay
abbrev pub StaysSeen : List Bool → List Bool → Type 0
StaysSeen old new = (x : ℕ) → is_marked old x ≡ true → is_marked new x ≡ true
