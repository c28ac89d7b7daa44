-- A step that leads to each exchange, so that walks are found from their ends.
use Rattle.std.specs.Prelude.{◌≡◌, ◌≢◌, ℕ, ◌<◌, List, length, Option, Some, slice_get}
use Rattle.tx_plan.specs.Among.{Among}
use Rattle.tx_rank.specs.Walks.{Net}

-- the group leads from a ranked exchange p, which is not the home, to y
pub record IsLink (n : Net) (ranks : ℕ → Option ℕ) (y : ℕ) (s : ℕ × ℕ) : Type 0 where
  pub rank : ℕ
  pub ranked : ranks s.1 ≡ Some rank
  pub away : s.1 ≢ n.home
  pub listed : Among s.0 (n.list s.1)
  pub leads : n.far s.0 s.1 ≡ Some y

-- what is kept is true
abbrev pub AreLinks : Net → (ℕ → Option ℕ) → List (Option (ℕ × ℕ)) → Type 0
AreLinks n ranks links = (y : ℕ) (s : ℕ × ℕ) → slice_get links y ≡ Some (Some s)
    → IsLink n ranks y s

-- each exchange to which one of these groups of p leads is linked
abbrev pub LinksAll : Net → List (Option (ℕ × ℕ)) → ℕ → List ℕ → Type 0
LinksAll n links p groups = (g y : ℕ) → Among g groups
    → n.far g p ≡ Some y → (s : ℕ × ℕ) × (slice_get links y ≡ Some (Some s))

-- what is linked stays so
abbrev pub StaysLinked : List (Option (ℕ × ℕ)) → List (Option (ℕ × ℕ)) → Type 0
StaysLinked old new = (y : ℕ) (s : ℕ × ℕ) → slice_get old y ≡ Some (Some s)
    → (t : ℕ × ℕ) × (slice_get new y ≡ Some (Some t))

-- each exchange to which a ranked exchange before index i leads is linked
abbrev pub LinksBelow : Net → (ℕ → Option ℕ) → List (Option (ℕ × ℕ)) → ℕ → Type 0
LinksBelow n ranks links i = (p r : ℕ) → p < i
    → ranks p ≡ Some r → p ≢ n.home → LinksAll n links p (n.list p)

-- each exchange to which a ranked exchange leads is linked
pub record IsLinked (n : Net) (ranks : ℕ → Option ℕ) (links : List (Option (ℕ × ℕ))) : Type 0 where
  pub long : length links ≡ n.exchanges
  pub true_of : AreLinks n ranks links
  pub all : LinksBelow n ranks links n.exchanges
