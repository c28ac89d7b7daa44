-- What holds of the network that calls for one code see, and what ranks of its exchanges certify.
use Rattle.std.specs.Prelude.{◌≡◌, ◌≢◌, ℕ, ◌+◌, ◌<◌, ◌≤◌, true, length, Option, Some}
use Rattle.tx_plan.specs.Among.{Among}
use Rattle.tx_rank.specs.Walks.{Net}

-- the rules of a plan, as far as the walks need them
pub record IsNet (n : Net) : Type 0 where
  pub few : n.exchanges ≤ 256
  pub home : n.home < n.exchanges
  pub origins : (x : ℕ) → n.is_origin x ≡ true → x < n.exchanges
  pub leads : (x g : ℕ) → Among g (n.list x) → (y : ℕ) × (n.far g x ≡ Some y) × (y < n.exchanges)
  pub listed : (x : ℕ) → n.fewest x ≤ length (n.list x)

-- a group of x leads to a rank below r
pub record LeadsBelow (n : Net) (ranks : ℕ → Option ℕ) (x r g : ℕ) : Type 0 where
  pub to : ℕ
  pub rank : ℕ
  pub leads : n.far g x ≡ Some to
  pub ranked : ranks to ≡ Some rank
  pub below : rank < r

-- what a certificate says of one code
pub record Certifies (n : Net) (ranks : ℕ → Option ℕ) (limit spare : ℕ) : Type 0 where
  pub home : ranks n.home ≡ Some 0
  pub origins : (x : ℕ) → n.is_origin x ≡ true → (r : ℕ) × (ranks x ≡ Some r)
  pub low : (x r : ℕ) → ranks x ≡ Some r → r ≤ limit + 1
  pub enough : (x r : ℕ) → ranks x ≡ Some r → x ≢ n.home → spare < n.fewest x
  pub lower : (x r : ℕ) → ranks x ≡ Some r → x ≢ n.home
      → (g : ℕ) → Among g (n.list x) → LeadsBelow n ranks x r g
