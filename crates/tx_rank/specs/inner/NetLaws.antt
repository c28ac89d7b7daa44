-- That a network obeys the rules is known in at most one way. A type that keeps it needs that.
use Rattle.std.specs.Prelude.{◌≡◌, ℕ, ◌<◌, Option, Some}
use Rattle.std.specs.Coded.{le_prop, Coded-set, coded_ℕ, coded_option}
use Rattle.std.proofs.Common.{subst}
use Rattle.tx_rank.specs.Walks.{Net}
use Rattle.tx_rank.specs.Nets.{IsNet}

some_below-prop : (o : Option ℕ) (n : ℕ) → IsProp ((y : ℕ) × (o ≡ Some y) × (y < n))
some_below-prop o n a b =
    let same : a.0 ≡ b.0 = let e = a.1 in let f = b.1 in cc in
    subst (λ (y : ℕ). (e : o ≡ Some y) (l : y < n)
    → Path ((z : ℕ) × (o ≡ Some z) × (z < n)) a (y, e, l)) same
    (λ e l i. (a.0, Coded-set (coded_option coded_ℕ) o (Some a.0) a.1 e i, le_prop a.2 l i))
    b.1 b.2

pub IsNet-prop : (n : Net) → IsProp (IsNet n)
IsNet-prop n a b = λ i. record {
  few = le_prop a.few b.few i;
  home = le_prop a.home b.home i;
  origins = λ x h. le_prop (a.origins x h) (b.origins x h) i;
  leads = λ x g m. some_below-prop (n.far g x) n.exchanges (a.leads x g m) (b.leads x g m) i;
  listed = λ x. le_prop (a.listed x) (b.listed x) i;
}
