-- The names of a plan's exchanges, codes and groups lead back to their indexes.
use Rattle.tx_plan.proofs.Common.{◌≡◌, ℕ, ◌<◌, Bool, true, length, Option, Some, is_name, IsPlan, IsCode, IsGroup, is_code, has_exchange, has_code, has_group}
use Rattle.tx_plan.specs.Plan.{Plan, Code, Group, exchange_named, code_named, group_named, exchange_name, figures_of, group_name}
use Rattle.tx_plan.proofs.ByIndex.{entry_at, all_at, index_back, index_passes}

-- a word that names the entry at an index
pub record IsNameOf (named : Option ℕ) (has : Bool) (index : ℕ) : Type 0 where
  pub back : named ≡ Some index
  pub there : has ≡ true

module _ (p : Plan) (h : IsPlan p) where
  pub exchange_back : (x : ℕ) → x < length p.exchanges → IsNameOf (exchange_named p (exchange_name p x)) (has_exchange p (exchange_name p x)) x
  exchange_back x l =
      let e = entry_at p.exchanges x l in
      let q = e.1 in
      rw q (record { back = index_back (λ name. name) p.exchanges x e.0 h.exchanges_differ q; there = index_passes (λ name. name) p.exchanges x e.0 q })

  pub exchange_is_name : (x : ℕ) → x < length p.exchanges → is_name (exchange_name p x) ≡ true
  exchange_is_name x l =
      let e = entry_at p.exchanges x l in
      let q = e.1 in
      rw q (all_at (λ name. is_name name ≡ true) p.exchanges x e.0 h.exchanges q)

  pub code_back : (c : ℕ) → c < length p.codes → IsNameOf (code_named p (figures_of p c)) (has_code p (figures_of p c)) c
  code_back c l =
      let e = entry_at p.codes c l in
      let q = e.1 in
      rw q (record { back = index_back (λ (r : Code). r.figures) p.codes c e.0 h.codes_differ q; there = index_passes (λ (r : Code). r.figures) p.codes c e.0 q })

  pub figures_are_code : (c : ℕ) → c < length p.codes → is_code (figures_of p c) ≡ true
  figures_are_code c l =
      let e = entry_at p.codes c l in
      let q = e.1 in
      let r = all_at (IsCode p) p.codes c e.0 h.codes q in
      rw q r.figures

  pub group_back : (g : ℕ) → g < length p.groups → IsNameOf (group_named p (group_name p g)) (has_group p (group_name p g)) g
  group_back g l =
      let e = entry_at p.groups g l in
      let q = e.1 in
      rw q (record { back = index_back (λ (r : Group). r.name) p.groups g e.0 h.groups_differ q; there = index_passes (λ (r : Group). r.name) p.groups g e.0 q })

  pub group_is_name : (g : ℕ) → g < length p.groups → is_name (group_name p g) ≡ true
  group_is_name g l =
      let e = entry_at p.groups g l in
      let q = e.1 in
      let r = all_at (IsGroup p) p.groups g e.0 h.groups q in
      rw q r.name
