-- Plans of one network do not differ beside lists and bars.
use Rattle.tx_join.proofs.Common.{◌≡◌, ℕ, ◌<◌, Bool, true, false, not, ◌||◌, ◌==◌, List, length, Some, is_some, refl, ap, ◌∙◌, eq-eqb, slice_get, list_any, range_with_len, option_map_or, and_from, Pair, LineRange, Plan, Route, figures_of, IsPlan, count_of, rerouted, entry_at, exchange_back, code_back, group_back}
use Rattle.std.proofs.lemmas.Map.Keys.{any_passes_from_place}
use Rattle.tx_join.specs.declared.entries.Entries.{Entries}
use Rattle.tx_join.specs.declared.entries.Entries.TheVariants.{Exchanges, Codes, Ranges, Groups}
use Rattle.tx_join.specs.Differences.{is_range, has_range, count_of_entries, is_known, has_alone, differ_in, has_other_circuits, differ}
use Rattle.tx_join.proofs.Found.{any_find, none_at}
use Rattle.tx_join.proofs.United.{itself}

-- no index passes
pub none_below : (t : ℕ → Bool) (n : ℕ) → ((i : ℕ) → i < n → t i ≡ false) → list_any t (range_with_len 0 n) ≡ false
none_below t n h = any_find t (range_with_len 0 n) ∙ ap is_some (none_at t n h)

-- A PLAN AND ITSELF, WITH OTHER ROUTES AND BARS

module _ (p : Plan) (ok : IsPlan p) (routes : List Route) (bars : List Pair) where
  abbrev other : Plan
  other = rerouted p routes bars

  range_known : (i : ℕ) (r : LineRange) → slice_get p.ranges i ≡ Some r → has_range p (figures_of p r.code) r.low r.high ≡ true
  range_known i r e = any_passes_from_place (is_range p (figures_of p r.code) r.low r.high) p.ranges i r e
      (and_from _ _ (itself (figures_of p r.code)) (and_from _ _ (itself r.low) (itself r.high)))

  -- each entry is in both plans
  known : (entries : Entries) (i : ℕ) → i < count_of_entries entries p → is_known entries p p i ≡ true
  known Exchanges i l = (exchange_back p ok i l).there
  known Codes i l = (code_back p ok i l).there
  known Ranges i l =
      let e = entry_at p.ranges i l in
      ap (λ o. option_map_or (λ r. has_range p (figures_of p r.code) r.low r.high) o true) e.1 ∙ range_known i e.0 e.1
  known Groups i l = (group_back p ok i l).there

  none_alone : (entries : Entries) → has_alone entries p p ≡ false
  none_alone entries = none_below (λ i. not (is_known entries p p i)) (count_of_entries entries p) (λ i l. ap not (known entries i l))

  alike_in : (entries : Entries) → differ_in entries p p ≡ false
  alike_in entries = λ i. none_alone entries i || none_alone entries i

  same_in : (entries : Entries) → differ_in entries p other ≡ false
  same_in Exchanges = alike_in Exchanges
  same_in Codes = alike_in Codes
  same_in Ranges = alike_in Ranges
  same_in Groups = alike_in Groups

  same_circuits : (g : ℕ) → g < length p.groups → has_other_circuits p other g ≡ false
  same_circuits g l =
      ap (λ o. option_map_or (λ h. not (count_of p g == count_of p h)) o false) (group_back p ok g l).back
      ∙ ap not (eq-eqb (count_of p g) (count_of p g) refl)

  pub no_difference : differ p other ≡ false
  no_difference = λ i. same_in Exchanges i || (same_in Codes i || (same_in Ranges i || (same_in Groups i
      || none_below (has_other_circuits p other) (length p.groups) same_circuits i)))
