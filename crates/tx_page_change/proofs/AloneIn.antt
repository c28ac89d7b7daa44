-- The lists and bars of a plan whose exchange or code another plan does not have.
use Rattle.std.proofs.Common.{◌≡◌, ℕ, Bool, true, false, not, ◌&&◌, ◌==◌, List, [], Option, refl, sym, ap, ◌∙◌, eqb-true}
use Rattle.std.specs.Prelude.{filter}
use Rattle.std.specs.Option.{option_map_or}
use Rattle.std.proofs.lemmas.Bool.{and_parts, false_from_ne_true, true≢false}
use Rattle.tx_plan.specs.declared.ids.Pair.{Pair}
use Rattle.tx_plan.specs.Plan.{Plan, Route}
use Rattle.tx_plan.specs.Routes.{route_list, is_barred}
use Rattle.tx_plan.proofs.Filtered.{find_in, any_in, any_out, all_pass}
use Rattle.tx_plan.proofs.Lists.{all_map}
use Rattle.tx_join.specs.Joined.{has_both}
use Rattle.tx_join.proofs.Found.{find_fails}
use Rattle.tx_page_change.specs.StepTexts.{alone_in}

module _ (p q : Plan) (x c : ℕ) where
  alike : (y d : ℕ) → ((y == x) && (d == c)) ≡ true → has_both q p y d ≡ has_both q p x c
  alike y d e = let t = and_parts (y == x) (d == c) e in λ i. has_both q p (eqb-true y x t.0 i) (eqb-true d c t.1 i)

  abbrev groups_of : Option Route → List ℕ
  groups_of o = option_map_or (λ r. r.groups) o []

  abbrev is_route : Route → Bool
  is_route r = (r.exchange == x) && (r.code == c)

  abbrev route_alone : Route → Bool
  route_alone r = not (has_both q p r.exchange r.code)

  pub list_there : has_both q p x c ≡ false → route_list (alone_in p q) x c ≡ route_list p x c
  list_there h = ap groups_of (find_in is_route route_alone (λ r e. ap not (alike r.exchange r.code e ∙ h)) p.routes)

  pub no_list : has_both q p x c ≡ true → route_list (alone_in p q) x c ≡ []
  no_list h = ap groups_of (find_fails is_route (filter route_alone p.routes) (all_map (filter route_alone p.routes) (λ r k. false_from_ne_true (is_route r) (λ e. true≢false (sym k ∙ ap not (alike r.exchange r.code e ∙ h)))) (all_pass route_alone p.routes)))

  abbrev is_bar : Pair → Bool
  is_bar b = (b.exchange == x) && (b.code == c)

  abbrev bar_alone : Pair → Bool
  bar_alone b = not (has_both q p b.exchange b.code)

  -- a bar is there where the other plan does not have both, and the plan has it
  pub bar_there : is_barred (alone_in p q) x c ≡ (not (has_both q p x c) && is_barred p x c)
  bar_there = by (has_both q p x c) refl
    where
      by : (b : Bool) → has_both q p x c ≡ b → is_barred (alone_in p q) x c ≡ (not b && is_barred p x c)
      by true h = any_out is_bar bar_alone (λ b e. ap not (alike b.exchange b.code e ∙ h)) p.bars
      by false h = any_in is_bar bar_alone (λ b e. ap not (alike b.exchange b.code e ∙ h)) p.bars
