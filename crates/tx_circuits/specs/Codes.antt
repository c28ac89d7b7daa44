-- How the values that contracts see are stored.
use Rattle.std.specs.Prelude.{◌≡◌, ℕ, Bool, if◌then◌else◌, List, refl}
use Rattle.std.specs.Coded.{Coded, code_by, coded×, coded_bool, coded_ℕ, coded_list}
use Rattle.tx_plan.specs.Circuits.{is_both}
use Rattle.tx_plan.specs.declared.ids.Direction.{Direction}
use Rattle.tx_plan.specs.declared.ids.Direction.TheVariants.{OneWay, BothWay}
use Rattle.tx_plan.specs.Plan.{Group}

-- a direction is given back by whether it is both ways
abbrev pub both_is : (d : Direction) → (if is_both d then BothWay else OneWay) ≡ d
both_is OneWay = refl
both_is BothWay = refl

-- a group is stored as its fields
abbrev pub group_code : Coded Group
group_code = code_by (List ℕ × (ℕ × (ℕ × (Bool × ℕ)))) (coded×
    (coded_list coded_ℕ) (coded× coded_ℕ (coded× coded_ℕ (coded× coded_bool coded_ℕ)))) (λ g.
    (g.name, (g.a, (g.b, (is_both g.direction, g.count))))) (λ p. record {
      name = p.0;
      a = p.1.0;
      b = p.1.1.0;
      direction = if p.1.1.1.0 then BothWay else OneWay;
      count = p.1.1.1.1;
    }) (λ g i.
    record { name = g.name; a = g.a; b = g.b; direction = both_is g.direction i; count = g.count })
