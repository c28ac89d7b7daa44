-- What is marked before the entries of a plan are looked at.
use Rattle.std.specs.Prelude.{◌≡◌, ℕ, false, List, Bool, map, slice_get}
use Rattle.std.specs.Option.{option_map_or}
use Rattle.tx_plan.specs.Plan.{Plan}
use Rattle.tx_plan.specs.Routes.{is_origin}
use Rattle.tx_rank.specs.Reached.{is_marked}
use Rattle.tx_lint.specs.declared.marks.Marks.{Marks}
use Rattle.tx_lint.specs.Warnings.{Coming, TellsWhereCallsCome, is_listed}

-- where calls come, by the marks of each code
abbrev pub comes_by : List (List Bool) → Coming
comes_by marks c x = option_map_or (λ m. is_marked m x) (slice_get marks c) false

-- where calls come, by the marks
abbrev pub coming_of : {A : Type 0} → Marks A → Coming
coming_of m = comes_by (map (λ v. v.items) m.coming.items)

-- where calls may start and where they come is marked, and which groups are in a list
pub record AreMarksOf {A : Type 0} (p : Plan) (m : Marks A) : Type 0 where
  pub origins : (x : ℕ) → is_marked m.origins.items x ≡ is_origin p x
  pub coming : TellsWhereCallsCome p (coming_of m)
  pub listed : (g : ℕ) → is_marked m.listed.items g ≡ is_listed p g
