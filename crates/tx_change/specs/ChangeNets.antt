-- What calls may meet while a plan is changed into another one of the same network, list by list,
-- and what may be wrong with the change.
use Rattle.std.specs.Prelude.{◌≡◌, ℕ, ◌<◌, ◌||◌, ◌++◌, length, min, Some}
use Rattle.tx_plan.specs.Plan.{Plan, home_of}
use Rattle.tx_plan.specs.Routes.{route_list, is_origin_for}
use Rattle.tx_plan.specs.Circuits.{other_end}
use Rattle.tx_plan.specs.Ambiguous.{ambiguous_of}
use Rattle.tx_rank.specs.declared.finding.Finding.{Finding}
use Rattle.tx_rank.specs.declared.finding.Finding.TheVariants.{Ambiguous, Loop, Short, Long}
use Rattle.tx_rank.specs.Walks.{Net, IsLoop, IsShort, IsLong}

-- The network as calls for the code c may see it meanwhile: each exchange has its old list or its
-- new one, and calls may start where the old plan or the new one lets them. It tries no fewer
-- groups than the shorter list has.
abbrev pub change_net : (old new : Plan) → ℕ → Net
change_net old new c = record {
  exchanges = length old.exchanges;
  home = home_of old c;
  list = λ x. route_list old x c ++ route_list new x c;
  fewest = λ x. min (length (route_list old x c)) (length (route_list new x c));
  far = λ g x. other_end old g x;
  is_origin = λ x. is_origin_for old x c || is_origin_for new x c;
}

-- A finding is true of a change: as of a plan, for walks each of whose steps is by a group of the
-- old list or of the new one, where an exchange is short if one of both lists is.
abbrev pub IsTrueOfChange : {A : Type 0} → (old new : Plan) → (limit spare : ℕ) → Finding A → Type 0
IsTrueOfChange old new limit spare (Ambiguous a b) = ambiguous_of old.codes ≡ Some (a, b)
IsTrueOfChange old new limit spare (Loop c w) = (c < length old.codes)
    × IsLoop (change_net old new c) w.start w.steps
IsTrueOfChange old new limit spare (Short c w) = (c < length old.codes)
    × IsShort (change_net old new c) spare w.start w.steps
IsTrueOfChange old new limit spare (Long c w) = (c < length old.codes)
    × IsLong (change_net old new c) limit w.start w.steps
