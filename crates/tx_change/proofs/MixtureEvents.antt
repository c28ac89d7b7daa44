-- The mixture of the first finding that has a walk, and its events.
use Rattle.tx_change.proofs.Common.{◌≡◌, ℕ, List, Option, Some, None, refl, sym, subst, AllByRecursion, Plan, Event, find_mem, Finding, IsTrueOf, all_among, shown_by, IsShown}
use Rattle.std.specs.Prelude.{is_some}
use Rattle.std.specs.Option.{option_map, IfSome}
use Rattle.tx_script.specs.Events.{IsWritable}
use Rattle.tx_audit.specs.Counter.{counter_of, has_counter}
use Rattle.tx_audit.specs.Breaks.{Shows}
use Rattle.tx_change.specs.MixtureShown.{has_walk, first_walked, ShowsMixture, ShowsNewPlan}

module _ {A : Type 0} (old new : Plan) (limit spare : ℕ) where
  -- the first finding that has a walk is shown, as all are
  pub walked_shown : (findings : List (Finding A)) (f : Finding A) → AllByRecursion (IsShown old new limit spare) findings → first_walked findings ≡ Some f → IsShown old new limit spare f
  walked_shown findings f all e = all_among (IsShown old new limit spare) findings f all (find_mem has_walk findings f e).0

  -- and so it is true of the mixture that is made
  pub true_there : (f : Finding A) (m : Plan) → m ≡ shown_by old new spare f → IsShown old new limit spare f → IsTrueOf m limit spare f
  true_there f m e shown = subst (λ p. IsTrueOf p limit spare f) (sym e) shown.1

  pub shows_mixture : {V : Type 0} (items : V → List Event) (f : Finding A) (m : Plan) (o : Option V) → m ≡ shown_by old new spare f → IsShown old new limit spare f
      → option_map items o ≡ counter_of m f → is_some o ≡ has_counter m f → IfSome o (λ v. Shows m limit spare f (items v)) → IfSome o (λ v. AllByRecursion (IsWritable m) (items v))
      → ShowsMixture old new limit spare f m (option_map items o)
  shows_mixture items f m None plan shown counter which shows writable = record { plan = plan; shown = shown; counter = counter; which = which; shows = shows; writable = writable }
  shows_mixture items f m (Some v) plan shown counter which shows writable = record { plan = plan; shown = shown; counter = counter; which = which; shows = shows; writable = writable }

-- THE NEW PLAN AS IT IS

module _ {A : Type 0} (new : Plan) (limit spare : ℕ) where
  -- the first finding that has a walk is true, as all are
  pub walked_true : (findings : List (Finding A)) (f : Finding A) → AllByRecursion (IsTrueOf new limit spare) findings → first_walked findings ≡ Some f → IsTrueOf new limit spare f
  walked_true findings f all e = all_among (IsTrueOf new limit spare) findings f all (find_mem has_walk findings f e).0

  pub shows_new : {V : Type 0} (items : V → List Event) (findings : List (Finding A)) (f : Finding A) (o : Option V) → first_walked findings ≡ Some f
      → option_map items o ≡ counter_of new f → is_some o ≡ has_counter new f → IfSome o (λ v. Shows new limit spare f (items v)) → IfSome o (λ v. AllByRecursion (IsWritable new) (items v))
      → ShowsNewPlan new limit spare findings new (option_map items o)
  shows_new items findings f None first counter which shows writable = record { plan = refl; finding = f; first = first; counter = counter; which = which; shows = shows; writable = writable }
  shows_new items findings f (Some v) first counter which shows writable = record { plan = refl; finding = f; first = first; counter = counter; which = which; shows = shows; writable = writable }
