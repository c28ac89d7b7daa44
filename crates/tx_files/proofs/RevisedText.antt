-- The text of a plan that was made.
use Rattle.tx_files.proofs.Common.{ℕ, List, refl, inl, inr, Plan, IsPlan}
use Rattle.tx_plantext.specs.PlanWritten.{plan_written}
use Rattle.tx_plantext.proofs.Written.{plan_back}
use Rattle.tx_plantext.specs.Revised.{IsRevised}
use Rattle.tx_files.specs.Made.{IsTextOfMade}

-- a text that was revised
pub revised_text : (text : List ℕ) (made : Plan) (found : List ℕ) → IsRevised text made found → IsTextOfMade text made found
revised_text text made found h = record { says = h.says; kept = inl h.same_lines }

-- a plan as it is written
pub written_text : (text : List ℕ) (made : Plan) → IsPlan made → IsTextOfMade text made (plan_written made)
written_text text made h = record {
  says = record {
    plan = made;
    read = plan_back made h;
    rules = h;
    network = record { exchanges = refl; codes = refl; ranges = refl; groups = refl };
    lists = λ x c. refl;
    bars = λ x c. refl;
  };
  kept = inr refl;
}
