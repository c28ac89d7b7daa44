-- What the program without words answers: one input of two texts, a plan and then a script.
use Rattle.std.specs.Prelude.{◌≡◌, ◌⊎◌, ℕ, ◌-◌, Bool, true, List, [], ◌∷◌, Option, Result, option_map}
use Rattle.std.specs.Io.KnownBytes.{prepend_known}
use Rattle.tx_text.specs.declared.source.ReadFault.{ReadFault}
use Rattle.tx_text.specs.Calls.{Gave, CallsAtMost, source_calls}
use Rattle.tx_jobs.specs.Parts.{plan_part, script_part, left_of_plan}
use Rattle.tx_script.specs.declared.summary.Summary.{Summary}
use Rattle.tx_jobs.specs.declared.job_fault.JobFault.{JobFault}
use Rattle.tx_text.specs.Ends.{Input, Output, input}
use Rattle.tx_jobs.specs.Jobs.{PlanRead, PlanRefused, ScriptRan}

-- the plan of an input, as an input of its own
abbrev pub plan_in : Input → Input
plan_in whole = record {
  old = option_map plan_part whole.old;
  new = left_of_plan whole.old whole.new;
  broken = whole.broken;
  unread = whole.unread;
}

-- How many calls of the input so many calls for its script are, where each gave bytes: one fewer
-- where these bytes of the script were read with the plan.
abbrev pub calls_behind : List ℕ → ℕ → ℕ
calls_behind [] n = n
calls_behind (b ∷ read) n = n - 1

module _ {R : Type 0} (rest : R → Option (List ℕ)) (failed : R
    → Bool) (called : ℕ → Result ℕ ReadFault → R → R → Type 0) where
  -- Its script as an input of its own. The plan was read from old to mid, and these bytes of the
  -- script with it, of which these are left.
  abbrev pub script_in : (old mid new : R) → (read left : List ℕ) → Input
  script_in old mid new read left = record {
    old = option_map script_part (rest old);
    new = prepend_known left (rest new);
    broken = (failed new ≡ true)
        ⊎ Gave called (calls_behind read source_calls) mid new;
    unread = new ≡ mid;
  }

  -- The plan was read from old to mid, and then the script, which is what was read with the plan
  -- and what the input had yet.
  pub record PipeRan (old new : R) (out : Output) (result : Result Summary JobFault) : Type 0 where
    pub mid : R
    pub read : List ℕ
    pub left : List ℕ
    pub script : prepend_known read (rest mid) ≡ option_map script_part (rest old)
    pub given : (left ≡ []) ⊎ (new ≡ mid)
    pub plan_calls : CallsAtMost called source_calls old mid
    pub script_calls : CallsAtMost called source_calls mid new
    pub answers : PlanRead (plan_in (input rest failed called old mid))
        (λ p. ScriptRan p (script_in old mid new read left) out result)

  -- The plan was refused, and nothing was written.
  pub record PipeRefused (old new : R) (out : Output)
      (result : Result Summary JobFault) : Type 0 where
    pub calls : CallsAtMost called source_calls old new
    pub answers : PlanRefused (plan_in (input rest failed called old new)) out.silent result

  -- the program without words: the script was run, or the plan was refused
  abbrev pub PipeJobAnswers : (old new : R) → Output → Result Summary JobFault → Type 0
  PipeJobAnswers old new out result = PipeRan old new out result ⊎ PipeRefused old new out result
