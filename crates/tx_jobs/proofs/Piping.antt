-- How an input of two texts was read, part by part.
use Rattle.tx_jobs.proofs.Common.{◌≡◌, ◌⊎◌, ◌∙◌, ℕ, Bool, true, false, List, [], ◌∷◌, Option, Result, Err, refl, sym, ap, subst, inl, inr, option_map, prepend_known, false≢true, ReadFault, FaultAt, Plan, PlanWord, Blanks, PlanPart, ScriptPart, plan_part, script_part, left_of_plan, is_over, moves-nil, Summary, JobFault, plan_fault, Output, input, ScriptRan}
use Rattle.tx_text.specs.Calls.{Gave, CallsAtMost, Broken, source_calls}
use Rattle.tx_plan.specs.Rules.{IsPlan}
use Rattle.tx_plantext.specs.PlanText.{SaysPlan, ReadsPlan}
use Rattle.tx_jobs.specs.inner.Reading.{bytes_left, as_script, plan_of, script_of, plan_rest, script_rest, PartCall, PlanCall, ScriptCall}
use Rattle.tx_jobs.proofs.PartCalls as calls
use Rattle.tx_jobs.proofs.PlanCalls.{Took, calls_took, whole_plan, whole_script, plan_left, all_script}
use Rattle.tx_jobs.specs.PipeJobs.{calls_behind, PipeRan, PipeRefused}
use Rattle.tx_jobs.proofs.Breaking.{refused_with, simulated_with}

pub subst2 : {X Y : Type 0} (P : X → Y → Type 0) {a b : X} {c d : Y} → a ≡ b → c ≡ d → P a c → P b d
subst2 P {a = a} {d = d} e f h = subst (λ x. P x d) e (subst (P a) f h)

module _ {R : Type 0} (rest : R → Option (List ℕ)) (failed : R → Bool) (called : ℕ → Result ℕ ReadFault → R → R → Type 0) where
  abbrev pub taken_from : PlanPart R → ScriptPart R
  taken_from p = as_script p

  abbrev pub over_of : PlanPart R → Bool
  over_of p = is_over p.seen

  abbrev pub itself : ScriptPart R → ScriptPart R
  itself s = s

  abbrev pub never : ScriptPart R → Bool
  never s = false

  pub of_plan : (n : ℕ) (r : Result ℕ ReadFault) (a b : PlanPart R) → PlanCall rest failed called n r a b → PartCall rest failed called (over_of a) (over_of b) n r (taken_from a) (taken_from b)
  of_plan n r a b k = k.part

  pub of_script : (n : ℕ) (r : Result ℕ ReadFault) (a b : ScriptPart R) → ScriptCall rest failed called n r a b → PartCall rest failed called (never a) (never b) n r (itself a) (itself b)
  of_script n r a b k = k

  pub plan_same : (most : ℕ) (a c : PlanPart R) → CallsAtMost (PlanCall rest failed called) most a c → calls.Same rest failed called taken_from over_of (PlanCall rest failed called) of_plan a c
  plan_same = calls.calls_same rest failed called taken_from over_of (PlanCall rest failed called) of_plan

  pub script_same : (most : ℕ) (a c : ScriptPart R) → CallsAtMost (ScriptCall rest failed called) most a c → calls.Same rest failed called itself never (ScriptCall rest failed called) of_script a c
  script_same = calls.calls_same rest failed called itself never (ScriptCall rest failed called) of_script

  -- A plan that was not begun was read from a to c.
  module _ (a c : PlanPart R) (none : a.ahead.now.held ≡ []) (sound : a.ahead.now.failed ≡ false) (blank : a.seen ≡ Blanks) (k : CallsAtMost (PlanCall rest failed called) source_calls a c) where
    abbrev pub old : R
    old = a.input.now

    abbrev pub mid : R
    mid = c.input.now

    took : Took rest failed called a c
    took = calls_took rest failed called source_calls a c k

    unmarked : a.ahead.now.failed ≡ true → failed old ≡ true
    unmarked bad = absurd (false≢true (sym sound ∙ bad))

    whole : bytes_left rest (as_script a) ≡ rest old
    whole = ap (λ h. prepend_known h (rest old)) none ∙ sym (moves-nil (rest old))

    plan_is : plan_rest rest a ≡ option_map plan_part (rest old)
    plan_is = (λ i. plan_of (blank i) (prepend_known (none i) (rest old))) ∙ whole_plan (rest old)

    script_is : script_rest rest c ≡ option_map script_part (rest old)
    script_is = took.script ∙ (λ i. script_of (blank i) (prepend_known (none i) (rest old))) ∙ whole_script (rest old)

    plan_new : plan_rest rest c ≡ left_of_plan (rest old) (rest mid)
    plan_new =
        plan_left c.seen c.ahead.now.held took.given (rest old) (rest mid) (sym plan_is ∙ took.plan) (sym whole ∙ took.gone)
        (calls.calls_emptied rest failed called taken_from over_of (PlanCall rest failed called) of_plan source_calls a c none k)

    plan_calls : CallsAtMost called source_calls old mid
    plan_calls = calls.calls_input rest failed called taken_from over_of (PlanCall rest failed called) of_plan source_calls a c k

    marked : c.ahead.now.failed ≡ true → failed mid ≡ true
    marked = calls.input_failed rest failed called taken_from over_of (PlanCall rest failed called) of_plan source_calls a c k unmarked

    plan_broken : Broken (PlanCall rest failed called) c.ahead.now.failed source_calls a c → Broken called (failed mid) source_calls old mid
    plan_broken (inl bad) = inl (marked bad)
    plan_broken (inr g) = inr (calls.gave_empty rest failed called taken_from over_of (PlanCall rest failed called) of_plan source_calls a c none g).0

    -- It was refused.
    pub refused : (out : Output) (told : JobFault) (f : FaultAt PlanWord)
        → ReadsPlan (input (plan_rest rest) (λ p. p.ahead.now.failed) (PlanCall rest failed called) a c) (Err (f.line, f.kind))
        → told ≡ plan_fault f → out.silent → PipeRefused rest failed called old mid out (Err told)
    refused out told f h by silent =
        record {
          calls = plan_calls;
          answers =
              record {
                fault = f;
                read =
                    subst2
                    (λ x y. ReadsPlan (record { old = x; new = y; broken = Broken called (failed mid) source_calls old mid; unread = mid ≡ old }) (Err (f.line, f.kind)))
                    plan_is plan_new
                    (refused_with (input (plan_rest rest) (λ p. p.ahead.now.failed) (PlanCall rest failed called) a c) _ _ plan_broken (λ e. ap (λ (p : PlanPart R). p.input.now) e) f.line f.kind h);
                told = ap Err by;
                rest = silent;
              };
        }

    -- It was read, and then the script after it, from b to e: b is lent what the plan left.
    module _ (b e : ScriptPart R) (same : b.input.now ≡ mid) (kept : b.ahead.now ≡ c.ahead.now) (s : CallsAtMost (ScriptCall rest failed called) source_calls b e) where
      abbrev pub from : R
      from = b.input.now

      abbrev pub new : R
      new = e.input.now

      script_marked : b.ahead.now.failed ≡ true → failed from ≡ true
      script_marked bad = ap failed same ∙ marked (ap (λ t. t.failed) (sym kept) ∙ bad)

      script_broken : Broken (ScriptCall rest failed called) e.ahead.now.failed source_calls b e → (failed new ≡ true) ⊎ Gave called (calls_behind b.ahead.now.held source_calls) from new
      script_broken (inl bad) = inl (calls.input_failed rest failed called itself never (ScriptCall rest failed called) of_script source_calls b e s script_marked bad)
      script_broken (inr g) = inr (by b.ahead.now.held refl)
        where
          by : (held : List ℕ) → b.ahead.now.held ≡ held → Gave called (calls_behind held source_calls) from new
          by [] h = (calls.gave_empty rest failed called itself never (ScriptCall rest failed called) of_script source_calls b e h g).0
          by (x ∷ held) h = (calls.gave_held rest failed called itself never (ScriptCall rest failed called) of_script 4294967294 x held b e h g).0

      given : (e.ahead.now.held ≡ []) ⊎ (new ≡ from)
      given = by (calls.calls_given rest failed called itself never (ScriptCall rest failed called) of_script source_calls b e s)
        where
          by : (false ≡ false → e.ahead.now.held ≡ []) ⊎ (new ≡ from) → (e.ahead.now.held ≡ []) ⊎ (new ≡ from)
          by (inl h) = inl (h refl)
          by (inr h) = inr h

      lent : bytes_left rest b ≡ bytes_left rest (as_script c)
      lent i = prepend_known (kept i).held (rest (same i))

      pub ran : (p : Plan) → IsPlan p → (out : Output) (result : Result Summary JobFault)
          → SaysPlan (input (plan_rest rest) (λ t. t.ahead.now.failed) (PlanCall rest failed called) a c) p
          → ScriptRan p (input (bytes_left rest) (λ t. t.ahead.now.failed) (ScriptCall rest failed called) b e) out result → PipeRan rest failed called old new out result
      ran p rules out result says h =
          let script : bytes_left rest b ≡ option_map script_part (rest old) = lent ∙ all_script c.seen (bytes_left rest (as_script c)) says.1 ∙ script_is in
          let told = simulated_with (input (bytes_left rest) (λ t. t.ahead.now.failed) (ScriptCall rest failed called) b e) _ _ script_broken (λ same. ap (λ (t : ScriptPart R). t.input.now) same) p out result h in
          record {
            mid = from;
            read = b.ahead.now.held;
            left = e.ahead.now.held;
            script = script;
            given = given;
            plan_calls = subst (CallsAtMost called source_calls old) (sym same) plan_calls;
            script_calls = calls.calls_input rest failed called itself never (ScriptCall rest failed called) of_script source_calls b e s;
            answers =
                record {
                  plan = p;
                  rules = rules;
                  read =
                      subst2
                      (λ x y. SaysPlan (record { old = x; new = y; broken = Broken called (failed from) source_calls old from; unread = from ≡ old }) p)
                      plan_is (plan_new ∙ ap (λ m. left_of_plan (rest old) (rest m)) (sym same)) says;
                  goes_on =
                      subst
                      (λ x. ScriptRan p (record { old = x; new = bytes_left rest e; broken = (failed new ≡ true) ⊎ Gave called (calls_behind b.ahead.now.held source_calls) from new; unread = new ≡ from }) out result)
                      script told;
                };
          }
