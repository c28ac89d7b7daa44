-- What the calls that read a plan take of its input.
use Rattle.tx_jobs.proofs.Common.{◌≡◌, ◌⊎◌, ℕ, zero, suc, ◌+◌, ◌-◌, Bool, true, false, List, [], ◌∷◌, ◌++◌, Option, Some, None, Result, Ok, length, take, drop, refl, sym, ap, subst, ◌∙◌, arith, inl, inr, length-append, option_map, IsAtEnd, prepend_known, drop_all, ReadFault, Seen, Blanks, PlanPart, plan_part, script_part, left_of_plan, bytes_left, as_script, plan_of, script_of, plan_rest, script_rest, PlanCall}
use Rattle.std.proofs.Math.Seq.{drop-append-add}
use Rattle.tx_text.specs.Calls.{Gave, CallsAtMost}
use Rattle.tx_text.proofs.SliceAnswers.{some_is}
use Rattle.tx_text.proofs.ReadingOn.{moves-nil, prepend_twice}
use Rattle.tx_jobs.specs.inner.Seen.{is_over, end_from}
use Rattle.tx_jobs.proofs.Cutting.{end_on, end_over, seen_cut}

module _ {R : Type 0} (rest : R → Option (List ℕ)) (failed : R → Bool) (called : ℕ → Result ℕ ReadFault → R → R → Type 0) where
  -- bytes of the plan were taken, and the script is as it was
  pub record Took (a c : PlanPart R) : Type 0 where
    pub script : script_rest rest c ≡ script_rest rest a
    pub given : List ℕ
    pub plan : plan_rest rest a ≡ prepend_known given (plan_rest rest c)
    pub gone : bytes_left rest (as_script a) ≡ prepend_known given (bytes_left rest (as_script c))

  took_none : (a c : PlanPart R) → a ≡ c → Took a c
  took_none a c e = subst (Took a) e (record { script = refl; given = []; plan = moves-nil (plan_rest rest a); gone = moves-nil (bytes_left rest (as_script a)) })

  took_on : (a b c : PlanPart R) (n : ℕ) (r : Result ℕ ReadFault) → Took a b → PlanCall rest failed called n r b c → Took a c
  took_on a b c n r t k =
      record {
        script = k.script ∙ t.script;
        given = t.given ++ k.given;
        plan = t.plan ∙ ap (prepend_known t.given) k.plan ∙ prepend_twice t.given k.given (plan_rest rest c);
        gone = t.gone ∙ ap (prepend_known t.given) k.gone ∙ prepend_twice t.given k.given (bytes_left rest (as_script c));
      }

  gave_took : (n : ℕ) (a c : PlanPart R) → Gave (PlanCall rest failed called) n a c → Took a c
  unfolding Gave
  gave_took zero a c e = took_none a c e
  gave_took (suc n) a c (b, g, (m, some, k)) = took_on a b c 4096 (Ok m) (gave_took n a b g) k

  pub calls_took : (most : ℕ) (a c : PlanPart R) → CallsAtMost (PlanCall rest failed called) most a c → Took a c
  calls_took most a c (inl (n, le, g)) = gave_took n a c g
  calls_took most a c (inr (n, lt, b, g, r, k)) = took_on a b c 4096 r (gave_took n a b g) k

-- THE CUT, before anything was read

pub whole_plan : (input : Option (List ℕ)) → plan_of Blanks (prepend_known [] input) ≡ option_map plan_part input
whole_plan None = refl
whole_plan (Some text) = ap Some (ap (λ k. take k text) (seen_cut text))

pub whole_script : (input : Option (List ℕ)) → script_of Blanks (prepend_known [] input) ≡ option_map script_part input
whole_script None = refl
whole_script (Some text) = ap Some (ap (λ k. drop k text) (seen_cut text))

-- WHAT IS LEFT OF IT

left_by : (text more given held plan left : List ℕ) → text ≡ given ++ (held ++ more) → plan ≡ given ++ left → (held ≡ []) ⊎ (left ≡ []) → left ≡ drop (length text - length more) plan
left_by text more given held plan left t p e =
    let size : length text - length more ≡ length given + length held = omega (arith, ap length t, length-append given (held ++ more), length-append held more) in
    sym (ap (λ k. drop k plan) size ∙ ap (drop (length given + length held)) p ∙ drop-append-add given left (length held) ∙ by e)
  where
    by : (held ≡ []) ⊎ (left ≡ []) → drop (length held) left ≡ left
    by (inl none) = ap (λ h. drop (length h) left) none
    by (inr none) = ap (drop (length held)) none ∙ drop_all (length held) [] (omega arith) ∙ sym none

none_of : (seen : Seen) (t : List ℕ) → is_over seen ≡ true → take (end_from seen t) t ≡ []
none_of seen t h = ap (λ k. take k t) (end_over seen t h)

-- of the whole input these bytes were taken of the plan, and these are held
pub plan_left : (seen : Seen) (held given : List ℕ) (old now : Option (List ℕ)) → option_map plan_part old ≡ prepend_known given (plan_of seen (prepend_known held now)) → old ≡ prepend_known given (prepend_known held now)
    → (is_over seen ≡ false → held ≡ []) → plan_of seen (prepend_known held now) ≡ left_of_plan old now
plan_left seen held given None None p t e = refl
plan_left seen held given None (Some more) p t e = let bad : ⊥ = cc in absurd bad
plan_left seen held given (Some text) None p t e = let bad : ⊥ = cc in absurd bad
plan_left seen held given (Some text) (Some more) p t e =
    let left = take (end_from seen (held ++ more)) (held ++ more) in
    ap Some (left_by text more given held (plan_part text) left (some_is text (given ++ (held ++ more)) t) (some_is (plan_part text) (given ++ left) p) (by (is_over seen) refl))
  where
    by : (x : Bool) → is_over seen ≡ x → (held ≡ []) ⊎ (take (end_from seen (held ++ more)) (held ++ more) ≡ [])
    by false h = inl (e h)
    by true h = inr (none_of seen (held ++ more) h)

pub over_ended : (seen : Seen) (left : Option (List ℕ)) → is_over seen ≡ true → IsAtEnd (plan_of seen left)
over_ended seen None h = tt
over_ended seen (Some t) h = none_of seen t h

-- Where nothing is left of the plan, all that is left stands after it.
pub all_script : (seen : Seen) (left : Option (List ℕ)) → IsAtEnd (plan_of seen left) → left ≡ script_of seen left
all_script seen None h = refl
all_script seen (Some t) h = ap Some (by t (is_over seen) refl h)
  where
    by : (t : List ℕ) (x : Bool) → is_over seen ≡ x → take (end_from seen t) t ≡ [] → t ≡ drop (end_from seen t) t
    by t true o h = sym (ap (λ k. drop k t) (end_over seen t o))
    by [] false o h = sym (drop_all (end_from seen []) [] (omega arith))
    by (b ∷ bs) false o h = let some = end_on seen b bs o in let bad : ⊥ = nonempty b bs (end_from seen (b ∷ bs)) _ some h in absurd bad
      where
        nonempty : (b : ℕ) (bs : List ℕ) (k m : ℕ) → k ≡ suc m → take k (b ∷ bs) ≡ [] → ⊥
        nonempty b bs k m e h = let g : take (suc m) (b ∷ bs) ≡ [] = subst (λ j. take j (b ∷ bs) ≡ []) e h in cc
