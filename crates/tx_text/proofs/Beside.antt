-- A text whose lines speak of something that stays as it is.
use Rattle.tx_text.proofs.Common.{◌≡◌, ℕ, ◌==◌, ◌||◌, Bool, true, false, List, Option, Result, Ok, Err, refl, sym, ap, ◌∙◌, FrameFault, FaultKind, Frame, Word, Ending, AtEnd, Framed, Done, Stop, Headed, Has, is_read}
use Rattle.std.specs.Result.{is_ok, result_map_both}
use Rattle.tx_text.specs.Said.{said, step_on, goes_on, declares_at, lines_within, text_said, line_declares, WantingAt, is_no_room, DeclaredBy, Declared, RefusedBy, StoppedBy, Answered, FaultsBy, AnswersAs}
use Rattle.tx_text.specs.inner.Beside.{beside, without}
use Rattle.tx_text.proofs.Framing.{on_says, on_then, end_then, map_end, stands_map, stopped_map}

ok_is : {A E : Type 0} {a b : A} → ◌≡◌ {A = Result A E} (Ok a) (Ok b) → a ≡ b
ok_is e = cc

no_ok : {A E : Type 0} {a : A} {x : E} → ◌≡◌ {A = Result A E} (Err x) (Ok a) → ⊥
no_ok e = cc

module _ {C S W : Type 0} (declare : C → ℕ → S → List (List ℕ) → Result S W) (c : C) where
  -- an answer with what stays as it is
  abbrev with_it : {E : Type 0} → Result S E → Result (C × S) E
  with_it r = result_map_both (λ s. (c, s)) (λ x. x) r

  -- the same without it
  abbrev alone : Result (C × S) (ℕ × FaultKind W) → Result S (ℕ × FaultKind W)
  alone r = without r

  step_beside : (n v : ℕ) (t : Framed) → ((r : S) → said (beside declare) v (c, r) t ≡ with_it (said (declare c) v r t)) → (o : Result S W)
      → step_on (beside declare) n (with_it o) (λ r. said (beside declare) v r t) ≡ with_it (step_on (declare c) n o (λ r. said (declare c) v r t))
  step_beside n v t h (Ok r) = h r
  step_beside n v t h (Err x) = refl

  said_beside : (v : ℕ) (s : S) (t : Framed) → said (beside declare) v (c, s) t ≡ with_it (said (declare c) v s t)
  unfolding said
  said_beside v s Done = refl
  said_beside v s (Stop n x) = refl
  said_beside v s (Headed w t) = said_beside w s t
  said_beside v s (Has n ws t) = step_beside n v t (λ r. said_beside v r t) (declare c v s ws)

  goes_beside : (m n v : ℕ) (t : Framed) → ((r : S) → declares_at (beside declare) n v (c, r) t ≡ declares_at (declare c) n v r t) → (o : Result S W)
      → goes_on (beside declare) (with_it o) (λ r. (m == n) || declares_at (beside declare) n v r t) ≡ goes_on (declare c) o (λ r. (m == n) || declares_at (declare c) n v r t)
  goes_beside m n v t h (Ok r) = ap (λ b. (m == n) || b) (h r)
  goes_beside m n v t h (Err x) = refl

  declares_beside : (n v : ℕ) (s : S) (t : Framed) → declares_at (beside declare) n v (c, s) t ≡ declares_at (declare c) n v s t
  unfolding declares_at
  declares_beside n v s Done = refl
  declares_beside n v s (Stop m x) = refl
  declares_beside n v s (Headed w t) = declares_beside n w s t
  declares_beside n v s (Has m ws t) = goes_beside m n v t (λ r. declares_beside n v r t) (declare c v s ws)

  without_it : (r : Result S (ℕ × FaultKind W)) → alone (with_it r) ≡ r
  without_it (Ok s) = refl
  without_it (Err x) = refl

  is_ok_with_it : {E : Type 0} (r : Result S E) → is_ok r ≡ true → is_ok (with_it r) ≡ true
  is_ok_with_it (Ok s) h = h
  is_ok_with_it (Err x) h = cc

  -- what declaring did, where the state has it beside it
  pub declared_beside : {U : Type 0} (memory : W → Bool) (v : ℕ) (s new : S) (ws : List (List ℕ)) (r : Result U W) → Declared memory (declare c v s ws) new r → Declared memory (beside declare v (c, s) ws) (c, new) r
  declared_beside memory v s new ws (Ok x) h = ap with_it h
  declared_beside memory v s new ws (Err x) h = by (memory x) h
    where
      by : (b : Bool) → DeclaredBy (declare c v s ws) b x → DeclaredBy (beside declare v (c, s) ws) b x
      by true h = is_ok_with_it (declare c v s ws) h
      by false h = ap with_it h

  module _ (key : List ℕ) (most : ℕ) (start : S) where
    back : (e : Ending) (text : List ℕ) → text_said (declare c) key most start e text ≡ alone (text_said (beside declare) key most (c, start) e text)
    back e text = sym (ap alone (said_beside 1 start (lines_within key most e text)) ∙ without_it (text_said (declare c) key most start e text))

    kept_by : (s : C × S) (o : Result S (ℕ × FaultKind W)) → with_it o ≡ Ok s → s.0 ≡ c
    kept_by s (Ok r) h = ap (λ (x : C × S). x.0) (sym (ok_is h))
    kept_by s (Err x) h = absurd (no_ok h)

    -- what stays as it is is still there
    pub kept_beside : (e : Ending) (text : List ℕ) (s : C × S) → text_said (beside declare) key most (c, start) e text ≡ Ok s → s.0 ≡ c
    kept_beside e text s h = kept_by s (text_said (declare c) key most start e text) (sym (said_beside 1 start (lines_within key most e text)) ∙ h)

    pub declares_as : (n : ℕ) (e : Ending) (text : List ℕ) → line_declares (declare c) key most start n e text ≡ line_declares (beside declare) key most (c, start) n e text
    declares_as n e text = sym (declares_beside n 1 start (lines_within key most e text))

    module _ (memory : W → Bool) (old new : Option (List ℕ)) (broken untouched : Type 0) where
      stopped : (b : Bool) (n : ℕ) (k : FrameFault) → StoppedBy old new (text_said (beside declare) key most (c, start)) broken untouched b n k → StoppedBy old new (text_said (declare c) key most start) broken untouched b n k
      stopped true n k h = h
      stopped false n k h = stopped_map old old new (text_said (declare c) key most start) (text_said (beside declare) key most (c, start)) (Err (n, Frame k)) alone broken (is_read k) (on_says old back) h

      refused : (b : Bool) (n : ℕ) (x : W) → RefusedBy old new (text_said (beside declare) key most (c, start)) (WantingAt (beside declare) key most (c, start) old new) b n x
          → RefusedBy old new (text_said (declare c) key most start) (WantingAt (declare c) key most start old new) b n x
      refused true n x h = on_then (on_says old (declares_as n)) h
      refused false n x h = stands_map old old new (text_said (declare c) key most start) (text_said (beside declare) key most (c, start)) (Err (n, Word x)) alone (on_says old back) h

      -- a reader's answer, without what stays as it is
      pub answered_beside : (r : Result (C × S) (ℕ × FaultKind W)) → Answered memory old new (text_said (beside declare) key most (c, start)) broken untouched (WantingAt (beside declare) key most (c, start) old new) r
          → Answered memory old new (text_said (declare c) key most start) broken untouched (WantingAt (declare c) key most start old new) (without r)
      answered_beside (Ok s) a = (end_then (on_says old back) (map_end alone a.0), a.1)
      answered_beside (Err (n, Frame k)) a = stopped (is_no_room k) n k a
      answered_beside (Err (n, Word x)) a = refused (memory x) n x a

    module _ (memory : W → Bool) (text : List ℕ) where
      faulty : (b : Bool) (n : ℕ) (k : FaultKind W) (want wanted : Type 0) → (want → wanted) → FaultsBy (text_said (beside declare) key most (c, start) AtEnd text) want b n k → FaultsBy (text_said (declare c) key most start AtEnd text) wanted b n k
      faulty true n k want wanted f h = f h
      faulty false n k want wanted f h = back AtEnd text ∙ ap alone h

      -- the same for a text in memory
      pub answers_beside : (r : Result (C × S) (ℕ × FaultKind W)) → AnswersAs memory (text_said (beside declare) key most (c, start) AtEnd text) (λ n. line_declares (beside declare) key most (c, start) n AtEnd text ≡ true) r
          → AnswersAs memory (text_said (declare c) key most start AtEnd text) (λ n. line_declares (declare c) key most start n AtEnd text ≡ true) (without r)
      answers_beside (Ok s) a = back AtEnd text ∙ ap alone a
      answers_beside (Err (n, Frame k)) a = faulty (is_no_room k) n (Frame k) (n ≡ 1) (n ≡ 1) (λ h. h) a
      answers_beside (Err (n, Word x)) a = faulty (memory x) n (Word x) (line_declares (beside declare) key most (c, start) n AtEnd text ≡ true) (line_declares (declare c) key most start n AtEnd text ≡ true) (λ h. declares_as n AtEnd text ∙ h) a
