-- Answers that say less of why a text could not be read to its end, and of what was left unread.
use Rattle.tx_jobs.proofs.Common.{◌≡◌, ℕ, Bool, true, false, List, Result, Err, inl, inr, FaultKind, Frame, Word, Input, Output, Plan, PlanWord, opening, Summary, from_opening, JobFault, ScriptRan}
use Rattle.tx_text.specs.declared.frame.FrameFault.{FrameFault}
use Rattle.tx_text.specs.Told.{Ending}
use Rattle.tx_text.specs.Said.{is_no_room, StoppedBy}
use Rattle.tx_text.proofs.CallCounts.{stopped_by_with}
use Rattle.tx_plantext.specs.PlanText.{plan_of, ReadsPlan}
use Rattle.tx_script.proofs.Retold.{run_as}

module _ (text : Input) (D V : Type 0) (f : text.broken → D) (g : text.unread → V) where
  unread_with : {S W : Type 0} (F : Ending → List ℕ → Result S (ℕ × FaultKind W)) (b : Bool) (n : ℕ) (k : FrameFault)
      → StoppedBy text.old text.new F text.broken text.unread b n k → StoppedBy text.old text.new F text.broken V b n k
  unread_with F true n k h = (h.0, g h.1)
  unread_with F false n k h = h

  pub refused_with : (n : ℕ) (k : FaultKind PlanWord)
      → ReadsPlan text (Err (n, k)) → ReadsPlan (record text { broken = D; unread = V }) (Err (n, k))
  refused_with n (Frame k) h = stopped_by_with text.old text.new plan_of text.broken D V (is_no_room k) n k f (unread_with plan_of (is_no_room k) n k h)
  refused_with n (Word w) h = h

  -- the same of a run over the engine, whose script is the text
  pub simulated_with : (p : Plan) (out : Output) (result : Result Summary JobFault)
      → ScriptRan p text out result → ScriptRan p (record text { broken = D; unread = V }) out result
  simulated_with p out result (inl h) =
      let s = h.ran.state in
      let ran = run_as p text (from_opening s) out D V (s ≡ opening 0 0) f g (λ u. u) h.answer h.ran.ran in
      inl (record { answer = h.answer; ran = record { state = s; ran = ran }; told = h.told })
  simulated_with p out result (inr h) = inr (h.0, g h.1, h.2)
