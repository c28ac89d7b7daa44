-- Readers of framed texts: one line after another.
use Rattle.tx_text.proofs.Common.{◌≡◌, ℕ, List, [], Option, Result, Ok, Err, Bool, true, false, refl, ap, inl, is_ok, FrameFault, FaultKind, Frame, Word, Ending, AtEnd, Framed, Done, Stop, Headed, Has, ReadsOn, EndsAs, Stopped, is_read}
use Rattle.tx_text.specs.Said.{said, step_on, DeclaredBy, RefusedBy, StoppedBy, is_no_room}
use Rattle.tx_text.proofs.ReadingOn.{moves-nil}
use Rattle.tx_text.proofs.NoRoom.{IsSaid, none_stops}
use Rattle.tx_text.proofs.Framing.{on_then, end_then, map_on, map_end, stopped_map}

module _ {S W : Type 0} (declare : ℕ → S → List (List ℕ) → Result S W) where
  abbrev Says : Type 0
  Says = Ending → List ℕ → Result S (ℕ × FaultKind W)

  -- the header came
  pub headed_on : (a b c : Option (List ℕ)) (F : Says) (T U : Ending → List ℕ → Framed) (v w : ℕ) (s : S)
      → ReadsOn a b F (λ e more. said declare v s (T e more)) → ReadsOn b c T (λ e more. Headed w (U e more))
      → ReadsOn a c F (λ e more. said declare w s (U e more))
  unfolding said
  headed_on a b c F T U v w s p q = on_then p (map_on (said declare v s) q)

  -- a line was declared
  pub declared_on : (a b c : Option (List ℕ)) (F : Says) (T U : Ending → List ℕ → Framed) (v : ℕ) (s r : S) (n : ℕ) (ws : List (List ℕ))
      → ReadsOn a b F (λ e more. said declare v s (T e more)) → ReadsOn b c T (λ e more. Has n ws (U e more)) → declare v s ws ≡ Ok r
      → ReadsOn a c F (λ e more. said declare v r (U e more))
  unfolding said
  declared_on a b c F T U v s r n ws p q h = on_then p (on_then (map_on (said declare v s) q) (record { read = []; moves = moves-nil c; gives = λ e more. ap (λ o. step_on declare n o (λ z. said declare v z (U e more))) h }))

  -- a line was refused
  refused_on : (a b c : Option (List ℕ)) (F : Says) (T U : Ending → List ℕ → Framed) (v : ℕ) (s : S) (x : W) (n : ℕ) (ws : List (List ℕ))
      → ReadsOn a b F (λ e more. said declare v s (T e more)) → ReadsOn b c T (λ e more. Has n ws (U e more)) → declare v s ws ≡ Err x
      → ReadsOn a c F (λ e more. Err (n, Word x))
  unfolding said
  refused_on a b c F T U v s x n ws p q h = on_then p (on_then (map_on (said declare v s) q) (record { read = []; moves = moves-nil c; gives = λ e more. ap (λ o. step_on declare n o (λ z. said declare v z (U e more))) h }))

  pub refused : (a b c : Option (List ℕ)) (F : Says) (T U : Ending → List ℕ → Framed) (wanted : ℕ → Type 0) (v : ℕ) (s : S) (x : W) (n : ℕ) (ws : List (List ℕ)) (memory : Bool)
      → ReadsOn a b F (λ e more. said declare v s (T e more)) → ReadsOn b c T (λ e more. Has n ws (U e more)) → DeclaredBy (declare v s ws) memory x → (is_ok (declare v s ws) ≡ true → wanted n)
      → RefusedBy a c F wanted memory n x
  refused a b c F T U wanted v s x n ws true p q h w = w h
  refused a b c F T U wanted v s x n ws false p q h w = inl (refused_on a b c F T U v s x n ws p q h)

  -- the text is whole
  pub done_on : (a b c : Option (List ℕ)) (F : Says) (T : Ending → List ℕ → Framed) (v : ℕ) (s : S)
      → ReadsOn a b F (λ e more. said declare v s (T e more)) → EndsAs b c T AtEnd Done → EndsAs a c F AtEnd (Ok s)
  unfolding said
  done_on a b c F T v s p q = end_then p (map_end (said declare v s) q)

  -- the frame is faulty
  stopped_on : (a b c : Option (List ℕ)) (F : Says) (T : Ending → List ℕ → Framed) (v : ℕ) (s : S) (n : ℕ) (k : FrameFault) (broken : Type 0)
      → ReadsOn a b F (λ e more. said declare v s (T e more)) → Stopped b c T broken (is_read k) (Stop n k) → Stopped a c F broken (is_read k) (Err (n, Frame k))
  unfolding said
  stopped_on a b c F T v s n k broken p q = stopped_map a b c F T (Stop n k) (said declare v s) broken (is_read k) p q

  at_stop : (a c : Option (List ℕ)) (F : Says) (n : ℕ) (k : FrameFault) (broken untouched : Type 0) (b : Bool) → (b ≡ true → ⊥) → Stopped a c F broken (is_read k) (Err (n, Frame k)) → StoppedBy a c F broken untouched b n k
  at_stop a c F n k broken untouched true none h = absurd (none refl)
  at_stop a c F n k broken untouched false none h = h

  pub stopped_by : (a b c : Option (List ℕ)) (F : Says) (T : Ending → List ℕ → Framed) (v : ℕ) (s : S) (n : ℕ) (k : FrameFault) (broken untouched : Type 0) → ((e : Ending) (more : List ℕ) → IsSaid (T e more))
      → ReadsOn a b F (λ e more. said declare v s (T e more)) → Stopped b c T broken (is_read k) (Stop n k) → StoppedBy a c F broken untouched (is_no_room k) n k
  stopped_by a b c F T v s n k broken untouched h p q = at_stop a c F n k broken untouched (is_no_room k) (none_stops b c T n k broken (is_read k) h q) (stopped_on a b c F T v s n k broken p q)
