-- A text of which nothing was read yet.
use Rattle.tx_text.proofs.Common.{◌≡◌, ℕ, List, Option, Result, refl, sym, ap, Ending, ReadsOn}
use Rattle.tx_text.specs.Said.{said, declares_at, lines_within, text_said, line_declares}
use Rattle.tx_text.specs.inner.Reading.{told_at}
use Rattle.tx_text.specs.inner.Framing.{FrameReading, frame_start, to_come}
use Rattle.tx_text.proofs.Framing.{on_says}
use Rattle.tx_text.proofs.Wanting.{Finds, finds_none, finds_from}

start_comes : (v : FrameReading) (key : List ℕ) (most calls : ℕ) → v ≡ frame_start key most calls → (e : Ending) (more : List ℕ) → to_come v e more ≡ lines_within key most e more
unfolding told_at
start_comes v key most calls h e more = rw h refl

module _ {S W : Type 0} (declare : ℕ → S → List (List ℕ) → Result S W) (a : Option (List ℕ)) (v : FrameReading) (key : List ℕ) (most calls : ℕ) (s : S) (h : v ≡ frame_start key most calls) where
  pub start_says : ReadsOn a a (text_said declare key most s) (λ e more. said declare 1 s (to_come v e more))
  start_says = on_says a (λ e more. ap (said declare 1 s) (sym (start_comes v key most calls h e more)))

  pub start_finds : Finds a a (λ e more n. line_declares declare key most s n e more) (finds_from declare 1 s (to_come v))
  start_finds = finds_none a _ _ (λ e more. ap (λ t n. declares_at declare n 1 s t) (sym (start_comes v key most calls h e more)))
