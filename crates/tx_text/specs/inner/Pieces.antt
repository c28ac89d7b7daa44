-- A text that is fed in pieces.
use Rattle.std.specs.Prelude.{◌≡◌, ℕ, true, false, List, [], ◌∷◌, None, Some, Result, Ok, Err, length, drop}
use Rattle.std.specs.List.{flat_map}
use Rattle.tx_text.specs.declared.text_fault.TextFault.{TextFault}
use Rattle.tx_text.specs.Text.{Line, lines_of, checked}
use Rattle.tx_text.specs.inner.Feed.{Feed, feed_gives, feed_leaves, finish_gives, finish_leaves}

-- What a caller is given who feeds pieces to a line feeder, one after another and each until it is
-- taken, and then finishes: the lines up to the first fault, and that fault.
pub data FeedingGives : Feed → List (List ℕ) → List (Result Line TextFault) → Type 0 where
  taken : (f : Feed) (piece : List ℕ) (pieces : List (List ℕ))
      (items : List (Result Line TextFault))
      → feed_gives f piece ≡ Ok (record { taken = length piece; line = false })
      → FeedingGives (feed_leaves f piece) pieces items → FeedingGives f (piece ∷ pieces) items
  completed : (f : Feed) (piece : List ℕ) (pieces : List (List ℕ))
      (items : List (Result Line TextFault)) (n : ℕ) (l : Line)
      → feed_gives f piece ≡ Ok (record { taken = n; line = true }) → (feed_leaves f piece).line
      ≡ Some l → FeedingGives (feed_leaves f piece) (drop n piece ∷ pieces) items
      → FeedingGives f (piece ∷ pieces) (Ok l ∷ items)
  faulty : (f : Feed) (piece : List ℕ) (pieces : List (List ℕ)) (x : TextFault)
      → feed_gives f piece ≡ Err x → FeedingGives f (piece ∷ pieces) (Err x ∷ [])
  over : (f : Feed) → finish_gives f ≡ Ok false → FeedingGives f [] []
  unfinished : (f : Feed) (l : Line) → finish_gives f ≡ Ok true
      → (finish_leaves f).line ≡ Some l → FeedingGives f [] (Ok l ∷ [])
  unfinished_faulty : (f : Feed) (x : TextFault)
      → finish_gives f ≡ Err x → FeedingGives f [] (Err x ∷ [])

-- nothing was fed yet
abbrev pub unfed_yet : Feed
unfed_yet = record { number = 0; start = 0; begun = []; line = None; fault = None }

-- However a text is cut into pieces, feeding them gives its lines up to the first fault.
abbrev pub PiecesGiveTheLines : Type 0
PiecesGiveTheLines = (pieces : List (List ℕ))
    → FeedingGives unfed_yet pieces (checked (lines_of (flat_map (λ p. p) pieces)))
