-- Feeding a text in pieces gives its lines.
use Rattle.tx_text.proofs.Common.{◌≡◌, ℕ, zero, suc, ◌+◌, ◌<◌, ◌≤◌, Bool, true, false, nat_lt, Option, Some, None, Result, Ok, Err, List, [], ◌∷◌, ◌++◌, length, drop, refl, sym, ap, ◌∙◌, arith, subst, append_assoc, append-nil, flat_map, position_or_len, ltb-true, ltb-false, length-drop, TextFault, FrameFault, Feed, front_of, has_lf, piece_fault, feed_gives, feed_leaves, gives_by, leaves_by, begun_more, feed_with_line, ends_giving, ends_leaving}
use Rattle.tx_text.specs.declared.text_fault.TextFault.TheVariants.{LineTooLong as too_long, BadByte as bad_byte, NoMemory as no_memory}
use Rattle.tx_text.specs.declared.frame.FrameFault.TheVariants.{LineTooLong, BadByte, NoMemory}
use Rattle.tx_text.specs.Text.{Line, is_lf, lines_from, lines_of, bytes_fault, checked, checked_line}
use Rattle.tx_text.specs.Told.{AtEnd, Told, Closed, Faulty, Then, frame_fault, told, told_line, or_fault}
use Rattle.tx_text.specs.inner.Reading.{told_at, IsFeed, rest_of}
use Rattle.tx_text.specs.inner.Pieces.{FeedingGives, taken, completed, faulty, over, unfinished, unfinished_faulty, unfed_yet, PiecesGiveTheLines}
use Rattle.tx_text.proofs.TextLines.{last_line}
use Rattle.tx_text.proofs.Feeding.{told-nil, no_cut, end-nothing, end-line}
use Rattle.tx_text.proofs.FeedSteps.{fed_as, nothing_begun, says_by}

-- the fault of a line, as a list
abbrev items_of_fault : FrameFault → List (Result Line TextFault)
items_of_fault LineTooLong = Err too_long ∷ []
items_of_fault BadByte = Err bad_byte ∷ []
items_of_fault NoMemory = Err no_memory ∷ []
items_of_fault f = []

-- what is told, as a list
abbrev items_of : Told → List (Result Line TextFault)
items_of Closed = []
items_of (Faulty f) = items_of_fault f
items_of (Then l t) = Ok l ∷ items_of t

items-fault : (x : TextFault) → items_of (Faulty (frame_fault x)) ≡ Err x ∷ []
items-fault too_long = refl
items-fault bad_byte = refl
items-fault no_memory = refl

items-line : (l : Line) (t : Told) (rest : List (Result Line TextFault)) → items_of t ≡ rest → (o : Option TextFault) → items_of (or_fault o (Then l t)) ≡ checked_line o l rest
items-line l t rest e None = ap (λ r. Ok l ∷ r) e
items-line l t rest e (Some x) = items-fault x

items-told_line : (l : Line) (t : Told) (rest : List (Result Line TextFault)) → items_of t ≡ rest → (b : Bool) → items_of (told_line AtEnd b l t) ≡ checked_line (bytes_fault l.bytes) l rest
items-told_line l t rest e true = items-line l t rest e (bytes_fault l.bytes)
items-told_line l t rest e false = items-line l t rest e (bytes_fault l.bytes)

items-told : (ls : List Line) → items_of (told AtEnd ls) ≡ checked ls
unfolding told checked
items-told [] = refl
items-told (l ∷ ls) = items-told_line l (told AtEnd ls) (checked ls) (items-told ls) l.finished

abbrev joined : List (List ℕ) → List ℕ
joined pieces = flat_map (λ p. p) pieces

-- THE END OF THE TEXT
nothing : (l : List ℕ) → nat_lt 0 (length l) ≡ false → l ≡ []
nothing [] h = refl
nothing (b ∷ bs) h = absurd (omega (arith, ltb-false 0 (length (b ∷ bs)) h))

at_end : (f : Feed) → IsFeed f → f.fault ≡ None → (b : Bool) (o : Option TextFault) → nat_lt 0 (length f.begun) ≡ b → bytes_fault f.begun ≡ o → FeedingGives f [] (items_of (told_at (rest_of f []) AtEnd []))
at_end f i z false o h k =
    subst (FeedingGives f []) (sym (ap items_of (end-nothing AtEnd f (nothing f.begun h) ∙ told-nil))) (over f (λ j. ends_giving (z j) (h j) (bytes_fault f.begun)))
at_end f i z true (Some x) h k =
    let line = last_line (f.number + 1) f.start f.begun in
    subst (FeedingGives f []) (sym (ap items_of (end-line f i (ltb-true 0 (length f.begun) h) ∙ ap (λ p. or_fault p (Then line Closed)) k) ∙ items-fault x)) (unfinished_faulty f x (λ j. ends_giving (z j) (h j) (k j)))
at_end f i z true None h k =
    let line = last_line (f.number + 1) f.start f.begun in
    subst (FeedingGives f []) (sym (ap items_of (end-line f i (ltb-true 0 (length f.begun) h) ∙ ap (λ p. or_fault p (Then line Closed)) k)))
    (unfinished f line (λ j. ends_giving (z j) (h j) (k j)) (λ j. (ends_leaving f (z j) (h j) (k j)).line))

-- ONE PIECE, AND THOSE AFTER IT
abbrev Fed : Feed → List ℕ → List (List ℕ) → Type 0
Fed f piece pieces = FeedingGives f (piece ∷ pieces) (items_of (told_at (rest_of f piece) AtEnd (joined pieces)))

abbrev More : List (List ℕ) → Type 0
More pieces = (g : Feed) → IsFeed g → g.fault ≡ None → FeedingGives g pieces (items_of (told_at (rest_of g []) AtEnd (joined pieces)))

module _ (pieces : List (List ℕ)) (more : More pieces) where
  one_call : (f : Feed) (piece : List ℕ) → IsFeed f → f.fault ≡ None → ((rest : List ℕ) (g : Feed) → length rest < length piece → IsFeed g → g.fault ≡ None → Fed g rest pieces)
      → (o : Option TextFault) (b : Bool) → piece_fault f piece ≡ o → has_lf piece ≡ b → Fed f piece pieces
  one_call f piece i z again (Some x) b h k =
      subst (FeedingGives f (piece ∷ pieces)) (sym (ap items_of ((says_by f piece i z (Some x) b h k).1 AtEnd (joined pieces)) ∙ items-fault x)) (faulty f piece pieces x (λ j. gives_by (z j) (h j) (has_lf piece) (length (front_of piece))))
  one_call f piece i z again None false h k =
      let s = says_by f piece i z None false h k in
      let left : feed_leaves f piece ≡ begun_more f (front_of piece) = (λ j. leaves_by f (front_of piece) (z j) (h j) (k j)) in
      let gives : feed_gives f piece ≡ Ok (record { taken = length (front_of piece); line = false }) = (λ j. gives_by (z j) (h j) (k j) (length (front_of piece))) in
      let told : told_at (rest_of f piece) AtEnd (joined pieces) ≡ told_at (rest_of (feed_leaves f piece) []) AtEnd (joined pieces) =
      s.2 AtEnd (joined pieces) ∙ ap (λ r. told_at (rest_of (begun_more f (front_of piece)) r) AtEnd (joined pieces)) s.1 ∙ ap (λ (g : Feed). told_at (rest_of g []) AtEnd (joined pieces)) (sym left) in
      subst (FeedingGives f (piece ∷ pieces)) (sym (ap items_of told))
      (taken f piece pieces _ (gives ∙ ap (λ (m : ℕ). Ok (record { taken = m; line = false })) (ap length (no_cut piece k))) (more (feed_leaves f piece) (fed_as f piece i).feed (ap (λ (g : Feed). g.fault) left ∙ s.0)))
  one_call f piece i z again None true h k =
      let s = says_by f piece i z None true h k in
      let rest = drop (length (front_of piece) + 1) piece in
      let left : feed_leaves f piece ≡ feed_with_line f (front_of piece) = (λ j. leaves_by f (front_of piece) (z j) (h j) (k j)) in
      let gives : feed_gives f piece ≡ Ok (record { taken = length (front_of piece) + 1; line = true }) = (λ j. gives_by (z j) (h j) (k j) (length (front_of piece))) in
      let told : told_at (rest_of f piece) AtEnd (joined pieces) ≡ Then s.1 (told_at (rest_of (feed_leaves f piece) rest) AtEnd (joined pieces)) =
      s.4 AtEnd (joined pieces) ∙ ap (λ (g : Feed). Then s.1 (told_at (rest_of g rest) AtEnd (joined pieces))) (sym left) in
      let shorter : length rest < length piece = omega (arith, length-drop (length (front_of piece) + 1) piece, ltb-true (position_or_len is_lf piece) (length piece) k) in
      subst (FeedingGives f (piece ∷ pieces)) (sym (ap items_of told))
      (completed f piece pieces _ (length (front_of piece) + 1) s.1 gives (ap (λ (g : Feed). g.line) left ∙ s.2) (again rest (feed_leaves f piece) shorter (fed_as f piece i).feed (ap (λ (g : Feed). g.fault) left ∙ s.0)))

  -- the calls for one piece, of which so many bytes are left at most
  on_piece : (n : ℕ) (piece : List ℕ) → length piece ≤ n → (f : Feed) → IsFeed f → f.fault ≡ None → Fed f piece pieces
  on_piece zero piece few f i z = one_call f piece i z (λ rest g lt _ _. absurd (omega arith)) (piece_fault f piece) (has_lf piece) refl refl
  on_piece (suc n) piece few f i z = one_call f piece i z (λ rest g lt j y. on_piece n rest (omega arith) g j y) (piece_fault f piece) (has_lf piece) refl refl

-- a piece in hand, or still to come
in_hand : (f : Feed) (piece more : List ℕ) → told_at (rest_of f piece) AtEnd more ≡ told_at (rest_of f []) AtEnd (piece ++ more)
unfolding told_at
in_hand f piece more = ap (λ l. told AtEnd (lines_from (f.number + 1) f.start l)) (append_assoc f.begun piece more ∙ ap (λ l. l ++ (piece ++ more)) (sym (append-nil f.begun)))

feeds : (pieces : List (List ℕ)) → More pieces
feeds [] f i z = at_end f i z (nat_lt 0 (length f.begun)) (bytes_fault f.begun) refl refl
feeds (piece ∷ pieces) f i z =
    subst (FeedingGives f (piece ∷ pieces)) (ap items_of (in_hand f piece (joined pieces))) (on_piece pieces (feeds pieces) (length piece) piece (omega arith) f i z)

from_start : (text : List ℕ) → items_of (told_at (rest_of unfed_yet []) AtEnd text) ≡ checked (lines_of text)
unfolding told_at
from_start text = items-told (lines_from 1 0 text)

pub pieces_lines : PiecesGiveTheLines
pieces_lines pieces = subst (FeedingGives unfed_yet pieces) (from_start (joined pieces)) (feeds pieces unfed_yet (nothing_begun unfed_yet refl) refl)
