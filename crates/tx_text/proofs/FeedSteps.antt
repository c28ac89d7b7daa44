-- What one call of a line feeder leaves.
use Rattle.std.proofs.Common.{◌≡◌, ℕ, ◌+◌, ◌-◌, ◌≤◌, Bool, true, false, Option, Some, None, Result, Ok, Err, List, [], ◌++◌, length, drop, refl, sym, ap, arith, MatchResult, not, subst, append-nil}
use Rattle.std.proofs.lemmas.List.{length-append, drop_all}
use Rattle.tx_text.proofs.Common.{All-append, All-nil, prefix_len-le-length, ltb-true, TextFault, FrameFault, Fed, Ending, Faulty, Then, frame_fault, is_read}
use Rattle.tx_text.specs.declared.text_fault.TextFault.TheVariants.{LineTooLong, BadByte, NoMemory}
use Rattle.tx_text.specs.Text.{Line, is_lf, without_cr, bytes_fault, begun_fault}
use Rattle.tx_text.specs.inner.Feed.{Feed, front_of, has_lf, piece_fault, feed_gives, feed_leaves, gives_by, leaves_by, ends_leaving, finish_leaves, feed_at_end, feed_with_line, begun_more, feed_with_fault}
use Rattle.tx_text.specs.inner.Reading.{told_at, IsFeed, Rest, rest_of, piece_left, has_line}
use Rattle.tx_text.proofs.TextLines.{ended_line}
use Rattle.tx_text.proofs.Feeding.{front-no_lf, length-front, no_cut, feed-line, feed-faulty, begun-faulty}

short-nil : begun_fault [] ≡ None
unfolding begun_fault without_cr
short-nil = refl

pub nothing_begun : (f : Feed) → f.begun ≡ [] → IsFeed f
nothing_begun f h = record { no_lf = rw h (All-nil (λ b. is_lf b ≡ false)); short = rw h short-nil }

-- what a call gives and leaves
pub record FedAs (f : Feed) (piece : List ℕ) (r : Result Fed TextFault) (g : Feed) : Type 0 where
  pub feed : IsFeed g
  pub fits : MatchResult r (λ fed. (fed.taken ≤ length piece) × (g.start + length g.begun + (length piece - fed.taken) ≤ f.start + length f.begun + length piece)) (λ _. g.start + length g.begun ≤ f.start + length f.begun)

front_le : (piece : List ℕ) → length (front_of piece) ≤ length piece
front_le piece = omega (arith, length-front piece, prefix_len-le-length (λ b. not (is_lf b)) piece)

fed_by : (f : Feed) (piece : List ℕ) → IsFeed f → (o p : Option TextFault) (b : Bool) → piece_fault f piece ≡ p → has_lf piece ≡ b → FedAs f piece (gives_by o p b (length (front_of piece))) (leaves_by f (front_of piece) o p b)
fed_by f piece i (Some x) p b _ _ = record { feed = i; fits = omega arith }
fed_by f piece i None (Some x) b h _ = record { feed = nothing_begun (feed_with_fault f x) refl; fits = omega arith }
fed_by f piece i None None true h k =
    let lt = ltb-true _ (length piece) k in
    record { feed = nothing_begun (feed_with_line f (front_of piece)) refl; fits = (omega (arith, length-front piece), omega (arith, length-front piece)) }
fed_by f piece i None None false h k =
    let short : begun_fault (f.begun ++ front_of piece) ≡ None = rw k at h in
    record {
      feed = record { no_lf = All-append (λ b. is_lf b ≡ false) f.begun (front_of piece) i.no_lf (front-no_lf piece); short = short };
      fits = (front_le piece, omega (arith, front_le piece, length-append f.begun (front_of piece)));
    }

pub fed_as : (f : Feed) (piece : List ℕ) → IsFeed f → FedAs f piece (feed_gives f piece) (feed_leaves f piece)
fed_as f piece i = fed_by f piece i f.fault (piece_fault f piece) (has_lf piece) refl refl

-- what the end of the text leaves
pub record EndedAs (f g : Feed) : Type 0 where
  pub feed : IsFeed g
  pub fits : g.start + length g.begun ≤ f.start + length f.begun

ended_by : (f : Feed) → IsFeed f → (o : Option TextFault) (b : Bool) (p : Option TextFault) → EndedAs f (ends_leaving f o b p)
ended_by f i (Some x) b p = record { feed = i; fits = omega arith }
ended_by f i None false p = record { feed = record { no_lf = i.no_lf; short = i.short }; fits = omega arith }
ended_by f i None true (Some x) = record { feed = nothing_begun (feed_with_fault f x) refl; fits = omega arith }
ended_by f i None true None = record { feed = nothing_begun (feed_at_end f) refl; fits = omega arith }

pub ended_as_feed : (f : Feed) → IsFeed f → EndedAs f (finish_leaves f)
ended_as_feed f i = ended_by f i f.fault _ _

-- what a call of a reader's feeder says of the text: by what the call answered
abbrev pub Says : Rest → Feed → List ℕ → Result Bool FrameFault → Type 0
Says p g rest (Ok true) = (g.fault ≡ None) × (l : Line) × (g.line ≡ Some l) × (l.finished ≡ true) × ((e : Ending) (more : List ℕ) → told_at p e more ≡ Then l (told_at (rest_of g rest) e more))
Says p g rest (Ok false) = (g.fault ≡ None) × (rest ≡ []) × ((e : Ending) (more : List ℕ) → told_at p e more ≡ told_at (rest_of g rest) e more)
Says p g rest (Err f) = (is_read f ≡ false) × ((e : Ending) (more : List ℕ) → told_at p e more ≡ Faulty f)

-- a fault of bytes is no failure
pub no_read : (x : TextFault) → is_read (frame_fault x) ≡ false
no_read LineTooLong = refl
no_read BadByte = refl
no_read NoMemory = refl

same_ahead : (f : Feed) (piece : List ℕ) → has_lf piece ≡ false → (e : Ending) (more : List ℕ) → told_at (rest_of f piece) e more ≡ told_at (rest_of (begun_more f (front_of piece)) (drop (length (front_of piece)) piece)) e more
unfolding told_at
same_ahead f piece h e more =
    let n = no_cut piece h in
    let rest : drop (length (front_of piece)) piece ≡ [] = drop_all _ piece (omega (arith, ap length n)) in
    rw (rest, n, append-nil) refl

pub says_by : (f : Feed) (piece : List ℕ) → IsFeed f → f.fault ≡ None → (p : Option TextFault) (b : Bool) → piece_fault f piece ≡ p → has_lf piece ≡ b
    → Says (rest_of f piece) (leaves_by f (front_of piece) None p b) (piece_left (gives_by None p b (length (front_of piece))) piece) (has_line (gives_by None p b (length (front_of piece))))
says_by f piece i z (Some x) true h k = let g : bytes_fault (without_cr (f.begun ++ front_of piece)) ≡ Some x = rw k at h in (no_read x, λ e more. feed-faulty f piece x i k g e more)
says_by f piece i z (Some x) false h k = let g : begun_fault (f.begun ++ front_of piece) ≡ Some x = rw k at h in (no_read x, λ e more. begun-faulty f piece x i g k e more)
says_by f piece i z None true h k =
    let g : bytes_fault (without_cr (f.begun ++ front_of piece)) ≡ None = rw k at h in
    (z, ended_line (f.number + 1) f.start (f.begun ++ front_of piece), refl, refl, λ e more. feed-line f piece i k g e more)
says_by f piece i z None false h k = (z, drop_all _ piece (omega (arith, ap length (no_cut piece k))), λ e more. same_ahead f piece k e more)

pub says : (f : Feed) (piece : List ℕ) → IsFeed f → f.fault ≡ None → Says (rest_of f piece) (feed_leaves f piece) (piece_left (feed_gives f piece) piece) (has_line (feed_gives f piece))
says f piece i z = subst (λ o. Says (rest_of f piece) (leaves_by f (front_of piece) o (piece_fault f piece) (has_lf piece)) (piece_left (gives_by o (piece_fault f piece) (has_lf piece) (length (front_of piece))) piece) (has_line (gives_by o (piece_fault f piece) (has_lf piece) (length (front_of piece))))) (sym z) (says_by f piece i z (piece_fault f piece) (has_lf piece) refl refl)
