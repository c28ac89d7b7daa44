-- What a line feeder has after the front of a piece was added to the line that has begun.
use Rattle.tx_text.proofs.Common.{◌≡◌, ℕ, ◌+◌, Bool, true, Option, Some, None, List, [], ◌++◌, length, take, nat_lt, ◌<◌, refl, sym, ap, ◌∙◌, arith, append-nil, length-append, lt-ltb, position_or_len, TextFault, Feed, front_of, has_lf, line_fault, piece_fault, feed_leaves, leaves_by, feed_with_line, begun_more}
use Rattle.tx_text.specs.Text.{Line, is_lf, without_cr}

-- f is the feeder before, b is f without its complete line, and a is b with the front added
pub record Added (f a : Feed) (front : List ℕ) : Type 0 where
  pub start : a.start ≡ f.start
  pub begun : length a.begun ≡ length f.begun + length front

pub added : (f b a : Feed) (front : List ℕ) → b ≡ record f { line = None } → a ≡ begun_more b front → Added f a front
added f b a front hb ha = record {
  start = ap (λ (x : Feed). x.start) ha ∙ ap (λ (x : Feed). x.start) hb;
  begun = omega (arith, ap (λ (x : Feed). length x.begun) ha, length-append b.begun front, ap (λ (x : Feed). length x.begun) hb);
}

abbrev line_at : ℕ → ℕ → List ℕ → Line
line_at n at bytes = record { number = n; start = at; bytes = without_cr bytes; finished = true }

ended_at : (f : Feed) (s t : ℕ) (u w : List ℕ) → s ≡ t → u ≡ w
    → ◌≡◌ {A = Feed} (record { number = f.number + 1; start = s; begun = []; line = Some (line_at (f.number + 1) f.start u); fault = f.fault }) (record { number = f.number + 1; start = t; begun = []; line = Some (line_at (f.number + 1) f.start w); fault = f.fault })
ended_at f s t u w x y = rw (x, y) refl

-- an LF after nothing more
ended-added : (f : Feed) (front : List ℕ) → feed_with_line (begun_more f front) [] ≡ feed_with_line f front
ended-added f front =
    let s : f.start + length (f.begun ++ front) + 0 + 1 ≡ f.start + length f.begun + length front + 1 = omega (arith, length-append f.begun front) in
    ended_at f (f.start + length (f.begun ++ front) + 0 + 1) (f.start + length f.begun + length front + 1) ((f.begun ++ front) ++ []) (f.begun ++ front) s (append-nil (f.begun ++ front))

leaves_ended : (f : Feed) (front : List ℕ) (o p : Option TextFault) (b : Bool) → o ≡ None → p ≡ None → b ≡ true → leaves_by f front o p b ≡ feed_with_line f front
leaves_ended f front o p b x y z = rw (x, y, z) refl

-- the front of a piece was added, with the LF after it, and no fault was told of it
pub record FrontAdded (f b a : Feed) (piece front : List ℕ) (k : ℕ) (told : Option TextFault) : Type 0 where
  pub let_go : b ≡ record f { line = None }
  pub index : k ≡ position_or_len is_lf piece
  pub cut : front ≡ take k piece
  pub lf : k < length piece
  pub gives : told ≡ line_fault (nat_lt k (length piece)) (b.begun ++ front)
  pub right : told ≡ None
  pub held : a ≡ begun_more b front

pub ended_by_lf : (f b a e : Feed) (piece front : List ℕ) (k : ℕ) (told : Option TextFault) → FrontAdded f b a piece front k told → f.fault ≡ None → e ≡ feed_with_line a [] → e ≡ feed_leaves f piece
ended_by_lf f b a e piece front k told h free he =
    let front_is : front ≡ front_of piece = h.cut ∙ ap (λ n. take n piece) h.index in
    let whole : a ≡ begun_more f (front_of piece) = h.held ∙ ap (λ l. begun_more b l) front_is ∙ ap (λ (w : Feed). begun_more w (front_of piece)) h.let_go in
    let same : line_fault (nat_lt k (length piece)) (b.begun ++ front) ≡ piece_fault f piece = rw (front_is, h.index, ap (λ (w : Feed). w.begun) h.let_go) refl in
    let lf : has_lf piece ≡ true = rw (← h.index) (lt-ltb k (length piece) h.lf) in
    he ∙ ap (λ (w : Feed). feed_with_line w []) whole ∙ ended-added f (front_of piece) ∙ sym (leaves_ended f (front_of piece) f.fault (piece_fault f piece) (has_lf piece) free (sym same ∙ sym h.gives ∙ h.right) lf)
