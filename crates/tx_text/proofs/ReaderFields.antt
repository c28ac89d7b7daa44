-- The fields of a reader of texts after its feeder took what it could.
use Rattle.std.proofs.Common.{◌≡◌, ℕ, ◌+◌, ◌-◌, ◌<◌, ◌≤◌, ◌⊎◌, Bool, true, false, List, [], ◌++◌, Option, Some, None, length, take, drop, Ok, Err, inl, inr, refl, sym, ap, ◌∙◌, arith, rules, take-take}
use Rattle.std.proofs.lemmas.List.{length-take-le, length-drop, drop-drop, drop-take}
use Rattle.std.proofs.lemmas.Result.{MatchResult-at_ok, MatchResult-at_err}
use Rattle.tx_text.proofs.Common.{TextFault, Fed, Feed, feed_gives, feed_leaves, finish_leaves, front_of, has_lf, leaves_by, piece_fault, feed_with_line}
use Rattle.tx_text.specs.Text.{Line, without_cr, bytes_fault, begun_fault}
use Rattle.tx_text.specs.inner.Reading.{Reading, IsFeed, fed_on, reading_of_calls}
use Rattle.tx_text.specs.inner.Reader.{IsReader, reading_of, lending}
use Rattle.tx_text.specs.declared.reader.TextReader.TheInside.{Inside}
use Rattle.tx_text.proofs.FeedSteps.{fed_as, ended_as_feed}
use Rattle.tx_text.proofs.Feeding.{length-front}
use Rattle.tx_text.proofs.LineFaults.{take_without_cr}

-- a call leaves the same, whichever line stood before, but after a fault
leaves_by_same : (f : Feed) (l : Option Line) (front : List ℕ) (o p : Option TextFault) (b : Bool) → (o ≡ None) ⊎ (l ≡ f.line) → leaves_by (record f { line = l }) front o p b ≡ leaves_by f front o p b
leaves_by_same f l front (Some x) p b (inl h) = absurd (cc)
leaves_by_same f l front (Some x) p b (inr h) = rw h refl
leaves_by_same f l front None (Some x) b h = refl
leaves_by_same f l front None None true h = refl
leaves_by_same f l front None None false h = refl

module _ {A : Type 0} (a : Inside A) where
  own_by : (b : Bool) → a.lent ≡ b → IsReader a → (a.feeder.fault ≡ None) ⊎ ((lending a).line ≡ a.feeder.line)
  own_by true e i = inl (i.lent e).0
  own_by false e i = inr (rw e refl)

  -- where a fault stands, no line is lent
  own : IsReader a → (a.feeder.fault ≡ None) ⊎ ((lending a).line ≡ a.feeder.line)
  own i = own_by a.lent refl i

  pub leaves_same : (piece : List ℕ) → IsReader a → feed_leaves (lending a) piece ≡ feed_leaves a.feeder piece
  leaves_same piece i = leaves_by_same a.feeder (lending a).line (front_of piece) a.feeder.fault (piece_fault a.feeder piece) (has_lf piece) (own i)

length-piece : {A : Type 0} (a : Inside A) → IsReader a → length (reading_of a).piece ≡ a.to - a.from
length-piece a i = length-take-le (a.to - a.from) (drop a.from a.piece) (omega (arith, length-drop a.from a.piece, i.room, i.within, i.order))

pub after_line : {A : Type 0} (a : Inside A) (fed : Fed) (g : Feed) → IsReader a → feed_gives a.feeder (reading_of a).piece ≡ Ok fed → g ≡ feed_leaves a.feeder (reading_of a).piece → IsReader (record a { feeder = g; from = a.from + fed.taken; lent = false })
after_line a fed g i e h =
    let s = fed_as a.feeder (reading_of a).piece i.feed in
    let n = length-piece a i in
    let f = MatchResult-at_ok _ _ fed e s.fits in
    rw h (record { order = omega (arith, f.0, i.order); within = i.within; room = i.room; feed = s.feed; bound = omega (arith, f.0, f.1, i.bound); lent = λ e. cc })

pub after_fault : {A : Type 0} (a : Inside A) (x : TextFault) (g : Feed) → IsReader a → feed_gives a.feeder (reading_of a).piece ≡ Err x → g ≡ feed_leaves a.feeder (reading_of a).piece → IsReader (record a { feeder = g; lent = false })
after_fault a x g i e h =
    let s = fed_as a.feeder (reading_of a).piece i.feed in
    let n = length-piece a i in
    let f = MatchResult-at_err _ _ x e s.fits in
    rw h (record { order = i.order; within = i.within; room = i.room; feed = s.feed; bound = omega (arith, f, n, i.bound); lent = λ e. cc })

-- the bytes after those that were taken
pub piece_after : {A : Type 0} (a : Inside A) (fed : Fed) → IsReader a → feed_gives a.feeder (reading_of a).piece ≡ Ok fed → take (a.to - (a.from + fed.taken)) (drop (a.from + fed.taken) a.piece) ≡ drop fed.taken (reading_of a).piece
piece_after a fed i e =
    let s = fed_as a.feeder (reading_of a).piece i.feed in
    let f = MatchResult-at_ok _ _ fed e s.fits in
    let n = length-piece a i in
    let k : fed.taken + (a.to - (a.from + fed.taken)) ≡ a.to - a.from = omega (arith, f.0, n) in
    ap (λ l. take (a.to - (a.from + fed.taken)) l) (sym (drop-drop fed.taken a.from a.piece)) ∙ sym (rw k at (drop-take fed.taken (a.to - (a.from + fed.taken)) (drop a.from a.piece)))

after_view-at : {A : Type 0} (a : Inside A) (fed : Fed) (g : Feed) → IsReader a → feed_gives a.feeder (reading_of a).piece ≡ Ok fed → g ≡ feed_leaves a.feeder (reading_of a).piece → reading_of (record a { feeder = g; from = a.from + fed.taken; lent = false }) ≡ fed_on (reading_of a)
after_view-at a fed g i e h = rw (leaves_same a (reading_of a).piece i, h, e, piece_after a fed i e) refl

pub after_view : {A : Type 0} (a : Inside A) (fed : Fed) (g : Feed) (r : Reading) → IsReader a → reading_of a ≡ r → feed_gives a.feeder (reading_of a).piece ≡ Ok fed → g ≡ feed_leaves a.feeder (reading_of a).piece → reading_of (record a { feeder = g; from = a.from + fed.taken; lent = false }) ≡ fed_on r
after_view a fed g r i v e h = after_view-at a fed g i e h ∙ ap fed_on v

pub after_end : {A : Type 0} (a : Inside A) (g : Feed) → IsReader a → g ≡ finish_leaves a.feeder → IsReader (record a { feeder = g; lent = false })
after_end a g i h =
    let s = ended_as_feed a.feeder i.feed in
    rw h (record { order = i.order; within = i.within; room = i.room; feed = s.feed; bound = omega (arith, s.fits, i.bound); lent = λ e. cc })

-- a line stands whole at the front of what was read, and is right
pub record IsWhole (f : Feed) (piece : List ℕ) (n m : ℕ) : Type 0 where
  pub begun : f.begun ≡ []
  pub fault : f.fault ≡ None
  pub lf : has_lf piece ≡ true
  pub len : n ≡ length (front_of piece)
  pub within : n < length piece
  pub shown : m ≡ length (without_cr (front_of piece))
  pub short : m ≤ n
  pub right : bytes_fault (without_cr (front_of piece)) ≡ None

module _ (f : Feed) (piece : List ℕ) (n m : ℕ) (w : IsWhole f piece n m) where
  whole_fault : piece_fault f piece ≡ None
  whole_fault = rw (w.lf, w.begun) w.right

  pub whole_gives : feed_gives f piece ≡ Ok (record { taken = n + 1; line = true })
  whole_gives = rw (w.fault, whole_fault, w.lf, w.len) refl

  whole_leaves : feed_leaves f piece ≡ record f { number = f.number + 1; start = f.start + n + 1; begun = []; line = Some (record { number = f.number + 1; start = f.start; bytes = without_cr (front_of piece); finished = true }) }
  whole_leaves =
      let front = front_of piece in
      let came : feed_leaves f piece ≡ feed_with_line f front = rw (w.fault, whole_fault, w.lf) refl in
      let k : f.start + length f.begun + length front + 1 ≡ f.start + n + 1 = omega (arith, w.len, ap length w.begun) in
      came
      ∙ ap (λ (j : ℕ). record f { number = f.number + 1; start = j; begun = []; line = Some (record { number = f.number + 1; start = f.start; bytes = without_cr (f.begun ++ front); finished = true }) }) k
      ∙ ap (λ (l : List ℕ). record f { number = f.number + 1; start = f.start + n + 1; begun = []; line = Some (record { number = f.number + 1; start = f.start; bytes = without_cr (l ++ front); finished = true }) }) w.begun

-- the fields after it was lent
abbrev pub lent_on : {A : Type 0} → Inside A → Feed → ℕ → ℕ → Inside A
lent_on a g n m = record a { feeder = g; from = a.from + (n + 1); lent = true; lent_start = a.feeder.start; lent_from = a.from; lent_to = a.from + m }

module _ {A : Type 0} (a : Inside A) (g : Feed) (n m : ℕ) (i : IsReader a) (w : IsWhole a.feeder (reading_of a).piece n m) (e : g ≡ record a.feeder { number = a.feeder.number + 1; start = a.feeder.start + n + 1; line = None }) where
  lent_bytes : take (a.from + m - a.from) (drop a.from a.piece) ≡ without_cr (front_of (reading_of a).piece)
  lent_bytes =
      let piece = (reading_of a).piece in
      let all = drop a.from a.piece in
      let p = length-front piece in
      let k : a.from + m - a.from ≡ m = omega arith in
      let wide : m ≤ a.to - a.from = omega (arith, w.short, w.within, length-piece a i) in
      ap (λ j. take j all) k ∙ sym (take-take m (a.to - a.from) all wide) ∙ sym (take-take m _ piece (omega (arith, w.short, w.len, p))) ∙ ap (λ j. take j (front_of piece)) w.shown ∙ take_without_cr (front_of piece)

  pub lent_view : reading_of (lent_on a g n m) ≡ fed_on (reading_of a)
  lent_view =
      let piece = (reading_of a).piece in
      let gives = whole_gives a.feeder piece n m w in
      let leaves = leaves_same a piece i ∙ whole_leaves a.feeder piece n m w in
      rw (leaves, gives, e, w.begun, lent_bytes, piece_after a (record { taken = n + 1; line = true }) i gives) refl

pub start_feed : (calls : ℕ) → IsFeed (reading_of_calls calls).feed
unfolding begun_fault without_cr
start_feed calls = record { no_lf = search rules; short = refl }
