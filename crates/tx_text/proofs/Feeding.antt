-- What a line feeder makes of the pieces of a text, in terms of the text.
use Rattle.tx_text.proofs.Common.{◌≡◌, ℕ, ◌+◌, ◌-◌, ◌<◌, ◌≤◌, Bool, true, false, cond, Option, Some, None, List, [], ◌∷◌, ◌++◌, length, take, drop, get_or, refl, sym, ap, ◌∙◌, arith, append_assoc, append-nil, not, subst, eqb, position_or_len, All-append, TextFault, LineTooLong, Read, Feed, front_of, has_lf, feed_with_line}
use Rattle.std.proofs.lemmas.List.{length-take, length-take-le, get_or-take, take_all, length-append}
use Rattle.std.proofs.lemmas.Bool.{eqb-true, ltb-true, ltb-false, lt-ltb}
use Rattle.std.proofs.lemmas.List.Sums.{split_at_first, fails_before_first, passes_at_first, prefix_len-le-length}
use Rattle.tx_text.specs.Text.{is_lf, without_cr, lines_from, bytes_fault, begun_fault}
use Rattle.tx_text.specs.Told.{Ending, AtEnd, Cut, Told, Closed, Faulty, Then, frame_fault, told, or_fault}
use Rattle.tx_text.specs.inner.Reading.{told_at, IsFeed, rest_of}
use Rattle.tx_text.proofs.LineFaults.{length-without_cr}
use Rattle.tx_text.proofs.TextLines.{HasNoLf, ended_line, last_line, lines_at_lf, lines_last, lines_nil}

pub told-lf : (e : Ending) (n s : ℕ) (raw rest : List ℕ) → HasNoLf raw → told e (lines_from n s (raw ++ 10 ∷ rest)) ≡ or_fault (bytes_fault (without_cr raw)) (Then (ended_line n s raw) (told e (lines_from (n + 1) (s + length raw + 1) rest)))
unfolding told
told-lf AtEnd n s raw rest h = ap (told AtEnd) (lines_at_lf n s raw rest h)
told-lf Cut n s raw rest h = ap (told Cut) (lines_at_lf n s raw rest h)

-- no byte of a front is an LF
pub front-no_lf : (piece : List ℕ) → HasNoLf (front_of piece)
front-no_lf piece k d lt =
    let n = position_or_len is_lf piece in
    let k_lt : k < n = omega (arith, length-take n piece) in
    ap is_lf (get_or-take n piece k d k_lt) ∙ fails_before_first is_lf piece k d k_lt

pub length-front : (piece : List ℕ) → length (front_of piece) ≡ position_or_len is_lf piece
length-front piece = length-take-le (position_or_len is_lf piece) piece (prefix_len-le-length (λ b. not (is_lf b)) piece)

-- a piece with an LF
pub record CutsAtLf (piece : List ℕ) : Type 0 where
  pub rest : List ℕ
  pub whole : piece ≡ front_of piece ++ 10 ∷ rest
  pub dropped : drop (length (front_of piece) + 1) piece ≡ rest

pub cuts_at_lf : (piece : List ℕ) → has_lf piece ≡ true → CutsAtLf piece
cuts_at_lf piece h =
    let n = position_or_len is_lf piece in
    let lt : n < length piece = ltb-true n (length piece) h in
    let at : get_or piece n 0 ≡ 10 = eqb-true (get_or piece n 0) 10 (passes_at_first is_lf piece 0 lt) in
    record {
      rest = drop (n + 1) piece;
      whole = split_at_first is_lf piece 0 lt ∙ ap (λ b. front_of piece ++ b ∷ drop (n + 1) piece) at;
      dropped = ap (λ k. drop (k + 1) piece) (length-front piece);
    }

-- a piece with no LF is its front
pub no_cut : (piece : List ℕ) → has_lf piece ≡ false → front_of piece ≡ piece
no_cut piece h = take_all (position_or_len is_lf piece) piece (ltb-false (position_or_len is_lf piece) (length piece) h)

pub none_fault : (o : Option TextFault) (t : Told) → o ≡ None → or_fault o t ≡ t
none_fault o t h = rw h refl

pub some_fault : (o : Option TextFault) (t : Told) (x : TextFault) → o ≡ Some x → or_fault o t ≡ Faulty (frame_fault x)
some_fault o t x h = rw h refl

regroup : (begun front rest more : List ℕ) → (begun ++ (front ++ 10 ∷ rest)) ++ more ≡ (begun ++ front) ++ 10 ∷ (rest ++ more)
regroup begun front rest more = simp append_assoc

at_lf : (f : Feed) (piece : List ℕ) → IsFeed f → (h : has_lf piece ≡ true) → (e : Ending) (more : List ℕ)
    → told_at (rest_of f piece) e more ≡ or_fault (bytes_fault (without_cr (f.begun ++ front_of piece)))
    (Then (ended_line (f.number + 1) f.start (f.begun ++ front_of piece)) (told e (lines_from (f.number + 1 + 1) (f.start + length (f.begun ++ front_of piece) + 1) ((cuts_at_lf piece h).rest ++ more))))
unfolding told_at told
at_lf f piece i h e more =
    let cut = cuts_at_lf piece h in
    ap (λ l. told e (lines_from (f.number + 1) f.start ((f.begun ++ l) ++ more))) cut.whole
    ∙ ap (λ l. told e (lines_from (f.number + 1) f.start l)) (regroup f.begun (front_of piece) cut.rest more)
    ∙ told-lf e (f.number + 1) f.start (f.begun ++ front_of piece) (cut.rest ++ more) (All-append (λ b. is_lf b ≡ false) f.begun (front_of piece) i.no_lf (front-no_lf piece))

-- a line came
pub feed-line : (f : Feed) (piece : List ℕ) → IsFeed f → (h : has_lf piece ≡ true) → bytes_fault (without_cr (f.begun ++ front_of piece)) ≡ None → (e : Ending) (more : List ℕ)
    → told_at (rest_of f piece) e more ≡ Then (ended_line (f.number + 1) f.start (f.begun ++ front_of piece)) (told_at (rest_of (feed_with_line f (front_of piece)) (drop (length (front_of piece) + 1) piece)) e more)
unfolding told_at told
feed-line f piece i h none e more =
    at_lf f piece i h e more ∙ none_fault _ _ none
    ∙ ap (λ k. Then (ended_line (f.number + 1) f.start (f.begun ++ front_of piece)) (told e (lines_from (f.number + 1 + 1) (k + 1) ((cuts_at_lf piece h).rest ++ more)))) (omega (arith, length-append f.begun (front_of piece)))
    ∙ ap (λ l. Then (ended_line (f.number + 1) f.start (f.begun ++ front_of piece)) (told_at (rest_of (feed_with_line f (front_of piece)) l) e more)) (sym (cuts_at_lf piece h).dropped)

-- a line came that is faulty
pub feed-faulty : (f : Feed) (piece : List ℕ) (x : TextFault) → IsFeed f → (h : has_lf piece ≡ true) → bytes_fault (without_cr (f.begun ++ front_of piece)) ≡ Some x → (e : Ending) (more : List ℕ)
    → told_at (rest_of f piece) e more ≡ Faulty (frame_fault x)
feed-faulty f piece x i h some e more = at_lf f piece i h e more ∙ some_fault _ _ x some

too_long-true : (b : Bool) (x : TextFault) → ◌≡◌ {A = Option TextFault} (cond b (Some LineTooLong) None) (Some x) → (b ≡ true) × (x ≡ LineTooLong)
too_long-true true x h = (refl, cc)
too_long-true false x h = cc

pub length-without_cr-le : (line : List ℕ) → length (without_cr line) ≤ length line
unfolding without_cr
length-without_cr-le line = cond_le (eqb (get_or line (length line - 1) 0) 13) line
  where
    cond_le : (b : Bool) (line : List ℕ) → length (cond b (take (length line - 1) line) line) ≤ length line
    cond_le true line = omega (arith, length-take (length line - 1) line)
    cond_le false line = omega arith

pub longer : (raw more : List ℕ) → 512 < length (without_cr raw) → (512 < length (without_cr (raw ++ more))) × (512 < length (raw ++ more))
longer raw [] h = rw append-nil (h, omega (arith, length-without_cr-le raw))
longer raw (b ∷ bs) h = (omega (arith, length-without_cr (raw ++ b ∷ bs), length-append raw (b ∷ bs), length-without_cr-le raw), omega (arith, length-append raw (b ∷ bs), length-without_cr-le raw))

long_bytes : (line : List ℕ) → 512 < length line → bytes_fault line ≡ Some LineTooLong
unfolding bytes_fault
long_bytes line h = rw (lt-ltb 512 (length line) h) refl

long_begun : (raw : List ℕ) → 512 < length (without_cr raw) → begun_fault raw ≡ Some LineTooLong
unfolding begun_fault
long_begun raw h = rw (lt-ltb 512 (length (without_cr raw)) h) refl

last_faulty : (e : Ending) (n s : ℕ) (raw : List ℕ) → HasNoLf raw → 512 < length (without_cr raw) → 512 < length raw → told e (lines_from n s raw) ≡ Faulty (frame_fault LineTooLong)
unfolding told
last_faulty AtEnd n s raw h long l = ap (told AtEnd) (lines_last n s raw h (omega arith)) ∙ some_fault _ _ LineTooLong (long_bytes raw l)
last_faulty Cut n s raw h long l = ap (told Cut) (lines_last n s raw h (omega arith)) ∙ some_fault _ _ LineTooLong (long_begun raw long)

long_more : (e : Ending) (n s : ℕ) (raw more : List ℕ) → HasNoLf raw → 512 < length (without_cr raw) → (b : Bool) → has_lf more ≡ b → told e (lines_from n s (raw ++ more)) ≡ Faulty (frame_fault LineTooLong)
long_more e n s raw more h long true has =
    let cut = cuts_at_lf more has in
    ap (λ l. told e (lines_from n s (raw ++ l))) cut.whole
    ∙ ap (λ l. told e (lines_from n s l)) (sym (append_assoc raw (front_of more) (10 ∷ cut.rest)))
    ∙ told-lf e n s (raw ++ front_of more) cut.rest (All-append (λ b. is_lf b ≡ false) raw (front_of more) h (front-no_lf more))
    ∙ some_fault _ _ LineTooLong (long_bytes _ (longer raw (front_of more) long).0)
long_more e n s raw more h long false has =
    let front : HasNoLf more = subst HasNoLf (no_cut more has) (front-no_lf more) in
    last_faulty e n s (raw ++ more) (All-append (λ b. is_lf b ≡ false) raw more h front) (longer raw more long).0 (longer raw more long).1

-- a line that has begun is too long whatever follows
pub begun-faulty : (f : Feed) (piece : List ℕ) (x : TextFault) → IsFeed f → begun_fault (f.begun ++ front_of piece) ≡ Some x → has_lf piece ≡ false → (e : Ending) (more : List ℕ) → told_at (rest_of f piece) e more ≡ Faulty (frame_fault x)
unfolding told_at begun_fault
begun-faulty f piece x i h without e more =
    let t = too_long-true _ x h in
    let e1 = no_cut piece without in
    let all = All-append (λ b. is_lf b ≡ false) f.begun (front_of piece) i.no_lf (front-no_lf piece) in
    rw t.1 (rw e1 at (long_more e (f.number + 1) f.start (f.begun ++ front_of piece) more all (ltb-true 512 _ t.0) (has_lf more) refl))

pub end-nothing : (e : Ending) (f : Feed) → f.begun ≡ [] → told_at (rest_of f []) e [] ≡ told e []
unfolding told_at
end-nothing e f h = rw h (ap (told e) (lines_nil (f.number + 1) f.start))

pub told-nil : told AtEnd [] ≡ Closed
unfolding told
told-nil = refl

same_rest : (f : Feed) → (f.begun ++ []) ++ [] ≡ f.begun
same_rest f = append-nil (f.begun ++ []) ∙ append-nil f.begun

pub end-line : (f : Feed) → IsFeed f → 0 < length f.begun → told_at (rest_of f []) AtEnd [] ≡ or_fault (bytes_fault f.begun) (Then (last_line (f.number + 1) f.start f.begun) Closed)
unfolding told_at told
end-line f i lt = ap (λ l. told AtEnd (lines_from (f.number + 1) f.start l)) (same_rest f) ∙ ap (told AtEnd) (lines_last (f.number + 1) f.start f.begun i.no_lf lt)

cut_at : (f : Feed) → IsFeed f → (l : List ℕ) → f.begun ≡ l → told Cut (lines_from (f.number + 1) f.start f.begun) ≡ Faulty Read
unfolding told
cut_at f i [] h = rw h (ap (told Cut) (lines_nil (f.number + 1) f.start))
cut_at f i (b ∷ bs) h = ap (told Cut) (lines_last (f.number + 1) f.start f.begun i.no_lf (rw h (omega arith))) ∙ none_fault _ (Faulty Read) i.short

pub end-cut : (f : Feed) → IsFeed f → told_at (rest_of f []) Cut [] ≡ Faulty Read
unfolding told_at
end-cut f i = ap (λ l. told Cut (lines_from (f.number + 1) f.start l)) (same_rest f) ∙ cut_at f i f.begun refl
