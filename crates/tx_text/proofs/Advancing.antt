-- What a reader of texts says of its calls, one after another.
use Rattle.tx_text.proofs.Common.{◌≡◌, ℕ, List, [], ◌∷◌, ◌++◌, Option, Some, None, Result, Ok, Err, Bool, true, false, refl, sym, ◌∙◌, append_assoc, append-nil, subst, inl, inr, length, nat_lt, ◌≤◌, arith, ltb-true, ltb-false, prepend_known, IsAtEnd, TextFault, FrameFault, Read, Ending, AtEnd, Cut, Faulty, frame_fault, ReadsOn, EndsAs, Stopped}
use Rattle.tx_text.specs.Text.{Line, bytes_fault}
use Rattle.tx_text.specs.inner.Feed.{Feed, feed_gives, finish_gives, finish_leaves, ends_giving, ends_leaving}
use Rattle.tx_text.specs.inner.Reading.{told_at, Rest, rest_of, IsFeed, Came, LineCame, Advances, ended_as, Reading, reading_rest, fed_on, has_line}
use Rattle.tx_text.proofs.FeedSteps.{Says, says, no_read}
use Rattle.tx_text.proofs.Feeding.{told-nil, end-nothing, end-line, end-cut, none_fault, some_fault}
use Rattle.tx_text.proofs.Framing.{on_says, ends_here, on_then, end_then}

no_bytes : (l : List ℕ) → length l ≤ 0 → l ≡ []
no_bytes [] h = refl
no_bytes (b ∷ bs) h = absurd (omega arith)

regroup : (begun piece more : List ℕ) → (begun ++ []) ++ (piece ++ more) ≡ (begun ++ piece) ++ more
regroup begun piece more = rw append-nil (sym (append_assoc begun piece more))

filled : (f : Feed) (piece : List ℕ) (e : Ending) (more : List ℕ) → told_at (rest_of f []) e (piece ++ more) ≡ told_at (rest_of f piece) e more
unfolding told_at
filled f piece e more = rw (regroup f.begun piece more) refl

-- a piece was read
reads_piece : {a b : Option (List ℕ)} (f : Feed) (piece : List ℕ) → a ≡ prepend_known piece b → ReadsOn a b (told_at (rest_of f [])) (told_at (rest_of f piece))
reads_piece f piece h = record { read = piece; moves = h; gives = λ e more. filled f piece e more }

pub adv_line : (a b : Option (List ℕ)) (p0 p : Rest) (g : Feed) (rest : List ℕ) → ReadsOn a b (told_at p0) (told_at p) → Says p g rest (Ok true) → Came a b p0 (rest_of g rest) g.line
adv_line a b p0 p g rest r s = subst (Came a b p0 (rest_of g rest)) (sym s.2) (subst (LineCame a b p0 (rest_of g rest) s.1) (sym s.3) (on_then r (on_says b s.4)))

pub adv_err : (a b : Option (List ℕ)) (p0 p : Rest) (g : Feed) (rest : List ℕ) → ReadsOn a b (told_at p0) (told_at p) → (f : FrameFault) (q : Rest) (given : Option Line) (broken : Type 0) → Says p g rest (Err f) → Advances a b p0 q given broken (Err f)
adv_err a b p0 p g rest r f q given broken s = subst (λ t. Stopped a b (told_at p0) broken t (Faulty f)) (sym s.0) (inl (on_then r (on_says b s.1)))

pub on_empty : (a b : Option (List ℕ)) (p0 p : Rest) (g : Feed) (rest : List ℕ) → ReadsOn a b (told_at p0) (told_at p) → Says p g rest (Ok false) → ReadsOn a b (told_at p0) (told_at (rest_of g []))
on_empty a b p0 p g rest r s = on_then r (on_says b (subst (λ l. (e : Ending) (more : List ℕ) → told_at p e more ≡ told_at (rest_of g l) e more) s.1 s.2))

-- what a call of the feeder says, by what the reader's clauses tell
pub says_at : (r n : Reading) (o : Result Bool FrameFault) → IsFeed r.feed → r.feed.fault ≡ None → o ≡ has_line (feed_gives r.feed r.piece) → n ≡ fed_on r → Says (reading_rest r) n.feed n.piece o
says_at r n o i z e h = rw (e, h) (says r.feed r.piece i z)

pub adv_cut : {a b : Option (List ℕ)} {g : Feed} (p0 : Rest) → ReadsOn a b (told_at p0) (told_at (rest_of g [])) → IsFeed g → EndsAs a b (told_at p0) Cut (Faulty Read)
adv_cut {b} {g} p0 r i = end_then r (ends_here b (end-cut g i))

-- what a call at the end of the text says
adv_end_by : {a b : Option (List ℕ)} (p0 : Rest) (g : Feed) → ReadsOn a b (told_at p0) (told_at (rest_of g [])) → IsFeed g → IsAtEnd b → (has : Bool) (p : Option TextFault) → nat_lt 0 (length g.begun) ≡ has → bytes_fault g.begun ≡ p
    → (q : Rest) (broken : Type 0) → Advances a b p0 q (ends_leaving g None has p).line broken (ended_as (ends_giving None has p))
adv_end_by {b} p0 g r i end false p h k q broken = (end_then r (ends_here b (end-nothing AtEnd g (no_bytes g.begun (ltb-false 0 (length g.begun) h)) ∙ told-nil)), end)
adv_end_by {a} {b} p0 g r i end true (Some x) h k q broken =
    subst (λ t. Stopped a b (told_at p0) broken t (Faulty (frame_fault x))) (sym (no_read x))
    (inr (end_then r (ends_here b (end-line g i (ltb-true 0 (length g.begun) h) ∙ some_fault _ _ x k)), end))
adv_end_by {b} p0 g r i end true None h k q broken = (end_then r (ends_here b (end-line g i (ltb-true 0 (length g.begun) h) ∙ none_fault _ _ k)), end)

pub adv_end : {a b : Option (List ℕ)} (p0 : Rest) (g : Feed) → ReadsOn a b (told_at p0) (told_at (rest_of g [])) → IsFeed g → g.fault ≡ None → IsAtEnd b → (q : Rest) (broken : Type 0)
    → Advances a b p0 q (finish_leaves g).line broken (ended_as (finish_gives g))
adv_end {a} {b} p0 g r i z end q broken =
    subst (λ o. Advances a b p0 q (ends_leaving g o (nat_lt 0 (length g.begun)) (bytes_fault g.begun)).line broken (ended_as (ends_giving o (nat_lt 0 (length g.begun)) (bytes_fault g.begun)))) (sym z)
    (adv_end_by p0 g r i end _ _ refl refl q broken)

-- what was read since, where the next piece was read
pub after_fill : (a b c : Option (List ℕ)) (p0 : Rest) (g : Feed) (n : Reading) → ReadsOn a b (told_at p0) (told_at (rest_of g [])) → n.feed ≡ g → b ≡ prepend_known n.piece c → ReadsOn a c (told_at p0) (told_at (reading_rest n))
after_fill a b c p0 g n r h e = on_then r (subst (λ f. ReadsOn b c (told_at (rest_of f [])) (told_at (rest_of n.feed n.piece))) h (reads_piece n.feed n.piece e))

pub after_empty_fill : (a b c : Option (List ℕ)) (p0 : Rest) (g : Feed) (n : Reading) → ReadsOn a b (told_at p0) (told_at (rest_of g [])) → n.feed ≡ g → b ≡ prepend_known n.piece c → n.piece ≡ [] → ReadsOn a c (told_at p0) (told_at (rest_of n.feed []))
after_empty_fill a b c p0 g n r h e none = subst (λ l. ReadsOn a c (told_at p0) (told_at (rest_of n.feed l))) none (after_fill a b c p0 g n r h e)
