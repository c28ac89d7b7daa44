-- What was written reads back.
use Rattle.std.proofs.Common.{◌≡◌, ◌==◌, ℕ, ◌+◌, ◌-◌, ◌<◌, ◌≤◌, ◌≢◌, Bool, true, false, nat_lt, List, [], ◌∷◌, ◌++◌, length, get_or, filter, Option, None, Some, Result, Ok, codes, refl, ap, ◌∙◌, append_assoc, arith}
use Rattle.tx_text.proofs.Common.{All, AllByRecursion, slice_split, list_all, flat_map, nat_tests, slice_split_at, slice_split_none, list_all-from_AllPass, Start, Body, Ended, joined, line_written}
use Rattle.std.proofs.lemmas.List.Elements.{All-head, All-tail, All-append, All-cons, All-nil, All-weaker}
use Rattle.tx_text.specs.Text.{Line, is_lf, is_text_byte, without_cr, bytes_fault, lines_from, lines_of}
use Rattle.tx_text.specs.Words.{words_of, is_blank, is_hash, is_filled, before}
use Rattle.tx_text.specs.Told.{Ending, AtEnd, Then, told}
use Rattle.tx_text.specs.Frame.{Framed, Done, Has, Headed, is_end, framed}
use Rattle.tx_text.specs.Said.{said, step_on}
use Rattle.tx_text.specs.inner.Written.{IsWritten, IsPlain, IsWord, IsWrittenLine, LeadsTo}
use Rattle.tx_text.proofs.TextLines.{lines_nil}
use Rattle.tx_text.proofs.Feeding.{told-lf, none_fault}

no_blank : (b : ℕ) → IsPlain b → is_blank b ≡ false
no_blank b h = let l = h.low in grind (arith, nat_tests)

no_hash : (b : ℕ) → IsWritten b → is_hash b ≡ false
no_hash b h = let l = h.no_hash in grind (arith, nat_tests)

no_lf : (b : ℕ) → IsWritten b → is_lf b ≡ false
no_lf b h = let l = h.low in grind (arith, nat_tests)

text_byte : (b : ℕ) → IsWritten b → is_text_byte b ≡ true
text_byte b h = let l = h.low in let k = h.high in grind (arith, nat_tests)

no_cr : (b : ℕ) → 32 ≤ b → (b == 13) ≡ false
no_cr b h = grind (arith, nat_tests)

written : (b : ℕ) → IsPlain b → IsWritten b
written b h = record { low = omega (arith, h.low); high = h.high; no_hash = h.no_hash }

before_none : (p : ℕ → Bool) (xs : List ℕ) → All (λ b. p b ≡ false) xs → before p xs ≡ xs
before_none p [] h = refl
before_none p (b ∷ bs) h =
    let e = All-head (λ x. p x ≡ false) b bs h in
    let t = before_none p bs (All-tail (λ x. p x ≡ false) b bs h) in
    rw (e, t) refl

blanks : (w : List ℕ) → IsWord w → All (λ b. is_blank b ≡ false) w
blanks w h = All-weaker IsPlain (λ b. is_blank b ≡ false) no_blank w h.plain

split_joined : (w : List ℕ) (ws : List (List ℕ)) → AllByRecursion IsWord (w ∷ ws) → slice_split is_blank (joined (w ∷ ws)) ≡ w ∷ ws
split_joined w [] h = slice_split_none is_blank w (blanks w h.0)
split_joined w (v ∷ ws) h = slice_split_at is_blank w 32 (joined (v ∷ ws)) (blanks w h.0) refl ∙ ap (λ l. w ∷ l) (split_joined v ws h.1)

filled : (ws : List (List ℕ)) → AllByRecursion IsWord ws → filter is_filled ws ≡ ws
filled [] h = refl
filled ([] ∷ ws) h = absurd (omega (arith, h.0.some))
filled ((b ∷ bs) ∷ ws) h = ap (λ l. (b ∷ bs) ∷ l) (filled ws h.1)

all_joined : (ws : List (List ℕ)) → AllByRecursion IsWord ws → All IsWritten (joined ws)
all_joined [] h = All-nil IsWritten
all_joined (w ∷ []) h = All-weaker IsPlain IsWritten written w h.0.plain
all_joined (w ∷ v ∷ ws) h =
    let blank : IsWritten 32 = record { low = omega arith; high = omega arith; no_hash = omega arith } in
    All-append IsWritten w (32 ∷ joined (v ∷ ws)) (All-weaker IsPlain IsWritten written w h.0.plain) (All-cons IsWritten 32 (joined (v ∷ ws)) blank (all_joined (v ∷ ws) h.1))

pub words_joined : (w : List ℕ) (ws : List (List ℕ)) → AllByRecursion IsWord (w ∷ ws) → words_of (joined (w ∷ ws)) ≡ w ∷ ws
unfolding words_of
words_joined w ws h =
    ap (λ l. filter is_filled (slice_split is_blank l)) (before_none is_hash (joined (w ∷ ws)) (All-weaker IsWritten (λ b. is_hash b ≡ false) no_hash (joined (w ∷ ws)) (all_joined (w ∷ ws) h)))
    ∙ ap (filter is_filled) (split_joined w ws h) ∙ filled (w ∷ ws) h

last_no_cr : (raw : List ℕ) → All IsWritten raw → (get_or raw (length raw - 1) 0 == 13) ≡ false
last_no_cr [] h = refl
last_no_cr (b ∷ bs) h = no_cr (get_or (b ∷ bs) (length (b ∷ bs) - 1) 0) (h (length (b ∷ bs) - 1) 0 (omega arith)).low

no_cr_dropped : (raw : List ℕ) → All IsWritten raw → without_cr raw ≡ raw
unfolding without_cr
no_cr_dropped raw h = let e = last_no_cr raw h in rw e refl

no_fault : (raw : List ℕ) → All IsWritten raw → length raw ≤ 512 → bytes_fault raw ≡ None
unfolding bytes_fault
no_fault raw h short =
    let l : nat_lt 512 (length raw) ≡ false = grind (arith, nat_tests) in
    let t : list_all is_text_byte raw ≡ true = list_all-from_AllPass is_text_byte raw (All-weaker IsWritten (λ b. is_text_byte b ≡ true) text_byte raw h) in
    rw (l, t) refl

-- a written line comes first
line_back : (e : Ending) (n s : ℕ) (ws : List (List ℕ)) (rest : List ℕ) → IsWrittenLine ws
    → told e (lines_from n s (joined ws ++ 10 ∷ rest)) ≡ Then (record { number = n; start = s; bytes = joined ws; finished = true }) (told e (lines_from (n + 1) (s + length (joined ws) + 1) rest))
line_back e n s ws rest h =
    let a = all_joined ws h.words in
    let c = no_cr_dropped (joined ws) a in
    let f : bytes_fault (without_cr (joined ws)) ≡ None = ap bytes_fault c ∙ no_fault (joined ws) a h.short in
    told-lf e n s (joined ws) rest (All-weaker IsWritten (λ b. is_lf b ≡ false) no_lf (joined ws) a)
    ∙ none_fault _ _ f
    ∙ ap (λ (l : List ℕ). Then (record { number = n; start = s; bytes = l; finished = true }) (told e (lines_from (n + 1) (s + length (joined ws) + 1) rest))) c

module _ (header : List (List ℕ) → Option ℕ) where
  -- in the body of a text
  pub has_back : (e : Ending) (n s : ℕ) (ws : List (List ℕ)) (rest : List ℕ) → IsWrittenLine ws → 0 < length ws → is_end ws ≡ false
      → framed header Body n (told e (lines_from n s (joined ws ++ 10 ∷ rest))) ≡ Has n ws (framed header Body (n + 1) (told e (lines_from (n + 1) (s + length (joined ws) + 1) rest)))
  unfolding framed
  has_back e n s [] rest h some end = absurd (omega (arith, some))
  has_back e n s (w ∷ ws) rest h some end =
      ap (framed header Body n) (line_back e n s (w ∷ ws) rest h) ∙ rw (words_joined w ws h.words, end) refl

  -- the header comes first
  pub head_back : (e : Ending) (n s v : ℕ) (ws : List (List ℕ)) (rest : List ℕ) → IsWrittenLine ws → 0 < length ws → header ws ≡ Some v
      → framed header Start n (told e (lines_from n s (joined ws ++ 10 ∷ rest))) ≡ Headed v (framed header Body (n + 1) (told e (lines_from (n + 1) (s + length (joined ws) + 1) rest)))
  unfolding framed
  head_back e n s v [] rest h some k = absurd (omega (arith, some))
  head_back e n s v (w ∷ ws) rest h some k =
      ap (framed header Start n) (line_back e n s (w ∷ ws) rest h) ∙ rw (words_joined w ws h.words, k) refl

  plain_byte : (b : ℕ) → 33 ≤ b → b ≤ 126 → b ≢ 35 → IsPlain b
  plain_byte b l k h = record { low = l; high = k; no_hash = h }

  end_written : IsWrittenLine (codes "END" ∷ [])
  end_written = record {
    words = (
      record {
        some = omega arith;
        plain = All-cons IsPlain 69 (78 ∷ 68 ∷ []) (plain_byte 69 (omega arith) (omega arith) (omega arith))
            (All-cons IsPlain 78 (68 ∷ []) (plain_byte 78 (omega arith) (omega arith) (omega arith)) (All-cons IsPlain 68 [] (plain_byte 68 (omega arith) (omega arith) (omega arith)) (All-nil IsPlain)));
      },
      tt,
    );
    short = omega arith;
  }

  -- at its END
  pub end_back : (n s : ℕ) → framed header Body n (told AtEnd (lines_from n s (codes "END\n"))) ≡ Done
  unfolding framed told words_of
  end_back n s = ap (framed header Body n) (line_back AtEnd n s (codes "END" ∷ []) [] end_written) ∙ ap (λ (ls : List Line). framed header Ended (n + 1) (told AtEnd ls)) (lines_nil (n + 1) (s + 3 + 1))

  module _ {S W : Type 0} (declare : ℕ → S → List (List ℕ) → Result S W) where
    said_line : (v n : ℕ) (s m : S) (ws : List (List ℕ)) (t : Framed) → declare v s ws ≡ Ok m → said declare v s (Has n ws t) ≡ said declare v m t
    unfolding said
    said_line v n s m ws t h = ap (λ o. step_on declare n o (λ z. said declare v z t)) h

    said_done : (v : ℕ) (s : S) → said declare v s Done ≡ Ok s
    unfolding said
    said_done v s = refl

    said_head : (v w : ℕ) (s : S) (t : Framed) → said declare v s (Headed w t) ≡ said declare w s t
    unfolding said
    said_head v w s t = refl

    regroup : (ws : List (List ℕ)) (rest end : List ℕ) → (line_written ws ++ rest) ++ end ≡ joined ws ++ 10 ∷ (rest ++ end)
    regroup ws rest end = append_assoc (line_written ws) rest end ∙ append_assoc (joined ws) (10 ∷ []) (rest ++ end)

    body_back : (v n p : ℕ) (s r : S) (wss : List (List (List ℕ))) → LeadsTo declare v s wss r → said declare v s (framed header Body n (told AtEnd (lines_from n p (flat_map line_written wss ++ codes "END\n")))) ≡ Ok r
    body_back v n p s r [] h = ap (said declare v s) (end_back n p) ∙ said_done v s ∙ ap Ok h
    body_back v n p s r (ws ∷ wss) h =
        ap (λ (t : List ℕ). said declare v s (framed header Body n (told AtEnd (lines_from n p t)))) (regroup ws (flat_map line_written wss) (codes "END\n"))
        ∙ ap (said declare v s) (has_back AtEnd n p ws (flat_map line_written wss ++ codes "END\n") h.4 h.3 h.2)
        ∙ said_line v n s h.0 ws _ h.1
        ∙ body_back v (n + 1) (p + length (joined ws) + 1) h.0 r wss h.5

    -- THE ROUND TRIP: a header, lines that declare one after another, and END
    pub reads_back : (v w : ℕ) (s r : S) (head : List (List ℕ)) (wss : List (List (List ℕ))) → IsWrittenLine head → 0 < length head → header head ≡ Some w → LeadsTo declare w s wss r
        → said declare v s (framed header Start 1 (told AtEnd (lines_of (line_written head ++ (flat_map line_written wss ++ codes "END\n"))))) ≡ Ok r
    reads_back v w s r head wss h some k l =
        ap (λ (t : List ℕ). said declare v s (framed header Start 1 (told AtEnd (lines_of t)))) (append_assoc (joined head) (10 ∷ []) (flat_map line_written wss ++ codes "END\n"))
        ∙ ap (said declare v s) (head_back AtEnd 1 0 w head (flat_map line_written wss ++ codes "END\n") h some k)
        ∙ said_head v w s _
        ∙ body_back w 2 (0 + length (joined head) + 1) s r wss l
