-- A plan ends where its bytes are seen to end.
use Rattle.std.proofs.Common.{◌≡◌, ℕ, suc, ◌+◌, Bool, true, false, cond, List, [], ◌∷◌, ◌++◌, length, refl, sym, ap, subst, ◌∙◌, arith, append_assoc, append-nil, length-append, eqb-true}
use Rattle.tx_jobs.proofs.Common.{if◌then◌else◌, is_end, Seen}
use Rattle.std.specs.List.{slice_split, onto_first}
use Rattle.std.proofs.lemmas.List.Elements.{All-nil, All-push}
use Rattle.tx_text.specs.Text.{Line, is_lf, lines_of_parts, lines_from}
use Rattle.tx_text.specs.Words.{words_of}
use Rattle.tx_text.proofs.TextLines.{HasNoLf, ended_line, lines_at_lf, lines_nil, lines_last}
use Rattle.tx_jobs.specs.declared.seen.Seen.TheVariants.{Blanks, Over}
use Rattle.tx_jobs.specs.Parts.{plan_end, cut_of}
use Rattle.tx_jobs.specs.inner.Seen.{in_line, at_lf, after, is_over, is_end_seen, line_seen, end_from}
use Rattle.tx_jobs.proofs.EndLines.{end_is_seen}

-- THE FIRST LINE OF A TEXT starts where the text does

record Parts (parts : List (List ℕ)) : Type 0 where
  pub first : List ℕ
  pub others : List (List ℕ)
  pub is : parts ≡ first ∷ others

onto_parts : (b : ℕ) (parts : List (List ℕ)) → Parts (onto_first b parts)
onto_parts b [] = record { first = b ∷ []; others = []; is = refl }
onto_parts b (p ∷ ps) = record { first = b ∷ p; others = ps; is = refl }

cond_parts : (x : Bool) (b : ℕ) (parts : List (List ℕ)) → Parts (cond x ([] ∷ parts) (onto_first b parts))
cond_parts true b parts = record { first = []; others = parts; is = refl }
cond_parts false b parts = onto_parts b parts

parts_of : (text : List ℕ) → Parts (slice_split is_lf text)
parts_of [] = record { first = []; others = []; is = refl }
parts_of (b ∷ bs) = cond_parts (is_lf b) b (slice_split is_lf bs)

record StartsAt (lines : List Line) (start : ℕ) : Type 0 where
  pub first : Line
  pub others : List Line
  pub is : lines ≡ first ∷ others
  pub at : first.start ≡ start

parts_start : (n s b : ℕ) (first : List ℕ) (others : List (List ℕ)) (x : Bool) → StartsAt (lines_of_parts n s (cond x ([] ∷ first ∷ others) (onto_first b (first ∷ others)))) s
unfolding lines_of_parts
parts_start n s b first others true = record { first = ended_line n s []; others = lines_of_parts (n + 1) (s + 0 + 1) (first ∷ others); is = refl; at = refl }
parts_start n s b first [] false = record { first = record { number = n; start = s; bytes = b ∷ first; finished = false }; others = []; is = refl; at = refl }
parts_start n s b first (next ∷ others) false = record { first = ended_line n s (b ∷ first); others = lines_of_parts (n + 1) (s + length (b ∷ first) + 1) (next ∷ others); is = refl; at = refl }

starts : (n s b : ℕ) (bs : List ℕ) → StartsAt (lines_from n s (b ∷ bs)) s
unfolding lines_from
starts n s b bs =
    let p = parts_of bs in
    subst (λ parts. StartsAt (lines_of_parts n s (cond (is_lf b) ([] ∷ parts) (onto_first b parts))) s) (sym p.is) (parts_start n s b p.first p.others (is_lf b))

-- WHAT IS SEEN

pub in_going : (seen : Seen) (b : ℕ) → is_over seen ≡ false → is_over (in_line seen b) ≡ false
in_going seen b h = grind arith

pub line_going : (seen : Seen) (raw : List ℕ) → is_over seen ≡ false → is_over (line_seen seen raw) ≡ false
unfolding line_seen
line_going seen [] h = h
line_going seen (b ∷ raw) h = line_going (in_line seen b) raw (in_going seen b h)

line_none : line_seen Blanks [] ≡ Blanks
unfolding line_seen
line_none = refl

line_on : (seen : Seen) (raw : List ℕ) (b : ℕ) → line_seen seen (raw ++ b ∷ []) ≡ in_line (line_seen seen raw) b
unfolding line_seen
line_on seen [] b = refl
line_on seen (c ∷ raw) b = line_on (in_line seen c) raw b

lf_seen : (seen : Seen) → is_over seen ≡ false → at_lf seen ≡ (if is_end_seen seen then Over else Blanks)
lf_seen seen h = grind arith

pub end_on : (seen : Seen) (b : ℕ) (bs : List ℕ) → is_over seen ≡ false → end_from seen (b ∷ bs) ≡ suc (end_from (after seen b) bs)
unfolding end_from
end_on seen b bs h = ap (λ x. if x then 0 else suc (end_from (after seen b) bs)) h

pub end_none : (seen : Seen) → end_from seen [] ≡ 0
unfolding end_from
end_none seen = refl

pub end_over : (seen : Seen) (bs : List ℕ) → is_over seen ≡ true → end_from seen bs ≡ 0
unfolding end_from
end_over seen [] h = refl
end_over seen (b ∷ bs) h = ap (λ x. if x then 0 else suc (end_from (after seen b) bs)) h

-- WHERE THE PLAN ENDS

last_ends : (size : ℕ) (l : Line) → plan_end size (l ∷ []) ≡ size
unfolding plan_end
last_ends size l = refl

none_ends : (size : ℕ) → plan_end size [] ≡ size
unfolding plan_end
none_ends size = refl

-- the first line ends the plan, or the plan goes on with the others
line_ends : (size : ℕ) (l : Line) (lines : List Line) (start : ℕ) → StartsAt lines start → plan_end size (l ∷ lines) ≡ (if is_end (words_of l.bytes) then start else plan_end size lines)
unfolding plan_end
line_ends size l lines start s = subst (λ ls. plan_end size (l ∷ ls) ≡ (if is_end (words_of l.bytes) then start else plan_end size ls)) (sym s.is) (ap (λ k. if is_end (words_of l.bytes) then k else plan_end size (s.first ∷ s.others)) s.at)

-- of a text that begins with this line: the rest is of the plan as far as it is seen to be
abbrev EndsSo : ℕ → ℕ → ℕ → List ℕ → List ℕ → Type 0
EndsSo n s size raw text = plan_end size (lines_from n s (raw ++ text)) ≡ s + length raw + end_from (line_seen Blanks raw) text

no_more : (n s size : ℕ) (raw : List ℕ) → HasNoLf raw → size ≡ s + length raw → EndsSo n s size raw []
no_more n s size [] h e = ap (plan_end size) (lines_nil n s) ∙ none_ends size ∙ omega (arith, e, end_none (line_seen Blanks []))
no_more n s size (c ∷ raw) h e =
    ap (λ t. plan_end size (lines_from n s t)) (append-nil (c ∷ raw)) ∙ ap (plan_end size) (lines_last n s (c ∷ raw) h (omega arith)) ∙ last_ends size _
    ∙ omega (arith, e, end_none (line_seen Blanks (c ∷ raw)))

module _ (n s size : ℕ) (raw : List ℕ) (h : HasNoLf raw) where
  abbrev seen : Seen
  seen = line_seen Blanks raw

  going : is_over seen ≡ false
  going = line_going Blanks raw refl

  abbrev at : ℕ
  at = s + length raw + 1

  -- the line is over, and the text with it
  lf_last : size ≡ at → plan_end size (lines_from n s (raw ++ 10 ∷ [])) ≡ s + length raw + end_from seen (10 ∷ [])
  lf_last e =
      ap (plan_end size) (lines_at_lf n s raw [] h ∙ ap (λ ls. ended_line n s raw ∷ ls) (lines_nil (n + 1) at)) ∙ last_ends size (ended_line n s raw)
      ∙ omega (arith, e, end_on seen 10 [] going, end_none (after seen 10))

  -- or other lines follow
  lf_by : (b : ℕ) (bs : List ℕ) → plan_end size (lines_from (n + 1) at (b ∷ bs)) ≡ at + end_from Blanks (b ∷ bs) → (x : Bool) → is_end_seen seen ≡ x
      → (if x then at else plan_end size (lines_from (n + 1) at (b ∷ bs))) ≡ s + length raw + suc (end_from (at_lf seen) (b ∷ bs))
  lf_by b bs on true e = let over : at_lf seen ≡ Over = lf_seen seen going ∙ ap (λ y. if y then Over else Blanks) e in omega (arith, end_over (at_lf seen) (b ∷ bs) (ap is_over over))
  lf_by b bs on false e =
      let blank : at_lf seen ≡ Blanks = lf_seen seen going ∙ ap (λ y. if y then Over else Blanks) e in
      on ∙ omega (arith, ap (λ t. end_from t (b ∷ bs)) blank)

  lf_more : (b : ℕ) (bs : List ℕ) → plan_end size (lines_from (n + 1) at (b ∷ bs)) ≡ at + end_from Blanks (b ∷ bs) → plan_end size (lines_from n s (raw ++ 10 ∷ b ∷ bs)) ≡ s + length raw + end_from seen (10 ∷ b ∷ bs)
  lf_more b bs on =
      let lines = lines_from (n + 1) at (b ∷ bs) in
      ap (plan_end size) (lines_at_lf n s raw (b ∷ bs) h) ∙ line_ends size (ended_line n s raw) lines at (starts (n + 1) at b bs)
      ∙ ap (λ x. if x then at else plan_end size lines) (sym (end_is_seen raw)) ∙ lf_by b bs on (is_end_seen seen) refl ∙ ap (λ k. s + length raw + k) (sym (end_on seen 10 (b ∷ bs) going))

  lf_next : (rest : List ℕ) → size ≡ at + length rest → EndsSo (n + 1) at size [] rest → plan_end size (lines_from n s (raw ++ 10 ∷ rest)) ≡ s + length raw + end_from seen (10 ∷ rest)
  lf_next [] e on = lf_last (omega (arith, e))
  lf_next (b ∷ bs) e on = lf_more b bs (on ∙ omega (arith, ap (λ t. end_from t (b ∷ bs)) line_none))

  -- one byte more of the line
  byte_next : (b : ℕ) (rest : List ℕ) → is_lf b ≡ false → EndsSo n s size (raw ++ b ∷ []) rest → EndsSo n s size raw (b ∷ rest)
  byte_next b rest plain on =
      ap (λ t. plan_end size (lines_from n s t)) (sym (append_assoc raw (b ∷ []) rest)) ∙ on
      ∙ ap (λ t. s + length (raw ++ b ∷ []) + end_from t rest) (line_on Blanks raw b ∙ sym (ap (λ x. if x then at_lf seen else in_line seen b) plain))
      ∙ omega (arith, length-append raw (b ∷ []), end_on seen b rest going)

  next_by : (b : ℕ) (rest : List ℕ) → size ≡ s + length raw + length (b ∷ rest) → EndsSo (n + 1) at size [] rest → (is_lf b ≡ false → EndsSo n s size (raw ++ b ∷ []) rest) → (x : Bool) → is_lf b ≡ x → EndsSo n s size raw (b ∷ rest)
  next_by b rest e lf byte true t = let ten : b ≡ 10 = eqb-true b 10 t in subst (λ c. EndsSo n s size raw (c ∷ rest)) (sym ten) (lf_next rest (omega (arith, e)) lf)
  next_by b rest e lf byte false t = byte_next b rest t (byte t)

cut_from : (n s size : ℕ) (raw text : List ℕ) → HasNoLf raw → size ≡ s + length raw + length text → EndsSo n s size raw text
cut_from n s size raw [] h e = no_more n s size raw h (omega (arith, e))
cut_from n s size raw (b ∷ rest) h e =
    next_by n s size raw h b rest e (cut_from (n + 1) (s + length raw + 1) size [] rest (All-nil (λ c. is_lf c ≡ false)) (omega (arith, e)))
    (λ t. cut_from n s size (raw ++ b ∷ []) rest (All-push (λ c. is_lf c ≡ false) raw b h t) (omega (arith, e, length-append raw (b ∷ [])))) (is_lf b) refl

-- A plan that was not begun ends at the cut.
pub seen_cut : (text : List ℕ) → end_from Blanks text ≡ cut_of text
seen_cut text = sym (cut_from 1 0 (length text) [] text (All-nil (λ c. is_lf c ≡ false)) (omega arith) ∙ omega (arith, ap (λ t. end_from t text) line_none))
