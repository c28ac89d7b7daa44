-- The lines of a text up to the first fault, one after another.
use Rattle.tx_text.proofs.Common.{◌≡◌, ℕ, ◌+◌, ◌-◌, ◌<◌, List, [], ◌∷◌, ◌++◌, Some, None, Ok, Err, true, length, take, drop, refl, sym, ap, ◌∙◌, arith, position_or_len, take_all, length-drop, length-append, drop-drop, lt-ltb, TextFault, front_of, has_lf}
use Rattle.tx_text.specs.Text.{Line, is_lf, lines_from, bytes_fault, checked, checked_line}
use Rattle.tx_text.proofs.TextLines.{ended_line, last_line, lines_at_lf, lines_last, lines_nil}
use Rattle.tx_text.proofs.Feeding.{front-no_lf, cuts_at_lf, length-front}

pub checked-nil : (n s : ℕ) → checked (lines_from n s []) ≡ []
unfolding checked
checked-nil n s = ap checked (lines_nil n s)

pub checked-ok : (text : List Line) (l : Line) (ls : List Line) → text ≡ l ∷ ls → bytes_fault l.bytes ≡ None → checked text ≡ Ok l ∷ checked ls
unfolding checked
checked-ok text l ls e h = ap checked e ∙ ap (λ o. checked_line o l (checked ls)) h

pub checked-err : (text : List Line) (l : Line) (ls : List Line) (x : TextFault) → text ≡ l ∷ ls → bytes_fault l.bytes ≡ Some x → checked text ≡ Err x ∷ []
unfolding checked
checked-err text l ls x e h = ap checked e ∙ ap (λ o. checked_line o l (checked ls)) h

-- a text whose first LF stands after `front`
pub line_ended : (n s : ℕ) (text front rest : List ℕ) (b : ℕ) → front ≡ front_of text → text ≡ front ++ b ∷ rest → has_lf text ≡ true → b ≡ 10
    → lines_from n s text ≡ ended_line n s front ∷ lines_from (n + 1) (s + (length text - length rest)) rest
line_ended n s text front rest b f w h ten =
    let whole : text ≡ front ++ 10 ∷ rest = w ∙ ap (λ c. front ++ c ∷ rest) ten in
    let long = ap length whole in
    ap (lines_from n s) whole ∙ lines_at_lf n s front rest (rw f (front-no_lf text)) ∙ ap (λ k. ended_line n s front ∷ lines_from (n + 1) k rest) (omega (arith, long, length-append front (10 ∷ rest)))

pub line_last : (n s : ℕ) (text front rest : List ℕ) (m t : ℕ) → front ≡ front_of text → front ≡ text → rest ≡ [] → 0 < length text → lines_from n s text ≡ last_line n s front ∷ lines_from m t rest
line_last n s text front rest m t f same none long = lines_last n s text (rw (sym same ∙ f) (front-no_lf text)) long ∙ rw (same, none, lines_nil) refl

pub no_text : (n s : ℕ) (text : List ℕ) → length text ≡ 0 → checked (lines_from n s text) ≡ []
no_text n s [] h = checked-nil n s
no_text n s (b ∷ bs) h = absurd (omega arith)

no_bytes : (l : List ℕ) → length l ≡ 0 → l ≡ []
no_bytes [] h = refl
no_bytes (b ∷ bs) h = absurd (omega arith)

pub line_ended_at : (n s p : ℕ) (text front back rest : List ℕ) → p ≡ position_or_len is_lf text → front ≡ take p text → back ≡ drop p text → 0 < length back → rest ≡ drop 1 back
    → lines_from n s text ≡ ended_line n s front ∷ lines_from (n + 1) (s + (length text - length rest)) rest
line_ended_at n s p text front back rest i f b lt r =
    let has : has_lf text ≡ true = lt-ltb (position_or_len is_lf text) (length text) (omega (arith, ap length b, length-drop p text)) in
    let cut = cuts_at_lf text has in
    let front_is : front ≡ front_of text = f ∙ ap (λ k. take k text) i in
    let rest_is : rest ≡ cut.rest = r ∙ ap (drop 1) b ∙ drop-drop 1 p text ∙ ap (λ k. drop (k + 1) text) (i ∙ sym (length-front text)) ∙ cut.dropped in
    line_ended n s text front rest 10 front_is (cut.whole ∙ ap (λ l. l ++ 10 ∷ cut.rest) (sym front_is) ∙ ap (λ l. front ++ 10 ∷ l) (sym rest_is)) has refl

pub line_last_at : (n s p m t : ℕ) (text front back : List ℕ) → p ≡ position_or_len is_lf text → front ≡ take p text → back ≡ drop p text → length back ≡ 0 → 0 < length text
    → lines_from n s text ≡ last_line n s front ∷ lines_from m t back
line_last_at n s p m t text front back i f b none long =
    line_last n s text front back m t (f ∙ ap (λ k. take k text) i) (f ∙ take_all p text (omega (arith, ap length b, length-drop p text))) (no_bytes back none) long
