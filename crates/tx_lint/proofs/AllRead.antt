-- Reading all lines of a text, one after another.
use Rattle.std.proofs.Common.{◌≡◌, ◌==◌, ℕ, ◌+◌, ◌-◌, ◌<◌, ◌≤◌, Bool, true, false, List, [], ◌∷◌, ◌++◌, length, refl, sym, ap, subst, ◌∙◌, append-nil, arith}
use Rattle.tx_lint.proofs.Common.{if◌then◌else◌, option_to_list, eqb-true, append_assoc}
use Rattle.tx_text.specs.Text.{Line, lines_from}
use Rattle.tx_text.proofs.TextLines.{lines_nil}
use Rattle.tx_lint.specs.AllFaults.{Fault, Progress, fault_of_line, fault_of_end, line_on, faults_from, progress_from, faults_of, progress_of}

-- These faults were told of the lines before the rest, of which the first has the number n, and s is
-- what was read of them.
pub record SoFar (text : List ℕ) (fs : List Fault) (s : Progress) (n : ℕ) (rest : List ℕ) : Type 0 where
  pub faults : faults_of text ≡ fs ++ faults_from s n (lines_from n (length text - length rest) rest)
  pub progress : progress_of text ≡ progress_from s (lines_from n (length text - length rest) rest)
  pub short : length rest ≤ length text
  pub number : n ≤ (length text - length rest) + 1

one_line : (s : Progress) (n : ℕ) (l : Line) (ls : List Line) → l.number ≡ n → l.finished ≡ true
    → faults_from s n (l ∷ ls) ≡ option_to_list (fault_of_line s l) ++ faults_from (line_on s l) (n + 1) ls
unfolding faults_from
one_line s n l ls e f = rw (f, e) refl

one_on : (s : Progress) (l : Line) (ls : List Line) → l.finished ≡ true → progress_from s (l ∷ ls) ≡ progress_from (line_on s l) ls
unfolding progress_from
one_on s l ls f = rw f refl

last_line : (s : Progress) (n : ℕ) (l : Line) (ls : List Line) → l.finished ≡ false → faults_from s n (l ∷ ls) ≡ option_to_list (fault_of_line s l)
unfolding faults_from
last_line s n l ls f =
    ap (λ (b : Bool). option_to_list (fault_of_line s l) ++ (if b then faults_from (line_on s l) (l.number + 1) ls else [])) f
    ∙ append-nil (option_to_list (fault_of_line s l))

last_on : (s : Progress) (l : Line) (ls : List Line) → l.finished ≡ false → progress_from s (l ∷ ls) ≡ s
unfolding progress_from
last_on s l ls f = rw f refl

no_line : (s : Progress) (n : ℕ) → faults_from s n [] ≡ option_to_list (fault_of_end n s.part)
unfolding faults_from
no_line s n = refl

none_on : (s : Progress) → progress_from s [] ≡ s
unfolding progress_from
none_on s = refl

-- how a line leads on, whether an LF ended it or the text
abbrev pub led_on : Progress → Line → Progress
led_on s l = if l.finished then line_on s l else s

module _ (text : List ℕ) (fs new : List Fault) (s r : Progress) (n : ℕ) (rest after : List ℕ) (l : Line) where
  -- a line that an LF ended was taken in
  pub so_far_next : SoFar text fs s n rest
      → lines_from n (length text - length rest) rest ≡ l ∷ lines_from (n + 1) ((length text - length rest) + (length rest - length after)) after
      → l.number ≡ n → l.finished ≡ true → length after < length rest
      → new ≡ fs ++ option_to_list (fault_of_line s l) → r ≡ led_on s l → SoFar text new r (n + 1) after
  so_far_next so e num fin less told led =
      let index : (length text - length rest) + (length rest - length after) ≡ length text - length after = omega (arith, so.short, less) in
      let lines = subst (λ (k : ℕ). lines_from n (length text - length rest) rest ≡ l ∷ lines_from (n + 1) k after) index e in
      let on : r ≡ line_on s l = led ∙ rw fin refl in
      let others = lines_from (n + 1) (length text - length after) after in
      let opened = option_to_list (fault_of_line s l) in
      record {
        faults = so.faults ∙ ap (λ ls. fs ++ faults_from s n ls) lines ∙ ap (λ x. fs ++ x) (one_line s n l others num fin)
            ∙ sym (append_assoc fs opened (faults_from (line_on s l) (n + 1) others)) ∙ ap (λ x. x ++ faults_from (line_on s l) (n + 1) others) (sym told)
            ∙ ap (λ (q : Progress). new ++ faults_from q (n + 1) others) (sym on);
        progress = so.progress ∙ ap (progress_from s) lines ∙ one_on s l others fin ∙ ap (λ (q : Progress). progress_from q others) (sym on);
        short = let w = so.short in omega (arith, w, less);
        number = let w = so.short in let k = so.number in omega (arith, w, k, less);
      }

  -- the last line was taken in, which no LF ends
  pub all_read_last : SoFar text fs s n rest → (ls : List Line) → lines_from n (length text - length rest) rest ≡ l ∷ ls → l.finished ≡ false
      → new ≡ fs ++ option_to_list (fault_of_line s l) → r ≡ led_on s l → (new ≡ faults_of text) × (r ≡ progress_of text)
  all_read_last so ls e fin told led = (
    told ∙ ap (λ x. fs ++ x) (sym (last_line s n l ls fin)) ∙ ap (λ x. fs ++ faults_from s n x) (sym e) ∙ sym so.faults,
    (led ∙ rw fin refl) ∙ sym (last_on s l ls fin) ∙ ap (progress_from s) (sym e) ∙ sym so.progress,
  )

pub no_bytes : (rest : List ℕ) → (length rest == 0) ≡ true → rest ≡ []
no_bytes [] over = refl
no_bytes (b ∷ rest) over = let zero = eqb-true (length (b ∷ rest)) 0 over in absurd (omega (arith, zero))

-- the end was taken in
pub all_read_end : (text : List ℕ) (fs new : List Fault) (s r : Progress) (n : ℕ) (rest : List ℕ) → SoFar text fs s n rest → rest ≡ []
    → new ≡ fs ++ option_to_list (fault_of_end n s.part) → r ≡ s → (new ≡ faults_of text) × (r ≡ progress_of text)
all_read_end text fs new s r n rest so none told same =
    let lines : lines_from n (length text - length rest) rest ≡ [] = rw none (lines_nil n (length text - 0)) in (
      told ∙ ap (λ x. fs ++ x) (sym (no_line s n)) ∙ ap (λ x. fs ++ faults_from s n x) (sym lines) ∙ sym so.faults,
      same ∙ sym (none_on s) ∙ ap (progress_from s) (sym lines) ∙ sym so.progress,
    )
