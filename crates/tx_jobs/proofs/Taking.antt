-- Taking the bytes of a plan, line by line.
use Rattle.std.proofs.Common.{◌≡◌, ◌≢◌, ℕ, zero, suc, ◌+◌, ◌-◌, ◌<◌, ◌≤◌, min, true, false, List, [], ◌∷◌, ◌++◌, Option, Some, None, Result, Ok, inl, inr, ◌⊎◌, length, take, drop, refl, sym, ap, subst, ◌∙◌, arith}
use Rattle.tx_jobs.proofs.Common.{if◌then◌else◌, slice_index, IsAtEnd, prepend_known, is_lf, HasNoLf, Seen, Other, ReadFault, ScriptPart}
use Rattle.std.specs.List.{position_or_len}
use Rattle.std.proofs.lemmas.Bool.{false≢true, lt-ltb}
use Rattle.std.proofs.lemmas.List.{append_assoc, take-append-drop, length-drop, length-take-le, take-append-le, drop-append-le, take_all, drop_all, drop-drop}
use Rattle.std.proofs.lemmas.List.Elements.{All-tail}
use Rattle.memchr.specs.Find.{IsFirstByte}
use Rattle.tx_text.specs.inner.Feed.{front_of}
use Rattle.tx_text.proofs.Feeding.{front-no_lf, length-front, cuts_at_lf}
use Rattle.tx_text.proofs.Indexes.{found_or_len}
use Rattle.tx_jobs.specs.inner.Seen.{in_line, at_lf, line_seen, is_over, end_from}
use Rattle.tx_jobs.specs.declared.ahead.Ahead.{Ahead}
use Rattle.tx_jobs.specs.inner.Reading.{plan_of, script_of, Refilled, CalledInput, LeftInput}
use Rattle.tx_jobs.proofs.Cutting.{end_on, in_going, line_going}
use Rattle.tx_jobs.proofs.EndLines.{other}

zero_on : (k : ℕ) → k ≡ 0 + k
zero_on k = omega arith

-- A LINE of which these bytes have no LF

pub line_taken : (seen : Seen) (line rest : List ℕ) → HasNoLf line → is_over seen ≡ false → end_from seen (line ++ rest) ≡ length line + end_from (line_seen seen line) rest
unfolding line_seen
line_taken seen [] rest none going = zero_on (end_from seen rest)
line_taken seen (b ∷ line) rest none going =
    let plain : is_lf b ≡ false = none 0 0 (omega arith) in
    end_on seen b (line ++ rest) going
    ∙ ap suc (ap (λ x. end_from (if x then at_lf seen else in_line seen b) (line ++ rest)) plain ∙ line_taken (in_line seen b) line rest (All-tail (λ c. is_lf c ≡ false) b line none) (in_going seen b going))
    ∙ omega arith

-- with its LF
pub lf_taken : (seen : Seen) (line rest more : List ℕ) → HasNoLf line → is_over seen ≡ false → end_from seen ((line ++ 10 ∷ rest) ++ more) ≡ length line + 1 + end_from (at_lf (line_seen seen line)) (rest ++ more)
lf_taken seen line rest more none going =
    ap (end_from seen) (append_assoc line (10 ∷ rest) more) ∙ line_taken seen line (10 ∷ rest ++ more) none going
    ∙ ap (λ k. length line + k) (end_on (line_seen seen line) 10 (rest ++ more) (line_going seen line going)) ∙ omega arith

-- the first LF of these bytes ends a line
record EndsLine (bytes : List ℕ) (len : ℕ) : Type 0 where
  pub none : HasNoLf (take len bytes)
  pub whole : bytes ≡ take len bytes ++ 10 ∷ drop (len + 1) bytes

ends_line : (bytes : List ℕ) (len : ℕ) → IsFirstByte is_lf bytes (Some len) → EndsLine bytes len
ends_line bytes len first =
    let e : len ≡ position_or_len is_lf bytes = found_or_len is_lf bytes (Some len) first in
    let cut = cuts_at_lf bytes (lt-ltb (position_or_len is_lf bytes) (length bytes) (omega (arith, e, first.0.high))) in
    subst (EndsLine bytes) (sym e)
    (record { none = front-no_lf bytes; whole = cut.whole ∙ ap (λ rest. front_of bytes ++ 10 ∷ rest) (sym cut.dropped ∙ ap (λ k. drop (k + 1) bytes) (length-front bytes)) })

no_lf : (bytes : List ℕ) → IsFirstByte is_lf bytes None → HasNoLf bytes
no_lf bytes first =
    let e : length bytes ≡ position_or_len is_lf bytes = found_or_len is_lf bytes None first in
    subst HasNoLf (take_all (position_or_len is_lf bytes) bytes (omega (arith, e))) (front-no_lf bytes)

-- the bytes up to the first LF and with it were taken
pub to_lf : (seen new : Seen) (bytes : List ℕ) (len : ℕ) → IsFirstByte is_lf bytes (Some len) → is_over seen ≡ false → new ≡ at_lf (line_seen seen (take len bytes))
    → (more : List ℕ) → end_from seen (bytes ++ more) ≡ len + 1 + end_from new (drop (len + 1) bytes ++ more)
to_lf seen new bytes len first going is more =
    let cut = ends_line bytes len first in
    let line = take len bytes in
    let rest = drop (len + 1) bytes in
    let size : length line ≡ len = length-take-le len bytes (omega (arith, first.0.high)) in
    ap (λ l. end_from seen (l ++ more)) cut.whole ∙ lf_taken seen line rest more cut.none going ∙ (λ i. size i + 1 + end_from (sym is i) (rest ++ more))

-- all bytes were taken, of which none is an LF
pub to_end : (seen new : Seen) (bytes : List ℕ) → IsFirstByte is_lf bytes None → is_over seen ≡ false → new ≡ line_seen seen bytes
    → (more : List ℕ) → end_from seen (bytes ++ more) ≡ length bytes + end_from new (drop (length bytes) bytes ++ more)
to_end seen new bytes first going is more =
    let none : drop (length bytes) bytes ≡ [] = drop_all (length bytes) bytes (omega arith) in
    line_taken seen bytes more (no_lf bytes first) going ∙ (λ i. length bytes + end_from (sym is i) (sym none i ++ more))

-- WHAT IS SEEN with the bytes of a line from an index on

from_at : (bytes : List ℕ) (i : ℕ) → i < length bytes → drop i bytes ≡ slice_index bytes i ∷ drop (i + 1) bytes
from_at [] i h = absurd (omega (arith, h))
from_at (b ∷ bs) zero h = refl
from_at (b ∷ bs) (suc i) h = let e : suc (i + 1) ≡ suc i + 1 = omega arith in from_at bs i (omega (arith, h)) ∙ ap (λ k. slice_index bs i ∷ drop k (b ∷ bs)) e

pub seen_on : (seen : Seen) (bytes : List ℕ) (i : ℕ) → i < length bytes → line_seen seen (drop i bytes) ≡ line_seen (in_line seen (slice_index bytes i)) (drop (i + 1) bytes)
unfolding line_seen
seen_on seen bytes i lt = ap (line_seen seen) (from_at bytes i lt)

pub seen_all : (seen : Seen) (bytes : List ℕ) (i : ℕ) → length bytes ≤ i → line_seen seen (drop i bytes) ≡ seen
unfolding line_seen
seen_all seen bytes i le = ap (line_seen seen) (drop_all i bytes le)

pub seen_other : (seen : Seen) (bytes : List ℕ) → seen ≡ Other → line_seen seen bytes ≡ seen
seen_other seen bytes is = rw is (other bytes)

-- THE FIRST i OF THE BYTES WERE TAKEN

pub record Taken (old : Seen) (bytes : List ℕ) (now : Seen) (i : ℕ) : Type 0 where
  pub within : i ≤ length bytes
  pub end : (more : List ℕ) → end_from old (bytes ++ more) ≡ i + end_from now (drop i bytes ++ more)
  pub some : is_over old ≡ false → is_over now ≡ true → 0 < i

pub taken_none : (old : Seen) (bytes : List ℕ) → Taken old bytes old 0
taken_none old bytes = record { within = omega arith; end = λ more. zero_on (end_from old (bytes ++ more)); some = λ h k. absurd (false≢true (sym h ∙ k)) }

-- and then n of the rest
pub taken_more : (old : Seen) (bytes : List ℕ) (now new : Seen) (i n : ℕ) (rest : List ℕ) → rest ≡ drop i bytes → i < length bytes → Taken old bytes now i → n ≤ length rest → (rest ≢ [] → 0 < n)
    → ((more : List ℕ) → end_from now (rest ++ more) ≡ n + end_from new (drop n rest ++ more)) → Taken old bytes new (i + n)
taken_more old bytes now new i n rest is lt t within some end =
    let size : length rest ≡ length bytes - i = ap length is ∙ length-drop i bytes in
    let gain : 0 < n = some (λ none. omega (arith, lt, size, ap length none)) in
    record {
      within = omega (arith, size, within, lt);
      end = λ more.
          let left : drop n rest ≡ drop (i + n) bytes = ap (drop n) is ∙ drop-drop n i bytes ∙ ap (λ k. drop k bytes) (omega arith) in
          t.end more ∙ ap (λ l. i + end_from now (l ++ more)) (sym is) ∙ ap (λ k. i + k) (end more) ∙ ap (λ l. i + (n + end_from new (l ++ more))) left ∙ omega arith;
      some = λ _ _. omega (arith, gain);
    }

-- WHAT IS LEFT, once the first n bytes of a piece were given

pub split_known : (n : ℕ) (held : List ℕ) (input : Option (List ℕ)) → prepend_known held input ≡ prepend_known (take n held) (prepend_known (drop n held) input)
split_known n held None = refl
split_known n held (Some more) = ap Some (ap (λ h. h ++ more) (sym (take-append-drop n held)) ∙ append_assoc (take n held) (drop n held) more)

take_nil : (k : ℕ) → take {A = ℕ} k [] ≡ []
take_nil zero = refl
take_nil (suc k) = refl

take_add : (n k : ℕ) (t : List ℕ) → take (n + k) t ≡ take n t ++ take k (drop n t)
take_add zero k t = ap (λ j. take j t) (sym (zero_on k))
take_add (suc n) k [] = take_nil (suc n + k) ∙ sym (take_nil k)
take_add (suc n) k (b ∷ t) = let e : suc n + k ≡ suc (n + k) = omega arith in ap (λ m. take m (b ∷ t)) e ∙ ap (λ l. b ∷ l) (take_add n k t)

module _ (old new : Seen) (held : List ℕ) (m n : ℕ) (within : n ≤ length (take m held)) (m_within : m ≤ length held)
    (end : (more : List ℕ) → end_from old (take m held ++ more) ≡ n + end_from new (drop n (take m held) ++ more)) where
  n_within : n ≤ length held
  n_within = omega (arith, within, length-take-le m held m_within, m_within)

  parted : (more : List ℕ) → held ++ more ≡ take m held ++ (drop m held ++ more)
  parted more = ap (λ h. h ++ more) (sym (take-append-drop m held)) ∙ append_assoc (take m held) (drop m held) more

  left : (more : List ℕ) → drop n (take m held) ++ (drop m held ++ more) ≡ drop n held ++ more
  left more =
      sym (append_assoc (drop n (take m held)) (drop m held) more)
      ∙ ap (λ h. h ++ more) (sym (drop-append-le n (take m held) (drop m held) within) ∙ ap (drop n) (take-append-drop m held))

  ends_at : (more : List ℕ) → end_from old (held ++ more) ≡ n + end_from new (drop n held ++ more)
  ends_at more = ap (end_from old) (parted more) ∙ end (drop m held ++ more) ∙ ap (λ l. n + end_from new l) (left more)

  pub plan_given : (input : Option (List ℕ)) → plan_of old (prepend_known held input) ≡ prepend_known (take n held) (plan_of new (prepend_known (drop n held) input))
  plan_given None = refl
  plan_given (Some more) =
      ap Some
      (ap (λ k. take k (held ++ more)) (ends_at more) ∙ take_add n (end_from new (drop n held ++ more)) (held ++ more)
      ∙ (λ i. take-append-le n held more n_within i ++ take (end_from new (drop n held ++ more)) (drop-append-le n held more n_within i)))

  pub script_kept : (input : Option (List ℕ)) → script_of new (prepend_known (drop n held) input) ≡ script_of old (prepend_known held input)
  script_kept None = refl
  script_kept (Some more) =
      ap Some
      (sym (ap (λ k. drop k (held ++ more)) (ends_at more) ∙ drop_add (end_from new (drop n held ++ more)) ∙ ap (drop (end_from new (drop n held ++ more))) (drop-append-le n held more n_within)))
    where
      drop_add : (k : ℕ) → drop (n + k) (held ++ more) ≡ drop k (drop n (held ++ more))
      drop_add k = ap (λ j. drop j (held ++ more)) (omega arith) ∙ sym (drop-drop k n (held ++ more))

-- Where nothing was given though there was room, nothing is left.
pub plan_ended : (held : List ℕ) (m n room : ℕ) (seen : Seen) (input : Option (List ℕ)) → m ≡ min (length held) room → 0 < room → (take m held ≢ [] → 0 < n) → n ≡ 0 → (held ≡ [] → IsAtEnd input)
    → IsAtEnd (plan_of seen (prepend_known (drop n held) input))
plan_ended [] m n room seen input e much some none end = rw none (by input (end refl))
  where
    by : (input : Option (List ℕ)) → IsAtEnd input → IsAtEnd (plan_of seen (prepend_known [] input))
    by None h = tt
    by (Some more) h = rw h (take_nil (end_from seen []))
plan_ended (b ∷ held) m n room seen input e much some none end = absurd (omega (arith, none, some (full m (omega (arith, e, much)))))
  where
    full : (k : ℕ) → 0 < k → take k (b ∷ held) ≢ []
    full zero h e = absurd (omega (arith, h))
    full (suc k) h e = let bad : ⊥ = cc in bad

-- With room for all that may be held, none is left, unless the plan is over.
pub none_left : (n m room : ℕ) (held left : List ℕ) → n ≡ length (take m held) → m ≡ min (length held) room → 4096 ≤ room → length held ≤ 4096 → left ≡ drop n held → left ≡ []
none_left n m room held left all least much short is =
    let whole : m ≡ length held = omega (arith, least, much, short) in is ∙ drop_all n held (omega (arith, all, ap length (take_all m held (omega (arith, whole)))))

-- It gave bytes that were held, or called the input.
pub input_called : {R : Type 0} (called : ℕ → Result ℕ ReadFault → R → R → Type 0) (old new : ScriptPart R) (filled : Ahead) (n : ℕ) → n ≤ length filled.held
    → Refilled called (Ok tt) old.ahead.now filled old.input.now new.input.now → CalledInput called (Ok n) old new ⊎ LeftInput (Ok n) old new
input_called called old new filled n within (inl (full, ok, held, same)) = inr (record { same = same; held = λ _. full })
input_called called old new filled n within (inr (empty, call)) =
    inl (record { empty = empty; reply = Ok (length filled.held); call = call; gave = λ some. (length filled.held, omega (arith, some, within), refl) })
