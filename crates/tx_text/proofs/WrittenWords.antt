-- Words that may be in a written line: names, figures, numbers, circuits.
use Rattle.std.proofs.Common.{◌≡◌, ℕ, zero, suc, ◌+◌, ◌*◌, ◌^◌, ◌<◌, ◌≤◌, ◌==◌, ◌%◌, Bool, true, false, not, ◌&&◌, ◌||◌, nat_le, nat_lt, List, [], ◌∷◌, ◌++◌, length, get_or, Some, None, codes, refl, arith, length-append}
use Rattle.tx_text.proofs.Common.{AllByRecursion, list_all, nat_tests, All-weaker, AllPass-from_list_all, list_all-from_AllPass, joined, IsPlain, IsWord, IsWrittenLine}
use Rattle.std.specs.Fmt.{decimal}
use Rattle.std.proofs.lemmas.Bool.{and_parts, and_from, or_left, or_right, not_from_false, ne_eqb, leb-true, le-leb}
use Rattle.tx_text.specs.Text.{is_text_byte, bytes_fault}
use Rattle.std.proofs.lemmas.Fmt.{decimal_is_IsNumeral, decimal_digit, decimal_by_steps, first_decimal, length-decimal-le, decimal_nonempty}
use Rattle.tx_text.specs.Words.{is_letter, is_figure, is_name, are_figures, is_numeral, number_of}

-- a word of at most 12 bytes
pub record IsShortWord (w : List ℕ) : Type 0 where
  pub word : IsWord w
  pub short : length w ≤ 12

-- ---- plain bytes

abbrev is_plain : ℕ → Bool
is_plain b = nat_le 33 b && (nat_le b 126 && not (b == 35))

plain_from : (b : ℕ) → is_plain b ≡ true → IsPlain b
plain_from b h = record { low = grind (arith, nat_tests); high = grind (arith, nat_tests); no_hash = grind (arith, nat_tests) }

figure_plain : (b : ℕ) → is_figure b ≡ true → is_plain b ≡ true
figure_plain b h = grind (arith, nat_tests)

name_byte_plain : (b : ℕ) → (is_letter b || is_figure b) ≡ true → is_plain b ≡ true
name_byte_plain b h = grind (arith, nat_tests)

-- every byte of the word passes a test that only plain bytes pass
word_from : (w : List ℕ) → 0 < length w → list_all is_plain w ≡ true → IsWord w
word_from w some h = record { some = some; plain = All-weaker (λ b. is_plain b ≡ true) IsPlain plain_from w (AllPass-from_list_all is_plain w h) }

pub all_stronger : (p q : ℕ → Bool) → ((b : ℕ) → p b ≡ true → q b ≡ true) → (w : List ℕ) → list_all p w ≡ true → list_all q w ≡ true
all_stronger p q f [] h = refl
all_stronger p q f (b ∷ w) h = let r = and_parts (p b) (list_all p w) h in and_from (q b) (list_all q w) (f b r.0) (all_stronger p q f w r.1)

all_append : (p : ℕ → Bool) (w v : List ℕ) → list_all p w ≡ true → list_all p v ≡ true → list_all p (w ++ v) ≡ true
all_append p [] v h k = k
all_append p (b ∷ w) v h k = let r = and_parts (p b) (list_all p w) h in and_from (p b) (list_all p (w ++ v)) r.0 (all_append p w v r.1 k)

-- ---- names, figures, numbers

pub name_bytes : (w : List ℕ) → is_name w ≡ true → (list_all (λ x. is_letter x || is_figure x) w ≡ true) × (0 < length w) × (length w ≤ 8)
name_bytes [] h = absurd (let z : ⊥ = cc in z)
name_bytes (b ∷ w) h =
    let r = and_parts (is_letter b && list_all (λ x. is_letter x || is_figure x) w) (nat_le (length w) 7) h in
    let q = and_parts (is_letter b) (list_all (λ x. is_letter x || is_figure x) w) r.0 in
    let l = leb-true (length w) 7 r.1 in
    (and_from (is_letter b || is_figure b) (list_all (λ x. is_letter x || is_figure x) w) (or_left (is_letter b) (is_figure b) q.0) q.1, omega arith, omega arith)

pub name_word : (w : List ℕ) → is_name w ≡ true → IsShortWord w
name_word w h =
    let r = name_bytes w h in
    record { word = word_from w r.1 (all_stronger (λ x. is_letter x || is_figure x) is_plain name_byte_plain w r.0); short = omega (arith, r.2) }

pub figures_word : (least most : ℕ) (w : List ℕ) → 1 ≤ least → most ≤ 12 → are_figures least most w ≡ true → IsShortWord w
figures_word least most w some few h =
    let r = and_parts (nat_le least (length w) && nat_le (length w) most) (list_all is_figure w) h in
    let q = and_parts (nat_le least (length w)) (nat_le (length w) most) r.0 in
    let a = leb-true least (length w) q.0 in
    let b = leb-true (length w) most q.1 in
    record { word = word_from w (omega arith) (all_stronger is_figure is_plain figure_plain w r.1); short = omega arith }

figures_push : (ds : List ℕ) (d : ℕ) → list_all is_figure ds ≡ true → is_figure d ≡ true → list_all is_figure (ds ++ d ∷ []) ≡ true
figures_push [] d h k = and_from (is_figure d) true k refl
figures_push (c ∷ ds) d h k = let r = and_parts (is_figure c) (list_all is_figure ds) h in and_from (is_figure c) (list_all is_figure (ds ++ d ∷ [])) r.0 (figures_push ds d r.1 k)

a_figure : (n : ℕ) → n < 10 → is_figure (48 + n) ≡ true
a_figure n h = grind (arith, nat_tests)

decimal_figures : (n : ℕ) → n < 2 ^ 64 → list_all is_figure (decimal n) ≡ true
decimal_figures n h =
    decimal_by_steps (λ m ds. list_all is_figure ds ≡ true) (λ m l. and_from (is_figure (48 + m)) true (a_figure m l) refl)
    (λ m ds l k. figures_push ds (48 + m % 10) k (a_figure (m % 10) (omega arith))) n h

-- a number below 10 ^ k is written by at most k figures
number_figures : (k n : ℕ) → 0 < k → n < 10 ^ k → n < 2 ^ 64 → are_figures 1 k (decimal n) ≡ true
number_figures k n some small h =
    and_from (nat_le 1 (length (decimal n)) && nat_le (length (decimal n)) k) (list_all is_figure (decimal n))
    (and_from (nat_le 1 (length (decimal n))) (nat_le (length (decimal n)) k) (le-leb 1 (length (decimal n)) (omega (arith, decimal_nonempty n h))) (le-leb (length (decimal n)) k (length-decimal-le k n some small h)))
    (decimal_figures n h)

pub number_word : (n : ℕ) → n < 2 ^ 32 → IsShortWord (decimal n)
number_word n h = figures_word 1 10 (decimal n) (omega arith) (omega arith) (number_figures 10 n (omega arith) (omega arith) (omega arith))

-- no zero is in front of others
no_zero_first : (n : ℕ) → n < 2 ^ 64 → (length (decimal n) == 1 || not (get_or (decimal n) 0 0 == 48)) ≡ true
no_zero_first zero h = let e = decimal_digit 0 (omega arith) in rw e refl
no_zero_first (suc n) h =
    let z = ne_eqb (get_or (decimal (suc n)) 0 0) 48 (omega (arith, first_decimal (suc n) (omega arith) h)) in
    or_right (length (decimal (suc n)) == 1) _ (not_from_false _ z)

pub number_back : (max n : ℕ) → n ≤ max → max < 2 ^ 32 → number_of max (decimal n) ≡ Some n
number_back max n h small =
    let f = number_figures 10 n (omega arith) (omega arith) (omega arith) in
    let v = (decimal_is_IsNumeral n (omega arith)).1 in
    let l = le-leb n max h in
    let t : is_numeral (decimal n) ≡ true = and_from (are_figures 1 10 (decimal n)) _ f (no_zero_first n (omega arith)) in
    rw (t, v, l) refl

-- ---- circuits

-- a name, a dot and a number
pub circuit_word : (name : List ℕ) (n : ℕ) → is_name name ≡ true → n ≤ 240 → IsShortWord (name ++ (codes "." ++ decimal n))
circuit_word name n h few =
    let r = name_bytes name h in
    let f = number_figures 3 n (omega arith) (omega arith) (omega arith) in
    let short = length-decimal-le 3 n (omega arith) (omega arith) (omega arith) in
    let l = length-append name (46 ∷ decimal n) in
    record {
      word = word_from (name ++ 46 ∷ decimal n) (omega (arith, r.1)) (all_append is_plain name (46 ∷ decimal n) (all_stronger (λ x. is_letter x || is_figure x) is_plain name_byte_plain name r.0) (all_stronger is_figure is_plain figure_plain (decimal n) (decimal_figures n (omega arith))));
      short = omega (arith, r.2);
    }

-- ---- lines of short words

joined_short : (ws : List (List ℕ)) → AllByRecursion IsShortWord ws → length (joined ws) ≤ 13 * length ws
joined_short [] h = omega arith
joined_short (w ∷ []) h = let s = h.0.short in omega arith
joined_short (w ∷ v ∷ ws) h =
    let s = h.0.short in
    let r = joined_short (v ∷ ws) h.1 in
    let e = length-append w (32 ∷ joined (v ∷ ws)) in
    omega arith

words_of_short : (ws : List (List ℕ)) → AllByRecursion IsShortWord ws → AllByRecursion IsWord ws
words_of_short [] h = tt
words_of_short (w ∷ ws) h = (h.0.word, words_of_short ws h.1)

pub line_of_short : (ws : List (List ℕ)) → AllByRecursion IsShortWord ws → length ws ≤ 39 → IsWrittenLine ws
line_of_short ws h few = let l = joined_short ws h in record { words = words_of_short ws h; short = omega arith }

-- a word of which every byte computes to a plain one
pub fixed_word : (w : List ℕ) → (nat_le 1 (length w) && nat_le (length w) 12 && list_all is_plain w) ≡ true → IsShortWord w
fixed_word w h =
    let r = and_parts (nat_le 1 (length w) && nat_le (length w) 12) (list_all is_plain w) h in
    let q = and_parts (nat_le 1 (length w)) (nat_le (length w) 12) r.0 in
    let a = leb-true 1 (length w) q.0 in
    let b = leb-true (length w) 12 q.1 in
    record { word = word_from w (omega arith) r.1; short = omega arith }

-- ---- the bytes of a written line

text_byte : (b : ℕ) → IsPlain b → is_text_byte b ≡ true
text_byte b h = let l = h.low in let k = h.high in grind (arith, nat_tests)

text_word : (w : List ℕ) → IsWord w → list_all is_text_byte w ≡ true
text_word w h = list_all-from_AllPass is_text_byte w (All-weaker IsPlain (λ b. is_text_byte b ≡ true) text_byte w h.plain)

text_joined : (ws : List (List ℕ)) → AllByRecursion IsWord ws → list_all is_text_byte (joined ws) ≡ true
text_joined [] h = refl
text_joined (w ∷ []) h = text_word w h.0
text_joined (w ∷ v ∷ ws) h = all_append is_text_byte w (32 ∷ joined (v ∷ ws)) (text_word w h.0) (text_joined (v ∷ ws) h.1)

pub no_fault : (ws : List (List ℕ)) → IsWrittenLine ws → bytes_fault (joined ws) ≡ None
unfolding bytes_fault
no_fault ws h =
    let l : nat_lt 512 (length (joined ws)) ≡ false = let s = h.short in grind (arith, nat_tests) in
    let t = text_joined ws h.words in
    rw (l, t) refl
