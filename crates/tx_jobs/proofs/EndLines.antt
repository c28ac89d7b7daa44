-- What is seen of a line tells whether its one word is END.
use Rattle.std.proofs.Common.{◌≡◌, ℕ, suc, ◌-◌, ◌==◌, ◌||◌, Bool, true, false, not, List, [], ◌∷◌, length, take, drop, refl, sym, ap, subst, ◌∙◌, arith, eqb-true}
use Rattle.tx_jobs.proofs.Common.{if◌then◌else◌, slice_index, false≢true, is_end, Blanks, E, En, End, Comment, Cr, Other}
use Rattle.std.specs.List.{prefix_len}
use Rattle.std.proofs.Math.Numerals.{one-add}
use Rattle.std.proofs.lemmas.Bool.Decides.{nat_tests}
use Rattle.tx_text.specs.Text.{without_cr}
use Rattle.tx_text.specs.Words.{words_of, is_blank, is_hash}
use Rattle.tx_text.specs.inner.Words.{is_word_byte}
use Rattle.tx_text.proofs.WordLists.{cuts_word, blank_before}
use Rattle.tx_jobs.specs.inner.Seen.{line_seen, is_end_seen}

-- THE WORDS OF A LINE, by its first bytes

-- there are none
abbrev wordless : List (List ℕ) → Bool
wordless [] = true
wordless (w ∷ ws) = false

nothing : words_of [] ≡ []
unfolding words_of
nothing = refl

word_parts : (x y : Bool) → not (x || y) ≡ true → (x ≡ false) × (y ≡ false)
word_parts false false h = (refl, refl)
word_parts false true h = absurd (false≢true h)
word_parts true y h = absurd (false≢true h)

first_word : (b : ℕ) (u : List ℕ) → is_blank b ≡ false → is_hash b ≡ false → words_of (b ∷ u) ≡ (b ∷ take (prefix_len is_word_byte u) u) ∷ words_of (drop (prefix_len is_word_byte u) u)
first_word b u blank hash =
    let word : List ℕ = take (prefix_len is_word_byte u) u in
    let rest : List ℕ = drop (prefix_len is_word_byte u) u in
    (cuts_word (b ∷ u) (b ∷ u) (b ∷ word) rest (rw blank refl) (rw (blank, hash, one-add) refl) (rw (blank, hash, one-add) refl)).some (omega arith)

-- the same, where the word goes on for n bytes
word_on : (n b : ℕ) (u : List ℕ) → is_blank b ≡ false → is_hash b ≡ false → prefix_len is_word_byte u ≡ n → words_of (b ∷ u) ≡ (b ∷ take n u) ∷ words_of (drop n u)
word_on n b u blank hash e = subst (λ k. words_of (b ∷ u) ≡ (b ∷ take k u) ∷ words_of (drop k u)) e (first_word b u blank hash)

stops : (b : ℕ) (u : List ℕ) → is_word_byte b ≡ false → prefix_len is_word_byte (b ∷ u) ≡ 0
stops b u e = rw e refl

goes : (b : ℕ) (u : List ℕ) → is_word_byte b ≡ true → prefix_len is_word_byte (b ∷ u) ≡ suc (prefix_len is_word_byte u)
goes b u e = rw (e, one-add) refl

worded : (b : ℕ) (u : List ℕ) → is_blank b ≡ false → is_hash b ≡ false → wordless (words_of (b ∷ u)) ≡ false
worded b u blank hash = ap wordless (first_word b u blank hash)

hash_first : (b : ℕ) (u : List ℕ) → is_hash b ≡ true → words_of (b ∷ u) ≡ []
unfolding words_of
hash_first b u h = rw h refl

-- END, AND WHAT IS NOT

end_alone : (ws : List (List ℕ)) → is_end ((69 ∷ 78 ∷ 68 ∷ []) ∷ ws) ≡ wordless ws
end_alone ws = grind arith

too_long : (b : ℕ) (w : List ℕ) (ws : List (List ℕ)) → is_end ((69 ∷ 78 ∷ 68 ∷ b ∷ w) ∷ ws) ≡ false
too_long b w ws = grind arith

one_letter : (ws : List (List ℕ)) → is_end ((69 ∷ []) ∷ ws) ≡ false
one_letter ws = grind arith

two_letters : (ws : List (List ℕ)) → is_end ((69 ∷ 78 ∷ []) ∷ ws) ≡ false
two_letters ws = grind arith

other_first : (b : ℕ) (w : List ℕ) (ws : List (List ℕ)) → (b == 69) ≡ false → is_end ((b ∷ w) ∷ ws) ≡ false
other_first b w ws e = grind arith

other_second : (b : ℕ) (w : List ℕ) (ws : List (List ℕ)) → (b == 78) ≡ false → is_end ((69 ∷ b ∷ w) ∷ ws) ≡ false
other_second b w ws e = grind arith

other_third : (b : ℕ) (w : List ℕ) (ws : List (List ℕ)) → (b == 68) ≡ false → is_end ((69 ∷ 78 ∷ b ∷ w) ∷ ws) ≡ false
other_third b w ws e = grind arith

-- END, and then these bytes: it is the one word where they have none
end_then : (b : ℕ) (u : List ℕ) (w : Bool) → is_word_byte b ≡ w → is_end (words_of (69 ∷ 78 ∷ 68 ∷ b ∷ u)) ≡ wordless (words_of (b ∷ u))
end_then b u true w =
    let so = word_parts (is_blank b) (is_hash b) w in
    let far = goes 78 (68 ∷ b ∷ u) refl ∙ ap suc (goes 68 (b ∷ u) refl ∙ ap suc (goes b u w)) in
    let n = prefix_len is_word_byte u in
    ap is_end (word_on (suc (suc (suc n))) 69 (78 ∷ 68 ∷ b ∷ u) refl refl far) ∙ too_long b (take n u) (words_of (drop n u)) ∙ sym (worded b u so.0 so.1)
end_then b u false w =
    let far = goes 78 (68 ∷ b ∷ u) refl ∙ ap suc (goes 68 (b ∷ u) refl ∙ ap suc (stops b u w)) in
    ap is_end (word_on 2 69 (78 ∷ 68 ∷ b ∷ u) refl refl far) ∙ end_alone (words_of (b ∷ u))

end_first : (u : List ℕ) → is_end (words_of (69 ∷ 78 ∷ 68 ∷ u)) ≡ wordless (words_of u)
end_first [] = ap is_end (word_on 2 69 (78 ∷ 68 ∷ []) refl refl refl) ∙ end_alone (words_of [])
end_first (b ∷ u) = end_then b u (is_word_byte b) refl

-- E and a byte that is no N, and EN and one that is no D
e_other : (b : ℕ) (u : List ℕ) → (b == 78) ≡ false → (w : Bool) → is_word_byte b ≡ w → is_end (words_of (69 ∷ b ∷ u)) ≡ false
e_other b u e true w =
    let n = prefix_len is_word_byte u in ap is_end (word_on (suc n) 69 (b ∷ u) refl refl (goes b u w)) ∙ other_second b (take n u) (words_of (drop n u)) e
e_other b u e false w = ap is_end (word_on 0 69 (b ∷ u) refl refl (stops b u w)) ∙ one_letter (words_of (b ∷ u))

en_other : (b : ℕ) (u : List ℕ) → (b == 68) ≡ false → (w : Bool) → is_word_byte b ≡ w → is_end (words_of (69 ∷ 78 ∷ b ∷ u)) ≡ false
en_other b u e true w =
    let n = prefix_len is_word_byte u in
    ap is_end (word_on (suc (suc n)) 69 (78 ∷ b ∷ u) refl refl (goes 78 (b ∷ u) refl ∙ ap suc (goes b u w))) ∙ other_third b (take n u) (words_of (drop n u)) e
en_other b u e false w = ap is_end (word_on 1 69 (78 ∷ b ∷ u) refl refl (goes 78 (b ∷ u) refl ∙ ap suc (stops b u w))) ∙ two_letters (words_of (b ∷ u))

-- neither a blank nor E
first_other : (b : ℕ) (u : List ℕ) → is_blank b ≡ false → (b == 69) ≡ false → (h : Bool) → is_hash b ≡ h → is_end (words_of (b ∷ u)) ≡ false
first_other b u blank e true h = ap is_end (hash_first b u h)
first_other b u blank e false h = ap is_end (first_word b u blank h) ∙ other_first b (take (prefix_len is_word_byte u) u) (words_of (drop (prefix_len is_word_byte u) u)) e

-- THE CR AT THE END

cr_none : without_cr [] ≡ []
unfolding without_cr
cr_none = refl

cr_alone : (b : ℕ) → (b == 13) ≡ true → without_cr (b ∷ []) ≡ []
unfolding without_cr
cr_alone b e = rw e refl

no_cr : (b : ℕ) → (b == 13) ≡ false → without_cr (b ∷ []) ≡ b ∷ []
unfolding without_cr
no_cr b e = rw e refl

cr_by : (b : ℕ) (line : List ℕ) (n : ℕ) (x : Bool) → (if x then take (suc n) (b ∷ line) else b ∷ line) ≡ b ∷ (if x then take n line else line)
cr_by b line n x = grind arith

cr_behind : (b c : ℕ) (t : List ℕ) → without_cr (b ∷ c ∷ t) ≡ b ∷ without_cr (c ∷ t)
unfolding without_cr
cr_behind b c t =
    let n = length (c ∷ t) - 1 in
    let size : length (b ∷ c ∷ t) - 1 ≡ suc n = omega arith in
    ap (λ k. if slice_index (b ∷ c ∷ t) k == 13 then take k (b ∷ c ∷ t) else b ∷ c ∷ t) size ∙ cr_by b (c ∷ t) n (slice_index (c ∷ t) n == 13)

-- a first byte that is no CR stays
stays : (b : ℕ) (t : List ℕ) → (b == 13) ≡ false → without_cr (b ∷ t) ≡ b ∷ without_cr t
stays b [] e = no_cr b e ∙ ap (λ l. b ∷ l) (sym cr_none)
stays b (c ∷ t) e = cr_behind b c t

blank_no_cr : (b : ℕ) → is_blank b ≡ true → (b == 13) ≡ false
blank_no_cr b h = grind (arith, nat_tests)

hash_no_cr : (b : ℕ) → is_hash b ≡ true → (b == 13) ≡ false
hash_no_cr b h = grind (arith, nat_tests)

-- A byte after these is not of END, whether it is a CR at the end of the line or not.
module _ (p : List ℕ → List ℕ) (b : ℕ) (none : is_end (words_of (p [])) ≡ false) (more : (u : List ℕ) → is_end (words_of (p (b ∷ u))) ≡ false) where
  alone : (x : Bool) → (b == 13) ≡ x → is_end (words_of (p (without_cr (b ∷ [])))) ≡ false
  alone true e = ap (λ l. is_end (words_of (p l))) (cr_alone b e) ∙ none
  alone false e = ap (λ l. is_end (words_of (p l))) (no_cr b e) ∙ more []

  not_end : (t : List ℕ) → is_end (words_of (p (without_cr (b ∷ t)))) ≡ false
  not_end [] = alone (b == 13) refl
  not_end (c ∷ t) = ap (λ l. is_end (words_of (p l))) (cr_behind b c t) ∙ more (without_cr (c ∷ t))

-- WHAT IS SEEN

-- a line whose one word is not END stays so
pub other : (t : List ℕ) → line_seen Other t ≡ Other
unfolding line_seen
other [] = refl
other (b ∷ t) = other t

comment : (t : List ℕ) → line_seen Comment t ≡ Comment
unfolding line_seen
comment [] = refl
comment (b ∷ t) = comment t

cr : (b : ℕ) (t : List ℕ) → b ≡ 13 → is_end_seen (line_seen Cr t) ≡ wordless (words_of (without_cr (b ∷ t)))
unfolding line_seen
cr b [] e = sym (ap (λ l. wordless (words_of l)) (cr_alone b (rw e refl)) ∙ ap wordless nothing)
cr b (c ∷ t) e = ap is_end_seen (other t) ∙ sym (ap (λ l. wordless (words_of l)) (cr_behind b c t) ∙ worded b (without_cr (c ∷ t)) (rw e refl) (rw e refl))

behind_by : (b : ℕ) (t : List ℕ) → is_end_seen (line_seen End t) ≡ wordless (words_of (without_cr t)) → (x : Bool) → is_blank b ≡ x → (y : Bool) → is_hash b ≡ y → (z : Bool) → (b == 13) ≡ z
    → is_end_seen (line_seen (if x then End else if y then Comment else if z then Cr else Other) t) ≡ wordless (words_of (without_cr (b ∷ t)))
behind_by b t ih true ex y ey z ez = ih ∙ sym (ap (λ l. wordless (words_of l)) (stays b t (blank_no_cr b ex)) ∙ ap wordless (blank_before b (without_cr t) ex))
behind_by b t ih false ex true ey z ez = ap is_end_seen (comment t) ∙ sym (ap (λ l. wordless (words_of l)) (stays b t (hash_no_cr b ey)) ∙ ap wordless (hash_first b (without_cr t) ey))
behind_by b t ih false ex false ey true ez = cr b t (eqb-true b 13 ez)
behind_by b t ih false ex false ey false ez = ap is_end_seen (other t) ∙ sym (ap (λ l. wordless (words_of l)) (stays b t ez) ∙ worded b (without_cr t) ex ey)

-- after END
behind : (t : List ℕ) → is_end_seen (line_seen End t) ≡ wordless (words_of (without_cr t))
unfolding line_seen
behind [] = sym (ap (λ l. wordless (words_of l)) cr_none ∙ ap wordless nothing)
behind (b ∷ t) = behind_by b t (behind t) (is_blank b) refl (is_hash b) refl (b == 13) refl

behind_en_by : (b : ℕ) (t : List ℕ) (x : Bool) → (b == 68) ≡ x → is_end_seen (line_seen (if x then End else Other) t) ≡ is_end (words_of (69 ∷ 78 ∷ without_cr (b ∷ t)))
behind_en_by b t true e =
    behind t ∙ sym (end_first (without_cr t)) ∙ sym (ap (λ c. is_end (words_of (69 ∷ 78 ∷ without_cr (c ∷ t)))) (eqb-true b 68 e) ∙ ap (λ l. is_end (words_of (69 ∷ 78 ∷ l))) (stays 68 t refl))
behind_en_by b t false e = ap is_end_seen (other t) ∙ sym (not_end (λ l. 69 ∷ 78 ∷ l) b (ap is_end (word_on 1 69 (78 ∷ []) refl refl refl) ∙ two_letters (words_of [])) (λ u. en_other b u e (is_word_byte b) refl) t)

-- after EN
behind_en : (t : List ℕ) → is_end_seen (line_seen En t) ≡ is_end (words_of (69 ∷ 78 ∷ without_cr t))
unfolding line_seen
behind_en [] = sym (ap (λ l. is_end (words_of (69 ∷ 78 ∷ l))) cr_none ∙ ap is_end (word_on 1 69 (78 ∷ []) refl refl refl) ∙ two_letters (words_of []))
behind_en (b ∷ t) = behind_en_by b t (b == 68) refl

behind_e_by : (b : ℕ) (t : List ℕ) (x : Bool) → (b == 78) ≡ x → is_end_seen (line_seen (if x then En else Other) t) ≡ is_end (words_of (69 ∷ without_cr (b ∷ t)))
behind_e_by b t true e = behind_en t ∙ sym (ap (λ c. is_end (words_of (69 ∷ without_cr (c ∷ t)))) (eqb-true b 78 e) ∙ ap (λ l. is_end (words_of (69 ∷ l))) (stays 78 t refl))
behind_e_by b t false e = ap is_end_seen (other t) ∙ sym (not_end (λ l. 69 ∷ l) b (ap is_end (word_on 0 69 [] refl refl refl) ∙ one_letter (words_of [])) (λ u. e_other b u e (is_word_byte b) refl) t)

-- after E
behind_e : (t : List ℕ) → is_end_seen (line_seen E t) ≡ is_end (words_of (69 ∷ without_cr t))
unfolding line_seen
behind_e [] = sym (ap (λ l. is_end (words_of (69 ∷ l))) cr_none ∙ ap is_end (word_on 0 69 [] refl refl refl) ∙ one_letter (words_of []))
behind_e (b ∷ t) = behind_e_by b t (b == 78) refl

begun_by : (b : ℕ) (t : List ℕ) → is_end_seen (line_seen Blanks t) ≡ is_end (words_of (without_cr t)) → (x : Bool) → is_blank b ≡ x → (y : Bool) → (b == 69) ≡ y
    → is_end_seen (line_seen (if x then Blanks else if y then E else Other) t) ≡ is_end (words_of (without_cr (b ∷ t)))
begun_by b t ih true ex y ey = ih ∙ sym (ap (λ l. is_end (words_of l)) (stays b t (blank_no_cr b ex)) ∙ ap is_end (blank_before b (without_cr t) ex))
begun_by b t ih false ex true ey = behind_e t ∙ sym (ap (λ c. is_end (words_of (without_cr (c ∷ t)))) (eqb-true b 69 ey) ∙ ap (λ l. is_end (words_of l)) (stays 69 t refl))
begun_by b t ih false ex false ey = ap is_end_seen (other t) ∙ sym (not_end (λ l. l) b (ap is_end nothing) (λ u. first_other b u ex ey (is_hash b) refl) t)

-- What is seen of a whole line.
pub end_is_seen : (line : List ℕ) → is_end_seen (line_seen Blanks line) ≡ is_end (words_of (without_cr line))
unfolding line_seen
end_is_seen [] = sym (ap (λ l. is_end (words_of l)) cr_none ∙ ap is_end nothing)
end_is_seen (b ∷ t) = begun_by b t (end_is_seen t) (is_blank b) refl (b == 69) refl
