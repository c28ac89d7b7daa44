-- What the loops of the code keep.
use Rattle.tx_audit.proofs.Common.{◌≡◌, ℕ, zero, suc, ◌+◌, ◌-◌, ◌<◌, ◌≤◌, Bool, true, false, List, [], ◌∷◌, length, drop, ◌++◌, map, take, get_or, Option, Some, None, Result, Ok, Err, refl, sym, ap, ◌∙◌, arith, range_with_len, AllByRecursion, LineRange, Plan, Event, at_index, route_list, first_range, first_code, low_line, first_line, is_single, turns_on_one, step_events, walk_events}
use Rattle.std.specs.Prelude.{find, slice_get, is_some, option_and_then, IfOk}
use Rattle.std.proofs.lemmas.List.{append_assoc, append-nil, at_drop_more, drop_all, map_more}
use Rattle.std.proofs.lemmas.Option.{slice_get_read, slice_get_within, get_or_from_slice_get}
use Rattle.std.specs.Option.{option_map, IfSome}

pub drop_at : {A : Type 0} (xs : List A) (i : ℕ) (x : A) → slice_get xs i ≡ Some x → drop i xs ≡ x ∷ drop (i + 1) xs
drop_at xs i x h = at_drop_more (λ l. l) xs i x (slice_get_within xs i x h) ∙ ap (λ y. y ∷ drop (i + 1) xs) (get_or_from_slice_get xs i x x h)

-- one of a list of which all are so
pub one_of_all : {A : Type 0} (P : A → Type 0) (xs : List A) (i : ℕ) (x : A) → AllByRecursion P xs → i < length xs → x ≡ get_or xs i x → P x
one_of_all P xs i x all low is = at_index P xs all i x (slice_get_read xs (length xs) i x refl low is)

-- one more event, of one more thing
pub one_pushed : {A B : Type 0} (f : A → B) (xs : List A) (i : ℕ) (x : A) (start old new : List B) → i < length xs → x ≡ get_or xs i x → old ≡ start ++ map f (take i xs) → new ≡ old ++ f x ∷ [] → new ≡ start ++ map f (take (i + 1) xs)
one_pushed f xs i x start old new low is was now =
    now
    ∙ ap (λ l. l ++ f x ∷ []) was
    ∙ append_assoc start (map f (take i xs)) (f x ∷ [])
    ∙ ap (λ l. start ++ l) (ap (λ y. map f (take i xs) ++ f y ∷ []) is ∙ sym (map_more f xs i x low))

-- the call has gone one step further
module _ (p : Plan) (code at : ℕ) (steps : List (ℕ × ℕ)) (i : ℕ) (all old : List Event) (was : all ≡ old ++ walk_events p code at (drop i steps)) where
  pub one_step_on : (s : ℕ × ℕ) (list : List ℕ) (new : List Event) → i < length steps → s ≡ get_or steps i s → list ≡ route_list p at code → new ≡ old ++ step_events list s.0 → all ≡ new ++ walk_events p code s.1 (drop (i + 1) steps)
  one_step_on s list new low is listed now =
      let rest = walk_events p code s.1 (drop (i + 1) steps) in
      was
      ∙ ap (λ l. old ++ walk_events p code at l) (drop_at steps i s (slice_get_read steps (length steps) i s refl low is))
      ∙ sym (append_assoc old (step_events (route_list p at code) s.0) rest)
      ∙ ap (λ l. (old ++ step_events l s.0) ++ rest) (sym listed)
      ∙ ap (λ l. l ++ rest) (sym now)

  pub all_stepped : length steps ≤ i → old ≡ all
  all_stepped past = sym (was ∙ ap (λ l. old ++ walk_events p code at l) (drop_all i steps past) ∙ append-nil old)

module _ {A : Type 0} (t : A → Bool) (xs : List A) (i : ℕ) (x : A) (h : slice_get xs i ≡ Some x) where
  pub find_here : t x ≡ true → find t (drop i xs) ≡ Some x
  find_here e = ap (find t) (drop_at xs i x h) ∙ rw e refl

  pub find_past : t x ≡ false → find t (drop i xs) ≡ find t (drop (i + 1) xs)
  find_past e = ap (find t) (drop_at xs i x h) ∙ rw e refl

-- the codes from an index on
codes_at : (i n : ℕ) → i < n → range_with_len i (n - i) ≡ i ∷ range_with_len (i + 1) (n - (i + 1))
codes_at i n h = let e : n - i ≡ suc (n - (i + 1)) = omega arith in ap (range_with_len i) e

pub code_past : (t : ℕ → Bool) (i n : ℕ) → i < n → t i ≡ false → find t (range_with_len i (n - i)) ≡ find t (range_with_len (i + 1) (n - (i + 1)))
code_past t i n h e = ap (find t) (codes_at i n h) ∙ rw e refl

pub code_here : (t : ℕ → Bool) (i n : ℕ) → i < n → t i ≡ true → find t (range_with_len i (n - i)) ≡ Some i
code_here t i n h e = ap (find t) (codes_at i n h) ∙ rw e refl

module _ (p : Plan) (start : ℕ) where
  pub line_found : (i : ℕ) (r : LineRange) → first_code p start ≡ Some i → first_range p i ≡ Some r → first_line p start ≡ Some (low_line i r)
  line_found i r code range = ap (option_and_then (λ c. option_map (low_line c) (first_range p c))) code ∙ ap (option_map (low_line i)) range

  pub no_line_found : first_code p start ≡ None → first_line p start ≡ None
  no_line_found none = ap (option_and_then (λ c. option_map (low_line c) (first_range p c))) none

-- the last two steps
pub turns_at : (p : Plan) (steps : List (ℕ × ℕ)) (i : ℕ) (s t : ℕ × ℕ) → length steps ≡ suc (suc i) → slice_get steps i ≡ Some s → slice_get steps (suc i) ≡ Some t → turns_on_one p steps ≡ is_single p s.0 t.0
turns_at p [] i s t n hs ht = absurd (omega arith)
turns_at p (a ∷ []) i s t n hs ht = absurd (omega arith)
turns_at p (a ∷ b ∷ []) zero s t n hs ht = let e : a ≡ s = cc in let f : b ≡ t = cc in λ k. is_single p (e k).0 (f k).0
turns_at p (a ∷ b ∷ []) (suc i) s t n hs ht = absurd (omega arith)
turns_at p (a ∷ b ∷ c ∷ steps) zero s t n hs ht = absurd (omega arith)
turns_at p (a ∷ b ∷ c ∷ steps) (suc i) s t n hs ht = turns_at p (b ∷ c ∷ steps) i s t (omega arith) hs ht

-- fewer than two steps turn nowhere
pub few_no_turn : (p : Plan) (steps : List (ℕ × ℕ)) → length steps < 2 → turns_on_one p steps ≡ false
few_no_turn p [] h = refl
few_no_turn p (a ∷ []) h = refl
few_no_turn p (a ∷ b ∷ steps) h = absurd (omega arith)

-- WHAT FOLLOWS FROM THE EVENTS THAT WERE MADE

module _ {V E : Type 0} (items : V → List Event) (made : Option (List Event)) where
  pub on_made : (P : List Event → Type 0) (r : Result (Option V) E) → IfOk r (λ o. option_map items o ≡ made) → ((es : List Event) → made ≡ Some es → P es) → IfOk r (λ o. IfSome o (λ v. P (items v)))
  on_made P (Ok (Some v)) h each = each (items v) (sym h)
  on_made P (Ok None) h each = tt
  on_made P (Err e) h each = tt

  pub some_made : (b : Bool) (r : Result (Option V) E) → IfOk r (λ o. option_map items o ≡ made) → is_some made ≡ b → IfOk r (λ o. is_some o ≡ b)
  some_made b (Ok (Some v)) h e = ap is_some h ∙ e
  some_made b (Ok None) h e = ap is_some h ∙ e
  some_made b (Err e) h e' = tt
