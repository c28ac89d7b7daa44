-- What is taken out of a list one by one: lines, and calls that end.
use Rattle.tx_machine.proofs.Common.{append_assoc, ◌≡◌, ℕ, zero, suc, ◌+◌, ◌<◌, ◌≤◌, Bool, true, false, not, cond, List, [], ◌∷◌, ◌++◌, map, take, drop, length, get_or, refl, ap, sym, ◌∙◌, add-one, arith, vec_len, vec_capacity, filter, Vec, drop-cons, take_all, drop_all, append-nil, Plan, Cause, OpenCall, Ended, ticket_of, call_seen, Ends, ends_by}
use Rattle.std.specs.List.{remove}
use Rattle.tx_machine.proofs.Views.{IsEnding}

module _ {X : Type 0} (stays : X → Bool) where
  taken : (xs : List X) (i : ℕ) (x : X) → i < length xs → x ≡ get_or xs i x → stays x ≡ false → take i (remove xs i) ++ filter stays (drop i (remove xs i)) ≡ take i xs ++ filter stays (drop i xs)
  taken [] i x h e s = absurd (omega arith)
  taken (z ∷ zs) zero x h e s = ap (λ b. cond b (z ∷ filter stays zs) (filter stays zs)) (sym s ∙ ap stays e)
  taken (z ∷ zs) (suc i) x h e s = ap (λ l. z ∷ l) (taken zs i x (omega arith) e s)

  stayed : (xs : List X) (i : ℕ) (x : X) → i < length xs → x ≡ get_or xs i x → stays x ≡ true → take (suc i) xs ++ filter stays (drop (suc i) xs) ≡ take i xs ++ filter stays (drop i xs)
  stayed [] i x h e s = absurd (omega arith)
  stayed (z ∷ zs) zero x h e s = ap (λ b. cond b (z ∷ filter stays zs) (filter stays zs)) (sym s ∙ ap stays e)
  stayed (z ∷ zs) (suc i) x h e s = ap (λ l. z ∷ l) (stayed zs i x (omega arith) e s)

-- a loop takes out what passes a test, and goes past the rest
module _ {X : Type 0} (test : X → Bool) (xs : List X) (i : ℕ) where
  module _ (x : X) (b : Bool) (low : i < length xs) (is : x ≡ get_or xs i x) (says : b ≡ test x) where
    pub goes_past : b ≡ false → take (i + 1) xs ++ filter (λ y. not (test y)) (drop (i + 1) xs) ≡ take i xs ++ filter (λ y. not (test y)) (drop i xs)
    goes_past t = ap (λ k. take k xs ++ filter (λ y. not (test y)) (drop k xs)) (add-one i) ∙ stayed (λ y. not (test y)) xs i x low is (ap not (sym says ∙ t))

    pub takes_out : (ys : List X) → ys ≡ remove xs i → b ≡ true → take i ys ++ filter (λ y. not (test y)) (drop i ys) ≡ take i xs ++ filter (λ y. not (test y)) (drop i xs)
    takes_out ys e t = ap (λ l. take i l ++ filter (λ y. not (test y)) (drop i l)) e ∙ taken (λ y. not (test y)) xs i x low is (ap not (sym says ∙ t))

  pub all_past : length xs ≤ i → take i xs ++ filter (λ y. not (test y)) (drop i xs) ≡ xs
  all_past past = (λ j. take_all i xs past j ++ filter (λ y. not (test y)) (drop_all i xs past j)) ∙ append-nil xs

drop_taken : {X : Type 0} (xs : List X) (i : ℕ) → drop i (remove xs i) ≡ drop (suc i) xs
drop_taken [] zero = refl
drop_taken [] (suc i) = refl
drop_taken (x ∷ xs) zero = refl
drop_taken (x ∷ xs) (suc i) = drop_taken xs i

-- what stands at an index does not hang on what stands for nothing
pub one_read : {X : Type 0} (xs : List X) (i : ℕ) (x y : X) → i < length xs → x ≡ get_or xs i x → y ≡ get_or xs i y → x ≡ y
one_read [] i x y h e f = absurd (omega arith)
one_read (z ∷ zs) zero x y h e f = e ∙ sym f
one_read (z ∷ zs) (suc i) x y h e f = one_read zs i x y (omega arith) e f

module _ {A : Type 0} (p : Plan) (cause : Cause) (event : ℕ) (ends : Ends) (calls : List (OpenCall A)) (tickets : List Ended) where
  -- before the first call
  pub ending_none : (now : Vec (OpenCall A) A) (made : Vec Ended A) → now.items ≡ calls → made.items ≡ tickets → vec_len made + vec_len now ≤ vec_capacity made → IsEnding p cause event ends calls tickets 0 now made
  ending_none now made c t room = record {
    kept = ap (filter (λ c. not (ends_by ends (call_seen c)))) c;
    ended = λ i. t i ++ map (ticket_of p cause event) (filter (ends_by ends) (map call_seen (c i)));
    within = omega arith;
    room = room;
  }

  module _ (at : ℕ) (now : Vec (OpenCall A) A) (made : Vec Ended A) (inv : IsEnding p cause event ends calls tickets at now made) where
    module _ (x : OpenCall A) (low : at < vec_len now) (within : at < length now.items) (is : x ≡ get_or now.items at x) where
      opened : filter (ends_by ends) (map call_seen (drop at now.items)) ≡ cond (ends_by ends (call_seen x)) (call_seen x ∷ filter (ends_by ends) (map call_seen (drop (suc at) now.items))) (filter (ends_by ends) (map call_seen (drop (suc at) now.items)))
      opened =
          ap (λ l. filter (ends_by ends) (map call_seen l)) (drop-cons now.items at x within)
          ∙ ap (λ y. filter (ends_by ends) (map call_seen (y ∷ drop (suc at) now.items))) (sym is)

      -- the call ends
      pub ending_taken : (now' : Vec (OpenCall A) A) (made' : Vec Ended A) (b : Bool) → b ≡ ends_by ends (call_seen x) → b ≡ true → now'.items ≡ remove now.items at → vec_len now' + 1 ≡ vec_len now → made'.items ≡ made.items ++ ticket_of p cause event (call_seen x) ∷ [] → vec_len made' ≡ vec_len made + 1 → vec_capacity made' ≡ vec_capacity made → IsEnding p cause event ends calls tickets at now' made'
      ending_taken now' made' b is_b b_true c cn m mn mc =
          let t = sym is_b ∙ b_true in
          let room = inv.room in
          let rest = map (ticket_of p cause event) (filter (ends_by ends) (map call_seen (drop (suc at) now.items))) in record {
            kept = takes_out (λ c. ends_by ends (call_seen c)) now.items at x b within is is_b now'.items c b_true ∙ inv.kept;
            ended = (λ i. m i ++ map (ticket_of p cause event) (filter (ends_by ends) (map call_seen (drop at (c i)))))
                ∙ ap (λ l. (made.items ++ ticket_of p cause event (call_seen x) ∷ []) ++ map (ticket_of p cause event) (filter (ends_by ends) (map call_seen l))) (drop_taken now.items at)
                ∙ append_assoc made.items (ticket_of p cause event (call_seen x) ∷ []) rest
                ∙ sym (ap (λ l. made.items ++ map (ticket_of p cause event) l) (opened ∙ ap (λ b. cond b (call_seen x ∷ filter (ends_by ends) (map call_seen (drop (suc at) now.items))) (filter (ends_by ends) (map call_seen (drop (suc at) now.items)))) t))
                ∙ inv.ended;
            within = omega arith;
            room = omega arith;
          }

      -- the call goes on
      pub ending_passed : (b : Bool) → b ≡ ends_by ends (call_seen x) → b ≡ false → IsEnding p cause event ends calls tickets (at + 1) now made
      ending_passed b is_b b_false = let t = sym is_b ∙ b_false in record {
        kept = goes_past (λ c. ends_by ends (call_seen c)) now.items at x b within is is_b b_false ∙ inv.kept;
        ended = ap (λ k. made.items ++ map (ticket_of p cause event) (filter (ends_by ends) (map call_seen (drop k now.items)))) (add-one at)
            ∙ sym (ap (λ l. made.items ++ map (ticket_of p cause event) l) (opened ∙ ap (λ b. cond b (call_seen x ∷ filter (ends_by ends) (map call_seen (drop (suc at) now.items))) (filter (ends_by ends) (map call_seen (drop (suc at) now.items)))) t))
            ∙ inv.ended;
        within = omega arith;
        room = inv.room;
      }

    -- past the last call
    module _ (past : length now.items ≤ at) where
      pub ending_calls : now.items ≡ filter (λ c. not (ends_by ends (call_seen c))) calls
      ending_calls = sym (all_past (λ c. ends_by ends (call_seen c)) now.items at past) ∙ inv.kept

      pub ending_tickets : made.items ≡ tickets ++ map (ticket_of p cause event) (filter (ends_by ends) (map call_seen calls))
      ending_tickets = sym (append-nil made.items) ∙ ap (λ l. made.items ++ map (ticket_of p cause event) (filter (ends_by ends) (map call_seen l))) (sym (drop_all at now.items past)) ∙ inv.ended
