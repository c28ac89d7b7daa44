-- Texts that are put to a sink one after another.
use Rattle.tx_text.proofs.Common.{◌≡◌, ◌≢◌, ℕ, ◌+◌, ◌<◌, ◌≤◌, Bool, true, false, List, [], ◌∷◌, ◌++◌, length, take, get_or, Option, Result, Ok, Err, refl, sym, ap, ◌∙◌, subst, append-nil, flat_map, append_known, false≢true, take_all, take_more, flat_map-append, WriteFault, StopsIn}
use Rattle.std.specs.Prelude.{is_err}
use Rattle.tx_text.specs.Wrote.{WroteBy, Wrote}
use Rattle.tx_text.specs.Puts.{PutsBy, Puts}
use Rattle.tx_text.proofs.Writing.{append_known-nil, append_known_twice, stops_first, stops_later}

-- nothing of a text
stops_before : (a : Option (List ℕ)) (text : List ℕ) → text ≢ [] → StopsIn a a text
stops_before a text some = record { front = []; back = text; whole = refl; taken = append_known-nil a; left = some }

by_none : (a : Option (List ℕ)) (f : Bool) → PutsBy a a f f []
by_none a true = (refl, refl)
by_none a false = append_known-nil a

by_then : (a b c : Option (List ℕ)) (f g h : Bool) (s t : List ℕ) → PutsBy a b f g s → PutsBy b c g h t → PutsBy a c f h (s ++ t)
by_then a b c true true h s t v w = (w.0, w.1 ∙ v.1)
by_then a b c true false h s t v w = absurd (false≢true v.0)
by_then a b c false false false s t v w = w ∙ ap (λ l. append_known l t) v ∙ append_known_twice a s t
by_then a b c false false true s t v w = stops_later s v w
by_then a b c false true false s t v w = absurd (false≢true w.0)
by_then a b c false true true s t v w = subst (λ z. StopsIn a z (s ++ t)) (sym w.1) (stops_first t v)

-- a call took these bytes
by_call : (a b : Option (List ℕ)) (f g : Bool) (text : List ℕ) → b ≡ append_known a text → g ≡ false → (f ≡ true → false ≡ true) → PutsBy a b f g text
by_call a b true g text taken up stays = absurd (false≢true (stays refl))
by_call a b false false text taken up stays = taken
by_call a b false true text taken up stays = absurd (false≢true (sym up))

by_wrote : (a b : Option (List ℕ)) (f g : Bool) (text : List ℕ) (r : Result (Unit {0}) WriteFault) → text ≢ [] → PutsBy a b f g text → g ≡ is_err r → WroteBy a b f g text r
by_wrote a b true g text (Ok x) some p e = absurd (false≢true (sym e ∙ p.0))
by_wrote a b true g text (Err x) some p e = (subst (λ z. StopsIn a z text) (sym p.1) (stops_before a text some), e)
by_wrote a b false false text (Ok x) some p e = (p, refl)
by_wrote a b false false text (Err x) some p e = absurd (false≢true e)
by_wrote a b false true text (Ok x) some p e = absurd (false≢true (sym e))
by_wrote a b false true text (Err x) some p e = (p, e)

module _ {W : Type 0} {taken : W → Option (List ℕ)} {failed : W → Bool} where
  -- nothing
  pub puts_none : {a : W} → Puts taken failed a a []
  puts_none {a} = record { by = by_none (taken a) (failed a) }

  -- a text, and then another
  pub puts_then : {a b c : W} {s t : List ℕ} → Puts taken failed a b s → Puts taken failed b c t → Puts taken failed a c (s ++ t)
  puts_then {a} {b} {c} {s} {t} v w = record { by = by_then (taken a) (taken b) (taken c) (failed a) (failed b) (failed c) s t v.by w.by }

  pub puts_is : {a b : W} {s t : List ℕ} → s ≡ t → Puts taken failed a b t → Puts taken failed a b s
  puts_is {a} {b} e v = subst (λ l. Puts taken failed a b l) (sym e) v

  -- a call that took some
  pub puts_call : {a b : W} {text : List ℕ} → taken b ≡ append_known (taken a) text → failed b ≡ false → (failed a ≡ true → false ≡ true) → Puts taken failed a b text
  puts_call {a} {b} {text} e up stays = record { by = by_call (taken a) (taken b) (failed a) (failed b) text e up stays }

  -- a text that is not empty, and whether the sink failed
  pub puts_wrote : {a b : W} {text : List ℕ} (r : Result (Unit {0}) WriteFault) → text ≢ [] → Puts taken failed a b text → failed b ≡ is_err r → Wrote taken failed a b text r
  puts_wrote {a} {b} {text} r some v e = by_wrote (taken a) (taken b) (failed a) (failed b) text r some v.by e

  -- the texts of a list
  module _ {A : Type 0} (text : A → List ℕ) (xs : List A) where
    pub puts_more : {i : ℕ} {x : A} {a b c : W} → i < length xs → x ≡ get_or xs i x
        → Puts taken failed a b (flat_map text (take i xs)) → Puts taken failed b c (text x)
        → Puts taken failed a c (flat_map text (take (i + 1) xs))
    puts_more {i} {x} low is v w =
        let before = flat_map text (take i xs) in
        let more : flat_map text (take (i + 1) xs) ≡ before ++ text x =
        ap (flat_map text) (take_more xs i x low) ∙ flat_map-append text (take i xs) (get_or xs i x ∷ []) ∙ ap (λ l. before ++ l) (append-nil (text (get_or xs i x))) ∙ ap (λ y. before ++ text y) (sym is) in
        puts_is more (puts_then v w)

    pub puts_all : {i : ℕ} {a b : W} → length xs ≤ i → Puts taken failed a b (flat_map text (take i xs)) → Puts taken failed a b (flat_map text xs)
    puts_all {i} all v = puts_is (ap (flat_map text) (sym (take_all i xs all))) v
