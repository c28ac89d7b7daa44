-- Texts that are written one after another, told by `Wrote`.
use Rattle.tx_text.proofs.Common.{◌≡◌, ℕ, ◌+◌, ◌<◌, ◌≤◌, Bool, List, [], ◌∷◌, ◌++◌, length, take, get_or, Option, Result, Ok, Err, refl, sym, ap, ◌∙◌, subst, append-nil, flat_map, append_known, false≢true, take_all, take_more, flat_map-append, WriteFault, WroteBy}
use Rattle.std.specs.Prelude.{IsErr}
use Rattle.tx_text.proofs.Writing.{append_known-nil, append_known_twice, stops_later, stops_at}

abbrev pub Outcome : Type 0
Outcome = Result (Unit {0}) WriteFault

-- ---- one text and another

pub wrote_none : (a : Option (List ℕ)) (f : Bool) → WroteBy a a f f [] (Ok tt)
wrote_none a f = (append_known-nil a, refl)

pub wrote_then : (a b c : Option (List ℕ)) (f g h : Bool) (s t : List ℕ) (r : Outcome) → WroteBy a b f g s (Ok tt) → WroteBy b c g h t r → WroteBy a c f h (s ++ t) r
wrote_then a b c f g h s t (Ok x) v w = (w.0 ∙ ap (λ l. append_known l t) v.0 ∙ append_known_twice a s t, w.1 ∙ v.1)
wrote_then a b c f g h s t (Err x) v w = (stops_later s v.0 w.0, w.1)

pub text_is : (a b : Option (List ℕ)) (f g : Bool) (s t : List ℕ) (r : Outcome) → s ≡ t → WroteBy a b f g t r → WroteBy a b f g s r
text_is a b f g s t r e w = subst (λ (l : List ℕ). WroteBy a b f g l r) (sym e) w

-- ---- the texts of a list

module _ {A : Type 0} (text : A → List ℕ) where
  -- one more was written
  pub texts_more : (xs : List A) (i : ℕ) (x : A) (a b c : Option (List ℕ)) (f g h : Bool) → i < length xs → x ≡ get_or xs i x
      → WroteBy a b f g (flat_map text (take i xs)) (Ok tt) → WroteBy b c g h (text x) (Ok tt) → WroteBy a c f h (flat_map text (take (i + 1) xs)) (Ok tt)
  texts_more xs i x a b c f g h low is v w =
      let before = flat_map text (take i xs) in
      let more : flat_map text (take (i + 1) xs) ≡ before ++ text x =
      ap (flat_map text) (take_more xs i x low) ∙ flat_map-append text (take i xs) (get_or xs i x ∷ []) ∙ ap (λ l. before ++ l) (append-nil (text (get_or xs i x))) ∙ ap (λ y. before ++ text y) (sym is) in
      text_is a c f h (flat_map text (take (i + 1) xs)) (before ++ text x) (Ok tt) more (wrote_then a b c f g h before (text x) (Ok tt) v w)

  -- one of them was not written
  pub texts_stopped : (xs : List A) (i : ℕ) (x : A) (a b c : Option (List ℕ)) (f g h : Bool) (r : Outcome) (fault : WriteFault) → i < length xs → x ≡ get_or xs i x
      → WroteBy a b f g (flat_map text (take i xs)) (Ok tt) → WroteBy b c g h (text x) (Err fault) → IsErr r → WroteBy a c f h (flat_map text xs) r
  texts_stopped xs i x a b c f g h (Ok y) fault lt is v w bad = absurd (false≢true bad)
  texts_stopped xs i x a b c f g h (Err y) fault lt is v w bad = (stops_at text xs i x lt is v.0 w.0, w.1)

  -- all of them were written
  pub texts_done : (xs : List A) (i : ℕ) (a b : Option (List ℕ)) (f g : Bool) → length xs ≤ i → WroteBy a b f g (flat_map text (take i xs)) (Ok tt) → WroteBy a b f g (flat_map text xs) (Ok tt)
  texts_done xs i a b f g all v = subst (λ (l : List A). WroteBy a b f g (flat_map text l) (Ok tt)) (take_all i xs all) v
