-- Texts that are shown one after another.
use Rattle.std.proofs.Common.{◌≡◌, ℕ, ◌+◌, ◌<◌, ◌≤◌, Bool, true, false, List, [], ◌∷◌, ◌++◌, length, map, take, get_or, Option, None, Some, Result, Ok, Err, refl, sym, ap, ◌∙◌, subst, append_assoc, append-nil}
use Rattle.std.specs.Prelude.{is_err}
use Rattle.std.specs.List.{flat_map}
use Rattle.std.proofs.lemmas.Bool.{false≢true}
use Rattle.std.specs.Io.KnownBytes.{append_known}
use Rattle.std.proofs.lemmas.List.{take_all, take_more, map-append}
use Rattle.std.proofs.lemmas.List.Concat.{flat_map-append}
use Rattle.tx_text.specs.declared.sink.WriteFault.{WriteFault}
use Rattle.tx_text.specs.Puts.{PutsBy, Puts}
use Rattle.tx_text.proofs.Writing.{append_known-nil, append_known_twice}
use Rattle.tx_html.specs.Escaped.{escaped}
use Rattle.tx_html.specs.Shows.{Shows, Seen, seen_by, append_texts, ShowedBy, Showed, SetsBy, Sets}

-- ---- bytes that show texts

-- more before them
pub shows_after : (texts : List (List ℕ)) (a b : List ℕ) → Shows texts b → Shows texts (a ++ b)
shows_after [] a b s = tt
shows_after (t ∷ texts) a b s = record {
  before = a ++ s.before;
  after = s.after;
  cut = ap (λ l. a ++ l) s.cut ∙ sym (append_assoc a s.before (escaped t ++ s.after));
  rest = s.rest;
}

-- texts, and then other ones
pub shows_then : (s t : List (List ℕ)) (a b : List ℕ) → Shows s a → Shows t b → Shows (s ++ t) (a ++ b)
shows_then [] t a b v w = shows_after t a b w
shows_then (x ∷ s) t a b v w = record {
  before = v.before;
  after = v.after ++ b;
  cut = ap (λ l. l ++ b) v.cut ∙ append_assoc v.before (escaped x ++ v.after) b
      ∙ ap (λ l. v.before ++ l) (append_assoc (escaped x) v.after b);
  rest = shows_then s t v.after b v.rest w;
}

-- ---- calls that show texts

append_texts-nil : (o : Option (List (List ℕ))) → o ≡ append_texts o []
append_texts-nil None = refl
append_texts-nil (Some xs) = ap Some (sym (append-nil xs))

append_texts_twice : (o : Option (List (List ℕ))) (s t : List (List ℕ)) → append_texts (append_texts o s) t ≡ append_texts o (s ++ t)
append_texts_twice None s t = refl
append_texts_twice (Some xs) s t = ap Some (append_assoc xs s t)

by_none : (a : Seen) (f : Bool) → SetsBy f f a a []
by_none a true = refl
by_none a false = record {
  bytes = [];
  added = append_known-nil a.taken;
  shows = tt;
  exactly = append_texts-nil a.shown;
  mark = refl;
}

by_then : (a b c : Seen) (f g h : Bool) (s t : List (List ℕ)) → SetsBy f g a b s → SetsBy g h b c t → SetsBy f h a c (s ++ t)
by_then a b c true true h s t v w = w
by_then a b c true false h s t v w = absurd (false≢true v)
by_then a b c false false false s t v w = record {
  bytes = v.bytes ++ w.bytes;
  added = w.added ∙ ap (λ l. append_known l w.bytes) v.added ∙ append_known_twice a.taken v.bytes w.bytes;
  shows = shows_then s t v.bytes w.bytes v.shows w.shows;
  exactly = w.exactly ∙ ap (λ l. append_texts l t) v.exactly ∙ append_texts_twice a.shown s t;
  mark = w.mark ∙ v.mark;
}
by_then a b c false false true s t v w = tt
by_then a b c false true false s t v w = absurd (false≢true w)
by_then a b c false true true s t v w = tt

by_showed : (a b : Seen) (f : Bool) (texts : List (List ℕ)) (r : Result (Unit {0}) WriteFault) → SetsBy f b.failed a b texts → b.failed ≡ is_err r → ShowedBy a b texts r
by_showed a b true texts (Ok x) v e = absurd (false≢true (sym e ∙ v))
by_showed a b false texts (Ok x) v e = subst (λ g. SetsBy false g a b texts) e v
by_showed a b f texts (Err x) v e = e

-- markup, and an escaped text
by_own : (a b : Option (List ℕ)) (f g : Bool) (bytes : List ℕ) → PutsBy a b f g bytes → SetsBy f g (record { taken = a; shown = None; failed = f }) (record { taken = b; shown = None; failed = g }) []
by_own a b true g bytes w = w.0
by_own a b false false bytes w = record { bytes = bytes; added = w; shows = tt; exactly = refl; mark = refl }
by_own a b false true bytes w = tt

by_text : (a b : Option (List ℕ)) (f g : Bool) (text : List ℕ) → PutsBy a b f g (escaped text) → SetsBy f g (record { taken = a; shown = None; failed = f }) (record { taken = b; shown = None; failed = g }) (text ∷ [])
by_text a b true g text w = w.0
by_text a b false false text w = record {
  bytes = escaped text;
  added = w;
  shows = record { before = []; after = []; cut = sym (append-nil (escaped text)); rest = tt };
  exactly = refl;
  mark = refl;
}
by_text a b false true text w = tt

module _ {W : Type 0} {taken : W → Option (List ℕ)} {failed : W → Bool} {a b : W} where
  pub own_sets : {bytes : List ℕ} → Puts taken failed a b bytes → Sets (seen_by taken failed) a b []
  own_sets {bytes} w = record { by = by_own (taken a) (taken b) (failed a) (failed b) bytes w.by }

  pub text_sets : (text : List ℕ) → Puts taken failed a b (escaped text) → Sets (seen_by taken failed) a b (text ∷ [])
  text_sets text w = record { by = by_text (taken a) (taken b) (failed a) (failed b) text w.by }

module _ {W : Type 0} {seen : W → Seen} where
  -- nothing
  pub sets_none : {a : W} → Sets seen a a []
  sets_none {a} = record { by = by_none (seen a) (seen a).failed }

  -- texts, and then others
  pub sets_then : {a b c : W} {s t : List (List ℕ)} → Sets seen a b s → Sets seen b c t → Sets seen a c (s ++ t)
  sets_then {a} {b} {c} {s} {t} v w = record { by = by_then (seen a) (seen b) (seen c) (seen a).failed (seen b).failed (seen c).failed s t v.by w.by }

  pub sets_is : {a b : W} {s t : List (List ℕ)} → s ≡ t → Sets seen a b t → Sets seen a b s
  sets_is {a} {b} e w = subst (λ l. Sets seen a b l) (sym e) w

  -- texts, and then nothing but markup
  pub sets_end : {a b c : W} {s : List (List ℕ)} → Sets seen a b s → Sets seen b c [] → Sets seen a c s
  sets_end {s} v w = sets_is (sym (append-nil s)) (sets_then v w)

  -- what was set, and whether the sink failed
  pub sets_showed : {a b : W} {texts : List (List ℕ)} (r : Result (Unit {0}) WriteFault) → Sets seen a b texts → (seen b).failed ≡ is_err r → Showed seen a b texts r
  sets_showed {a} {b} {texts} r v e = by_showed (seen a) (seen b) (seen a).failed texts r v.by e

  -- the texts of a list
  module _ {A : Type 0} (texts : A → List (List ℕ)) (xs : List A) where
    pub list_more : {i : ℕ} {x : A} {a b c : W} → i < length xs → x ≡ get_or xs i x → Sets seen a b (flat_map texts (take i xs)) → Sets seen b c (texts x) → Sets seen a c (flat_map texts (take (i + 1) xs))
    list_more {i} {x} low is v w =
        let before = flat_map texts (take i xs) in
        let more : flat_map texts (take (i + 1) xs) ≡ before ++ texts x =
        ap (flat_map texts) (take_more xs i x low) ∙ flat_map-append texts (take i xs) (get_or xs i x ∷ []) ∙ ap (λ l. before ++ l) (append-nil (texts (get_or xs i x))) ∙ ap (λ y. before ++ texts y) (sym is) in
        sets_is more (sets_then v w)

    pub list_done : {i : ℕ} {a b : W} → length xs ≤ i → Sets seen a b (flat_map texts (take i xs)) → Sets seen a b (flat_map texts xs)
    list_done {i} all v = sets_is (ap (flat_map texts) (sym (take_all i xs all))) v

  -- one text for each of a list
  module _ {A : Type 0} (text : A → List ℕ) (xs : List A) where
    pub names_more : {i : ℕ} {x : A} {a b c : W} → i < length xs → x ≡ get_or xs i x → Sets seen a b (map text (take i xs)) → Sets seen b c (text x ∷ []) → Sets seen a c (map text (take (i + 1) xs))
    names_more {i} {x} low is v w =
        let before = map text (take i xs) in
        let more : map text (take (i + 1) xs) ≡ before ++ text x ∷ [] =
        ap (map text) (take_more xs i x low) ∙ map-append text (take i xs) (get_or xs i x ∷ []) ∙ ap (λ y. before ++ text y ∷ []) (sym is) in
        sets_is more (sets_then v w)

    pub names_done : {i : ℕ} {a b : W} → length xs ≤ i → Sets seen a b (map text (take i xs)) → Sets seen a b (map text xs)
    names_done {i} all v = sets_is (ap (map text) (sym (take_all i xs all))) v
