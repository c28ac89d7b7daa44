-- An event that a line says can be written.
use Rattle.std.proofs.Common.{◌≡◌, ℕ, ◌-◌, ◌^◌, ◌<◌, ◌≤◌, ◌==◌, Bool, true, false, cond, ◌&&◌, nat_le, List, [], ◌∷◌, length, Option, Some, None, Result, Ok, Err, refl, ap, subst, arith}
use Rattle.std.specs.Str.{bytes_eq}
use Rattle.std.specs.Str.Parse.{digits_value}
use Rattle.std.proofs.lemmas.Bool.{and_parts, leb-true}
use Rattle.tx_script.proofs.Common.{nat_tests, is_national, Circuit, Line, Event, Key, Route, Confirm, Clear, Released, Fail, Restore, Block, Unblock, CircuitOut, CircuitIn, LineFault, LineMend, LineAway, LineBack, Party, ScriptWord}
use Rattle.std.proofs.lemmas.Option.{cond_some}
use Rattle.tx_plan.proofs.ByIndex.{index_within}
use Rattle.tx_text.specs.Words.{number_of, figures_of, are_figures, is_numeral}
use Rattle.tx_plan.specs.Plan.{Plan, Code, Group, code_named, group_named}
use Rattle.tx_script.specs.declared.event_words.Verb.{Verb}
use Rattle.tx_script.specs.declared.event_words.Verb.TheVariants.{Key as KeyVerb, Route as RouteVerb, Confirm as ConfirmVerb, Clear as ClearVerb, Released as ReleasedVerb, Fail as FailVerb, Restore as RestoreVerb, Block as BlockVerb, Unblock as UnblockVerb, Out as OutVerb, In as InVerb, Fault as FaultVerb, Mend as MendVerb, Away as AwayVerb, Back as BackVerb, End as EndVerb}
use Rattle.tx_script.specs.Events.{call_number, party_of, national_of, from_one, circuit_number, cut_at_dot, spelt, with_name, with_words, with_party, said_of, line_of, circuit_of, one_word, two_words, three_words, key_event, call_in, clear_event, circuit_in, group_in, line_in, end_event, verb_of, event_by, event_for, event_of, IsWritableCircuit, FitsPlan, IsEvent}

-- ---- a step of what is said, backwards

record Came {A B : Type 0} (o : Option A) (say : A → Result B ScriptWord) (b : B) : Type 0 where
  value : A
  is : o ≡ Some value
  said : say value ≡ Ok b

counted_ok : {A B : Type 0} (o : Option A) (say : A → Result B ScriptWord) (b : B) → with_words o say ≡ Ok b → Came o say b
counted_ok None say b h = absurd (let z : ⊥ = cc in z)
counted_ok (Some a) say b h = record { value = a; is = refl; said = h }

spelt_ok : {A B : Type 0} (o : Option A) (say : A → Result B ScriptWord) (b : B) → spelt o say ≡ Ok b → Came o say b
spelt_ok None say b h = absurd (let z : ⊥ = cc in z)
spelt_ok (Some a) say b h = record { value = a; is = refl; said = h }

named_ok : {B : Type 0} (o : Option ℕ) (say : ℕ → Result B ScriptWord) (b : B) → with_name o say ≡ Ok b → Came o say b
named_ok None say b h = absurd (let z : ⊥ = cc in z)
named_ok (Some a) say b h = record { value = a; is = refl; said = h }

known_ok : {B : Type 0} (o : Option Party) (say : Party → Result B ScriptWord) (b : B) → with_party o say ≡ Ok b → Came o say b
known_ok None say b h = absurd (let z : ⊥ = cc in z)
known_ok (Some a) say b h = record { value = a; is = refl; said = h }

record Made {A : Type 0} (make : A → Event) (r : Result A ScriptWord) (e : Event) : Type 0 where
  value : A
  is : r ≡ Ok value
  made : make value ≡ e

said_ok : {A : Type 0} (make : A → Event) (r : Result A ScriptWord) (e : Event) → said_of make r ≡ Ok e → Made make r e
said_ok make (Ok a) e h = record { value = a; is = refl; made = cc }
said_ok make (Err k) e h = absurd (let z : ⊥ = cc in z)

-- ---- what words spell

at_most : (max : ℕ) (w : List ℕ) (n : ℕ) → number_of max w ≡ Some n → n ≤ max
at_most max w n h =
    let r = cond_some (is_numeral w && nat_le (digits_value 10 w) max) (digits_value 10 w) n h in
    let l = leb-true (digits_value 10 w) max (and_parts (is_numeral w) (nat_le (digits_value 10 w) max) r.0).1 in
    omega (arith, r.1)

not_zero : (m n : ℕ) (b : Bool) → (m == 0) ≡ b → cond b None (Some m) ≡ Some n → (m ≡ n) × (1 ≤ n)
not_zero m n true e h = absurd (let z : ⊥ = cc in z)
not_zero m n false e h = let s : m ≡ n = cc in (s, grind (arith, nat_tests))

from_one_ok : (o : Option ℕ) (n : ℕ) → from_one o ≡ Some n → (o ≡ Some n) × (1 ≤ n)
from_one_ok None n h = absurd (let z : ⊥ = cc in z)
from_one_ok (Some m) n h = let r = not_zero m n (m == 0) refl h in (ap Some r.0, r.1)

passes : (test : List ℕ → Bool) (w n : List ℕ) → cond (test w) (Some w) None ≡ Some n → test n ≡ true
passes test w n h = let r = cond_some (test w) w n h in subst (λ (l : List ℕ). test l ≡ true) r.1 r.0

call_fits : (w : List ℕ) (n : ℕ) → call_number w ≡ Some n → n < 2 ^ 32
call_fits w n h = let l = at_most (2 ^ 32 - 1) w n h in omega arith

-- the event can be written, and is one that the type has
pub record CanBeWritten (p : Plan) (e : Event) : Type 0 where
  pub writable : FitsPlan p e
  pub event : IsEvent e

module _ (p : Plan) where
  line_ok : (code national : List ℕ) (l : Line) → line_of p code national ≡ Ok l → (l.code < length p.codes) × (is_national l.national ≡ true)
  line_ok code national l h =
      let n = spelt_ok (national_of national) _ l h in
      let c = named_ok (code_named p code) _ l n.said in
      let s : ◌≡◌ {A = Line} (record { code = c.value; national = n.value }) l = cc (c.said) in
      subst (λ (m : Line). (m.code < length p.codes) × (is_national m.national ≡ true)) s
      (index_within (λ (r : Code). bytes_eq code r.figures) p.codes c.value c.is, passes is_national national n.value n.is)

  circuit_ok : (w : List ℕ) (x : Circuit) → circuit_of p w ≡ Ok x → IsWritableCircuit p x
  circuit_ok w x h =
      let c = spelt_ok (cut_at_dot w) _ x h in
      let n = spelt_ok (circuit_number c.value.1) _ x c.said in
      let g = named_ok (group_named p c.value.0) _ x n.said in
      let f = from_one_ok (number_of 240 c.value.1) n.value n.is in
      let s : ◌≡◌ {A = Circuit} (record { group = g.value; number = n.value }) x = cc (g.said) in
      subst (IsWritableCircuit p) s (record { group = index_within (λ (r : Group). bytes_eq c.value.0 r.name) p.groups g.value g.is; some = f.1; few = at_most 240 c.value.1 n.value f.0 })

  abbrev Can : Event → Type 0
  Can e = CanBeWritten p e

  call_can : (make : ℕ → Event) (ws : List (List ℕ)) (e : Event) → ((n : ℕ) → n < 2 ^ 32 → Can (make n)) → said_of make (call_in ws) ≡ Ok e → Can e
  call_can make ws e f h =
      let m = said_ok make (call_in ws) e h in
      let w = counted_ok (one_word ws) _ m.value m.is in
      let n = spelt_ok (call_number w.value) _ m.value w.said in
      let s : n.value ≡ m.value = cc (n.said) in
      subst Can m.made (f m.value (omega (arith, s, call_fits w.value n.value n.is)))

  circuit_can : (make : Circuit → Event) (ws : List (List ℕ)) (e : Event) → ((x : Circuit) → IsWritableCircuit p x → Can (make x)) → said_of make (circuit_in p ws) ≡ Ok e → Can e
  circuit_can make ws e f h =
      let m = said_ok make (circuit_in p ws) e h in
      let w = counted_ok (one_word ws) _ m.value m.is in
      subst Can m.made (f m.value (circuit_ok w.value m.value w.said))

  group_can : (make : ℕ → Event) (ws : List (List ℕ)) (e : Event) → ((g : ℕ) → g < length p.groups → Can (make g)) → said_of make (group_in p ws) ≡ Ok e → Can e
  group_can make ws e f h =
      let m = said_ok make (group_in p ws) e h in
      let w = counted_ok (one_word ws) _ m.value m.is in
      let g = named_ok (group_named p w.value) _ m.value w.said in
      let s : g.value ≡ m.value = cc (g.said) in
      subst Can m.made (f m.value (omega (arith, s, index_within (λ (r : Group). bytes_eq w.value r.name) p.groups g.value g.is)))

  line_can : (make : Line → Event) (ws : List (List ℕ)) (e : Event) → ((l : Line) → l.code < length p.codes → is_national l.national ≡ true → Can (make l)) → said_of make (line_in p ws) ≡ Ok e → Can e
  line_can make ws e f h =
      let m = said_ok make (line_in p ws) e h in
      let w = counted_ok (two_words ws) _ m.value m.is in
      let l = line_ok w.value.0 w.value.1 m.value w.said in
      subst Can m.made (f m.value l.0 l.1)

  key_can : (ws : List (List ℕ)) (e : Event) → key_event p ws ≡ Ok e → Can e
  key_can ws e h =
      let w = counted_ok (three_words ws) _ e h in
      let k = spelt_ok (figures_of w.value.2) _ e w.said in
      let m = said_ok (λ l. Key l k.value) (line_of p w.value.0 w.value.1) e k.said in
      let l = line_ok w.value.0 w.value.1 m.value m.is in
      subst Can m.made (record { writable = l.0; event = (l.1, passes (are_figures 1 12) w.value.2 k.value k.is) })

  clear_can : (ws : List (List ℕ)) (e : Event) → clear_event ws ≡ Ok e → Can e
  clear_can ws e h =
      let w = counted_ok (two_words ws) _ e h in
      let x = known_ok (party_of w.value.1) _ e w.said in
      let n = spelt_ok (call_number w.value.0) _ e x.said in
      let s : Clear n.value x.value ≡ e = cc (n.said) in
      subst Can s (record { writable = tt; event = call_fits w.value.0 n.value n.is })

  end_can : (ws : List (List ℕ)) (e : Event) → end_event ws ≡ Ok e → Can e
  end_can [] e h = absurd (let z : ⊥ = cc in z)
  end_can (w ∷ ws) e h = absurd (let z : ⊥ = cc in z)

  verb_can : (v : Verb) (ws : List (List ℕ)) (e : Event) → event_by p v ws ≡ Ok e → Can e
  verb_can KeyVerb ws e h = key_can ws e h
  verb_can RouteVerb ws e h = call_can Route ws e (λ n l. record { writable = tt; event = l }) h
  verb_can ConfirmVerb ws e h = call_can Confirm ws e (λ n l. record { writable = tt; event = l }) h
  verb_can ClearVerb ws e h = clear_can ws e h
  verb_can ReleasedVerb ws e h = circuit_can Released ws e (λ x w. record { writable = w; event = tt }) h
  verb_can FailVerb ws e h = group_can Fail ws e (λ g l. record { writable = l; event = tt }) h
  verb_can RestoreVerb ws e h = group_can Restore ws e (λ g l. record { writable = l; event = tt }) h
  verb_can BlockVerb ws e h = group_can Block ws e (λ g l. record { writable = l; event = tt }) h
  verb_can UnblockVerb ws e h = group_can Unblock ws e (λ g l. record { writable = l; event = tt }) h
  verb_can OutVerb ws e h = circuit_can CircuitOut ws e (λ x w. record { writable = w; event = tt }) h
  verb_can InVerb ws e h = circuit_can CircuitIn ws e (λ x w. record { writable = w; event = tt }) h
  verb_can FaultVerb ws e h = line_can LineFault ws e (λ l c n. record { writable = c; event = n }) h
  verb_can MendVerb ws e h = line_can LineMend ws e (λ l c n. record { writable = c; event = n }) h
  verb_can AwayVerb ws e h = line_can LineAway ws e (λ l c n. record { writable = c; event = n }) h
  verb_can BackVerb ws e h = line_can LineBack ws e (λ l c n. record { writable = c; event = n }) h
  verb_can EndVerb ws e h = end_can ws e h

  for_can : (v : Option Verb) (ws : List (List ℕ)) (e : Event) → event_for p v ws ≡ Ok e → Can e
  for_can None ws e h = absurd (let z : ⊥ = cc in z)
  for_can (Some v) ws e h = verb_can v ws e h

  -- what the words of a line say
  pub words_can : (ws : List (List ℕ)) (e : Event) → event_of p ws ≡ Ok e → CanBeWritten p e
  unfolding event_of
  words_can [] e h = absurd (let z : ⊥ = cc in z)
  words_can (w ∷ ws) e h = for_can (verb_of w) ws e h
