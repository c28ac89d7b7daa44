-- The line that is written for an event says that event.
use Rattle.tx_script.proofs.Common.{◌≡◌, ℕ, ◌-◌, ◌^◌, ◌<◌, ◌≤◌, true, false, not, ◌||◌, List, [], ◌∷◌, ◌++◌, length, Some, Ok, codes, refl, arith, length-append, nat_tests, IsPlan, is_national, Circuit, Line, Event, Key, Route, Confirm, Clear, Released, Fail, Restore, Block, Unblock, CircuitOut, CircuitIn, LineFault, LineMend, LineAway, LineBack, Party}
use Rattle.std.specs.Prelude.{decimal}
use Rattle.std.specs.List.{list_all, prefix_len}
use Rattle.std.proofs.Math.Seq.{drop-append-add}
use Rattle.std.proofs.lemmas.Bool.{and_parts, lt-ltb, ne_eqb}
use Rattle.std.proofs.lemmas.List.{take_at}
use Rattle.tx_text.specs.Words.{is_letter, is_figure, are_figures}
use Rattle.tx_text.specs.Frame.{is_end}
use Rattle.tx_text.specs.Written.{joined}
use Rattle.tx_text.specs.inner.Written.{IsWrittenLine}
use Rattle.tx_text.proofs.ReadBack.{words_joined}
use Rattle.tx_text.proofs.WrittenWords.{IsShortWord, all_stronger, name_bytes, name_word, figures_word, number_word, number_back, circuit_word, line_of_short, fixed_word, no_fault}
use Rattle.tx_plan.specs.Plan.{Plan, group_name, figures_of as code_figures}
use Rattle.tx_machine.specs.declared.open_call.Party.TheVariants.{Caller, Called}
use Rattle.tx_tickets.specs.Texts.{circuit_text}
use Rattle.tx_script.specs.Events.{is_dot, cut_at_dot, from_one, line_of, circuit_of, call_in, group_in, party_word, event_of, event_in, event_words, IsWritableCircuit, FitsPlan, IsEvent, EventsReadBack}
use Rattle.tx_plan.proofs.NamesBack.{code_back, figures_are_code, group_back, group_is_name}

-- ---- what each word says

no_dot : (b : ℕ) → (is_letter b || is_figure b) ≡ true → not (is_dot b) ≡ true
no_dot b h = grind (arith, nat_tests)

-- a dot after a text without dots
dot_index : (w rest : List ℕ) → list_all (λ b. not (is_dot b)) w ≡ true → prefix_len (λ b. not (is_dot b)) (w ++ 46 ∷ rest) ≡ length w
dot_index [] rest h = refl
dot_index (b ∷ w) rest h =
    let r = and_parts (not (is_dot b)) (list_all (λ x. not (is_dot x)) w) h in
    let t = r.0 in
    let e = dot_index w rest r.1 in
    rw (t, e) (omega arith)

cut_back : (w rest : List ℕ) → list_all (λ b. not (is_dot b)) w ≡ true → cut_at_dot (w ++ 46 ∷ rest) ≡ Some (w, rest)
cut_back w rest h =
    let e = dot_index w rest h in
    let l = lt-ltb (length w) (length (w ++ 46 ∷ rest)) (omega (arith, length-append w (46 ∷ rest))) in
    let t = take_at w (46 ∷ rest) (length w) refl in
    let d = drop-append-add w (46 ∷ rest) 1 in
    rw (e, l, t, d) refl

from_one_back : (n : ℕ) → 1 ≤ n → from_one (Some n) ≡ Some n
from_one_back n h = let e = ne_eqb n 0 (omega arith) in rw e refl

call_back : (n : ℕ) → n < 2 ^ 32 → call_in (decimal n ∷ []) ≡ Ok n
call_back n h = let e = number_back (2 ^ 32 - 1) n (omega arith) (omega arith) in rw e refl

module _ (p : Plan) (h : IsPlan p) where
  line_back : (l : Line) → l.code < length p.codes → is_national l.national ≡ true → line_of p (code_figures p l.code) l.national ≡ Ok l
  line_back l c n = let e = (code_back p h l.code c).back in rw (n, e) refl

  group_in_back : (g : ℕ) → g < length p.groups → group_in p (group_name p g ∷ []) ≡ Ok g
  group_in_back g c = let e = (group_back p h g c).back in rw e refl

  circuit_back : (x : Circuit) → IsWritableCircuit p x → circuit_of p (circuit_text p x) ≡ Ok x
  circuit_back x w =
      let c = cut_back (group_name p x.group) (decimal x.number) (all_stronger (λ b. is_letter b || is_figure b) (λ b. not (is_dot b)) no_dot (group_name p x.group) (name_bytes (group_name p x.group) (group_is_name p h x.group w.group)).0) in
      let n = number_back 240 x.number w.few (omega arith) in
      let o = from_one_back x.number w.some in
      let e = (group_back p h x.group w.group).back in
      rw (c, n, o, e) refl

  -- ---- the words of the line

  word_from_name : (g : ℕ) → g < length p.groups → IsShortWord (group_name p g)
  word_from_name g c = name_word (group_name p g) (group_is_name p h g c)

  word_from_code : (c : ℕ) → c < length p.codes → IsShortWord (code_figures p c)
  word_from_code c l = figures_word 2 3 (code_figures p c) (omega arith) (omega arith) (figures_are_code p h c l)

  word_from_circuit : (x : Circuit) → IsWritableCircuit p x → IsShortWord (circuit_text p x)
  word_from_circuit x w = circuit_word (group_name p x.group) x.number (group_is_name p h x.group w.group) w.few

  word_from_party : (party : Party) → IsShortWord (party_word party)
  word_from_party Caller = fixed_word (codes "CALLER") refl
  word_from_party Called = fixed_word (codes "CALLED") refl

  -- what is true of the words of an event's line
  pub record SaysEvent (e : Event) (ws : List (List ℕ)) : Type 0 where
    pub says : event_of p ws ≡ Ok e
    pub written : IsWrittenLine ws
    pub some : 0 < length ws
    pub no_end : is_end ws ≡ false

  -- one word after a first one of letters
  after_one : (e : Event) (first w : List ℕ) → event_of p (first ∷ w ∷ []) ≡ Ok e → IsShortWord first → IsShortWord w → SaysEvent e (first ∷ w ∷ [])
  after_one e first w s f g = record { says = s; written = line_of_short (first ∷ w ∷ []) (f, (g, tt)) (omega arith); some = omega arith; no_end = refl }

  after_two : (e : Event) (first v w : List ℕ) → event_of p (first ∷ v ∷ w ∷ []) ≡ Ok e → IsShortWord first → IsShortWord v → IsShortWord w → SaysEvent e (first ∷ v ∷ w ∷ [])
  after_two e first v w s f g k = record { says = s; written = line_of_short (first ∷ v ∷ w ∷ []) (f, (g, (k, tt))) (omega arith); some = omega arith; no_end = refl }

  key_back : (l : Line) (keyed : List ℕ) → l.code < length p.codes → is_national l.national ≡ true → are_figures 1 12 keyed ≡ true → event_of p (event_words p (Key l keyed)) ≡ Ok (Key l keyed)
  unfolding event_of
  key_back l keyed c n k = let e = line_back l c n in rw (k, e) refl

  clear_back : (n : ℕ) (party : Party) → n < 2 ^ 32 → event_of p (event_words p (Clear n party)) ≡ Ok (Clear n party)
  unfolding event_of
  clear_back n Caller h = let e = number_back (2 ^ 32 - 1) n (omega arith) (omega arith) in rw e refl
  clear_back n Called h = let e = number_back (2 ^ 32 - 1) n (omega arith) (omega arith) in rw e refl

  pub words_back : (e : Event) → FitsPlan p e → IsEvent e → SaysEvent e (event_words p e)
  unfolding event_of
  words_back (Key l keyed) w k = record {
    says = key_back l keyed w k.0 k.1;
    written = line_of_short (event_words p (Key l keyed)) (fixed_word (codes "KEY") refl, (word_from_code l.code w, (figures_word 1 9 l.national (omega arith) (omega arith) k.0, (figures_word 1 12 keyed (omega arith) (omega arith) k.1, tt)))) (omega arith);
    some = omega arith;
    no_end = refl;
  }
  words_back (Route n) w k = let e = call_back n k in after_one (Route n) (codes "ROUTE") (decimal n) (rw e refl) (fixed_word (codes "ROUTE") refl) (number_word n k)
  words_back (Confirm n) w k = let e = call_back n k in after_one (Confirm n) (codes "CONFIRM") (decimal n) (rw e refl) (fixed_word (codes "CONFIRM") refl) (number_word n k)
  words_back (Clear n party) w k = after_two (Clear n party) (codes "CLEAR") (decimal n) (party_word party) (clear_back n party k) (fixed_word (codes "CLEAR") refl) (number_word n k) (word_from_party party)
  words_back (Released x) w k = let e = circuit_back x w in after_one (Released x) (codes "RELEASED") (circuit_text p x) (rw e refl) (fixed_word (codes "RELEASED") refl) (word_from_circuit x w)
  words_back (Fail g) w k = let e = group_in_back g w in after_one (Fail g) (codes "FAIL") (group_name p g) (rw e refl) (fixed_word (codes "FAIL") refl) (word_from_name g w)
  words_back (Restore g) w k = let e = group_in_back g w in after_one (Restore g) (codes "RESTORE") (group_name p g) (rw e refl) (fixed_word (codes "RESTORE") refl) (word_from_name g w)
  words_back (Block g) w k = let e = group_in_back g w in after_one (Block g) (codes "BLOCK") (group_name p g) (rw e refl) (fixed_word (codes "BLOCK") refl) (word_from_name g w)
  words_back (Unblock g) w k = let e = group_in_back g w in after_one (Unblock g) (codes "UNBLOCK") (group_name p g) (rw e refl) (fixed_word (codes "UNBLOCK") refl) (word_from_name g w)
  words_back (CircuitOut x) w k = let e = circuit_back x w in after_one (CircuitOut x) (codes "OUT") (circuit_text p x) (rw e refl) (fixed_word (codes "OUT") refl) (word_from_circuit x w)
  words_back (CircuitIn x) w k = let e = circuit_back x w in after_one (CircuitIn x) (codes "IN") (circuit_text p x) (rw e refl) (fixed_word (codes "IN") refl) (word_from_circuit x w)
  words_back (LineFault l) w k = let e = line_back l w k in after_two (LineFault l) (codes "FAULT") (code_figures p l.code) l.national (rw e refl) (fixed_word (codes "FAULT") refl) (word_from_code l.code w) (figures_word 1 9 l.national (omega arith) (omega arith) k)
  words_back (LineMend l) w k = let e = line_back l w k in after_two (LineMend l) (codes "MEND") (code_figures p l.code) l.national (rw e refl) (fixed_word (codes "MEND") refl) (word_from_code l.code w) (figures_word 1 9 l.national (omega arith) (omega arith) k)
  words_back (LineAway l) w k = let e = line_back l w k in after_two (LineAway l) (codes "AWAY") (code_figures p l.code) l.national (rw e refl) (fixed_word (codes "AWAY") refl) (word_from_code l.code w) (figures_word 1 9 l.national (omega arith) (omega arith) k)
  words_back (LineBack l) w k = let e = line_back l w k in after_two (LineBack l) (codes "BACK") (code_figures p l.code) l.national (rw e refl) (fixed_word (codes "BACK") refl) (word_from_code l.code w) (figures_word 1 9 l.national (omega arith) (omega arith) k)

  -- ---- the line

  line_says : (e : Event) (ws : List (List ℕ)) → SaysEvent e ws → event_in p (joined ws) ≡ Ok e
  line_says e [] s = absurd (omega (arith, s.some))
  line_says e (w ∷ ws) s =
      let f = no_fault (w ∷ ws) s.written in
      let j = words_joined w ws s.written.words in
      let k = s.says in
      rw (f, j, k) refl

pub events_back : EventsReadBack
events_back p e h w = line_says p h e (event_words p e) (words_back p h e w.0 w.1)
