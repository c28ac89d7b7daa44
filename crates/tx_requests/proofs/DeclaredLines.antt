-- A text that says a plan declares each of its codes and groups, in a line that a search finds.
use Rattle.std.proofs.Common.{◌≡◌, ◌⊎◌, ℕ, ◌+◌, ◌≤◌, Bool, true, false, ◌&&◌, List, [], ◌∷◌, length, Option, Some, None, Ok, Err, unwrap_or, codes, inl, inr, refl, sym, ap, ◌∙◌, subst, arith}
use Rattle.std.specs.Prelude.{slice_get, if◌then◌else◌}
use Rattle.std.specs.List.{filter_map, cons_option, slice_split}
use Rattle.std.specs.Str.{bytes_eq}
use Rattle.std.proofs.lemmas.Bool.{and_parts, and_from, false≢true}
use Rattle.std.proofs.lemmas.Slice.Eq.{bytes_eq-Decides}
use Rattle.tx_text.specs.declared.text_fault.TextFault.{TextFault}
use Rattle.tx_text.specs.declared.frame.FrameFault.{FrameFault}
use Rattle.tx_text.specs.declared.frame.LineForm.{LineForm}
use Rattle.tx_text.specs.declared.frame.LineForm.TheVariants.{Blank, Header, Plain, End, Bad}
use Rattle.tx_text.specs.declared.frame.FramePart.{FramePart}
use Rattle.tx_text.specs.declared.frame.FramePart.TheVariants.{Start, Body, Ended}
use Rattle.tx_text.specs.Frame.{Framed, Stop, closing, ended_by, last_fault, looked, as_said, header_of, framed_line, framed}
use Rattle.tx_text.specs.Said.{said, step_on}
use Rattle.tx_text.specs.Text.{Line, is_lf, bytes_fault, lines_of_parts, lines_from, lines_of, checked, checked_line}
use Rattle.tx_text.specs.Told.{AtEnd, Then, told, or_fault}
use Rattle.tx_text.specs.Words.{words_of}
use Rattle.tx_plan.specs.Plan.{Plan, no_plan}
use Rattle.tx_plan.specs.Among.{Among}
use Rattle.tx_plan.specs.Declaring.{has_code, has_group}
use Rattle.tx_plantext.specs.PlanText.{Said, declare, plan_of}
use Rattle.tx_join.proofs.United.{itself}
use Rattle.tx_join.specs.Contradictions.{if_first, declared_at, line_declaring}
use Rattle.tx_requests.proofs.LineKinds.{Begins, grows}
use Rattle.tx_requests.specs.DeclaringLines.{BeginsWith, CodesAreDeclared, GroupsAreDeclared}

-- lines are numbered from n on
numbered : (n s : ℕ) (parts : List (List ℕ)) (l : Line) → Among l (lines_of_parts n s parts) → n ≤ l.number
unfolding lines_of_parts
numbered n s [] l m = absurd m
numbered n s ([] ∷ []) l m = absurd m
numbered n s ((b ∷ bs) ∷ []) l (inl e) = subst (λ (k : Line). n ≤ k.number) e (omega arith)
numbered n s ((b ∷ bs) ∷ []) l (inr m) = absurd m
numbered n s (part ∷ next ∷ parts) l (inl e) = subst (λ (k : Line). n ≤ k.number) e (omega arith)
numbered n s (part ∷ next ∷ parts) l (inr m) = let k = numbered (n + 1) (s + length part + 1) (next ∷ parts) l m in omega (arith, k)

-- A SEARCH FOR TWO WORDS

module _ (word name : List ℕ) where
  abbrev numbers : List Line → List ℕ
  numbers ls = filter_map (declared_at word name) (checked ls)

  -- the first line that is found
  record Found (ls : List Line) : Type 0 where
    line : Line
    others : List ℕ
    first : numbers ls ≡ line.number ∷ others
    among : Among line ls
    begins : Begins word name (words_of line.bytes)

  begun : (n m : ℕ) (ws : List (List ℕ)) → if_first word name n ws ≡ Some m → Begins word name ws
  begun n m [] h = let bad : ⊥ = cc in absurd bad
  begun n m (v ∷ []) h = let bad : ⊥ = cc in absurd bad
  begun n m (v ∷ w ∷ ws) h = by (bytes_eq v word && bytes_eq w name) refl h
    where
      by : (b : Bool) → (bytes_eq v word && bytes_eq w name) ≡ b → (if b then Some n else None) ≡ Some m → Begins word name (v ∷ w ∷ ws)
      by true e k = let t = and_parts (bytes_eq v word) (bytes_eq w name) e in (ws, λ i. (bytes_eq-Decides v word).0 t.0 i ∷ (bytes_eq-Decides w name).0 t.1 i ∷ ws)
      by false e k = let bad : ⊥ = cc in absurd bad

  module _ (l : Line) (ls : List Line) (fine : bytes_fault l.bytes ≡ None) where
    one_more : numbers (l ∷ ls) ≡ cons_option (if_first word name l.number (words_of l.bytes)) (numbers ls)
    unfolding checked
    one_more = ap (λ o. filter_map (declared_at word name) (checked_line o l (checked ls))) fine

    here : Begins word name (words_of l.bytes) → Found (l ∷ ls)
    here begins = record {
      line = l;
      others = numbers ls;
      first = one_more ∙ ap (λ ws. cons_option (if_first word name l.number ws) (numbers ls)) begins.1
          ∙ ap (λ b. cons_option (if b then Some l.number else None) (numbers ls)) (and_from (bytes_eq word word) (bytes_eq name name) (itself word) (itself name));
      among = inl refl;
      begins = begins;
    }

    later : Found ls → Found (l ∷ ls)
    later f = by (if_first word name l.number (words_of l.bytes)) refl
      where
        by : (o : Option ℕ) → if_first word name l.number (words_of l.bytes) ≡ o → Found (l ∷ ls)
        by None e = record { line = f.line; others = f.others; first = one_more ∙ ap (λ o. cons_option o (numbers ls)) e ∙ f.first; among = inr f.among; begins = f.begins }
        by (Some m) e = here (begun l.number m (words_of l.bytes) e)

  -- WHAT A PLAN HAS, if each line that adds it begins with the two words
  module _ (Has : Plan → Type 0) (grow : (v : ℕ) (p q : Plan) (ws : List (List ℕ)) → declare v p ws ≡ Ok q → Has q → Has p ⊎ Begins word name ws)
      (r : Plan) (has : Has r) where
    abbrev Reads : ℕ → Plan → Framed → Type 0
    Reads v p f = said declare v p f ≡ Ok r

    abbrev frame : FramePart → ℕ → List Line → Framed
    frame q n ls = framed (header_of (codes "PLAN") 2) q n (told AtEnd ls)

    stopped : {X : Type 0} (v n : ℕ) (p : Plan) (x : FrameFault) → Reads v p (Stop n x) → X
    unfolding said
    stopped v n p x h = let z : ⊥ = cc in absurd z

    ended : (v n : ℕ) (p : Plan) (o : Option FrameFault) → Reads v p (ended_by n o) → Has p
    unfolding said
    ended v n p None h = let e : p ≡ r = cc in subst Has (sym e) has
    ended v n p (Some x) h = stopped v n p x h

    module _ (l : Line) (ls : List Line) (fine : bytes_fault l.bytes ≡ None)
        (go : (v : ℕ) (q : FramePart) (p : Plan) → Reads v p (frame q (l.number + 1) ls) → Has p ⊎ Found ls) where
      on : (v : ℕ) (q : FramePart) (p : Plan) → Reads v p (frame q (l.number + 1) ls) → Has p ⊎ Found (l ∷ ls)
      on v q p h = elim (go v q p h) [ inl k ↦ inl k | inr f ↦ inr (later l ls fine f) ]

      -- a line that declares something
      declared : (v : ℕ) (q : FramePart) (p : Plan) (o : Said) → declare v p (words_of l.bytes) ≡ o
          → step_on declare l.number o (λ m. said declare v m (frame q (l.number + 1) ls)) ≡ Ok r → Has p ⊎ Found (l ∷ ls)
      declared v q p (Ok m) e h = elim (on v q m h) [
        | inl k ↦ elim (grow v p m (words_of l.bytes) e k) [ inl old ↦ inl old | inr b ↦ inr (here l ls fine b) ]
        | inr f ↦ inr f
      ]
      declared v q p (Err x) e h = let z : ⊥ = cc in absurd z

      -- a finished line, by what it is in the frame
      whole : (v : ℕ) (q : FramePart) (p : Plan) (f : LineForm)
          → Reads v p (as_said f q l.number (words_of l.bytes) (λ k. frame k (l.number + 1) ls)) → Has p ⊎ Found (l ∷ ls)
      unfolding said
      whole v q p Blank h = on v q p h
      whole v q p (Header u) h = on u Body p h
      whole v q p Plain h = declared v q p (declare v p (words_of l.bytes)) refl h
      whole v q p End h = on v Ended p h
      whole v q p (Bad x) h = stopped v l.number p x h

      line : (v : ℕ) (q : FramePart) (p : Plan) (finished : Bool)
          → Reads v p (framed_line (header_of (codes "PLAN") 2) q finished l.number (words_of l.bytes) (λ k. frame k (l.number + 1) ls)) → Has p ⊎ Found (l ∷ ls)
      line v q p true h = whole v q p (looked (header_of (codes "PLAN") 2) q (words_of l.bytes)) h
      line v q p false h = inl (ended v l.number p (last_fault q (words_of l.bytes)) h)

    found : (ls : List Line) (v n : ℕ) (q : FramePart) (p : Plan) → Reads v p (frame q n ls) → Has p ⊎ Found ls
    unfolding framed told
    found [] v n q p h = inl (ended v n p (closing q) h)
    found (l ∷ ls) v n q p h = by (λ u k s. found ls u (l.number + 1) k s) (bytes_fault l.bytes) refl h
      where
        by : ((v : ℕ) (q : FramePart) (p : Plan) → Reads v p (frame q (l.number + 1) ls) → Has p ⊎ Found ls) → (o : Option TextFault) → bytes_fault l.bytes ≡ o
            → Reads v p (framed (header_of (codes "PLAN") 2) q n (or_fault o (Then l (told AtEnd ls)))) → Has p ⊎ Found (l ∷ ls)
        by go None e k = line l ls e go v q p l.finished k
        by go (Some x) e k = stopped v n p _ k

    pub declares : (Has no_plan → ⊥) → (text : List ℕ) → plan_of AtEnd text ≡ Ok r → BeginsWith word name text (line_declaring word name text)
    unfolding lines_from
    declares none text says = elim (found (lines_of text) 1 1 Start no_plan says) [
      | inl k ↦ absurd (none k)
      | inr f ↦
          let first : f.line.number ≡ line_declaring word name text = ap (λ ns. unwrap_or (slice_get ns 0) 0) (sym f.first) in
          let some = numbered 1 0 (slice_split is_lf text) f.line f.among in
          record { line = f.line; among = f.among; number = first; some = subst (λ n. 1 ≤ n) first some; rest = f.begins.0; words = f.begins.1 }
    ]

-- CODES AND GROUPS

pub codes_declared : CodesAreDeclared
codes_declared text p says name h =
    declares (codes "CODE") name (λ q. has_code q name ≡ true) (λ v q m ws e k. (grows m name q v ws e).code k) p h false≢true text says

pub groups_declared : GroupsAreDeclared
groups_declared text p says name h =
    declares (codes "GROUP") name (λ q. has_group q name ≡ true) (λ v q m ws e k. (grows m name q v ws e).group k) p h false≢true text says
