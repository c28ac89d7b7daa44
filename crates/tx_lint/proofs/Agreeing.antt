-- All faults of a text agree with the fault that its reader tells.
use Rattle.std.proofs.Common.{◌≡◌, ℕ, ◌+◌, Bool, true, false, List, [], ◌∷◌, ◌++◌, Option, None, Some, Result, Ok, Err, codes, refl, sym, ap, subst}
use Rattle.std.specs.Prelude.{is_none, if◌then◌else◌}
use Rattle.tx_lint.proofs.Common.{option_map, option_to_list, Plan}
use Rattle.tx_text.specs.declared.text_fault.TextFault.{TextFault}
use Rattle.tx_text.specs.declared.frame.FrameFault.{FrameFault}
use Rattle.tx_text.specs.declared.frame.FaultKind.{FaultKind}
use Rattle.tx_text.specs.declared.frame.FaultKind.TheVariants.{Frame}
use Rattle.tx_text.specs.declared.frame.LineForm.{LineForm}
use Rattle.tx_text.specs.declared.frame.LineForm.TheVariants.{Blank, Header as HeaderLine, Plain, End, Bad}
use Rattle.tx_text.specs.Text.{Line, lines_of_parts, lines_from, lines_of, bytes_fault}
use Rattle.tx_text.specs.Words.{words_of}
use Rattle.tx_text.specs.Told.{AtEnd, told, Then, frame_fault, or_fault}
use Rattle.tx_text.specs.Frame.{header_of, framed, framed_line, as_said, ended_by, closing, last_fault, Framed}
use Rattle.tx_text.specs.Said.{said, step_on}
use Rattle.tx_plantext.specs.declared.fault.PlanWord.{PlanWord}
use Rattle.tx_plantext.specs.PlanText.{Said, declare}
use Rattle.tx_lint.specs.AllFaults.{Progress, no_progress, fault_in_line, fault_at_end, form_kind, form_of, form_told, words_kind, bytes_first, form_on, declared_on, word_fault, faults_from, progress_from, entry_at}
use Rattle.tx_lint.specs.Laws.{first_fault, told_by, FaultsAgreeWithReader}

-- ---- the numbers of lines

-- they go on from n
abbrev AreNumbered : ℕ → List Line → Type 0
AreNumbered n [] = Unit {0}
AreNumbered n (l ∷ ls) = (l.number ≡ n) × AreNumbered (n + 1) ls

numbered_parts : (n start : ℕ) (parts : List (List ℕ)) → AreNumbered n (lines_of_parts n start parts)
unfolding lines_of_parts
numbered_parts n start [] = tt
numbered_parts n start ([] ∷ []) = tt
numbered_parts n start ((b ∷ bs) ∷ []) = (refl, tt)
numbered_parts n start ([] ∷ next ∷ parts) = (refl, numbered_parts (n + 1) _ (next ∷ parts))
numbered_parts n start ((b ∷ bs) ∷ next ∷ parts) = (refl, numbered_parts (n + 1) _ (next ∷ parts))

numbered : (n start : ℕ) (text : List ℕ) → AreNumbered n (lines_from n start text)
unfolding lines_from
numbered n start text = numbered_parts n start _

pub first_number : (n start : ℕ) (text : List ℕ) (l : Line) (ls : List Line) → lines_from n start text ≡ l ∷ ls → l.number ≡ n
first_number n start text l ls e = (subst (AreNumbered n) e (numbered n start text)).0

-- ---- what the reader tells of lines

-- what comes of a part of the text that the frame leaves to the reader
abbrev tells : Progress → Framed → Result Plan (ℕ × FaultKind PlanWord)
tells s t = said declare s.version s.plan t

abbrev rest_framed : Progress → ℕ → List Line → Framed
rest_framed s n ls = framed (header_of (codes "PLAN") 2) s.part n (told AtEnd ls)

-- the first of all faults of these lines is the fault that the reader tells of them
abbrev Agrees : Progress → ℕ → List Line → Type 0
Agrees s n ls = first_fault (faults_from s n ls) ≡ told_by (tells s (rest_framed s n ls))

end_agrees : (s : Progress) (n : ℕ) (x : Option FrameFault)
    → first_fault (option_to_list (option_map (fault_at_end n) (form_told x)))
    ≡ told_by (tells s (ended_by n x))
unfolding said
end_agrees s n None = refl
end_agrees s n (Some x) = refl

last_agrees : (s : Progress) (m : ℕ) (ws : List (List ℕ)) (x : Option FrameFault)
    → first_fault (option_to_list (option_map (fault_in_line s m ws) (form_told x)) ++ [])
    ≡ told_by (tells s (ended_by m x))
unfolding said
last_agrees s m ws None = refl
last_agrees s m ws (Some x) = refl

module _ (m : ℕ) (ls : List Line) (after : (s : Progress) → Agrees s (m + 1) ls) where
  declared_agrees : (s : Progress) (ws : List (List ℕ)) (r : Said)
      → first_fault (option_to_list (option_map (fault_in_line s m ws) (word_fault r)) ++ faults_from (declared_on s m ws r) (m + 1) ls)
      ≡ told_by (step_on declare m r (λ p. said declare s.version p (rest_framed s (m + 1) ls)))
  declared_agrees s ws (Ok p) = after (record s { plan = p; entries = s.entries ++ entry_at s.plan m ws })
  declared_agrees s ws (Err x) = refl

  form_agrees : (s : Progress) (ws : List (List ℕ)) (f : LineForm)
      → first_fault (option_to_list (option_map (fault_in_line s m ws) (form_kind s ws f)) ++ faults_from (form_on s m ws f) (m + 1) ls)
      ≡ told_by (tells s (as_said f s.part m ws (λ q. framed (header_of (codes "PLAN") 2) q (m + 1) (told AtEnd ls))))
  unfolding said
  form_agrees s ws Blank = after s
  form_agrees s ws (HeaderLine v) = after (form_on s m ws (HeaderLine v))
  form_agrees s ws Plain = declared_agrees s ws (declare s.version s.plan ws)
  form_agrees s ws End = after (form_on s m ws End)
  form_agrees s ws (Bad x) = refl

  words_agree : (s : Progress) (ws : List (List ℕ)) (finished : Bool)
      → first_fault (option_to_list (option_map (fault_in_line s m ws) (words_kind s finished ws))
      ++ (if finished then faults_from (form_on s m ws (form_of s.part ws)) (m + 1) ls else []))
      ≡ told_by (tells s (framed_line (header_of (codes "PLAN") 2) s.part finished m ws (λ q. framed (header_of (codes "PLAN") 2) q (m + 1) (told AtEnd ls))))
  words_agree s ws true = form_agrees s ws (form_of s.part ws)
  words_agree s ws false = last_agrees s m ws (last_fault s.part ws)

bytes_agree : (s : Progress) (n : ℕ) (l : Line) (ls : List Line) (b : Option TextFault) → l.number ≡ n
    → ((r : Progress) → Agrees r (l.number + 1) ls)
    → first_fault (option_to_list (option_map (fault_in_line s l.number (words_of l.bytes)) (bytes_first b (words_kind s l.finished (words_of l.bytes))))
    ++ (if l.finished then faults_from (if is_none b then form_on s l.number (words_of l.bytes) (form_of s.part (words_of l.bytes)) else s) (l.number + 1) ls else []))
    ≡ told_by (tells s (framed (header_of (codes "PLAN") 2) s.part n (or_fault b (Then l (told AtEnd ls)))))
unfolding framed said
bytes_agree s n l ls (Some x) e after = ap (λ k. Some (k, Frame (frame_fault x))) e
bytes_agree s n l ls None e after = words_agree l.number ls after s (words_of l.bytes) l.finished

pub agrees : (s : Progress) (n : ℕ) (ls : List Line) → AreNumbered n ls → Agrees s n ls
unfolding faults_from told framed
agrees s n [] h = end_agrees s n (closing s.part)
agrees s n (l ∷ ls) (e, h) = bytes_agree s n l ls (bytes_fault l.bytes) e (λ r. agrees r (l.number + 1) ls (subst (λ k. AreNumbered (k + 1) ls) (sym e) h))

-- ---- the plan

-- what was read of these lines is the plan that the reader tells of them, if it tells one
abbrev GivesPlan : Plan → Progress → ℕ → List Line → Type 0
GivesPlan p s n ls = tells s (rest_framed s n ls) ≡ Ok p → (progress_from s ls).plan ≡ p

end_gives : (p : Plan) (s : Progress) (n : ℕ) (x : Option FrameFault) → tells s (ended_by n x) ≡ Ok p → s.plan ≡ p
unfolding said
end_gives p s n None h = cc
end_gives p s n (Some x) h = cc

module _ (p : Plan) (m : ℕ) (ls : List Line) (after : (s : Progress) → GivesPlan p s (m + 1) ls) where
  declared_gives : (s : Progress) (ws : List (List ℕ)) (r : Said)
      → step_on declare m r (λ q. said declare s.version q (rest_framed s (m + 1) ls)) ≡ Ok p → (progress_from (declared_on s m ws r) ls).plan ≡ p
  declared_gives s ws (Ok q) h = after (record s { plan = q; entries = s.entries ++ entry_at s.plan m ws }) h
  declared_gives s ws (Err x) h = cc

  form_gives : (s : Progress) (ws : List (List ℕ)) (f : LineForm)
      → tells s (as_said f s.part m ws (λ q. framed (header_of (codes "PLAN") 2) q (m + 1) (told AtEnd ls))) ≡ Ok p → (progress_from (form_on s m ws f) ls).plan ≡ p
  unfolding said
  form_gives s ws Blank h = after s h
  form_gives s ws (HeaderLine v) h = after (form_on s m ws (HeaderLine v)) h
  form_gives s ws Plain h = declared_gives s ws (declare s.version s.plan ws) h
  form_gives s ws End h = after (form_on s m ws End) h
  form_gives s ws (Bad x) h = cc

  words_give : (s : Progress) (ws : List (List ℕ)) (finished : Bool)
      → tells s (framed_line (header_of (codes "PLAN") 2) s.part finished m ws (λ q. framed (header_of (codes "PLAN") 2) q (m + 1) (told AtEnd ls))) ≡ Ok p
      → (if finished then progress_from (form_on s m ws (form_of s.part ws)) ls else s).plan ≡ p
  words_give s ws true h = form_gives s ws (form_of s.part ws) h
  words_give s ws false h = end_gives p s m (last_fault s.part ws) h

bytes_give : (p : Plan) (s : Progress) (n : ℕ) (l : Line) (ls : List Line) (b : Option TextFault) → ((r : Progress) → GivesPlan p r (l.number + 1) ls)
    → tells s (framed (header_of (codes "PLAN") 2) s.part n (or_fault b (Then l (told AtEnd ls)))) ≡ Ok p
    → (if l.finished then progress_from (if is_none b then form_on s l.number (words_of l.bytes) (form_of s.part (words_of l.bytes)) else s) ls else s).plan ≡ p
unfolding framed said
bytes_give p s n l ls (Some x) after h = cc
bytes_give p s n l ls None after h = words_give p l.number ls after s (words_of l.bytes) l.finished h

pub gives_plan : (p : Plan) (s : Progress) (n : ℕ) (ls : List Line) → GivesPlan p s n ls
unfolding progress_from told framed
gives_plan p s n [] h = end_gives p s n (closing s.part) h
gives_plan p s n (l ∷ ls) h = bytes_give p s n l ls (bytes_fault l.bytes) (λ r. gives_plan p r (l.number + 1) ls) h

-- ---- the law

pub faults_agree : FaultsAgreeWithReader
faults_agree text = record {
  first = agrees no_progress 1 (lines_of text) (numbered 1 0 text);
  plan = λ p h. gives_plan p no_progress 1 (lines_of text) h;
}
