-- What a call of the builder declares of a line.
use Rattle.std.proofs.Common.{◌≡◌, Bool, true, false, not, ◌&&◌, List, [], ◌∷◌, Option, Some, Result, Ok, Err, IfErr, refl, ap, sym, inl, inr}
use Rattle.tx_plantext.proofs.Common.{and_parts, PlanRefusal, Plan}
use Rattle.tx_text.specs.Said.{Declared, DeclaredBy}
use Rattle.tx_plan.specs.Declaring.{Declares, first_true}
use Rattle.tx_plantext.specs.declared.fault.PlanWord.{PlanWord}
use Rattle.tx_plantext.specs.declared.fault.PlanWord.TheVariants.{Refused}
use Rattle.tx_plantext.specs.PlanText.{Said, unless, is_memory, word_told}

-- none of these refusals is lack of memory
abbrev pub tell_no_memory : List (Bool × PlanRefusal) → Bool
tell_no_memory [] = true
tell_no_memory (t ∷ ts) = not (is_memory (Refused t.1)) && tell_no_memory ts

refused_by : (r : Said) (b : Bool) (x : PlanWord) → (b ≡ true → ⊥) → r ≡ Err x → DeclaredBy r b x
refused_by r true x none h = absurd (none refl)
refused_by r false x none h = h

first_no_memory : (ts : List (Bool × PlanRefusal)) (e : PlanRefusal) → tell_no_memory ts ≡ true → first_true ts ≡ Some e → is_memory (Refused e) ≡ true → ⊥
first_no_memory [] e h i m = cc
first_no_memory ((true, r) ∷ ts) e h i m = let same : r ≡ e = cc in let no : is_memory (Refused r) ≡ true = rw same m in cc
first_no_memory ((false, r) ∷ ts) e h i m = first_no_memory ts e (and_parts (not (is_memory (Refused r))) (tell_no_memory ts) h).1 i m

pub declared_from : (ts : List (Bool × PlanRefusal)) (old next new : Plan) (o : Result (Unit {0}) PlanRefusal) → tell_no_memory ts ≡ true → Declares (first_true ts) old next new o → Declared is_memory (unless (first_true ts) next) new (word_told o)
declared_from ts old next new (Ok x) t h = rw h.0 (ap Ok (sym h.1))
declared_from ts old next new (Err e) t (same, inl h) = refused_by (unless (first_true ts) next) (is_memory (Refused e)) (Refused e) (first_no_memory ts e t h) (rw h refl)
declared_from ts old next new (Err e) t (same, inr h) = rw (h.0, h.1) refl

-- A refused declaration changes nothing.
pub same_from : (refusal : Option PlanRefusal) (old next new : Plan) (o : Result (Unit {0}) PlanRefusal) → Declares refusal old next new o → IfErr o (λ _. new ≡ old)
same_from refusal old next new (Ok x) h = search
same_from refusal old next new (Err e) h = h.0
