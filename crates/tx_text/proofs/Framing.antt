-- Readers of framed texts: one line after another.
use Rattle.tx_text.proofs.Common.{◌≡◌, ℕ, List, [], ◌++◌, Option, Bool, true, false, refl, ap, ◌∙◌, append_assoc, inl, inr, Ending, ReadsOn, EndsAs, Stands, Stopped}
use Rattle.tx_text.proofs.ReadingOn.{moves-nil, moves_on}

pub on_none : {X : Type 0} (a : Option (List ℕ)) (F : Ending → List ℕ → X) → ReadsOn a a F F
on_none a F = record { read = []; moves = moves-nil a; gives = λ e more. refl }

-- nothing more was read, and something is known of what follows
pub on_says : {X : Type 0} (a : Option (List ℕ)) {F G : Ending → List ℕ → X} → ((e : Ending) (more : List ℕ) → F e more ≡ G e more) → ReadsOn a a F G
on_says a h = record { read = []; moves = moves-nil a; gives = h }

-- nothing more is read, and what follows is known by how the bytes end
pub ends_here : {X : Type 0} (a : Option (List ℕ)) {F : Ending → List ℕ → X} {e : Ending} {x : X} → F e [] ≡ x → EndsAs a a F e x
ends_here a h = record { read = []; moves = moves-nil a; gives = h }

pub on_then : {X : Type 0} {a b c : Option (List ℕ)} {F G H : Ending → List ℕ → X} → ReadsOn a b F G → ReadsOn b c G H → ReadsOn a c F H
on_then {a} {b} {c} {F} r s = record {
  read = r.read ++ s.read;
  moves = moves_on a b c r.read s.read r.moves s.moves;
  gives = λ e more. ap (F e) (append_assoc r.read s.read more) ∙ r.gives e (s.read ++ more) ∙ s.gives e more;
}

pub end_then : {X : Type 0} {a b c : Option (List ℕ)} {F G : Ending → List ℕ → X} {e : Ending} {x : X} → ReadsOn a b F G → EndsAs b c G e x → EndsAs a c F e x
end_then {a} {b} {c} {e} r s = record { read = r.read ++ s.read; moves = moves_on a b c r.read s.read r.moves s.moves; gives = r.gives e s.read ∙ s.gives }

pub map_on : {X Y : Type 0} {a b : Option (List ℕ)} {F G : Ending → List ℕ → X} (f : X → Y) → ReadsOn a b F G → ReadsOn a b (λ e more. f (F e more)) (λ e more. f (G e more))
map_on f r = record { read = r.read; moves = r.moves; gives = λ e more. ap f (r.gives e more) }

pub map_end : {X Y : Type 0} {a b : Option (List ℕ)} {F : Ending → List ℕ → X} {e : Ending} {x : X} (f : X → Y) → EndsAs a b F e x → EndsAs a b (λ e more. f (F e more)) e (f x)
map_end f r = record { read = r.read; moves = r.moves; gives = ap f r.gives }

pub stands_map : {X Y : Type 0} (a b c : Option (List ℕ)) (F : Ending → List ℕ → Y) (G : Ending → List ℕ → X) (x : X) (f : X → Y) → ReadsOn a b F (λ e more. f (G e more)) → Stands b c G x → Stands a c F (f x)
stands_map a b c F G x f r (inl s) = inl (on_then r (map_on f s))
stands_map a b c F G x f r (inr s) = inr (end_then r (map_end f s.0), s.1)

pub stopped_map : {X Y : Type 0} (a b c : Option (List ℕ)) (F : Ending → List ℕ → Y) (G : Ending → List ℕ → X) (x : X) (f : X → Y) (broken : Type 0) (t : Bool) → ReadsOn a b F (λ e more. f (G e more)) → Stopped b c G broken t x → Stopped a c F broken t (f x)
stopped_map a b c F G x f broken true r s = (end_then r (map_end f s.0), s.1)
stopped_map a b c F G x f broken false r s = stands_map a b c F G x f r s
