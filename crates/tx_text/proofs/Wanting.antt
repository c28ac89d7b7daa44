-- Lines that declare something, one after another.
use Rattle.tx_text.proofs.Common.{◌≡◌, ℕ, ◌==◌, Bool, true, ◌||◌, List, [], ◌++◌, Option, Result, Ok, Err, refl, ap, ◌∙◌, append_assoc, is_ok, Ending, Moves, Framed, Headed, Has, ReadsOn}
use Rattle.std.proofs.lemmas.Bool.{eq-eqb, or_right}
use Rattle.tx_text.specs.Said.{goes_on, declares_at}
use Rattle.tx_text.proofs.ReadingOn.{moves-nil, moves_on}

-- bytes were read, and what G finds from here on F finds from the start on
pub record Finds (old new : Option (List ℕ)) (F G : Ending → List ℕ → ℕ → Bool) : Type 0 where
  pub read : List ℕ
  pub moves : Moves old new read
  pub finds : (e : Ending) (more : List ℕ) (n : ℕ) → G e more n ≡ true → F e (read ++ more) n ≡ true

pub finds_none : (a : Option (List ℕ)) (F G : Ending → List ℕ → ℕ → Bool) → ((e : Ending) (more : List ℕ) → F e more ≡ G e more) → Finds a a F G
finds_none a F G h = record { read = []; moves = moves-nil a; finds = λ e more n i. rw (h e more) i }

finds_on : {T : Type 0} (a b c : Option (List ℕ)) (F G H : Ending → List ℕ → ℕ → Bool) (U V : Ending → List ℕ → T) → Finds a b F G → ReadsOn b c U V
    → ((e : Ending) (more : List ℕ) (n : ℕ) (read : List ℕ) → U e (read ++ more) ≡ V e more → H e more n ≡ true → G e (read ++ more) n ≡ true) → Finds a c F H
finds_on a b c F G H U V p q h = record {
  read = p.read ++ q.read;
  moves = moves_on a b c p.read q.read p.moves q.moves;
  finds = λ e more n i. ap (λ l. F e l n) (append_assoc p.read q.read more) ∙ p.finds e (q.read ++ more) n (h e more n q.read (q.gives e more) i);
}

module _ {S W : Type 0} (declare : ℕ → S → List (List ℕ) → Result S W) where
  abbrev Lines : Type 0
  Lines = Ending → List ℕ → Framed

  -- what is found from a state on
  abbrev pub finds_from : ℕ → S → Lines → Ending → List ℕ → ℕ → Bool
  finds_from v s T e more n = declares_at declare n v s (T e more)

  pub finds_headed : (a b c : Option (List ℕ)) (F : Ending → List ℕ → ℕ → Bool) (T U : Lines) (v w : ℕ) (s : S)
      → Finds a b F (finds_from v s T) → ReadsOn b c T (λ e more. Headed w (U e more)) → Finds a c F (finds_from w s U)
  unfolding declares_at
  finds_headed a b c F T U v w s p q = finds_on a b c F _ _ T _ p q (λ e more n read i j. rw i j)

  later : (n m : ℕ) (o : Result S W) (r : S) (k : S → Bool) → o ≡ Ok r → k r ≡ true → goes_on declare o (λ z. (m == n) || k z) ≡ true
  later n m o r k h i = rw h (or_right (m == n) (k r) i)

  pub finds_declared : (a b c : Option (List ℕ)) (F : Ending → List ℕ → ℕ → Bool) (T U : Lines) (v : ℕ) (s r : S) (m : ℕ) (ws : List (List ℕ))
      → Finds a b F (finds_from v s T) → ReadsOn b c T (λ e more. Has m ws (U e more)) → declare v s ws ≡ Ok r → Finds a c F (finds_from v r U)
  unfolding declares_at
  finds_declared a b c F T U v s r m ws p q h = finds_on a b c F _ _ T _ p q (λ e more n read i j. rw i (later n m (declare v s ws) r (λ z. declares_at declare n v z (U e more)) h j))

  at_line : (m n : ℕ) (o : Result S W) (k : S → Bool) → is_ok o ≡ true → (m == n) ≡ true → goes_on declare o (λ z. (m == n) || k z) ≡ true
  at_line m n (Ok r) k h i = rw i refl
  at_line m n (Err x) k h i = cc

  -- the line that stands declares something
  pub found_here : (a b c : Option (List ℕ)) (F : Ending → List ℕ → ℕ → Bool) (T U : Lines) (v : ℕ) (s : S) (m : ℕ) (ws : List (List ℕ))
      → Finds a b F (finds_from v s T) → ReadsOn b c T (λ e more. Has m ws (U e more)) → is_ok (declare v s ws) ≡ true → ReadsOn a c (λ e more. F e more m) (λ _ _. true)
  unfolding declares_at
  found_here a b c F T U v s m ws p q h =
      let r = finds_on a b c F (finds_from v s T) (λ e more n. m == n) T (λ e more. Has m ws (U e more)) p q (λ e more n read i j. rw i (at_line m n (declare v s ws) (λ z. declares_at declare n v z (U e more)) h j)) in
      record { read = r.read; moves = r.moves; gives = λ e more. r.finds e more m (eq-eqb m m refl) }
