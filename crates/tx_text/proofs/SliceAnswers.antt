-- What a reader answers over a slice is what the whole text says.
use Rattle.tx_text.proofs.Common.{◌≡◌, ℕ, List, ◌++◌, Option, Some, None, Result, Ok, Err, Bool, true, false, refl, ap, ◌∙◌, append-nil, inl, inr, IsAtEnd, FrameFault, FaultKind, Frame, Word, Ending, AtEnd, Moves, ReadsOn, EndsAs, Stands, Stopped, is_read, Answered, StoppedBy, RefusedBy, is_no_room, FaultsBy, AnswersAs}

-- the bytes that were read, and those that are left
record Parted (text read : List ℕ) (new : Option (List ℕ)) : Type 0 where
  pub rest : List ℕ
  pub whole : text ≡ read ++ rest
  pub left : new ≡ Some rest

parted : (text read : List ℕ) (new : Option (List ℕ)) → Moves (Some text) new read → Parted text read new
parted text read None h = absurd (cc)
parted text read (Some rest) h = record { rest = rest; whole = cc; left = refl }

pub some_is : (x y : List ℕ) → ◌≡◌ {A = Option (List ℕ)} (Some x) (Some y) → x ≡ y
some_is x y h = cc

all_read : (text read : List ℕ) (new : Option (List ℕ)) → Moves (Some text) new read → IsAtEnd new → text ≡ read
all_read text read None h end = absurd (cc)
all_read text read (Some rest) h end = some_is text (read ++ rest) h ∙ ap (λ l. read ++ l) end ∙ append-nil read

module _ {X : Type 0} (text : List ℕ) (new : Option (List ℕ)) (F : Ending → List ℕ → X) (x : X) where
  at_end : EndsAs (Some text) new F AtEnd x × IsAtEnd new → F AtEnd text ≡ x
  at_end (r, end) = ap (F AtEnd) (all_read text r.read new r.moves end) ∙ r.gives

  stands : Stands (Some text) new F x → F AtEnd text ≡ x
  stands (inl r) = let p = parted text r.read new r.moves in ap (F AtEnd) p.whole ∙ r.gives AtEnd p.rest
  stands (inr r) = at_end r

  stopped : (broken : Type 0) (t : Bool) → (broken → ⊥) → Stopped (Some text) new F broken t x → F AtEnd text ≡ x
  stopped broken true none r = absurd (none r.1)
  stopped broken false none r = stands r

module _ {S W : Type 0} (memory : W → Bool) (text : List ℕ) (new : Option (List ℕ)) (F : Ending → List ℕ → Result S (ℕ × FaultKind W)) (broken untouched : Type 0) (want wanted : ℕ → Type 0) (none : broken → ⊥) (known : (n : ℕ) → want n → wanted n) where
  of_frame : (b : Bool) (n : ℕ) (k : FrameFault) → StoppedBy (Some text) new F broken untouched b n k → FaultsBy (F AtEnd text) (n ≡ 1) b n (Frame k)
  of_frame true n k r = r.0
  of_frame false n k r = stopped text new F (Err (n, Frame k)) broken (is_read k) none r

  of_word : (b : Bool) (n : ℕ) (w : W) → RefusedBy (Some text) new F want b n w → FaultsBy (F AtEnd text) (wanted n) b n (Word w)
  of_word true n w r = known n r
  of_word false n w r = stands text new F (Err (n, Word w)) r

  pub slice_answered : (r : Result S (ℕ × FaultKind W)) → Answered memory (Some text) new F broken untouched want r → AnswersAs memory (F AtEnd text) wanted r
  slice_answered (Ok s) a = at_end text new F (Ok s) a
  slice_answered (Err (n, Frame k)) a = of_frame (is_no_room k) n k a
  slice_answered (Err (n, Word w)) a = of_word (memory w) n w a

-- what stands of a slice, whatever follows
pub slice_stands : {X : Type 0} (text : List ℕ) (new : Option (List ℕ)) (F : Ending → List ℕ → X) (x : X) → ReadsOn (Some text) new F (λ _ _. x) → F AtEnd text ≡ x
slice_stands text new F x r = stands text new F x (inl r)
