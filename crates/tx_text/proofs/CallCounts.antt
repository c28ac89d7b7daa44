-- How often a source was called, over several readings.
use Rattle.std.proofs.Common.{◌≡◌, ℕ, zero, suc, ◌+◌, ◌*◌, ◌<◌, min, ◌⊎◌, Bool, true, false, List, Option, Result, Ok, length, drop, refl, sym, ap, ◌∙◌, arith, inl, inr, subst}
use Rattle.tx_text.proofs.Common.{length-drop, drop-drop, FrameFault, FaultKind, Went, Calls, Reading, reading_size, Ending, Stopped, is_read, StoppedBy}
use Rattle.tx_text.specs.declared.source.ReadFault.{ReadFault}
use Rattle.tx_text.specs.Calls.{Gives, Gave, CallsAtMost, Broken}
use Rattle.tx_text.specs.inner.Framing.{WentOn}
use Rattle.tx_text.specs.Slices.{slice_called, SlicesAreReadWhole}

module _ {S : Type 0} (called : ℕ → Result ℕ ReadFault → S → S → Type 0) where
  gave_on : (m n k : ℕ) (a b c : S) → k ≡ n + m → Gave called m a b → Gave called n b c → Gave called k a c
  unfolding Gave
  gave_on m zero k a b c e g h = let same : k ≡ m = omega (arith, e) in rw same (subst (Gave called m a) h g)
  gave_on m (suc n) zero a b c e g h = absurd (omega (arith, e))
  gave_on m (suc n) (suc k) a b c e g (d, h, last) = (d, gave_on m n k a b d (omega (arith, e)) g h, last)

  -- no call was made yet
  pub went_none : (n : ℕ) (a : S) → Went called n n a a
  unfolding Gave
  went_none n a = (0, omega arith, refl)

  pub went_same : (allowed left now : ℕ) (a b : S) → now ≡ left → Went called allowed left a b → Went called allowed now a b
  went_same allowed left now a b e w = rw e w

  -- one call more gave bytes
  pub went_more : (allowed left : ℕ) (a b c : S) → Went called allowed (suc left) a b → Gives called b c → Went called allowed left a c
  unfolding Gave
  went_more allowed left a b c (n, e, g) h = (suc n, omega (arith, e), (b, g, h))

  -- two readings, one after the other
  pub went_on : (x y z : ℕ) (a b c : S) → Went called x y a b → Went called y z b c → Went called x z a c
  went_on x y z a b c (m, e, g) (n, f, h) = (n + m, omega (arith, e, f), gave_on m n (n + m) a b c refl g h)

  pub calls_on : (x y : ℕ) (a b c : S) → Went called x y a b → CallsAtMost called y b c → CallsAtMost called x a c
  calls_on x y a b c (m, e, g) (inl (n, f, h)) = inl (n + m, omega (arith, e, f), gave_on m n (n + m) a b c refl g h)
  calls_on x y a b c (m, e, g) (inr (n, f, d, h, r, last)) = inr (n + m, omega (arith, e, f), d, gave_on m n (n + m) a b d refl g h, r, last)

  -- one call more was made, whatever it answered
  pub calls_more : (allowed left : ℕ) (a b c : S) → Went called allowed (suc left) a b → Calls called b c → CallsAtMost called allowed a c
  calls_more allowed left a b c (n, e, g) last = inr (n, omega (arith, e), b, g, last.0, last.1)

  pub calls_so_far : (allowed left : ℕ) (a b : S) → Went called allowed left a b → CallsAtMost called allowed a b
  calls_so_far allowed left a b (n, e, g) = inl (n, omega (arith, e), g)

  -- all that were allowed were made
  pub gave_all : (allowed : ℕ) (a b : S) → Went called allowed 0 a b → Gave called allowed a b
  gave_all allowed a b (n, e, g) = let same : allowed ≡ n = omega (arith, e) in rw same g

  pub broken_on : (failed : Bool) (x y : ℕ) (a b c : S) → Went called x y a b → Broken called failed y b c → Broken called failed x a c
  broken_on failed x y a b c w (inl f) = inl f
  broken_on failed x y a b c (n, e, g) (inr h) = inr (gave_on n y x a b c e g h)

-- a fault that says more of a failure
pub stopped_with : {X : Type 0} (a c : Option (List ℕ)) (F : Ending → List ℕ → X) (B D : Type 0) (t : Bool) (x : X) → (B → D) → Stopped a c F B t x → Stopped a c F D t x
stopped_with a c F B D true x f h = (h.0, f h.1)
stopped_with a c F B D false x f h = h

pub stopped_by_with : {S W : Type 0} (a c : Option (List ℕ)) (F : Ending → List ℕ → Result S (ℕ × FaultKind W)) (B D U : Type 0) (b : Bool) (n : ℕ) (k : FrameFault) → (B → D) → StoppedBy a c F B U b n k → StoppedBy a c F D U b n k
stopped_by_with a c F B D U true n k f h = h
stopped_by_with a c F B D U false n k f h = stopped_with a c F B D (is_read k) _ f h

-- ---- slices

drops : (n : ℕ) (a c : List ℕ) → Gave slice_called n a c → c ≡ drop (4096 * n) a
unfolding Gave
drops zero a c g = sym g
drops (suc n) a c (b, g, (m, lt, (e, d))) = d ∙ ap (drop 4096) (drops n a b g) ∙ drop-drop 4096 (4096 * n) a ∙ ap (λ k. drop k a) (omega arith)

ok_is : (m n : ℕ) → ◌≡◌ {A = Result ℕ ReadFault} (Ok m) (Ok n) → m ≡ n
ok_is m n h = cc

more_than : (n : ℕ) (a c : List ℕ) → Gave slice_called (suc n) a c → 4096 * n < length a
unfolding Gave
more_than n a c (b, g, (m, lt, (e, d))) =
    let k = ok_is m (min 4096 (length b)) e in
    omega (arith, k, lt, ap length (drops n a b g), length-drop (4096 * n) a)

pub slices_whole : SlicesAreReadWhole
slices_whole text rest short (inl f) = cc
slices_whole text rest short (inr g) = let l = more_than 2251799813685248 text rest g in omega (arith, l, short)

-- a step that is not the end leaves less to read
pub less_left : {S E : Type 0} {called : ℕ → Result ℕ ReadFault → S → S → Type 0} {old new : Reading} {a c : S} → E ⊎ WentOn called old new a c → E ⊎ (reading_size new < reading_size old)
less_left (inl e) = inl e
less_left (inr w) = inr w.falls

-- a step that is not the end
pub went_past : {E W : Type 0} → E ⊎ W → (E → ⊥) → W
went_past (inl e) none = absurd (none e)
went_past (inr w) none = w
