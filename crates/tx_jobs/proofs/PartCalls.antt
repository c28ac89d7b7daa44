-- What the calls that read a part of an input mean for the input.
use Rattle.tx_jobs.proofs.Common.{◌≡◌, ◌⊎◌, ℕ, zero, suc, ◌≤◌, Bool, true, false, List, [], ◌∷◌, Option, Result, Ok, Err, refl, sym, ap, ◌∙◌, arith, inl, inr, subst, ReadFault, ScriptPart, CalledInput, LeftInput, PartCall}
use Rattle.tx_text.specs.Calls.{Gives, Gave, CallsAtMost}
use Rattle.tx_text.specs.inner.CallsLeft.{Calls}
use Rattle.tx_plan.proofs.Lists.{opposed}

-- of a source that stands over a part
module _ {R S : Type 0} (rest : R → Option (List ℕ)) (failed : R → Bool) (called : ℕ → Result ℕ ReadFault → R → R → Type 0) (part : S → ScriptPart R) (over : S → Bool) (call : ℕ → Result ℕ ReadFault → S → S → Type 0)
    (is : (n : ℕ) (r : Result ℕ ReadFault) (a b : S) → call n r a b → PartCall rest failed called (over a) (over b) n r (part a) (part b)) where
  abbrev pub input : S → R
  input s = (part s).input.now

  -- WHAT IS LENT stays the same

  pub record Same (a c : S) : Type 0 where
    pub input : (part c).input.ghost_name ≡ (part a).input.ghost_name
    pub ahead : (part c).ahead.ghost_name ≡ (part a).ahead.ghost_name

  same_on : (a b c : S) (n : ℕ) (r : Result ℕ ReadFault) → Same a b → call n r b c → Same a c
  same_on a b c n r s k = let q = is n r b c k in record { input = q.same_input ∙ s.input; ahead = q.same_ahead ∙ s.ahead }

  gave_same : (n : ℕ) (a c : S) → Gave call n a c → Same a c
  unfolding Gave
  gave_same zero a c e = subst (Same a) e (record { input = refl; ahead = refl })
  gave_same (suc n) a c (b, g, (m, some, k)) = same_on a b c 4096 (Ok m) (gave_same n a b g) k

  pub calls_same : (most : ℕ) (a c : S) → CallsAtMost call most a c → Same a c
  calls_same most a c (inl (n, le, g)) = gave_same n a c g
  calls_same most a c (inr (n, lt, b, g, r, k)) = same_on a b c 4096 r (gave_same n a b g) k

  -- HOW OFTEN IT IS CALLED

  -- a call that gave bytes meant one call of the input that gave some, or none
  given : (b c : S) → Gives call b c → (input b ≡ input c) ⊎ Gives called (input b) (input c)
  given b c (k, some, p) = by (is 4096 (Ok k) b c p).input
    where
      by : CalledInput called (Ok k) (part b) (part c) ⊎ LeftInput (Ok k) (part b) (part c) → (input b ≡ input c) ⊎ Gives called (input b) (input c)
      by (inl h) = let (m, lt, e) = h.gave some in inr (m, lt, subst (λ r. called 4096 r (input b) (input c)) e h.call)
      by (inr h) = inl (sym h.same)

  -- a call meant one call of the input, or none
  answered : (b c : S) → Calls call b c → (input b ≡ input c) ⊎ Calls called (input b) (input c)
  answered b c (r, p) = by (is 4096 r b c p).input
    where
      by : CalledInput called r (part b) (part c) ⊎ LeftInput r (part b) (part c) → (input b ≡ input c) ⊎ Calls called (input b) (input c)
      by (inl h) = inr (h.reply, h.call)
      by (inr h) = inl (sym h.same)

  -- at most so many calls of the input gave bytes
  gave_input : (n : ℕ) (a c : S) → Gave call n a c → (m : ℕ) × (m ≤ n) × Gave called m (input a) (input c)
  unfolding Gave
  gave_input zero a c e = (0, omega arith, ap input e)
  gave_input (suc n) a c (b, g, h) = by (gave_input n a b g) (given b c h)
    where
      by : (m : ℕ) × (m ≤ n) × Gave called m (input a) (input b) → (input b ≡ input c) ⊎ Gives called (input b) (input c) → (m : ℕ) × (m ≤ suc n) × Gave called m (input a) (input c)
      by (m, le, i) (inl e) = (m, omega (arith, le), subst (Gave called m (input a)) e i)
      by (m, le, i) (inr j) = (suc m, omega (arith, le), (input b, i, j))

  -- So many calls are at most so many calls of the input.
  pub calls_input : (most : ℕ) (a c : S) → CallsAtMost call most a c → CallsAtMost called most (input a) (input c)
  calls_input most a c (inl (n, le, g)) = let (m, fewer, h) = gave_input n a c g in inl (m, omega (arith, le, fewer), h)
  calls_input most a c (inr (n, lt, b, g, r, k)) = by (gave_input n a b g) (answered b c (r, k))
    where
      by : (m : ℕ) × (m ≤ n) × Gave called m (input a) (input b) → (input b ≡ input c) ⊎ Calls called (input b) (input c) → CallsAtMost called most (input a) (input c)
      by (m, fewer, h) (inl e) = inl (m, omega (arith, lt, fewer), subst (Gave called m (input a)) e h)
      by (m, fewer, h) (inr (s, j)) = inr (m, omega (arith, lt, fewer), input b, h, s, j)

  -- ITS MARK

  -- what a mark of the part means
  abbrev IsMarked : S → Type 0
  IsMarked s = (part s).ahead.now.failed ≡ true → failed (input s) ≡ true

  gave_marked : (n : ℕ) (a c : S) → Gave call n a c → IsMarked a → IsMarked c
  unfolding Gave
  gave_marked zero a c e before = subst IsMarked e before
  gave_marked (suc n) a c (b, g, (m, some, k)) before = λ bad. absurd (opposed _ bad (is 4096 (Ok m) b c k).mark)

  -- Where the part has failed, the input has, if it had before.
  pub input_failed : (most : ℕ) (a c : S) → CallsAtMost call most a c → ((part a).ahead.now.failed ≡ true → failed (input a) ≡ true) → (part c).ahead.now.failed ≡ true → failed (input c) ≡ true
  input_failed most a c (inl (n, le, g)) before = gave_marked n a c g before
  input_failed most a c (inr (n, lt, b, g, Ok k, p)) before = λ bad. absurd (opposed _ bad (is 4096 (Ok k) b c p).mark)
  input_failed most a c (inr (n, lt, b, g, Err x, p)) before = λ _. by (is 4096 (Err x) b c p).fails
    where
      by : (((part b).ahead.now.failed ≡ true) × (input c ≡ input b)) ⊎ (failed (input c) ≡ true) → failed (input c) ≡ true
      by (inl h) = ap failed h.1 ∙ gave_marked n a b g before h.0
      by (inr h) = h

  -- WHAT IS HELD: nothing after a call, unless the part is over

  abbrev IsEmptied : S → Type 0
  IsEmptied c = over c ≡ false → (part c).ahead.now.held ≡ []

  left_empty : (b c : S) → Gives call b c → IsEmptied c
  left_empty b c (k, some, p) = (is 4096 (Ok k) b c p).emptied (omega arith)

  still_going : (x y : Bool) → (x ≡ true → y ≡ true) → y ≡ false → x ≡ false
  still_going false y f e = refl
  still_going true y f e = absurd (opposed y (f refl) e)

  last_empty : (b c : S) → IsEmptied b → Calls call b c → IsEmptied c
  last_empty b c empty (Ok k, p) = (is 4096 (Ok k) b c p).emptied (omega arith)
  last_empty b c empty (Err x, p) = let q = is 4096 (Err x) b c p in λ e. q.kept ∙ empty (still_going (over b) (over c) q.stays e)

  -- Where nothing was held, a call that gave bytes was a call of the input that gave some.
  read_on : (b c : S) → IsEmptied b → Gives call b c → Gives called (input b) (input c)
  read_on b c empty (k, some, p) = by q.input
    where
      q : PartCall rest failed called (over b) (over c) 4096 (Ok k) (part b) (part c)
      q = is 4096 (Ok k) b c p

      by : CalledInput called (Ok k) (part b) (part c) ⊎ LeftInput (Ok k) (part b) (part c) → Gives called (input b) (input c)
      by (inl h) = let (m, lt, e) = h.gave some in (m, lt, subst (λ r. called 4096 r (input b) (input c)) e h.call)
      by (inr h) = absurd (h.held some (empty (q.going some)))

  -- Where nothing was held at first, so many calls that gave bytes are as many of the input.
  pub gave_empty : (n : ℕ) (a c : S) → (part a).ahead.now.held ≡ [] → Gave call n a c → Gave called n (input a) (input c) × IsEmptied c
  unfolding Gave
  gave_empty zero a c none e = (ap input e, λ _. subst (λ s. (part s).ahead.now.held ≡ []) e none)
  gave_empty (suc n) a c none (b, g, h) = let i = gave_empty n a b none g in ((input b, i.0, read_on b c i.1 h), left_empty b c h)

  -- Where bytes were held, the first call that gave bytes gave of those.
  first_held : (x : ℕ) (held : List ℕ) (a c : S) → (part a).ahead.now.held ≡ x ∷ held → Gives call a c → input a ≡ input c
  first_held x held a c e (k, some, p) = by (is 4096 (Ok k) a c p).input
    where
      by : CalledInput called (Ok k) (part a) (part c) ⊎ LeftInput (Ok k) (part a) (part c) → input a ≡ input c
      by (inl h) = let none : (part a).ahead.now.held ≡ [] = h.empty in let bad : ⊥ = cc in absurd bad
      by (inr h) = sym h.same

  -- And so many calls are one more than those of the input.
  pub gave_held : (n : ℕ) (x : ℕ) (held : List ℕ) (a c : S) → (part a).ahead.now.held ≡ x ∷ held → Gave call (suc n) a c → Gave called n (input a) (input c) × IsEmptied c
  unfolding Gave
  gave_held zero x held a c e (b, same, h) = (first_held x held a c e (subst (λ s. Gives call s c) (sym same) h), left_empty b c h)
  gave_held (suc n) x held a c e (b, g, h) = let i = gave_held n x held a b e g in ((input b, i.0, read_on b c i.1 h), left_empty b c h)

  pub calls_emptied : (most : ℕ) (a c : S) → (part a).ahead.now.held ≡ [] → CallsAtMost call most a c → over c ≡ false → (part c).ahead.now.held ≡ []
  calls_emptied most a c none (inl (n, le, g)) = (gave_empty n a c none g).1
  calls_emptied most a c none (inr (n, lt, b, g, r, k)) = last_empty b c (gave_empty n a b none g).1 (r, k)

  -- Nothing is held, or the input was not called.
  abbrev Given : S → S → Type 0
  Given a c = (over c ≡ false → (part c).ahead.now.held ≡ []) ⊎ (input c ≡ input a)

  gave_given : (n : ℕ) (a c : S) → Gave call n a c → Given a c
  unfolding Gave
  gave_given zero a c e = inr (ap input (sym e))
  gave_given (suc n) a c (b, g, h) = inl (left_empty b c h)

  pub calls_given : (most : ℕ) (a c : S) → CallsAtMost call most a c → Given a c
  calls_given most a c (inl (n, le, g)) = gave_given n a c g
  calls_given most a c (inr (n, lt, b, g, r, p)) = by (gave_given n a b g) (is 4096 r b c p).input
    where
      by : Given a b → CalledInput called r (part b) (part c) ⊎ LeftInput r (part b) (part c) → Given a c
      by (inl empty) i = inl (last_empty b c empty (r, p))
      by (inr same) (inl h) = inl (last_empty b c (λ _. h.empty) (r, p))
      by (inr same) (inr h) = inr (h.same ∙ same)
