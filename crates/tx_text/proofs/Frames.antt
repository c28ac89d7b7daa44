-- What a frame reader answers at each line.
use Rattle.tx_text.proofs.Common.{◌≡◌, ℕ, ◌+◌, List, [], ◌∷◌, Option, None, Some, Err, Bool, true, false, refl, sym, ap, ◌∙◌, inl, inr, subst, IsAtEnd, FrameFault, FramePart, Start, Body, Ended, Line, Ending, AtEnd, Told, Closed, Faulty, Then}
use Rattle.tx_text.specs.declared.frame.LineForm.{LineForm}
use Rattle.tx_text.specs.declared.frame.LineForm.TheVariants.{Bad, Plain}
use Rattle.tx_text.specs.Words.{words_of}
use Rattle.tx_text.specs.inner.Reading.{told_at, Rest, Came, LineCame, Advances}
use Rattle.tx_text.specs.Frame.{Framed, Stop, Has, framed, is_end, looked_by, looked, closing, last_by, last_fault, ended_by, as_said, ReadsOn, EndsAs, Stopped, is_read}
use Rattle.tx_text.specs.inner.Framing.{GoesOn, end_as, number_of_line, words_of_line}
use Rattle.tx_text.proofs.Framing.{on_then, end_then, map_on, map_end, stopped_map}

abbrev Texts : Type 0
Texts = Ending → List ℕ → Framed

-- a fault of header or END is no failure to read
abbrev NoRead : Option FrameFault → Type 0
NoRead None = Unit {0}
NoRead (Some k) = is_read k ≡ false

close_no_read : (ph : FramePart) → NoRead (closing ph)
close_no_read Start = refl
close_no_read Body = refl
close_no_read Ended = tt

last_by_no_read : (end : Bool) (ph : FramePart) → NoRead (last_by end ph)
last_by_no_read true Start = refl
last_by_no_read false Start = refl
last_by_no_read true Body = tt
last_by_no_read false Body = refl
last_by_no_read end Ended = refl

last_no_read : (ph : FramePart) (ws : List (List ℕ)) → NoRead (last_fault ph ws)
last_no_read ph [] = close_no_read ph
last_no_read ph (w ∷ ws) = last_by_no_read (is_end (w ∷ ws)) ph

-- nor is that of a line that cannot be there
abbrev NoReadForm : LineForm → Type 0
NoReadForm (Bad k) = is_read k ≡ false
NoReadForm form = Unit {0}

looked_by_no_read : (header : Option ℕ) (end : Bool) (ph : FramePart) → NoReadForm (looked_by header end ph)
looked_by_no_read None end Start = refl
looked_by_no_read (Some v) end Start = tt
looked_by_no_read header true Body = tt
looked_by_no_read header false Body = tt
looked_by_no_read header end Ended = refl

looked_no_read : (header : List (List ℕ) → Option ℕ) (ph : FramePart) (ws : List (List ℕ)) → NoReadForm (looked header ph ws)
looked_no_read header ph [] = tt
looked_no_read header ph (w ∷ ws) = looked_by_no_read (header (w ∷ ws)) (is_end (w ∷ ws)) ph

pub bad_no_read : (header : List (List ℕ) → Option ℕ) (ph : FramePart) (ws : List (List ℕ)) (k : FrameFault) → Bad k ≡ looked header ph ws → is_read k ≡ false
bad_no_read header ph ws k h = subst NoReadForm (sym h) (looked_no_read header ph ws)

module _ (header : List (List ℕ) → Option ℕ) where
  on_lines : (a b c : Option (List ℕ)) (F : Texts) (ph : FramePart) (n : ℕ) (p : Rest) (t : Ending → List ℕ → Told)
      → ReadsOn a b F (λ e more. framed header ph n (told_at p e more)) → ReadsOn b c (told_at p) t → ReadsOn a c F (λ e more. framed header ph n (t e more))
  on_lines a b c F ph n p t i r = on_then i (map_on (framed header ph n) r)

  at_lines : (a b c : Option (List ℕ)) (F : Texts) (ph : FramePart) (n : ℕ) (p : Rest) (e : Ending) (t : Told)
      → ReadsOn a b F (λ e more. framed header ph n (told_at p e more)) → EndsAs b c (told_at p) e t → EndsAs a c F e (framed header ph n t)
  at_lines a b c F ph n p e t i r = end_then i (map_end (framed header ph n) r)

  -- the bytes of a line are faulty, or the source failed
  pub frame_err : (a b c : Option (List ℕ)) (F : Texts) (ph : FramePart) (n : ℕ) (p q : Rest) (given : Option Line) (broken : Type 0) (f : FrameFault)
      → ReadsOn a b F (λ e more. framed header ph n (told_at p e more)) → Advances b c p q given broken (Err f)
      → Stopped a c F broken (is_read f) (Stop n f)
  unfolding framed
  frame_err a b c F ph n p q given broken f i r = stopped_map a b c F (told_at p) (Faulty f) (framed header ph n) broken (is_read f) i r

  -- how an answer at the end goes on
  ends_on : (a c : Option (List ℕ)) (F G : Texts) (l : Option Line) (broken : Type 0) (n : ℕ) (o : Option FrameFault)
      → NoRead o → EndsAs a c F AtEnd (ended_by n o) → IsAtEnd c → GoesOn a c F G l broken (end_as n o)
  ends_on a c F G l broken n None h r end = (r, end)
  ends_on a c F G l broken n (Some k) h r end = subst (λ t. Stopped a c F broken t (Stop n k)) (sym h) (inr (r, end))

  -- the text ended
  pub frame_end : (a b c : Option (List ℕ)) (F G : Texts) (ph : FramePart) (n : ℕ) (p : Rest) (l : Option Line) (broken : Type 0)
      → ReadsOn a b F (λ e more. framed header ph n (told_at p e more)) → EndsAs b c (told_at p) AtEnd Closed × IsAtEnd c
      → GoesOn a c F G l broken (end_as n (closing ph))
  unfolding framed
  frame_end a b c F G ph n p l broken i r = ends_on a c F G l broken n (closing ph) (close_no_read ph) (at_lines a b c F ph n p AtEnd _ i r.0) r.1

  line_came : (a c : Option (List ℕ)) (p q : Rest) (given : Option Line) (l : Line) (b : Bool) → Came a c p q given → given ≡ Some l → l.finished ≡ b → LineCame a c p q l b
  line_came a c p q given l b r h e = subst (LineCame a c p q l) e (subst (Came a c p q) h r)

  last_framed : (ph : FramePart) (n : ℕ) (l : Line) → l.finished ≡ false → framed header ph n (Then l Closed) ≡ ended_by l.number (last_fault ph (words_of l.bytes))
  unfolding framed
  last_framed ph n l e = rw e refl

  -- an unfinished line came
  pub frame_last : (a b c : Option (List ℕ)) (F G : Texts) (ph : FramePart) (n : ℕ) (p q : Rest) (given given' : Option Line) (l : Line) (broken : Type 0)
      → ReadsOn a b F (λ e more. framed header ph n (told_at p e more)) → Came b c p q given → given ≡ Some l → l.finished ≡ false
      → GoesOn a c F G given' broken (end_as l.number (last_fault ph (words_of l.bytes)))
  frame_last a b c F G ph n p q given given' l broken i r h e =
      let s = line_came b c p q given l false r h e in
      ends_on a c F G given' broken l.number (last_fault ph (words_of l.bytes)) (last_no_read ph (words_of l.bytes)) (subst (EndsAs a c F AtEnd) (last_framed ph n l e) (at_lines a b c F ph n p AtEnd _ i s.0)) s.1

  -- what comes after a finished line, in a phase
  abbrev pub after_line : Rest → ℕ → FramePart → Texts
  after_line q n ph = λ e more. framed header ph (n + 1) (told_at q e more)

  line_framed : (ph : FramePart) (n : ℕ) (l : Line) (t : Told) → l.finished ≡ true → framed header ph n (Then l t) ≡ as_said (looked header ph (words_of l.bytes)) ph l.number (words_of l.bytes) (λ k. framed header k (l.number + 1) t)
  unfolding framed
  line_framed ph n l t e = rw e refl

  -- a finished line came
  pub frame_line : (a b c : Option (List ℕ)) (F : Texts) (ph : FramePart) (n : ℕ) (p q : Rest) (given : Option Line) (l : Line) (seen : LineForm)
      → ReadsOn a b F (λ e more. framed header ph n (told_at p e more)) → Came b c p q given → given ≡ Some l → l.finished ≡ true → seen ≡ looked header ph (words_of l.bytes)
      → ReadsOn a c F (λ e more. as_said seen ph l.number (words_of l.bytes) (λ k. after_line q l.number k e more))
  frame_line a b c F ph n p q given l seen i r h e s =
      let m = on_lines a b c F ph n p (λ e more. Then l (told_at q e more)) i (line_came b c p q given l true r h e) in
      record { read = m.read; moves = m.moves; gives = λ d more. m.gives d more ∙ line_framed ph n l (told_at q d more) e ∙ ap (λ o. as_said o ph l.number (words_of l.bytes) (λ k. after_line q l.number k d more)) (sym s) }

  -- a line for the reader came
  pub frame_plain : (a b c : Option (List ℕ)) (F : Texts) (ph : FramePart) (n : ℕ) (p q : Rest) (given : Option Line) (l : Line)
      → ReadsOn a b F (λ e more. framed header ph n (told_at p e more)) → Came b c p q given → given ≡ Some l → l.finished ≡ true → Plain ≡ looked header ph (words_of l.bytes)
      → ReadsOn a c F (λ e more. Has (number_of_line given) (words_of_line given) (after_line q l.number ph e more))
  frame_plain a b c F ph n p q given l i r h e s =
      subst (λ (o : Option Line). ReadsOn a c F (λ e more. Has (number_of_line o) (words_of_line o) (after_line q l.number ph e more))) (sym h) (frame_line a b c F ph n p q given l Plain i r h e s)

  -- a line came that cannot be there
  pub frame_bad : (a b c : Option (List ℕ)) (F : Texts) (ph : FramePart) (n : ℕ) (p q : Rest) (given : Option Line) (l : Line) (broken : Type 0) (k : FrameFault)
      → ReadsOn a b F (λ e more. framed header ph n (told_at p e more)) → Came b c p q given → given ≡ Some l → l.finished ≡ true → Bad k ≡ looked header ph (words_of l.bytes)
      → Stopped a c F broken (is_read k) (Stop l.number k)
  frame_bad a b c F ph n p q given l broken k i r h e s =
      subst (λ t. Stopped a c F broken t (Stop l.number k)) (sym (bad_no_read header ph (words_of l.bytes) k s)) (inl (frame_line a b c F ph n p q given l (Bad k) i r h e s))
