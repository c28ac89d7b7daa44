-- No text says that there was no memory for its reader.
use Rattle.tx_text.proofs.Common.{◌≡◌, ℕ, ◌+◌, Bool, true, false, List, [], ◌∷◌, Option, Some, None, inl, inr, refl, sym, ◌∙◌, list_all, TextFault, LineTooLong, BadByte, FrameFault, Read, FramePart, Start, Body, Ended, FrameReading, to_come, is_no_room}
use Rattle.std.specs.Prelude.{if◌then◌else◌, nat_lt, length}
use Rattle.std.proofs.lemmas.Bool.{true≢false}
use Rattle.tx_text.specs.Text.{Line, is_text_byte, bytes_fault, without_cr, begun_fault}
use Rattle.tx_text.specs.Words.{words_of}
use Rattle.tx_text.specs.Told.{Ending, AtEnd, Cut, Told, Closed, Faulty, Then, frame_fault, or_fault, told_line, told}
use Rattle.tx_text.specs.inner.Reading.{told_at, reading_rest}
use Rattle.tx_text.specs.Frame.{Framed, Done, Stop, Headed, Has, is_end, headed, looked_by, closing, last_by, last_fault, ended_by, as_said, framed_line, header_of, framed, Stopped}

-- a fault of bytes is none of memory
abbrev IsOfBytes : Option TextFault → Type 0
IsOfBytes None = Unit {0}
IsOfBytes (Some f) = is_no_room (frame_fault f) ≡ false

begun_of_bytes : (bytes : List ℕ) → IsOfBytes (begun_fault bytes)
unfolding begun_fault
begun_of_bytes bytes = elim (nat_lt 512 (length (without_cr bytes))) as (λ b. IsOfBytes (if b then Some LineTooLong else None)) [ true ↦ refl | false ↦ tt ]

fault_of_bytes : (bytes : List ℕ) → IsOfBytes (bytes_fault bytes)
unfolding bytes_fault
fault_of_bytes bytes =
    elim (nat_lt 512 (length bytes)) as (λ b. IsOfBytes (if b then Some LineTooLong else (if list_all is_text_byte bytes then None else Some BadByte))) [
      | true ↦ refl
      | false ↦ elim (list_all is_text_byte bytes) as (λ b. IsOfBytes (if b then None else Some BadByte)) [ true ↦ tt | false ↦ refl ]
    ]

-- the lines of a text tell no such fault
abbrev pub AreOfBytes : Told → Type 0
AreOfBytes Closed = Unit {0}
AreOfBytes (Faulty f) = is_no_room f ≡ false
AreOfBytes (Then l t) = AreOfBytes t

or_of_bytes : (f : Option TextFault) (t : Told) → IsOfBytes f → AreOfBytes t → AreOfBytes (or_fault f t)
or_of_bytes None t h g = g
or_of_bytes (Some f) t h g = h

line_of_bytes : (e : Ending) (finished : Bool) (l : Line) (t : Told) → AreOfBytes t → AreOfBytes (told_line e finished l t)
line_of_bytes Cut false l t h = or_of_bytes (begun_fault l.bytes) (Faulty Read) (begun_of_bytes l.bytes) refl
line_of_bytes Cut true l t h = or_of_bytes (bytes_fault l.bytes) (Then l t) (fault_of_bytes l.bytes) h
line_of_bytes AtEnd false l t h = or_of_bytes (bytes_fault l.bytes) (Then l t) (fault_of_bytes l.bytes) h
line_of_bytes AtEnd true l t h = or_of_bytes (bytes_fault l.bytes) (Then l t) (fault_of_bytes l.bytes) h

pub told_of_bytes : (e : Ending) (ls : List Line) → AreOfBytes (told e ls)
unfolding told
told_of_bytes AtEnd [] = tt
told_of_bytes Cut [] = refl
told_of_bytes e (l ∷ ls) = line_of_bytes e l.finished l (told e ls) (told_of_bytes e ls)

-- nor does the frame
abbrev pub IsSaid : Framed → Type 0
IsSaid Done = Unit {0}
IsSaid (Stop n k) = is_no_room k ≡ false
IsSaid (Headed v t) = IsSaid t
IsSaid (Has n ws t) = IsSaid t

close_said : (n : ℕ) (q : FramePart) → IsSaid (ended_by n (closing q))
close_said n Start = refl
close_said n Body = refl
close_said n Ended = tt

last_said_by : (n : ℕ) (end : Bool) (q : FramePart) → IsSaid (ended_by n (last_by end q))
last_said_by n true Start = refl
last_said_by n false Start = refl
last_said_by n true Body = tt
last_said_by n false Body = refl
last_said_by n end Ended = refl

last_said : (n : ℕ) (q : FramePart) (ws : List (List ℕ)) → IsSaid (ended_by n (last_fault q ws))
last_said n q [] = close_said n q
last_said n q (w ∷ ws) = last_said_by n (is_end (w ∷ ws)) q

line_framed : (header : List (List ℕ) → Option ℕ) (q : FramePart) (finished : Bool) (n : ℕ) (ws : List (List ℕ)) (k : FramePart → Framed) → ((r : FramePart) → IsSaid (k r)) → IsSaid (framed_line header q finished n ws k)
line_framed header q false n ws k h = last_said n q ws
line_framed header q true n [] k h = h q
line_framed header Start true n (w ∷ ws) k h = elim (header (w ∷ ws)) as (λ (o : Option ℕ). IsSaid (as_said (headed o) Start n (w ∷ ws) k)) [ None ↦ refl | Some v ↦ h Body ]
line_framed header Body true n (w ∷ ws) k h = elim (is_end (w ∷ ws)) as (λ (b : Bool). IsSaid (as_said (looked_by (header (w ∷ ws)) b Body) Body n (w ∷ ws) k)) [ true ↦ h Ended | false ↦ h Body ]
line_framed header Ended true n (w ∷ ws) k h = refl

pub framed_said : (header : List (List ℕ) → Option ℕ) (q : FramePart) (n : ℕ) (t : Told) → AreOfBytes t → IsSaid (framed header q n t)
unfolding framed
framed_said header q n Closed h = close_said n q
framed_said header q n (Faulty f) h = h
framed_said header q n (Then l t) h = line_framed header q l.finished l.number (words_of l.bytes) (λ r. framed header r (l.number + 1) t) (λ r. framed_said header r (l.number + 1) t h)

pub come_said : (v : FrameReading) (e : Ending) (more : List ℕ) → IsSaid (to_come v e more)
unfolding told_at
come_said v e more = framed_said (header_of v.key v.most) v.phase v.number (told_at (reading_rest v.reader) e more) (told_of_bytes e _)

-- so none stands
no_stop : (n : ℕ) (k : FrameFault) (t : Framed) → IsSaid t → t ≡ Stop n k → is_no_room k ≡ true → ⊥
no_stop n k t h i r = let s : IsSaid (Stop n k) = rw i at h in true≢false (sym r ∙ s)

pub none_stops : (b c : Option (List ℕ)) (T : Ending → List ℕ → Framed) (n : ℕ) (k : FrameFault) (broken : Type 0) (read : Bool) → ((e : Ending) (more : List ℕ) → IsSaid (T e more)) → Stopped b c T broken read (Stop n k) → is_no_room k ≡ true → ⊥
none_stops b c T n k broken true h s r = no_stop n k _ (h Cut _) s.0.gives r
none_stops b c T n k broken false h (inl s) r = no_stop n k _ (h AtEnd _) (s.gives AtEnd []) r
none_stops b c T n k broken false h (inr s) r = no_stop n k _ (h AtEnd _) s.0.gives r
