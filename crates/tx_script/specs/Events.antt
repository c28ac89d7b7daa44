-- The event that a line of a script says, and the line that is written for an event.
use Rattle.std.specs.Prelude.{◌≡◌, ℕ, ◌+◌, ◌-◌, ◌^◌, ◌<◌, ◌≤◌, ◌==◌, Bool, true, List, [], ◌∷◌, Option, None, Some, Result, Ok, Err, codes, decimal, length, take, drop, find, position, if◌then◌else◌}
use Rattle.std.specs.Option.{option_map}
use Rattle.std.specs.Str.{bytes_eq}
use Rattle.tx_text.specs.Words.{words_of, number_of, figures_of, are_figures}
use Rattle.tx_text.specs.Written.{joined, line_written}
use Rattle.tx_plan.specs.Plan.{Plan, code_named, group_named, group_name, figures_of as code_figures}
use Rattle.tx_plan.specs.Rules.{IsPlan, is_national}
use Rattle.tx_plan.specs.declared.ids.Circuit.{Circuit}
use Rattle.tx_plan.specs.declared.ids.Line.{Line}
use Rattle.tx_machine.specs.declared.event.Event.{Event}
use Rattle.tx_machine.specs.declared.event.Event.TheVariants.{Key, Route, Confirm, Clear, Released, Fail, Restore, Block, Unblock, CircuitOut, CircuitIn, LineFault, LineMend, LineAway, LineBack}
use Rattle.tx_machine.specs.declared.open_call.Party.{Party}
use Rattle.tx_machine.specs.declared.open_call.Party.TheVariants.{Caller, Called}
use Rattle.tx_tickets.specs.Texts.{circuit_text}
use Rattle.tx_text.specs.declared.text_fault.TextFault.{TextFault}
use Rattle.tx_text.specs.Told.{frame_fault}
use Rattle.tx_text.specs.declared.frame.FaultKind.{FaultKind}
use Rattle.tx_text.specs.declared.frame.FaultKind.TheVariants.{Frame, Word}
use Rattle.tx_text.specs.Text.{bytes_fault}
use Rattle.tx_script.specs.declared.event_words.Verb.{Verb}
use Rattle.tx_script.specs.declared.event_words.Verb.TheVariants.{Key as KeyVerb, Route as RouteVerb, Confirm as ConfirmVerb, Clear as ClearVerb, Released as ReleasedVerb, Fail as FailVerb, Restore as RestoreVerb, Block as BlockVerb, Unblock as UnblockVerb, Out as OutVerb, In as InVerb, Fault as FaultVerb, Mend as MendVerb, Away as AwayVerb, Back as BackVerb, End as EndVerb}
use Rattle.tx_script.specs.declared.script_word.ScriptWord.{ScriptWord}
use Rattle.tx_script.specs.declared.script_word.ScriptWord.TheVariants.{UnknownWord, WrongCount, BadNumber, UnknownName}

-- An event, or what is wrong with the words of a line: of several faults the first of UnknownWord,
-- WrongCount, BadNumber and UnknownName.
abbrev pub Said : Type 0
Said = Result Event ScriptWord

-- a call number: 0 to 4,294,967,295
abbrev pub call_number : List ℕ → Option ℕ
call_number w = number_of (2 ^ 32 - 1) w

-- CALLER or CALLED
abbrev pub party_of : List ℕ → Option Party
party_of w = if bytes_eq w (codes "CALLER") then Some Caller
    else if bytes_eq w (codes "CALLED") then Some Called else None

-- a national number: 1 to 9 figures
abbrev pub national_of : List ℕ → Option (List ℕ)
national_of w = if is_national w then Some w else None

-- a number, unless it is 0
abbrev pub from_one : Option ℕ → Option ℕ
from_one None = None
from_one (Some n) = if n == 0 then None else Some n

-- the number of a circuit: 1 to 240
abbrev pub circuit_number : List ℕ → Option ℕ
circuit_number w = from_one (number_of 240 w)

-- a byte is a dot
abbrev pub is_dot : ℕ → Bool
is_dot b = b == 46

-- what is before an index of a word, and what follows it
abbrev pub cut_at : List ℕ → ℕ → List ℕ × List ℕ
cut_at w i = (take i w, drop (i + 1) w)

-- a word cut at its first dot, if it has one
abbrev pub cut_at_dot : List ℕ → Option (List ℕ × List ℕ)
cut_at_dot w = option_map (cut_at w) (position is_dot w)

-- a word that spells nothing is BadNumber
abbrev pub spelt : {A B : Type 0} → Option A → (A → Result B ScriptWord) → Result B ScriptWord
spelt None say = Err BadNumber
spelt (Some a) say = say a

-- a code or a group that the plan does not have is UnknownName
abbrev pub with_name : {B : Type 0} → Option ℕ → (ℕ → Result B ScriptWord) → Result B ScriptWord
with_name None say = Err UnknownName
with_name (Some i) say = say i

-- the event that is made of what words say, or their fault
abbrev pub said_of : {A : Type 0} → (A → Event) → Result A ScriptWord → Said
said_of make (Ok a) = Ok (make a)
said_of make (Err k) = Err k

-- the line of a code and a national number
abbrev pub line_of : Plan → List ℕ → List ℕ → Result Line ScriptWord
line_of p code national = spelt (national_of national)
    (λ n. with_name (code_named p code) (λ c. Ok (record { code = c; national = n })))

-- the circuit that a word names: a group, a dot and a number, as G1.1
abbrev pub circuit_of : Plan → List ℕ → Result Circuit ScriptWord
circuit_of p w = spelt (cut_at_dot w) (λ c. spelt (circuit_number c.1)
    (λ n. with_name (group_named p c.0) (λ g. Ok (record { group = g; number = n }))))

-- exactly one word
abbrev pub one_word : List (List ℕ) → Option (List ℕ)
one_word (w ∷ []) = Some w
one_word ws = None

-- exactly two
abbrev pub two_words : List (List ℕ) → Option (List ℕ × List ℕ)
two_words (v ∷ w ∷ []) = Some (v, w)
two_words ws = None

-- exactly three
abbrev pub three_words : List (List ℕ) → Option (List ℕ × List ℕ × List ℕ)
three_words (u ∷ v ∷ w ∷ []) = Some (u, v, w)
three_words ws = None

-- more or fewer words than there must be are WrongCount
abbrev pub with_words : {A B : Type 0} → Option A → (A → Result B ScriptWord) → Result B ScriptWord
with_words None say = Err WrongCount
with_words (Some a) say = say a

-- a code, a national number and the figures that were keyed
abbrev pub key_event : Plan → List (List ℕ) → Said
key_event p ws = with_words (three_words ws)
    (λ w. spelt (figures_of w.2) (λ k. said_of (λ l. Key l k) (line_of p w.0 w.1)))

-- a call's number
abbrev pub call_in : List (List ℕ) → Result ℕ ScriptWord
call_in ws = with_words (one_word ws) (λ w. spelt (call_number w) (λ n. Ok n))

-- a party that is neither CALLER nor CALLED is UnknownWord
abbrev pub with_party : {B : Type 0} → Option Party → (Party → Result B ScriptWord) → Result B ScriptWord
with_party None say = Err UnknownWord
with_party (Some x) say = say x

-- a call's number, and CALLER or CALLED
abbrev pub clear_event : List (List ℕ) → Said
clear_event ws = with_words (two_words ws)
    (λ w. with_party (party_of w.1) (λ x. spelt (call_number w.0) (λ n. Ok (Clear n x))))

-- a circuit
abbrev pub circuit_in : Plan → List (List ℕ) → Result Circuit ScriptWord
circuit_in p ws = with_words (one_word ws) (λ w. circuit_of p w)

-- a group
abbrev pub group_in : Plan → List (List ℕ) → Result ℕ ScriptWord
group_in p ws = with_words (one_word ws) (λ w. with_name (group_named p w) (λ g. Ok g))

-- a line: a code and a national number
abbrev pub line_in : Plan → List (List ℕ) → Result Line ScriptWord
line_in p ws = with_words (two_words ws) (λ w. line_of p w.0 w.1)

-- END is no event: alone it is unknown here, and with more words their number is wrong
abbrev pub end_event : List (List ℕ) → Said
end_event [] = Err UnknownWord
end_event (w ∷ ws) = Err WrongCount

-- the word of a verb
abbrev pub verb_word : Verb → List ℕ
verb_word KeyVerb = codes "KEY"
verb_word RouteVerb = codes "ROUTE"
verb_word ConfirmVerb = codes "CONFIRM"
verb_word ClearVerb = codes "CLEAR"
verb_word ReleasedVerb = codes "RELEASED"
verb_word FailVerb = codes "FAIL"
verb_word RestoreVerb = codes "RESTORE"
verb_word BlockVerb = codes "BLOCK"
verb_word UnblockVerb = codes "UNBLOCK"
verb_word OutVerb = codes "OUT"
verb_word InVerb = codes "IN"
verb_word FaultVerb = codes "FAULT"
verb_word MendVerb = codes "MEND"
verb_word AwayVerb = codes "AWAY"
verb_word BackVerb = codes "BACK"
verb_word EndVerb = codes "END"

-- all first words
abbrev pub verbs : List Verb
verbs =
    KeyVerb
    ∷ RouteVerb
    ∷ ConfirmVerb
    ∷ ClearVerb
    ∷ ReleasedVerb
    ∷ FailVerb
    ∷ RestoreVerb
    ∷ BlockVerb
    ∷ UnblockVerb
    ∷ OutVerb
    ∷ InVerb
    ∷ FaultVerb
    ∷ MendVerb
    ∷ AwayVerb
    ∷ BackVerb
    ∷ EndVerb ∷ []

-- the verb whose word it is
abbrev pub verb_of : List ℕ → Option Verb
verb_of w = find (λ v. bytes_eq w (verb_word v)) verbs

-- what a first word and those that follow it say together
abbrev pub event_by : Plan → Verb → List (List ℕ) → Said
event_by p KeyVerb ws = key_event p ws
event_by p RouteVerb ws = said_of Route (call_in ws)
event_by p ConfirmVerb ws = said_of Confirm (call_in ws)
event_by p ClearVerb ws = clear_event ws
event_by p ReleasedVerb ws = said_of Released (circuit_in p ws)
event_by p FailVerb ws = said_of Fail (group_in p ws)
event_by p RestoreVerb ws = said_of Restore (group_in p ws)
event_by p BlockVerb ws = said_of Block (group_in p ws)
event_by p UnblockVerb ws = said_of Unblock (group_in p ws)
event_by p OutVerb ws = said_of CircuitOut (circuit_in p ws)
event_by p InVerb ws = said_of CircuitIn (circuit_in p ws)
event_by p FaultVerb ws = said_of LineFault (line_in p ws)
event_by p MendVerb ws = said_of LineMend (line_in p ws)
event_by p AwayVerb ws = said_of LineAway (line_in p ws)
event_by p BackVerb ws = said_of LineBack (line_in p ws)
event_by p EndVerb ws = end_event ws

-- any other first word is unknown
abbrev pub event_for : Plan → Option Verb → List (List ℕ) → Said
event_for p None ws = Err UnknownWord
event_for p (Some verb) ws = event_by p verb ws

-- what the words of a line say; none are no event
unfoldable pub event_of : Plan → List (List ℕ) → Said
event_of p [] = Err UnknownWord
event_of p (w ∷ ws) = event_for p (verb_of w) ws

-- a fault of a line's bytes comes before those of its words
abbrev pub event_said : Option TextFault → Said → Result Event (FaultKind ScriptWord)
event_said (Some f) said = Err (Frame (frame_fault f))
event_said None (Ok e) = Ok e
event_said None (Err k) = Err (Word k)

-- The event of a line, given as its bytes without the LF and the CR before it
abbrev pub event_in : Plan → List ℕ → Result Event (FaultKind ScriptWord)
event_in p bytes = event_said (bytes_fault bytes) (event_of p (words_of bytes))

-- the word of a party
abbrev pub party_word : Party → List ℕ
party_word Caller = codes "CALLER"
party_word Called = codes "CALLED"

-- the words of an event's line
abbrev pub event_words : Plan → Event → List (List ℕ)
event_words p (Key l keyed) = codes "KEY" ∷ code_figures p l.code ∷ l.national ∷ keyed ∷ []
event_words p (Route n) = codes "ROUTE" ∷ decimal n ∷ []
event_words p (Confirm n) = codes "CONFIRM" ∷ decimal n ∷ []
event_words p (Clear n party) = codes "CLEAR" ∷ decimal n ∷ party_word party ∷ []
event_words p (Released x) = codes "RELEASED" ∷ circuit_text p x ∷ []
event_words p (Fail g) = codes "FAIL" ∷ group_name p g ∷ []
event_words p (Restore g) = codes "RESTORE" ∷ group_name p g ∷ []
event_words p (Block g) = codes "BLOCK" ∷ group_name p g ∷ []
event_words p (Unblock g) = codes "UNBLOCK" ∷ group_name p g ∷ []
event_words p (CircuitOut x) = codes "OUT" ∷ circuit_text p x ∷ []
event_words p (CircuitIn x) = codes "IN" ∷ circuit_text p x ∷ []
event_words p (LineFault l) = codes "FAULT" ∷ code_figures p l.code ∷ l.national ∷ []
event_words p (LineMend l) = codes "MEND" ∷ code_figures p l.code ∷ l.national ∷ []
event_words p (LineAway l) = codes "AWAY" ∷ code_figures p l.code ∷ l.national ∷ []
event_words p (LineBack l) = codes "BACK" ∷ code_figures p l.code ∷ l.national ∷ []

-- its words with single spaces
abbrev pub event_line : Plan → Event → List ℕ
event_line p e = joined (event_words p e)

-- the same with its LF
abbrev pub event_text : Plan → Event → List ℕ
event_text p e = line_written (event_words p e)

-- the plan has the group, and the number is 1 to 240; the group need not have so many circuits
pub record IsWritableCircuit (p : Plan) (x : Circuit) : Type 0 where
  pub group : x.group < length p.groups
  pub some : 1 ≤ x.number
  pub few : x.number ≤ 240

-- the plan has the event's ids, and a circuit's number is 1 to 240
abbrev pub FitsPlan : Plan → Event → Type 0
FitsPlan p (Key l keyed) = l.code < length p.codes
FitsPlan p (Route n) = Unit {0}
FitsPlan p (Confirm n) = Unit {0}
FitsPlan p (Clear n party) = Unit {0}
FitsPlan p (Released x) = IsWritableCircuit p x
FitsPlan p (Fail g) = g < length p.groups
FitsPlan p (Restore g) = g < length p.groups
FitsPlan p (Block g) = g < length p.groups
FitsPlan p (Unblock g) = g < length p.groups
FitsPlan p (CircuitOut x) = IsWritableCircuit p x
FitsPlan p (CircuitIn x) = IsWritableCircuit p x
FitsPlan p (LineFault l) = l.code < length p.codes
FitsPlan p (LineMend l) = l.code < length p.codes
FitsPlan p (LineAway l) = l.code < length p.codes
FitsPlan p (LineBack l) = l.code < length p.codes

-- what the type of an event keeps: a national number is 1 to 9 figures, what is keyed 1 to 12, and
-- a call's number below 2^32
abbrev pub IsEvent : Event → Type 0
IsEvent (Key l keyed) = (is_national l.national ≡ true) × (are_figures 1 12 keyed ≡ true)
IsEvent (Route n) = n < 2 ^ 32
IsEvent (Confirm n) = n < 2 ^ 32
IsEvent (Clear n party) = n < 2 ^ 32
IsEvent (Released x) = Unit {0}
IsEvent (Fail g) = Unit {0}
IsEvent (Restore g) = Unit {0}
IsEvent (Block g) = Unit {0}
IsEvent (Unblock g) = Unit {0}
IsEvent (CircuitOut x) = Unit {0}
IsEvent (CircuitIn x) = Unit {0}
IsEvent (LineFault l) = is_national l.national ≡ true
IsEvent (LineMend l) = is_national l.national ≡ true
IsEvent (LineAway l) = is_national l.national ≡ true
IsEvent (LineBack l) = is_national l.national ≡ true

-- both: the line of the event names what the plan has, by words of the right width
abbrev pub IsWritable : Plan → Event → Type 0
IsWritable p e = FitsPlan p e × IsEvent e

-- The round trip: the line that is written for an event says that event
abbrev pub EventsReadBack : Type 0
EventsReadBack =
    (p : Plan) (e : Event) → IsPlan p → IsWritable p e → event_in p (event_line p e) ≡ Ok e
