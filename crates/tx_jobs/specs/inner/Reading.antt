-- What a plan and a script have left of their input, and which calls of it they make.
use Rattle.std.specs.Prelude.{◌≡◌, ◌≢◌, ◌⊎◌, ℕ, ◌<◌, ◌≤◌, Bool, true, false, List, [], length, take, drop, Option, option_map, Result, Ok, Err, is_err, IfOk, OnErr}
use Rattle.std.specs.Io.KnownBytes.{prepend_known}
use Rattle.tx_text.specs.declared.source.ReadFault.{ReadFault}
use Rattle.tx_jobs.specs.declared.seen.Seen.{Seen}
use Rattle.tx_jobs.specs.declared.ahead.Ahead.{Ahead}
use Rattle.tx_jobs.specs.declared.script_part.ScriptPart.{ScriptPart}
use Rattle.tx_jobs.specs.declared.plan_part.PlanPart.{PlanPart}
use Rattle.tx_jobs.specs.inner.Seen.{is_over, end_from}

-- the bytes that were read ahead, and then those that the input has yet
abbrev pub bytes_left : {R : Type 0} → (R → Option (List ℕ)) → ScriptPart R → Option (List ℕ)
bytes_left rest s = prepend_known s.ahead.now.held (rest s.input.now)

-- the plan's part as that of a script
abbrev pub as_script : {R : Type 0} → PlanPart R → ScriptPart R
as_script p = record { input = p.input; ahead = p.ahead }

-- the bytes of these that are of the plan, and those after it
abbrev pub plan_of : Seen → Option (List ℕ) → Option (List ℕ)
plan_of seen left = option_map (λ t. take (end_from seen t) t) left

-- what is left of the script
abbrev pub script_of : Seen → Option (List ℕ) → Option (List ℕ)
script_of seen left = option_map (λ t. drop (end_from seen t) t) left

-- what is left of the plan, and what follows it
abbrev pub plan_rest : {R : Type 0} → (R → Option (List ℕ)) → PlanPart R → Option (List ℕ)
plan_rest rest p = plan_of p.seen (bytes_left rest (as_script p))

-- what is left of the script
abbrev pub script_rest : {R : Type 0} → (R → Option (List ℕ)) → PlanPart R → Option (List ℕ)
script_rest rest p = script_of p.seen (bytes_left rest (as_script p))

-- the answer of the call of the input that left these bytes held
abbrev pub input_answer : Result (Unit {0}) ReadFault → List ℕ → Result ℕ ReadFault
input_answer (Ok x) held = Ok (length held)
input_answer (Err e) held = Err e

-- Bytes were held, and all is as before; or nothing was held, and the input was called.
abbrev pub Refilled : {R : Type 0} → (ℕ → Result ℕ ReadFault → R → R → Type 0)
    → Result (Unit {0}) ReadFault → (old new : Ahead) → (a b : R) → Type 0
Refilled called result old new a b = ((old.held ≢ []) × (result ≡ Ok tt) × (new.held ≡ old.held)
    × (b ≡ a)) ⊎ ((old.held ≡ []) × called 4096 (input_answer result new.held) a b)

-- The input was called once, for 4,096 bytes, where nothing was held. It gave bytes where this
-- answer gives some.
pub record CalledInput {R : Type 0} (called : ℕ → Result ℕ ReadFault
    → R → R → Type 0) (answer : Result ℕ ReadFault) (old new : ScriptPart R) : Type 0 where
  pub empty : old.ahead.now.held ≡ []
  pub reply : Result ℕ ReadFault
  pub call : called 4096 reply old.input.now new.input.now
  pub gave : IfOk answer (λ n. 0 < n → (m : ℕ) × (0 < m) × (reply ≡ Ok m))

-- The input was not called. Bytes that were given were held.
pub record LeftInput {R : Type 0} (answer : Result ℕ ReadFault)
    (old new : ScriptPart R) : Type 0 where
  pub same : new.input.now ≡ old.input.now
  pub held : IfOk answer (λ n. 0 < n → old.ahead.now.held ≢ [])

-- A call of a part with room for so many bytes. It keeps what it is lent. What is over stays so,
-- and gives no bytes. Where there is room for 4,096 bytes it leaves none held, unless the plan is
-- over then. It fails only where the input fails, and each call after it fails.
pub record PartCall {R : Type 0} (rest : R → Option (List ℕ)) (failed : R
    → Bool) (called : ℕ → Result ℕ ReadFault → R → R → Type 0) (was_over over : Bool)
    (room : ℕ) (answer : Result ℕ ReadFault) (old new : ScriptPart R) : Type 0 where
  pub same_input : new.input.ghost_name ≡ old.input.ghost_name
  pub same_ahead : new.ahead.ghost_name ≡ old.ahead.ghost_name
  pub input : CalledInput called answer old new ⊎ LeftInput answer old new
  pub stays : was_over ≡ true → over ≡ true
  pub going : IfOk answer (λ n. 0 < n → was_over ≡ false)
  pub emptied : IfOk answer (λ _. 4096 ≤ room → over ≡ false → new.ahead.now.held ≡ [])
  pub kept : OnErr answer (new.ahead.now.held ≡ old.ahead.now.held)
  pub mark : new.ahead.now.failed ≡ is_err answer
  pub fails : OnErr answer (((old.ahead.now.failed ≡ true) × (new.input.now ≡ old.input.now))
      ⊎ (failed new.input.now ≡ true))

-- a call of the script
abbrev pub ScriptCall : {R : Type 0} → (R → Option (List ℕ)) → (R → Bool) → (ℕ → Result ℕ ReadFault
    → R → R → Type 0) → ℕ → Result ℕ ReadFault → ScriptPart R → ScriptPart R → Type 0
ScriptCall rest failed called room answer old new =
    PartCall rest failed called false false room answer old new

-- A call of the plan takes bytes of the plan alone, and leaves the script as it is.
pub record PlanCall {R : Type 0} (rest : R → Option (List ℕ)) (failed : R
    → Bool) (called : ℕ → Result ℕ ReadFault → R
    → R → Type 0) (room : ℕ) (answer : Result ℕ ReadFault) (old new : PlanPart R) : Type 0 where
  pub part : PartCall rest failed called (is_over old.seen)
      (is_over new.seen) room answer (as_script old) (as_script new)
  pub script : script_rest rest new ≡ script_rest rest old
  pub given : List ℕ
  pub plan : plan_rest rest old ≡ prepend_known given (plan_rest rest new)
  pub gone : bytes_left rest (as_script old) ≡ prepend_known given (bytes_left rest (as_script new))
