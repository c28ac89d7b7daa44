-- What is asked of a plan by names: an exchange, a code, and groups.
use Rattle.std.specs.Prelude.{ℕ, suc, List, [], ◌∷◌, Option, None, Some, Result, Ok, Err, ◌≡◌, ◌⊎◌, Vec}
use Rattle.tx_plan.specs.Plan.{Plan, exchange_named, code_named, group_named}
use Rattle.tx_trace.specs.declared.through.Through.{Through}
use Rattle.tx_trace.specs.declared.through.Through.TheVariants.{Exchange, Group}
use Rattle.tx_files.specs.declared.fault.CommandFault.{CommandFault}
use Rattle.tx_files.specs.declared.fault.CommandFault.TheVariants.{NoSuchName}
use Rattle.tx_files.specs.declared.missing.Named.TheVariants.{Exchange as ExchangeAsked, Code as CodeAsked, Group as GroupAsked, ExchangeOrGroup as EitherAsked}
use Rattle.tx_files.specs.Faults.{memory_stop}
use Rattle.tx_files.specs.Missing.{missing}
use Rattle.tx_files.specs.Names.{names_in, name_at}

-- the group of a name and those of the names behind it, or the place of the first name without one
abbrev pub group_before : Option ℕ → Result (List ℕ) ℕ → Result (List ℕ) ℕ
group_before None behind = Err 0
group_before (Some g) (Ok gs) = Ok (g ∷ gs)
group_before (Some g) (Err place) = Err (suc place)

-- the groups of these names, or the place of the first name of which the plan has none, from 0
unfoldable pub groups_named : Plan → List (List ℕ) → Result (List ℕ) ℕ
groups_named p [] = Ok []
groups_named p (w ∷ ws) = group_before (group_named p w) (groups_named p ws)

-- those of a word; none without one
abbrev pub groups_in : Plan → Option (List ℕ) → Result (List ℕ) ℕ
groups_in p None = Ok []
groups_in p (Some word) = groups_named p (names_in word)

-- the plan does not have this name, of a word that has some
abbrev pub no_group : Plan → Option (List ℕ) → ℕ → CommandFault
no_group p word place = NoSuchName (missing p GroupAsked place (name_at word place))

module _ (p : Plan) (exchange code : List ℕ) (groups : Option (List ℕ)) where
  -- the exchange, the code and the groups, or which of them is not there, the exchange first
  abbrev pub all_asked : (x c : Option ℕ) → (gs : Result (List ℕ) ℕ)
      → Result (ℕ × ℕ × List ℕ) CommandFault
  all_asked None c gs = Err (NoSuchName (missing p ExchangeAsked 0 exchange))
  all_asked (Some x) None gs = Err (NoSuchName (missing p CodeAsked 0 code))
  all_asked (Some x) (Some c) (Err place) = Err (no_group p groups place)
  all_asked (Some x) (Some c) (Ok gs) = Ok (x, c, gs)

  -- what the plan has of these names
  abbrev pub asked_of : Result (ℕ × ℕ × List ℕ) CommandFault
  asked_of = all_asked (exchange_named p exchange) (code_named p code) (groups_in p groups)

-- an exchange, or else a group
abbrev pub exchange_or_group : (exchange group : Option ℕ) → Option Through
exchange_or_group (Some x) group = Some (Exchange x)
exchange_or_group None (Some g) = Some (Group g)
exchange_or_group None None = None

-- the exchange of a name, or else the group of it
abbrev pub through_named : Plan → List ℕ → Option Through
through_named p name = exchange_or_group (exchange_named p name) (group_named p name)

module _ (p : Plan) (name : List ℕ) (groups : Option (List ℕ)) where
  -- what is passed, and the groups, or which of them is not there
  abbrev pub all_passed : Option Through → (gs : Result (List ℕ) ℕ)
      → Result (Through × List ℕ) CommandFault
  all_passed None gs = Err (NoSuchName (missing p EitherAsked 0 name))
  all_passed (Some t) (Err place) = Err (no_group p groups place)
  all_passed (Some t) (Ok gs) = Ok (t, gs)

  -- what the plan has of these names
  abbrev pub passed_of : Result (Through × List ℕ) CommandFault
  passed_of = all_passed (through_named p name) (groups_in p groups)

-- these are answered, or which of them is not there; or memory ran out
abbrev pub IsAnswered : {A : Type 0} → Result (ℕ × ℕ × List ℕ) CommandFault
    → Result (ℕ × ℕ × Vec ℕ A) CommandFault → Type 0
IsAnswered asked (Ok (x, c, groups)) = asked ≡ Ok (x, c, groups.items)
IsAnswered asked (Err fault) = (asked ≡ Err fault) ⊎ (fault ≡ memory_stop)

-- likewise of what is passed
abbrev pub IsPassed : {A : Type 0} → Result (Through × List ℕ) CommandFault
    → Result (Through × Vec ℕ A) CommandFault → Type 0
IsPassed asked (Ok (t, groups)) = asked ≡ Ok (t, groups.items)
IsPassed asked (Err fault) = (asked ≡ Err fault) ⊎ (fault ≡ memory_stop)
