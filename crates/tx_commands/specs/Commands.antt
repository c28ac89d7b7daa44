-- What words ask for.
use Rattle.std.specs.Prelude.{◌≡◌, ◌⊎◌, ℕ, Bool, true, false, if◌then◌else◌, List, Option, None, Some, is_some, map, option_map, codes, string_bytes, String, ◌||◌}
use Rattle.std.specs.Borrow.{Bor}
use Rattle.std.specs.List.{join_by}
use Rattle.std.specs.Option.{option_map_or}
use Rattle.std.specs.Str.{bytes_eq}
use Rattle.clap.specs.Words.{Row, all_of, first_of, subcommand_of}
use Rattle.tx_text.specs.Words.{number_of}
use Rattle.tx_plan.specs.declared.limits.Limits.{Limits}
use Rattle.tx_commands.specs.Entries.{is_known}
use Rattle.tx_commands.specs.Faults.{has}
use Rattle.tx_commands.specs.Grammar.{program_words}
use Rattle.tx_commands.specs.declared.command.Command.{Command}
use Rattle.tx_commands.specs.declared.down.Down.{Down}
use Rattle.tx_commands.specs.declared.order.Stopped.{Stopped}
use Rattle.tx_commands.specs.declared.run.RunRequest.{RunRequest}
use Rattle.tx_commands.specs.declared.command.Command.TheVariants.{Pipe, Run, RunTelling, Check, Lint, Codes, Audit, Change, Order, Mend, Survive, Compare, Page, Grade, Trace, TraceThrough, TraceChanges, Fill, Explain}

-- the words of a command name this file
abbrev pub Names : {Z : Type 0} → List Row → List ℕ → String Z → Type 0
Names found id name = first_of id found ≡ Some (string_bytes name)

-- the words of a command give this number, which is spelled as in a text
pub record Gives (found : List Row) (id : List ℕ) (n : ℕ) : Type 0 where
  pub text : List ℕ
  pub given : first_of id found ≡ Some text
  pub number : number_of 4294967295 text ≡ Some n

-- they give these limits
abbrev pub GivesLimits : List Row → Limits → Type 0
GivesLimits found limits = Gives found (codes "limit") limits.limit
    × Gives found (codes "spare") limits.spare

-- they name this file, or have no word for it
abbrev pub NamesIfAny : {Z : Type 0} → List Row → List ℕ → Option (String Z) → Type 0
NamesIfAny found id name = first_of id found ≡ option_map string_bytes name

-- they give this number, or have no word for it
abbrev pub GivesIfAny : List Row → List ℕ → Option ℕ → Type 0
GivesIfAny found id None = first_of id found ≡ None
GivesIfAny found id (Some n) = Gives found id n

-- the words for this, with a blank between two
abbrev pub line_of : List Row → List ℕ → Option (List ℕ)
line_of found id = option_map (join_by (λ w. w) (codes " ")) (all_of id found)

-- files are made of a stage that is named
abbrev pub AreOfStage : {Z : Type 0} → Option ℕ → (plan cert : Option (String Z)) → Type 0
AreOfStage (Some n) plan cert = Unit {0}
AreOfStage None plan cert = (is_some plan || is_some cert) ≡ false

-- the words of a command have this option, which takes no word
abbrev pub is_set : List Row → List ℕ → Bool
is_set found id = option_map_or (λ word. bytes_eq word (codes "true")) (first_of id found) false

-- they have none of those by which `run` prints more
pub record TellsNoMore (found : List Row) : Type 0 where
  pub strict : is_set found (codes "strict") ≡ false
  pub echo : is_set found (codes "echo") ≡ false
  pub summary : is_set found (codes "summary") ≡ false

-- `run` has this certificate and these limits, or none of them
abbrev pub AsksToCheck : {Z : Type 0} → List Row → Option (String Z × Limits) → Type 0
AsksToCheck found None = (first_of (codes "cert") found ≡ None)
    × (first_of (codes "limit") found ≡ None) × (first_of (codes "spare") found ≡ None)
AsksToCheck found (Some (cert, limits)) =
    Names found (codes "cert") cert × GivesLimits found limits

-- `run` has this plan and this script, with what is to be checked first
abbrev pub AsksToRun : List ℕ → List Row → RunRequest → Type 0
AsksToRun name found r = (name ≡ codes "run") × Names found (codes "plan") r.plan
    × Names found (codes "script") r.script × AsksToCheck found r.checked

-- `survive` has these named risks, alone or not, or has none
abbrev pub AsksForRisks : {Z : Type 0} → List Row → Option (String Z × Bool) → Type 0
AsksForRisks found None =
    (first_of (codes "risks") found ≡ None) × (is_set found (codes "risks-only") ≡ false)
AsksForRisks found (Some (risks, only)) =
    Names found (codes "risks") risks × (is_set found (codes "risks-only") ≡ only)

-- they name this as down, or nothing
abbrev pub AsksForDown : List Row → Option Down → Type 0
AsksForDown found None =
    (first_of (codes "down") found ≡ None) × (first_of (codes "down-exchange") found ≡ None)
AsksForDown found (Some d) = NamesIfAny found (codes "down") d.groups
    × NamesIfAny found (codes "down-exchange") d.exchange

-- files are made only where nothing is down
abbrev pub AreOfWholePlan : Option Down → (made : Bool) → Type 0
AreOfWholePlan None made = Unit {0}
AreOfWholePlan (Some d) made = made ≡ false

-- they give this spare number for an order from where one was stopped: that of --spare-now, or else
-- that of --spare
abbrev pub GivesNow : List Row → ℕ → Type 0
GivesNow found spare = Gives found (codes "spare-now") spare
    ⊎ ((has found (codes "spare-now") ≡ false) × Gives found (codes "spare") spare)

-- they say where an order was stopped, or have no word for that
abbrev pub AsksForStop : List Row → Option Stopped → Type 0
AsksForStop found None = (has found (codes "done") ≡ false)
    × (is_set found (codes "back") ≡ false) × (has found (codes "spare-now") ≡ false)
AsksForStop found (Some s) = GivesLimits found s.limits × Gives found (codes "stage") s.stage
    × (is_set found (codes "back") ≡ s.back)

-- they give the number of a stage, if there is one; the files of an order from where one was
-- stopped are of its stage 0
abbrev pub AsksForStage : List Row → Option Stopped → (made : Bool) → Option ℕ → Type 0
AsksForStage found None made stage = GivesIfAny found (codes "stage") stage
AsksForStage found (Some s) made stage = stage ≡ (if made then Some 0 else None)

-- `trace` has this exchange and this code, or neither
abbrev pub AsksForCalls : {Z : Type 0} → List Row → Option (String Z × String Z) → Type 0
AsksForCalls found None =
    (first_of (codes "exchange") found ≡ None) × (first_of (codes "code") found ≡ None)
AsksForCalls found (Some (exchange, code)) =
    Names found (codes "exchange") exchange × Names found (codes "code") code

-- `explain` has this line, of which something is known, or has none
abbrev pub AsksForLine : {Z : Type 0} → List Row → Option (String Z) → Type 0
AsksForLine found None = line_of found (codes "word") ≡ None
AsksForLine found (Some line) = (line_of found (codes "word") ≡ Some (string_bytes line))
    × (is_known (string_bytes line) ≡ true)

-- what was found after the name of a command asks for this
abbrev pub Asks : List ℕ → List Row → Command → Type 0
Asks name found Pipe = ⊥
Asks name found (Run r) = AsksToRun name found r × TellsNoMore found
Asks name found (RunTelling r) = AsksToRun name found r.run
    × (is_set found (codes "strict") ≡ r.strict) × (is_set found (codes "echo") ≡ r.echo)
    × (is_set found (codes "summary") ≡ r.summary)
    × (((r.strict || r.echo) || r.summary) ≡ true)
Asks name found (Check r) = (name ≡ codes "check") × Names found (codes "plan") r.plan
    × Names found (codes "cert") r.cert × GivesLimits found r.limits
Asks name found (Lint r) = (name ≡ codes "lint") × Names found (codes "plan") r.plan
    × NamesIfAny found (codes "risks") r.risks
Asks name found (Codes r) = (name ≡ codes "codes") × Names found (codes "plan") r.plan
Asks name found (Audit r) = (name ≡ codes "audit") × Names found (codes "plan") r.plan
    × GivesLimits found r.limits × NamesIfAny found (codes "cert") r.cert
    × NamesIfAny found (codes "counter") r.counter × AsksForDown found r.down
    × AreOfWholePlan r.down (is_some r.cert || is_some r.counter)
Asks name found (Change r) = (name ≡ codes "change") × Names found (codes "before") r.old
    × Names found (codes "after") r.new × GivesLimits found r.limits
    × NamesIfAny found (codes "cert") r.cert × NamesIfAny found (codes "mixture") r.mixture
    × NamesIfAny found (codes "counter") r.counter × AsksForDown found r.down
    × AreOfWholePlan r.down ((is_some r.cert || is_some r.mixture) || is_some r.counter)
Asks name found (Order r) = (name ≡ codes "order") × Names found (codes "before") r.old
    × Names found (codes "after") r.new × Gives found (codes "limit") r.limits.limit
    × GivesNow found r.limits.spare × NamesIfAny found (codes "done") r.done
    × AsksForStop found r.stopped × NamesIfAny found (codes "plan") r.plan
    × AsksForStage found r.stopped (is_some r.plan || is_some r.cert) r.stage
    × NamesIfAny found (codes "cert") r.cert × AreOfStage r.stage r.plan r.cert
    × AsksForDown found r.down × AreOfWholePlan r.down (is_some r.plan || is_some r.cert)
Asks name found (Mend r) = (name ≡ codes "mend") × Names found (codes "before") r.plan
    × GivesLimits found r.limits × NamesIfAny found (codes "plan") r.mended
    × NamesIfAny found (codes "cert") r.cert × AsksForDown found r.down
    × AreOfWholePlan r.down (is_some r.mended || is_some r.cert)
Asks name found (Survive r) = (name ≡ codes "survive") × Names found (codes "plan") r.plan
    × AsksForRisks found r.risks × (first_of (codes "from") found ≡ None)
    × AsksForDown found r.down
Asks name found (Compare r) = (name ≡ codes "survive") × Names found (codes "plan") r.new
    × AsksForRisks found r.risks × Names found (codes "from") r.old × AsksForDown found r.down
Asks name found (Page r) = (name ≡ codes "page") × Names found (codes "plan") r.plan
    × GivesLimits found r.limits × NamesIfAny found (codes "risks") r.risks
    × NamesIfAny found (codes "from") r.old × NamesIfAny found (codes "code") r.code
    × (is_set found (codes "all-codes") ≡ r.all_codes)
    × (is_set found (codes "by-exchange") ≡ r.by_exchange) × NamesIfAny found (codes "html") r.html
    × AsksForDown found r.down × (r.moment ≡ None)
Asks name found (Grade r) = (name ≡ codes "grade") × Names found (codes "plan") r.plan
    × AsksForDown found r.down
Asks name found (Trace r) = (name ≡ codes "trace") × Names found (codes "plan") r.plan
    × Names found (codes "exchange") r.exchange × Names found (codes "code") r.code
    × NamesIfAny found (codes "down") r.down × (first_of (codes "through") found ≡ None)
    × (first_of (codes "from") found ≡ None)
Asks name found (TraceThrough r) = (name ≡ codes "trace") × Names found (codes "plan") r.plan
    × Names found (codes "through") r.name × NamesIfAny found (codes "down") r.down
    × (first_of (codes "exchange") found ≡ None) × (first_of (codes "code") found ≡ None)
    × (first_of (codes "from") found ≡ None)
Asks name found (TraceChanges r) = (name ≡ codes "trace") × Names found (codes "plan") r.plan
    × Names found (codes "from") r.old × AsksForCalls found r.calls
    × (first_of (codes "down") found ≡ None) × (first_of (codes "through") found ≡ None)
Asks name found (Fill r) = (name ≡ codes "fill") × Names found (codes "plan") r.plan
    × Names found (codes "exchange") r.exchange × Names found (codes "code") r.code
    × NamesIfAny found (codes "down") r.down
Asks name found (Explain r) = (name ≡ codes "explain") × AsksForLine found r.line

-- the command that was found, with its files and options, asks for this
abbrev pub IsFoundIn : Option (List ℕ × List Row) → Command → Type 0
IsFoundIn None command = ⊥
IsFoundIn (Some (name, found)) command = Asks name found command

-- the words ask for this: the library finds one of the program's commands in them
abbrev pub AskFor : List (Bor (List ℕ)) → Command → Type 0
AskFor words command = IsFoundIn (subcommand_of program_words (map (λ w. w.now) words)) command
