-- The words that the program takes, as the library of command lines sees them: commands, whose
-- files go by position and whose options go by name.
use Rattle.std.specs.Prelude.{ℕ, List, Some, true, codes, pos}
use Rattle.clap.specs.Lexer.{usize_max}
use Rattle.clap.specs.Words.{App, Rule, new_app, new_rule, with_rule, with_subcommand}
use Rattle.clap.specs.declared.builder.action.ArgAction.TheVariants.{Set, SetTrue}
use Rattle.clap.specs.declared.builder.value_parser.ValueParser.TheVariants.{Signed}

-- a file, which has to be named
abbrev pub file : List ℕ → Rule
file id = record (new_rule id) { value_names = 1; action = Some Set; required = true }

-- an option with a word
abbrev pub option : List ℕ → Rule
option id = record (new_rule id) { long = Some id; value_names = 1; action = Some Set }

-- an option without a word
abbrev pub flag : List ℕ → Rule
flag id = record (new_rule id) { long = Some id; action = Some SetTrue }

-- an option with a number from 0 to the greatest
abbrev pub number_option : List ℕ → ℕ → Rule
number_option id most = record (option id) { parser = Some (Signed (pos 0) (pos most)) }

-- the option of the limit
abbrev pub limit : Rule
limit = number_option (codes "limit") 62

-- the option of the spare number
abbrev pub spare : Rule
spare = number_option (codes "spare") 15

-- with what is down: groups, and an exchange of which all groups are
abbrev pub with_down : App → App
with_down app = with_rule (with_rule app (option (codes "down"))) (option (codes "down-exchange"))

-- an argument that has to be given
abbrev pub needed_rule : Rule → Rule
needed_rule r = record r { required = true }

-- a command whose first word is a plan
abbrev pub plan_words : List ℕ → App
plan_words name = with_rule (new_app name) (file (codes "plan"))

-- the arguments of `run`
abbrev pub run_words : App
run_words =
    with_rule (with_rule (with_rule (with_rule (with_rule (with_rule (with_rule
    (plan_words (codes "run")) (file (codes "script"))) (option (codes "cert"))) limit) spare)
    (flag (codes "strict"))) (flag (codes "echo"))) (flag (codes "summary"))

-- the arguments of `check`
abbrev pub check_words : App
check_words =
    with_rule (with_rule (with_rule
    (plan_words (codes "check")) (file (codes "cert"))) (needed_rule limit)) (needed_rule spare)

-- the arguments of `lint`
abbrev pub lint_words : App
lint_words = with_rule (plan_words (codes "lint")) (option (codes "risks"))

-- the arguments of `grade`
abbrev pub grade_words : App
grade_words = with_down (plan_words (codes "grade"))

-- the arguments of `codes`
abbrev pub codes_words : App
codes_words = plan_words (codes "codes")

-- the arguments of `audit`
abbrev pub audit_words : App
audit_words =
    with_down (with_rule (with_rule (with_rule (with_rule
    (plan_words (codes "audit")) (needed_rule limit)) (needed_rule spare))
    (option (codes "cert"))) (option (codes "counter")))

-- a command with a plan, and an option that names another one, so the plan goes by another id
abbrev pub mend_words : App
mend_words =
    with_down (with_rule (with_rule (with_rule (with_rule (with_rule
    (new_app (codes "mend")) (file (codes "before"))) (needed_rule limit)) (needed_rule spare))
    (option (codes "plan"))) (option (codes "cert")))

-- the arguments of `survive`
abbrev pub survive_words : App
survive_words =
    with_down (with_rule (with_rule (with_rule
    (plan_words (codes "survive")) (option (codes "risks"))) (flag (codes "risks-only")))
    (option (codes "from")))

-- the arguments of `page`
abbrev pub page_words : App
page_words =
    with_down (with_rule (with_rule (with_rule (with_rule (with_rule (with_rule (with_rule (with_rule
    (plan_words (codes "page")) (needed_rule limit)) (needed_rule spare))
    (option (codes "risks"))) (option (codes "from"))) (option (codes "code")))
    (flag (codes "all-codes"))) (flag (codes "by-exchange"))) (option (codes "html")))

-- a word that goes by position, and need not be given
abbrev pub word : List ℕ → Rule
word id = record (new_rule id) { value_names = 1; action = Some Set }

-- the arguments of `trace`
abbrev pub trace_words : App
trace_words =
    with_rule (with_rule (with_rule (with_rule (with_rule
    (plan_words (codes "trace")) (word (codes "exchange"))) (word (codes "code")))
    (option (codes "down"))) (option (codes "through"))) (option (codes "from"))

-- the arguments of `fill`
abbrev pub fill_words : App
fill_words =
    with_rule (with_rule (with_rule
    (plan_words (codes "fill")) (file (codes "exchange"))) (file (codes "code")))
    (option (codes "down"))

-- a command whose words are two plans
abbrev pub change_words : App
change_words =
    with_down (with_rule (with_rule (with_rule (with_rule (with_rule (with_rule (with_rule
    (new_app (codes "change")) (file (codes "before"))) (file (codes "after"))) (needed_rule limit))
    (needed_rule spare)) (option (codes "cert"))) (option (codes "mixture"))) (option (codes "counter")))

-- two plans, what is to be made of a stage, and where the order was stopped
abbrev pub order_words : App
order_words =
    with_down (with_rule (with_rule (with_rule (with_rule (with_rule (with_rule (with_rule
    (with_rule (with_rule (with_rule
    (new_app (codes "order")) (file (codes "before"))) (file (codes "after"))) (needed_rule limit))
    (needed_rule spare)) (number_option (codes "stage") 128)) (option (codes "plan")))
    (option (codes "cert"))) (option (codes "done"))) (flag (codes "back")))
    (number_option (codes "spare-now") 15))

-- one or more words, which need not be given
abbrev pub some_words : List ℕ → Rule
some_words id = record (word id) {
  range = Some (record { start_inclusive = 1; end_inclusive = usize_max });
}

-- the words of a line
abbrev pub explain_words : App
explain_words = with_rule (new_app (codes "explain")) (some_words (codes "word"))

-- the program takes its words from the first on, and prints its version
abbrev pub top_words : App
top_words =
    let app = new_app (codes "telexplan") in
    record app { top = record app.top { no_binary_name = true; has_version = true } }

-- with those that judge plans
abbrev pub judging_words : App
judging_words =
    with_subcommand (with_subcommand (with_subcommand (with_subcommand (with_subcommand
    (with_subcommand (with_subcommand (with_subcommand (with_subcommand
    top_words lint_words.top) audit_words.top) grade_words.top) mend_words.top) change_words.top)
    order_words.top) survive_words.top) page_words.top) check_words.top

-- the words of the program: all its commands
abbrev pub program_words : App
program_words =
    with_subcommand (with_subcommand (with_subcommand (with_subcommand (with_subcommand
    judging_words run_words.top) codes_words.top) trace_words.top) fill_words.top)
    explain_words.top
