-- What a parse of words found, as the commands that it asks for.
use Rattle.std.proofs.Common.{arith}
use Rattle.tx_commands.proofs.Common.{◌≡◌, ◌∙◌, ℕ, true, List, [], ◌∷◌, ◌++◌, map, Option, None, Some, option_map, codes, refl, sym, ap, subst, Bor, flat_map, join_by}
use Rattle.clap.specs.Words.{App, HasMatchesOf, Row, Text, first_of, found_of, is_simple, rows_of, subcommand_of, subcommand_rows_of}
use Rattle.clap.specs.declared.parser.matches.ArgMatches.{ArgMatches}
use Rattle.clap.specs.Matches.{first_value, matched_of, raw_values}
use Rattle.clap.proofs.WalkLemmas.{first_value-rows, raw_values-rows}
use Rattle.clap.proofs.OnLiterals.{clap_on_literals}
use Rattle.tx_commands.specs.Grammar.{program_words}
use Rattle.tx_commands.specs.Commands.{IsFoundIn, line_of}
use Rattle.tx_commands.specs.inner.Refused.{IsClash, IsRefused}
use Rattle.tx_commands.specs.declared.command.Command.{Command}
use Rattle.tx_commands.specs.declared.misuse.Misuse.{Misuse}

-- the word that was read for an id is the first that was found for it
pub first_found : (m : ArgMatches) (id : List ℕ) (word : Option (Bor (List ℕ)))
    → option_map (λ w. w.now) word ≡ first_value (found_of m) id
    → first_of id (rows_of (found_of m)) ≡ option_map (λ w. w.now) word
first_found m id word is = sym (first_value-rows (found_of m) id) ∙ sym is

-- texts as a function sees them are joined as they are
pub joined : (gap : List ℕ) (words : List (Bor (List ℕ)))
    → join_by (λ w. w.now) gap words ≡ join_by (λ w. w) gap (map (λ w. w.now) words)
joined gap [] = refl
joined gap (w ∷ words) = ap (λ l. w.now ++ l) (behind words)
  where
    behind : (ws : List (Bor (List ℕ))) → flat_map (λ v. gap ++ v.now) ws ≡ flat_map (λ v. gap ++ v) (map (λ v. v.now) ws)
    behind [] = refl
    behind (v ∷ ws) = ap (λ l. (gap ++ v.now) ++ l) (behind ws)

-- the words that were read for an id are those that were found for it
pub line_found : (m : ArgMatches) (id : List ℕ) (words : Option (Bor (List (Bor (List ℕ)))))
    → option_map (λ s. map (λ w. w.now) s.now) words ≡ option_map raw_values (matched_of (found_of m) id)
    → line_of (rows_of (found_of m)) id ≡ option_map (λ s. join_by (λ w. w.now) (codes " ") s.now) words
line_found m id words is =
    ap (option_map (join_by (λ w. w) (codes " "))) (sym (raw_values-rows (found_of m) id) ∙ sym is)
    ∙ over words
  where
    over : (o : Option (Bor (List (Bor (List ℕ))))) → option_map (join_by (λ w. w) (codes " ")) (option_map (λ s. map (λ w. w.now) s.now) o) ≡ option_map (λ s. join_by (λ w. w.now) (codes " ") s.now) o
    over None = refl
    over (Some s) = ap Some (sym (joined (codes " ") s.now))

-- the library says what it finds for words like the program's
simple : is_simple program_words ≡ true
unfolding clap_on_literals
simple = refl

-- what holds of the command that was found holds of the one that the library's walk finds
pub found_by : (P : Option (Text × List Row) → Type 0) (app : App) (words : List Text) (m : ArgMatches) → app ≡ program_words → HasMatchesOf app words m → P (subcommand_rows_of m) → P (subcommand_of program_words words)
found_by P app words m is has found =
    let h = has (ap is_simple is ∙ simple) in
    subst P (h.1 ∙ ap (λ (a : App). subcommand_of a words) is) found

-- words that ask for a command of which two files clash are refused for that
pub refused_for_clash : (found : Option (Text × List Row)) (command : Command) (misuse : Misuse)
    → IsFoundIn found command → IsClash command misuse → IsRefused found misuse
refused_for_clash found command misuse asked clash = grind arith
