use Rattle.tx_commands.proofs.Common.{rules, subcommand_rows_of, IsFoundIn}
use Rattle.tx_commands.proofs.Found.{refused_for_clash}
use Rattle.tx_commands.proofs.reading.found_command.Goals as goal

pub returns-in_err-refuse_clash-in-Some-clause-refused : goal.returns-in_err-refuse_clash-in-Some-clause-refused
returns-in_err-refuse_clash-in-Some-clause-refused c =
    let command = c.in_ok-command-in-Some.command in
    let asked : IsFoundIn (subcommand_rows_of c.args.matches.now) command = search rules in
    let clash = c.in_err-refuse_clash-in-Some in
    let refused = refused_for_clash (subcommand_rows_of c.args.matches.now) command
    clash.field-0.0 asked clash.ensures.refused in
    search rules
