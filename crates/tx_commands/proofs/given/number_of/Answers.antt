use Rattle.std.proofs.Common.{◌∙◌, option_map, ap}
use Rattle.tx_commands.proofs.Found.{first_found}
use Rattle.tx_commands.proofs.given.number_of.Goals as goal

pub returns-in-Some-number-clause-given : goal.returns-in-Some-number-clause-given
returns-in-Some-number-clause-given c =
    record {
      text = c.in-Some.word.now;
      given = first_found c.args.matches.now c.args.id.now _ c.get_str.ensures ∙ ap (option_map (λ w. w.now)) c.in-Some.is;
      number = cc;
    }
