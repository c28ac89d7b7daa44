use Rattle.std.proofs.Common.{◌∙◌, Some, option_map, ap, sym}
use Rattle.tx_commands.proofs.Found.{first_found}
use Rattle.tx_commands.proofs.given.text.Goals as goal

pub returns-in_ok-from_str-in-Some : goal.returns-in_ok-from_str-in-Some
returns-in_ok-from_str-in-Some c =
    first_found c.args.matches.now c.args.id.now _ c.get_str.ensures
    ∙ ap (option_map (λ w. w.now)) c.in-Some.is ∙ ap Some (sym c.in_ok-from_str-in-Some.ensures.ok)

pub returns-in-None : goal.returns-in-None
returns-in-None c =
    first_found c.args.matches.now c.args.id.now _ c.get_str.ensures
    ∙ ap (option_map (λ w. w.now)) c.in-None.is
