use Rattle.tx_commands.proofs.Common.{◌∙◌, Some, option_map, codes, ap, sym, join_by}
use Rattle.tx_commands.proofs.Found.{line_found}
use Rattle.tx_commands.proofs.given.line.Goals as goal

pub returns-in_ok-join-in-Some : goal.returns-in_ok-join-in-Some
returns-in_ok-join-in-Some c =
    line_found c.args.matches.now c.args.id.now _ c.get_strs.ensures
    ∙ ap (option_map (λ s. join_by (λ w. w.now) (codes " ") s.now)) c.in-Some.is
    ∙ ap Some (sym c.in_ok-join-in-Some.ensures.ok)

pub returns-in-None : goal.returns-in-None
returns-in-None c =
    line_found c.args.matches.now c.args.id.now _ c.get_strs.ensures
    ∙ ap (option_map (λ s. join_by (λ w. w.now) (codes " ") s.now)) c.in-None.is
