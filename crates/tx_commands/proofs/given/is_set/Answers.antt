use Rattle.std.proofs.Common.{◌∙◌, false, option_map, ap, sym, codes}
use Rattle.std.specs.Option.{option_map_or}
use Rattle.std.specs.Str.{bytes_eq}
use Rattle.tx_commands.proofs.Found.{first_found}
use Rattle.tx_commands.proofs.given.is_set.Goals as goal

pub returns-in-Some : goal.returns-in-Some
returns-in-Some c =
    let found = first_found c.args.matches.now c.args.id.now _ c.get_str.ensures
    ∙ ap (option_map (λ w. w.now)) c.in-Some.is in
    c.eq.ensures
    ∙ ap (λ o. option_map_or (λ word. bytes_eq word (codes "true")) o false) (sym found)

pub returns-in-None : goal.returns-in-None
returns-in-None c =
    let found = first_found c.args.matches.now c.args.id.now _ c.get_str.ensures
    ∙ ap (option_map (λ w. w.now)) c.in-None.is in
    ap (λ o. option_map_or (λ word. bytes_eq word (codes "true")) o false) (sym found)
