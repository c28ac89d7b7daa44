use Rattle.std.proofs.Common.{◌∙◌, ◌≡◌, Option, Some, None, option_map, ap, is_some, refl, sym}
use Rattle.tx_commands.proofs.Found.{first_found}
use Rattle.tx_commands.proofs.given.is_given.Goals as goal

pub returns : goal.returns
returns c =
    c.is_some.ensures ∙ mapped c.get_str.result (λ w. w.now)
    ∙ ap is_some (sym (first_found c.args.matches.now c.args.id.now _ c.get_str.ensures))
  where
    mapped : {T U : Type 0} (o : Option T) (f : T → U) → is_some o ≡ is_some (option_map f o)
    mapped None f = refl
    mapped (Some x) f = refl
