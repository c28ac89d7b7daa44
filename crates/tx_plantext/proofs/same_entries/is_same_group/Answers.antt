use Rattle.std.proofs.Common.{◌≡◌, sym, ◌∙◌, eqb-true}
use Rattle.std.proofs.lemmas.Bool.{not-false}
use Rattle.tx_plantext.proofs.Alike.{group_alike}
use Rattle.tx_plantext.proofs.same_entries.is_same_group.Goals as goal

pub returns : goal.returns
returns g c =
    let first : c.ends-a.result.0 ≡ c.ends-c.result.0 = eqb-true _ _ (not-false _ (sym c.ne.ensures ∙ c.if-ne.false)) in
    let second : c.ends-a.result.1 ≡ c.ends-c.result.1 = eqb-true _ _ (not-false _ (sym c.ne-else-ne.ensures ∙ c.if-ne-2.false)) in
    group_alike c.args.old.now c.args.new.now c.args.group c.ends-a.result c.ends-c.result c.direction.result c.direction-2.result c.group_count.result c.group_count-2.result _ _ c.eq.result
    c.requires.old c.requires.new c.ends-a.ensures c.ends-c.ensures (λ j. (first j, second j)) c.direction.ensures c.direction-2.ensures (c.is_same_direction.ensures.0 c.if-not-is_same_direction.false)
    c.group_count.ensures.value c.group_count-2.ensures.value c.if-group_count.false c.group_name.ensures.value c.group_name-2.ensures.value c.eq.ensures
