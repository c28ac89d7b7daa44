use Rattle.tx_join.proofs.Common.{not, Option, [], ◌∷◌, refl, ap, if◌then◌else◌, option_map_or, line_written, puts_is, Route, route_got, route_words, has_both}
use Rattle.tx_join.proofs.lists_alone.write_list_at.Goals as goal

pub returns-in-Some : goal.returns-in-Some
returns-in-Some g c =
    let p = c.args.plan.now in
    let q = c.args.other.now in
    let word = c.args.word.now in
    let at = route_got p c.in-Some.ensures.rules c.args.index _ c.in-Some.ensures.value _ refl in
    puts_is (ap (λ (o : Option Route). option_map_or (λ (r : Route). if not (has_both q p r.exchange r.code) then line_written (word ∷ route_words p r) else []) o []) at) c.write_list.ensures
