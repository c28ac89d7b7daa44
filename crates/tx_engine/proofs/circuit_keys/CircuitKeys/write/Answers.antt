use Rattle.tx_engine.proofs.Common.{◌≡◌, is_some, true, sym, subst, refl, List, ap, ◌∙◌, if◌then◌else◌, option_map, same_circuit, keys_at, EndKeys}
use Rattle.std.specs.Vec.{with_item}
use Rattle.tx_engine.proofs.WrittenKeys.{written}
use Rattle.tx_engine.proofs.circuit_keys.CircuitKeys.write.Goals as goal

pub returns : goal.returns
returns g c = λ y.
    let x = c.args.circuit.now in
    let row = c.index_mut.result.now in
    written (λ row. row.items) c.self.inside.rows.items x c.index.result row (with_item row x.number c.args.keys) c.args.keys c.index.ensures c.index_mut.ensures.value
    (subst (λ (v : List (List EndKeys)). is_some (keys_at v x) ≡ true) (sym c.self.view_is) c.requires) refl y
    ∙ ap (λ (v : List (List EndKeys)). if same_circuit y x then option_map (λ _. c.args.keys) (keys_at v y) else keys_at v y) c.self.view_is
