use Rattle.tx_circuits.proofs.Common.{◌∙◌, sym, ap, refl, not}
use Rattle.std.proofs.lemmas.Bool.{not-true}
use Rattle.tx_circuits.proofs.Steps.{seized_ends, seized_none, unseized}
use Rattle.tx_circuits.proofs.table.CircuitTable.is_unseized.Goals as goal

pub returns-then-not-is_seized : goal.returns-then-not-is_seized
returns-then-not-is_seized g c =
    let now = c.args.self.now in
    let x = c.args.circuit.now in
    let t = c.in-Some.head in (
      λ r. unseized now x t.a t.b (λ y h. seized_ends c.self.inside.groups now c.self.view_is x y t c.in-Some.ensures h) (sym c.is_seized.ensures ∙ c.if-not-is_seized.true)
          (sym c.is_seized-then-not-is_seized.ensures ∙ not-true c.is_seized-then-not-is_seized.result r),
      λ h. ap not (c.is_seized-then-not-is_seized.ensures ∙ h t.b),
    )

pub returns-in-None : goal.returns-in-None
returns-in-None g c = (λ r y. seized_none c.self.inside.groups c.args.self.now c.self.view_is c.args.circuit.now y c.in-None.ensures, λ h. refl)
