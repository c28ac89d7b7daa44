use Rattle.tx_machine.proofs.Common.{◌+◌, ap, ◌∙◌, arith, ◌++◌, ◌∷◌, [], false, OpenCall}
use Rattle.tx_machine.specs.declared.open_call.Phase.TheVariants.{Standing}
use Rattle.tx_machine.proofs.Whole.{whole_room, whole_more}
use Rattle.tx_machine.proofs.plain.Plain.key.Goals as goal

pub invariant_of-self : goal.invariant_of-self
invariant_of-self g c = let r = c.self.invariant.room in whole_room c.self.inside.plan.now c.self.inside.calls c.self.inside.tickets c.self.inside.marks c.self.inside.numbers c.self.invariant c.reserve.new.self c.self.inside.tickets c.reserve.ensures.items (omega arith)

pub invariant_of-self-in_err-reserve-2 : goal.invariant_of-self-in_err-reserve-2
invariant_of-self-in_err-reserve-2 g c = let r = c.self.invariant.room in whole_room c.self.inside.plan.now c.self.inside.calls c.self.inside.tickets c.self.inside.marks c.self.inside.numbers c.self.invariant c.reserve.new.self c.reserve-2.new.self c.reserve.ensures.items (omega arith)

pub invariant_of-self-2 : goal.invariant_of-self-2
invariant_of-self-2 g c =
    let r = c.self.invariant.room in
    let new : OpenCall g.row.A.Denot = record { number = c.self.inside.numbers + 1; line = c.args.line; keyed = c.args.keyed; keyed_at = c.self.inside.events + 1; hops = c.new.result; phase = Standing; collided = false } in
    whole_more c.self.inside.plan.now c.self.inside.calls c.self.inside.tickets c.self.inside.marks c.self.inside.numbers c.self.invariant c.push_reserved.new.self c.reserve-2.new.self new c.args.line c.args.keyed (c.self.inside.events + 1) (c.push_reserved.ensures.items ∙ ap (λ l. l ++ new ∷ []) c.reserve.ensures.items) (ap (λ l. record { number = c.self.inside.numbers + 1; line = c.args.line; keyed = c.args.keyed; keyed_at = c.self.inside.events + 1; hops = l; phase = Standing; collided = false }) c.new.ensures.items) (omega (arith, c.in_ok-reserve-2.ensures.ok, c.len-open.ensures))
