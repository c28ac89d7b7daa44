use Rattle.std.proofs.Common.{◌≡◌, ◌+◌, ◌-◌, drop, take, length, ap, sym, ◌∙◌, arith}
use Rattle.std.proofs.lemmas.List.{drop-drop, drop-take, length-take-le, length-drop}
use Rattle.tx_jobs.proofs.held.Held.give.Goals as goal

pub returns-clause-left : goal.returns-clause-left
returns-clause-left c =
    let a = c.self.inside in
    let i = c.self.invariant in
    let size : length (take (a.to - a.from) (drop a.from a.bytes)) ≡ a.to - a.from = length-take-le (a.to - a.from) (drop a.from a.bytes) (omega (arith, length-drop a.from a.bytes, i.room, i.within, i.order)) in
    let k : c.args.n + (a.to - (a.from + c.args.n)) ≡ a.to - a.from = omega (arith, size, c.requires.held, ap length c.self.view_is) in
    ap (λ l. take (a.to - (a.from + c.args.n)) l) (sym (drop-drop c.args.n a.from a.bytes)) ∙ sym (rw k at (drop-take c.args.n (a.to - (a.from + c.args.n)) (drop a.from a.bytes))) ∙ ap (drop c.args.n) c.self.view_is
