use Rattle.tx_text.proofs.Common.{ap, ◌∙◌, subst, fed_on}
use Rattle.tx_text.proofs.ReaderFields.{IsWhole, lent_view}
use Rattle.tx_text.proofs.reader.TextReader.lend.Goals as goal

pub returns-in-Some-pass-clause-leaves : goal.returns-in-Some-pass-clause-leaves
returns-in-Some-pass-clause-leaves g c =
    let a = c.self.inside in
    let n = c.in-Some.len in
    let m = c.in-Some.shown in
    let e = c.in-Some.ensures in
    let q = c.in-Some-pass.ensures in
    let w = subst (λ p. IsWhole a.feeder p n m) c.part.ensures (record { begun = q.begun; fault = q.fault; lf = e.lf; len = e.len; within = e.within; shown = e.shown; short = e.short; right = e.right }) in
    λ _. rw q.start (lent_view a c.pass.new.self n m c.self.invariant w q.leaves ∙ ap fed_on c.self.view_is)
