use Rattle.tx_cert.proofs.Common.{false, subst, ◌∙◌, Declared, CertWord}
use Rattle.tx_text.specs.inner.Beside.{beside}
use Rattle.tx_text.proofs.Beside.{declared_beside}
use Rattle.tx_cert.specs.CertText.{declare}
use Rattle.tx_cert.proofs.Reading.{line_declared}
use Rattle.tx_cert.proofs.cert_reader.CertLinesDeclares.declare.Goals as goal

pub invariant_of-self : goal.invariant_of-self
invariant_of-self g c = (c.declare.ensures.codes ∙ c.self.invariant.0, c.declare.ensures.exchanges ∙ c.self.invariant.1)

pub returns : goal.returns
returns g c =
    let p = c.self.inside.plan.now in
    let t = c.self.inside.cert in
    let new = c.declare.new.cert in
    let r = c.declare.result in
    let none = λ (x : CertWord). false in
    subst (λ s. Declared none (beside declare c.args._version s c.args.words) (p, new) r) c.self.view_is
    (declared_beside declare p none c.args._version t new c.args.words r (line_declared p c.args._version t new c.args.words r c.declare.ensures.ok c.declare.ensures.err))
