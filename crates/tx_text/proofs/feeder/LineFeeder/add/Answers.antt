use Rattle.tx_text.proofs.Common.{arith, rules, ap, ◌≡◌, ◌∙◌, ◌++◌, false, line_fault}
use Rattle.tx_text.specs.Text.{bytes_fault, begun_fault}
use Rattle.tx_text.proofs.LineFaults.{too_long}
use Rattle.tx_text.proofs.FeederFields.{no_line, held_begun}
use Rattle.tx_text.proofs.feeder.LineFeeder.add.Goals as goal

pub returns-then-not-hold-clause-gives : goal.returns-then-not-hold-clause-gives
returns-then-not-hold-clause-gives g c =
    let free : c.self.inside.complete ≡ false = no_line c.self.inside c.args.self.now c.self.view_is c.requires.begun in
    let held = held_begun c.self.inside c.args.self.now c.self.view_is free in
    let none : c.hold.result ≡ false = search rules in
    too_long c.args.line c.self.inside.held.items c.args.front.now (omega (arith, c.hold.ensures.full none, c.self.inside.held.ok.0)) ∙ ap (λ l. line_fault c.args.line (l ++ c.args.front.now)) held

pub invariant_of-self : goal.invariant_of-self
invariant_of-self g c =
    let free : c.self.inside.complete ≡ false = no_line c.self.inside c.args.self.now c.self.view_is c.requires.begun in
    grind arith

pub returns-then-bytes-gt512-clause-gives : goal.returns-then-bytes-gt512-clause-gives
unfolding bytes_fault begun_fault
returns-then-bytes-gt512-clause-gives g c = search rules
