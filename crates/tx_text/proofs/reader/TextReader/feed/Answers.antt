use Rattle.tx_text.proofs.Common.{refl, ap, ◌∙◌, sym, feed_gives, feed_leaves}
use Rattle.tx_text.proofs.ReaderFields.{after_line, after_fault, after_view}
use Rattle.tx_text.proofs.reader.TextReader.feed.Goals as goal

pub invariant_of-self : goal.invariant_of-self
invariant_of-self g c =
    let a = c.self.inside in
    let e = ap (feed_gives a.feeder) c.part.ensures in
    after_fault a c.in_err-fed.field-0.0 c.feed.new.self c.self.invariant (sym (c.in_err-fed.ensures.gives ∙ e)) (c.feed.ensures.leaves ∙ ap (feed_leaves a.feeder) c.part.ensures)

pub invariant_of-self-2 : goal.invariant_of-self-2
invariant_of-self-2 g c =
    let a = c.self.inside in
    let e = ap (feed_gives a.feeder) c.part.ensures in
    after_line a c.in_ok-fed.fed c.feed.new.self c.self.invariant (sym (c.in_ok-fed.ensures.gives ∙ e)) (c.feed.ensures.leaves ∙ ap (feed_leaves a.feeder) c.part.ensures)

pub returns-clause-leaves : goal.returns-clause-leaves
returns-clause-leaves g c =
    let a = c.self.inside in
    let e = ap (feed_gives a.feeder) c.part.ensures in
    after_view a c.in_ok-fed.fed c.feed.new.self c.args.self.now c.self.invariant (c.self.view_is ∙ c.if-lend.ensures.same refl) (sym (c.in_ok-fed.ensures.gives ∙ e)) (c.feed.ensures.leaves ∙ ap (feed_leaves a.feeder) c.part.ensures)

pub returns-clause-known_after : goal.returns-clause-known_after
returns-clause-known_after g c =
    let a = c.self.inside in
    let e = ap (feed_gives a.feeder) c.part.ensures in
    (after_line a c.in_ok-fed.fed c.feed.new.self c.self.invariant (sym (c.in_ok-fed.ensures.gives ∙ e)) (c.feed.ensures.leaves ∙ ap (feed_leaves a.feeder) c.part.ensures)).feed

pub returns-in_err-fed-clause-known_after : goal.returns-in_err-fed-clause-known_after
returns-in_err-fed-clause-known_after g c =
    let a = c.self.inside in
    let e = ap (feed_gives a.feeder) c.part.ensures in
    (after_fault a c.in_err-fed.field-0.0 c.feed.new.self c.self.invariant (sym (c.in_err-fed.ensures.gives ∙ e)) (c.feed.ensures.leaves ∙ ap (feed_leaves a.feeder) c.part.ensures)).feed
