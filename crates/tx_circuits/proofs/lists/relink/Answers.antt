use Rattle.tx_circuits.proofs.Common.{◌∙◌, ℕ, Bool, sym, subst, with, free_at, is_free, IsListed}
use Rattle.tx_circuits.proofs.Linked.{with_same}
use Rattle.tx_circuits.proofs.Indexes.{free_here, same_bool, other_bool, other_bool_false}
use Rattle.tx_circuits.proofs.lists.relink.Goals as goal

pub returns-then-was-will-clause-listed : goal.returns-then-was-will-clause-listed
returns-then-was-will-clause-listed c =
    let end = c.args.end in
    let slots = c.args.slots.now in
    let i = c.args.index in
    let same = sym c.is_free-will.ensures ∙ sym (same_bool c.is_free-was.result c.is_free-will.result c.if-was-will.true) ∙ c.is_free-was.ensures ∙ sym (free_here end slots i _ c.requires.index) in
    subst (λ (f : ℕ → Bool). IsListed f end slots c.args.list.now) (with_same (free_at end slots) i (is_free end c.args.to) same) c.requires.listed

pub put-requires-clause-taken : goal.put-requires-clause-taken
put-requires-clause-taken c =
    free_here c.args.end c.args.slots.now c.args.index _ c.requires.index ∙ sym c.is_free-was.ensures
    ∙ other_bool c.is_free-was.result c.is_free-will.result c.if-was-will.false c.if-will.true

pub returns-then-will-clause-listed : goal.returns-then-will-clause-listed
returns-then-will-clause-listed c =
    subst (λ b. IsListed (with (free_at c.args.end c.args.slots.now) c.args.index b) c.args.end c.put.new.slots c.put.new.list) (sym c.if-will.true ∙ c.is_free-will.ensures) c.put.ensures.listed

pub take-requires-clause-free : goal.take-requires-clause-free
take-requires-clause-free c =
    free_here c.args.end c.args.slots.now c.args.index _ c.requires.index ∙ sym c.is_free-was.ensures
    ∙ other_bool_false c.is_free-was.result c.is_free-will.result c.if-was-will.false c.if-will.false

pub returns-else-will-clause-listed : goal.returns-else-will-clause-listed
returns-else-will-clause-listed c =
    subst (λ b. IsListed (with (free_at c.args.end c.args.slots.now) c.args.index b) c.args.end c.take.new.slots c.take.new.list) (sym c.if-will.false ∙ c.is_free-will.ensures) c.take.ensures.listed
