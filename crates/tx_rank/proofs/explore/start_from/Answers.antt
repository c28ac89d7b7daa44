use Rattle.tx_rank.proofs.Common.{◌∙◌, sym, ap, List, length, arith, rank_in, Mark}
use Rattle.tx_rank.proofs.Passes.{passing_skip, passing_from}
use Rattle.tx_rank.proofs.explore.start_from.Goals as goal

pub returns-then-is_origin-clause-done : goal.returns-then-is_origin-clause-done
returns-then-is_origin-clause-done g c = passing_from (g.N.CodeNet.net c.args.net.now) _ c.start_at.new.search.marks.items c.args.index _ c.start_at.result c.requires.passing c.exchange-origin.ensures c.start_at.ensures.done

pub exchange-origin-requires : goal.exchange-origin-requires
exchange-origin-requires g c = c.requires.index

pub rank_at-requires : goal.rank_at-requires
rank_at-requires g c = let e = c.exchange-origin.ensures in let p = c.requires.index in let l = c.requires.passing.marked.long in let d = ap length c.deref.ensures.value in omega arith

pub returns-in-Some-clause-done : goal.returns-in-Some-clause-done
returns-in-Some-clause-done g c = λ _.
    let n = g.N.CodeNet.net c.args.net.now in
    let marks = c.args.search.now.marks.items in
    let ranked = ap (rank_in marks) (sym c.exchange-origin.ensures) ∙ ap (λ (l : List Mark). rank_in l c.exchange-origin.result) (sym c.deref.ensures.value) ∙ sym c.rank_at.ensures ∙ c.in-Some.is in
    passing_skip n marks c.args.index c.requires.passing (λ _. (c.in-Some.field-0, ranked))

pub start_at-requires : goal.start_at-requires
start_at-requires g c = record {
  origin = sym c.is_origin.ensures ∙ c.if-is_origin.true;
  marked = c.requires.passing.marked;
  none = c.requires.passing.none;
  unseen = ap (λ (l : List Mark). rank_in l c.exchange-origin.result) (sym c.deref.ensures.value) ∙ sym c.rank_at.ensures ∙ c.in-None.is;
}

pub returns-else-is_origin-clause-done : goal.returns-else-is_origin-clause-done
returns-else-is_origin-clause-done g c = λ _.
    let n = g.N.CodeNet.net c.args.net.now in
    let no = ap n.is_origin (sym c.exchange-origin.ensures) ∙ sym c.is_origin.ensures ∙ c.if-is_origin.false in
    passing_skip n c.args.search.now.marks.items c.args.index c.requires.passing (λ o. let bad : ⊥ = cc in absurd bad)

pub returns-then-is_origin-clause-closed : goal.returns-then-is_origin-clause-closed
returns-then-is_origin-clause-closed g c = c.start_at.ensures.closed
