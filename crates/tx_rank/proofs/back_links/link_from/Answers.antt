use Rattle.tx_rank.proofs.Common.{◌∙◌, ap, subst, ℕ, is_some, arith, ◌≡◌, Option, Some, None, true, sym, refl, LinksAll, rank_in}
use Rattle.tx_rank.proofs.Linking.{below_skip, below_more}
use Rattle.tx_rank.proofs.back_links.link_from.Goals as goal

pub rank_at-requires : goal.rank_at-requires
rank_at-requires g c = let e = c.exchange-exchange.ensures in let p = c.requires.index in let m = c.requires.marks in omega arith

pub link_list-requires-clause-long : goal.link_list-requires-clause-long
link_list-requires-clause-long g c = c.requires.long

pub link_list-requires-clause-links : goal.link_list-requires-clause-links
link_list-requires-clause-links g c = c.requires.links

pub returns-then-is_some-clause-below : goal.returns-then-is_some-clause-below
returns-then-is_some-clause-below g c =
    let n = g.N.CodeNet.net c.args.net.now in
    let new = c.link_list.new.links in
    below_more n (rank_in c.args.marks.now) c.args.links.now new c.args.index c.requires.below c.link_list.ensures.stays (subst (λ (x : ℕ). LinksAll n new x (n.list x)) c.exchange-exchange.ensures c.link_list.ensures.all)

pub returns-else-is_some-clause-below : goal.returns-else-is_some-clause-below
returns-else-is_some-clause-below g c =
    let ranks = rank_in c.args.marks.now in
    below_skip (g.N.CodeNet.net c.args.net.now) ranks c.args.links.now c.args.index c.requires.below
    (λ r ranked away. let w = ap is_some (c.rank_at.ensures ∙ ap ranks c.exchange-exchange.ensures ∙ ranked) in let e = c.is_some.ensures in let f = c.if-is_some.false in cc)

some_of : (o : Option ℕ) → is_some o ≡ true → (x : ℕ) × (o ≡ Some x)
some_of (Some x) h = (x, refl)
some_of None h = let bad : ⊥ = cc in absurd bad

pub link_list-requires-clause-ranked : goal.link_list-requires-clause-ranked
link_list-requires-clause-ranked g c = some_of (rank_in c.args.marks.now c.exchange-exchange.result) (ap is_some (sym c.rank_at.ensures) ∙ sym c.is_some.ensures ∙ c.if-is_some.true)

pub returns-else-is_some-clause-links : goal.returns-else-is_some-clause-links
returns-else-is_some-clause-links g c = c.requires.links
