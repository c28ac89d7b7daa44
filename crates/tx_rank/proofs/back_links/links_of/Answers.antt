use Rattle.tx_rank.proofs.Common.{◌≡◌, ◌∙◌, ◌+◌, ◌++◌, ℕ, List, Option, length, take, drop, sym, ap, subst, arith, rules, take-append_seam, LinksBelow, AreLinks, rank_in}
use Rattle.tx_rank.proofs.Linking.{IsLinkedBelow, none_linked}
use Rattle.tx_rank.proofs.back_links.links_of.Goals as goal

pub loop-index-init : goal.loop-index-init
loop-index-init g c =
    let links = c.in_ok-links.links in
    none_linked (g.N.CodeNet.net c.args.net.now) (rank_in c.args.marks.now) links.items _ (omega (arith, c.in_ok-links.ensures.len, links.ok.0)) (c.in_ok-links.ensures.items_if_clones_equal (λ y e. search rules))

pub loop-index-preserved : goal.loop-index-preserved
loop-index-preserved g c =
    let links = c.loop-index.links in
    let new = c.link_from.new.links in
    let a = c.link_from.auto.links in
    let v = ap length c.deref_mut.ensures.value in
    let l = c.loop-index.invariant.long in
    let k = links.ok.0 in
    let fits : length new ≡ links.len = omega arith in
    let rest = drop (length new) links.items in
    subst (λ (all : List (Option (ℕ × ℕ))). IsLinkedBelow (g.N.CodeNet.net c.args.net.now) (rank_in c.args.marks.now) all (c.loop-index.index + 1)) (sym (ap (λ k. take k (new ++ rest)) (sym fits) ∙ take-append_seam new rest))
    (record { long = omega arith; true_of = c.link_from.ensures.links; below = c.link_from.ensures.below })

pub returns : goal.returns
returns g c =
    let i = c.loop-index.invariant in
    let n = g.N.CodeNet.net c.args.net.now in
    let t = c.loop-index-test.false in
    let a = c.loop-index.auto.index-end in
    let e = c.exchanges-index-end.ensures in
    let all : c.loop-index.index ≡ n.exchanges = omega arith in
    record { long = i.long; true_of = i.true_of; all = subst (LinksBelow n (rank_in c.args.marks.now) c.loop-index.links.items) all i.below }

pub link_from-requires : goal.link_from-requires
link_from-requires g c = record {
  index = let e = c.exchanges-index-end.ensures in let t = c.loop-index-test.true in omega arith;
  marks = c.requires.long;
  long = ap length c.deref_mut.ensures.value ∙ c.loop-index.invariant.long;
  links = subst (AreLinks (g.N.CodeNet.net c.args.net.now) (rank_in c.args.marks.now)) (sym c.deref_mut.ensures.value) c.loop-index.invariant.true_of;
  below = subst (λ (l : List (Option (ℕ × ℕ))). LinksBelow (g.N.CodeNet.net c.args.net.now) (rank_in c.args.marks.now) l c.loop-index.index) (sym c.deref_mut.ensures.value) c.loop-index.invariant.below;
}
