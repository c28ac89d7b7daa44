use Rattle.tx_engine.proofs.Common.{◌≡◌, ◌∙◌, ◌+◌, ◌∷◌, drop, ap, sym, subst, released_all, CanReleaseAll}
use Rattle.std.proofs.lemmas.List.{at_drop_more, at_drop_all}
use Rattle.tx_engine.proofs.ending.release_hops.Goals as goal

pub loop-hop-preserved : goal.loop-hop-preserved
loop-hop-preserved g c =
    let hops = c.args.hops.now in
    let i = c.loop-hop.hop-index in
    let hop = c.hop-item.result in
    let v = c.loop-hop.invariant in
    let next : drop i hops ≡ hop ∷ drop (i + 1) hops = at_drop_more (λ l. l) hops i hop c.loop-hop-test.true ∙ ap (λ h. h ∷ drop (i + 1) hops) (sym c.hop-item.is) in
    record {
      can = subst (λ t. CanReleaseAll t (drop (i + 1) hops)) (sym c.release.ensures) (subst (CanReleaseAll c.loop-hop.circuits) next v.can).1;
      comes = ap (λ t. released_all t (drop (i + 1) hops)) c.release.ensures ∙ sym (ap (released_all c.loop-hop.circuits) next) ∙ v.comes;
    }

pub returns : goal.returns
returns g c = sym (at_drop_all (released_all c.loop-hop.circuits) c.args.hops.now c.loop-hop.hop-index c.loop-hop-test.false) ∙ c.loop-hop.invariant.comes
