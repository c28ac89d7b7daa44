use Rattle.tx_rank.proofs.Common.{subst, sym, refl, List, ℕ, set, IsMarked, IsInHand, IsTrail, Grew, Unseen, Open}
use Rattle.tx_rank.proofs.Turns.{marks_open, hand_first, grew_set}
use Rattle.tx_rank.proofs.Passes.{unseen_first, done_from}
use Rattle.tx_rank.proofs.Trails.{trail_first}
use Rattle.tx_rank.proofs.explore.start_at.Goals as goal

pub explore-requires : goal.explore-requires
explore-requires g c =
    let n = g.N.CodeNet.net c.args.net.now in
    let marks = c.args.search.now.marks.items in
    let was = unseen_first n marks c.args.origin (g.met.N.CodeNet.is_net c.args.net.now) c.requires.marked c.requires.none c.requires.origin c.requires.unseen in
    let new = set c.args.search.now.marks.items c.index.result Open in
    let last = c.untried-search.result in
    record {
      marked = subst (λ (k : ℕ). IsMarked n (set marks k Open)) (sym c.index.ensures) (marks_open n marks c.args.origin c.args.origin c.requires.marked was);
      hand = subst (λ (k : ℕ). IsInHand n (set marks k Open) c.args.origin c.clear.new.self.items) (sym c.index.ensures) (subst (λ (l : List (ℕ × ℕ)). IsInHand n (set marks c.args.origin Open) c.args.origin l) (sym c.clear.ensures.items) (hand_first n marks c.args.origin c.requires.none c.requires.origin was));
      tried = subst (λ (l : List (ℕ × ℕ)). IsTrail n new c.args.origin l c.clear-2.new.self.items last) (sym c.clear.ensures.items) (trail_first n new c.args.origin c.clear-2.new.self.items last c.clear-2.ensures.items (c.untried-search.ensures new));
    }

pub returns-clause-done : goal.returns-clause-done
returns-clause-done g c =
    let n = g.N.CodeNet.net c.args.net.now in
    let marks = c.args.search.now.marks.items in
    let was = unseen_first n marks c.args.origin (g.met.N.CodeNet.is_net c.args.net.now) c.requires.marked c.requires.none c.requires.origin c.requires.unseen in
    done_from n _ c.args.origin marks _ c.explore.new.search.marks.items c.explore.result c.explore.ensures.done c.explore.ensures.start (subst (λ (k : ℕ). Grew marks (set marks k Open)) (sym c.index.ensures) (grew_set marks c.args.origin Unseen Open was refl))
