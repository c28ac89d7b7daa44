use Rattle.tx_rank.proofs.Common.{◌≡◌, ◌∙◌, sym, ap, subst, List, ℕ, length, end_of, IsTried, IsOnward, IsTop, Mark}
use Rattle.tx_rank.proofs.explore.advance.Goals as goal

pub look_on-requires-clause-long : goal.look_on-requires-clause-long
look_on-requires-clause-long g c = ap length c.deref-2.ensures.value ∙ c.requires.marked.long

pub look_on-requires-clause-tried : goal.look_on-requires-clause-tried
look_on-requires-clause-tried g c =
    let search = c.args.search.now in
    let e : c.end-exchange.result ≡ end_of search.start search.steps.items = c.end-exchange.ensures ∙ ap (end_of search.start) c.deref.ensures.value in
    subst (λ (l : List Mark). IsTried (g.N.CodeNet.net c.args.net.now) l c.end-exchange.result search.last) (sym c.deref-2.ensures.value) (subst (λ (x : ℕ). IsTried (g.N.CodeNet.net c.args.net.now) search.marks.items x search.last) (sym e) c.requires.tried.list)

pub go_on-requires : goal.go_on-requires
go_on-requires g c =
    let search = c.args.search.now in
    let e : c.end-exchange.result ≡ end_of search.start search.steps.items = c.end-exchange.ensures ∙ ap (end_of search.start) c.deref.ensures.value in
    let tried = subst (λ (l : List Mark). IsTried (g.N.CodeNet.net c.args.net.now) l c.end-exchange.result c.look_on.new.tried) c.deref-2.ensures.value c.look_on.ensures.tried in
    let to : ℕ × ℕ = (c.in-Onward.group, c.in-Onward.to) in
    let on = subst (λ (l : List Mark). IsOnward (g.N.CodeNet.net c.args.net.now) l c.end-exchange.result to) c.deref-2.ensures.value c.in-Onward.ensures.look in
    record {
      marked = c.requires.marked;
      hand = c.requires.hand;
      tried = record { lists = c.requires.tried.lists; list = subst (λ (x : ℕ). IsTried (g.N.CodeNet.net c.args.net.now) search.marks.items x c.look_on.new.tried) e tried };
      onward = subst (λ (x : ℕ). IsOnward (g.N.CodeNet.net c.args.net.now) search.marks.items x to) e on;
    }

pub settle-requires : goal.settle-requires
settle-requires g c =
    let search = c.args.search.now in
    let e : c.end-exchange.result ≡ end_of search.start search.steps.items = c.end-exchange.ensures ∙ ap (end_of search.start) c.deref.ensures.value in
    let tried = subst (λ (l : List Mark). IsTried (g.N.CodeNet.net c.args.net.now) l c.end-exchange.result c.look_on.new.tried) c.deref-2.ensures.value c.look_on.ensures.tried in
    let n = g.N.CodeNet.net c.args.net.now in
    record {
      net = g.met.N.CodeNet.is_net c.args.net.now;
      marked = c.requires.marked;
      hand = c.requires.hand;
      tried = record { lists = c.requires.tried.lists; list = subst (λ (x : ℕ). IsTried (g.N.CodeNet.net c.args.net.now) search.marks.items x c.look_on.new.tried) e tried };
      end = c.end-exchange.ensures ∙ ap (end_of c.args.search.now.start) c.deref.ensures.value;
      top = subst (λ (l : List Mark). IsTop n l c.end-exchange.result (n.list c.end-exchange.result) c.in-Settled.top) c.deref-2.ensures.value c.in-Settled.ensures.look;
    }

pub returns-in-Onward-clause-start : goal.returns-in-Onward-clause-start
returns-in-Onward-clause-start g c = c.go_on.ensures.start

pub returns-in-Onward-clause-ok : goal.returns-in-Onward-clause-ok
returns-in-Onward-clause-ok g c = c.go_on.ensures.ok

pub returns-in-Onward-clause-tried : goal.returns-in-Onward-clause-tried
returns-in-Onward-clause-tried g c = c.go_on.ensures.tried

pub returns-in-Settled-clause-start : goal.returns-in-Settled-clause-start
returns-in-Settled-clause-start g c = c.settle.ensures.start

pub returns-in-Settled-clause-ok : goal.returns-in-Settled-clause-ok
returns-in-Settled-clause-ok g c = c.settle.ensures.ok

pub returns-in-Settled-clause-tried : goal.returns-in-Settled-clause-tried
returns-in-Settled-clause-tried g c = c.settle.ensures.tried
