use Rattle.tx_risk.proofs.Common.{◌≡◌, ◌∷◌, ◌∙◌, ℕ, Bool, List, [], ◌++◌, sym, ap, length, is_some, filter, Vec, vec_len, vec_capacity, arith, range_with_len, ranks_of}
use Rattle.tx_risk.proofs.Kept.{kept_more, passed_more}
use Rattle.tx_risk.proofs.orders.ranked.Goals as goal
use Rattle.tx_risk.proofs.orders.ranked.Goals.{then-is_some, else-is_some}

pub loop-index-init : goal.loop-index-init
loop-index-init g c = record {
  few = let e = c.in_ok-ranked.ensures.len in omega arith;
  room = let q = c.in_ok-ranked.ensures.capacity in let e = c.exchanges.ensures.count in omega arith;
  so_far = c.in_ok-ranked.ensures.items;
}

pub push_reserved-requires : goal.push_reserved-requires
push_reserved-requires g c =
    let i = c.loop-index.invariant in
    let few = i.few in
    let room = i.room in
    let t = c.loop-index-test.true in
    let a = c.loop-index.auto.index-end in
    let e = c.exchanges-index-end.ensures.count in
    omega arith

pub loop-index-preserved : goal.loop-index-preserved
loop-index-preserved g c =
    let t : ℕ → Bool = λ x. is_some (ranks_of c.args.ranks.now c.args.code x) in
    let i = c.loop-index.invariant in
    let k = c.loop-index.index in
    let is : c.is_some.result ≡ t k = c.is_some.ensures ∙ ap is_some c.rank.ensures.rank ∙ ap t c.of-exchange.ensures in
    elim c.if-is_some.branch [
      | then-is_some w ↦ (let same = w.ranked-is in let p = w.push_reserved.ensures in record {
        few = let l = ap vec_len same in let n = p.len in let few = i.few in omega arith;
        room = let l = ap vec_capacity same in let n = p.capacity in let room = i.room in omega arith;
        so_far = ap (λ (v : Vec _ _). v.items) same ∙ p.items ∙ ap (λ (l : List ℕ). l ++ c.of-exchange.result ∷ []) i.so_far ∙ ap (λ (n : ℕ). filter t (range_with_len 0 k) ++ n ∷ []) c.of-exchange.ensures ∙ sym (kept_more t k (sym is ∙ w.if-is_some.true));
      })
      | else-is_some w ↦ (let same = w.ranked-is in record {
        few = let l = ap vec_len same in let few = i.few in omega arith;
        room = let l = ap vec_capacity same in let room = i.room in omega arith;
        so_far = ap (λ (v : Vec _ _). v.items) same ∙ i.so_far ∙ sym (passed_more t k (sym is ∙ w.if-is_some.false));
      })
    ]

pub returns-clause-ranked : goal.returns-clause-ranked
returns-clause-ranked g c =
    let all : c.loop-index.index ≡ length c.args.plan.now.exchanges =
    let t = c.loop-index-test.false in let a = c.loop-index.auto.index-end in
    let e = c.exchanges-index-end.ensures.count in omega arith in
    c.loop-index.invariant.so_far ∙ ap (λ (n : ℕ). filter (λ x. is_some (ranks_of c.args.ranks.now c.args.code x)) (range_with_len 0 n)) all
