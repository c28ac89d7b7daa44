use Rattle.tx_lines.proofs.Common.{◌≡◌, ◌≤◌, ◌<◌, ◌++◌, ◌∷◌, [], List, length, take, sym, ap, ◌∙◌, subst, arith, rules, ranks_by, get_or_from_slice_get, IsPermutation, LineRange, key_cmp, start_of, IsInOrder, AreFirsts}
use Rattle.std.proofs.lemmas.List.{take_more, take_all, length-take-le}
use Rattle.tx_lines.proofs.Order.{keys_total}
use Rattle.tx_lines.proofs.Arranged.{arranged, sorted_from_clause}
use Rattle.tx_lines.proofs.ranges.Ranges.build.Goals as goal
use borrow.Author.Count.{falls}

pub loop-index-preserved : goal.loop-index-preserved
loop-index-preserved g c =
    let ranges = c.args.plan.now.ranges in
    let index = c.loop-index.index in
    let r = c.unwrap.result in
    let low : index < length ranges = (let e = c.ranges-index-end.ensures.count in omega arith) in
    record {
      items = c.push_reserved.ensures.items ∙ ap (λ l. l ++ r ∷ []) c.loop-index.invariant.items
          ∙ sym (take_more ranges index r low ∙ ap (λ x. take index ranges ++ x ∷ []) (get_or_from_slice_get ranges index r r (sym c.range_at.ensures ∙ c.unwrap.ensures)));
      room = (let h = c.loop-index.invariant.room in let k = c.push_reserved.ensures.capacity in omega arith);
    }

pub invariant_of-result : goal.invariant_of-result
invariant_of-result g c =
    let ranges = c.args.plan.now.ranges in
    let past : length ranges ≤ c.loop-index.index = (let e = c.ranges-index-end.ensures.count in omega arith) in
    let all : c.loop-index.ranges.items ≡ ranges = c.loop-index.invariant.items ∙ take_all c.loop-index.index ranges past in
    let P : List LineRange → Type 0 = λ l. IsPermutation l c.sort_unstable_by.new.self.items in (
      arranged c.args.plan.now c.ranges-index-end.ensures.rules c.sort_unstable_by.new.self.items (subst P all c.sort_unstable_by.ensures.permutation)
          (sorted_from_clause (λ r q. key_cmp (start_of r) (start_of q)) c.sort_unstable_by.new.self.items (ranks_by keys_total start_of) c.sort_unstable_by.ensures.sorted (λ a r q k. search rules)),
      subst (λ l. AreFirsts l c.in_ok-firsts.firsts.items) c.deref.ensures.value c.in_ok-firsts.ensures,
    )

pub firsts_of-requires-clause-order : goal.firsts_of-requires-clause-order
firsts_of-requires-clause-order g c =
    let ranges = c.args.plan.now.ranges in
    let past : length ranges ≤ c.loop-index.index = (let e = c.ranges-index-end.ensures.count in omega arith) in
    let all : c.loop-index.ranges.items ≡ ranges = c.loop-index.invariant.items ∙ take_all c.loop-index.index ranges past in
    let P : List LineRange → Type 0 = λ l. IsPermutation l c.sort_unstable_by.new.self.items in
    subst IsInOrder (sym c.deref.ensures.value) (arranged c.args.plan.now c.ranges-index-end.ensures.rules c.sort_unstable_by.new.self.items (subst P all c.sort_unstable_by.ensures.permutation)
    (sorted_from_clause (λ r q. key_cmp (start_of r) (start_of q)) c.sort_unstable_by.new.self.items (ranks_by keys_total start_of) c.sort_unstable_by.ensures.sorted (λ a r q k. search rules)))

pub loop-index-init : goal.loop-index-init
loop-index-init g c = record { items = c.in_ok-ranges.ensures.items; room = (let k = c.in_ok-ranges.ensures.capacity in omega arith) }

pub push_reserved-requires : goal.push_reserved-requires
push_reserved-requires g c =
    let ranges = c.loop-index.ranges in
    let n : length c.args.plan.now.ranges ≡ c.ranges-index-end.result = sym c.ranges-index-end.ensures.count in
    let len : ranges.len ≡ length (take c.loop-index.index c.args.plan.now.ranges) = ranges.ok.0 ∙ ap length c.loop-index.invariant.items in
    let low = length-take-le c.loop-index.index c.args.plan.now.ranges (omega arith) in
    let room = c.loop-index.invariant.room in
    omega arith

pub loop-index-smaller : goal.loop-index-smaller
loop-index-smaller g c = falls c.ranges-index-end.result c.loop-index.index c.loop-index-test.true

pub returns : goal.returns
returns g c =
    let ranges = c.args.plan.now.ranges in
    let past : length ranges ≤ c.loop-index.index = (let e = c.ranges-index-end.ensures.count in omega arith) in
    let all : c.loop-index.ranges.items ≡ ranges = c.loop-index.invariant.items ∙ take_all c.loop-index.index ranges past in
    let P : List LineRange → Type 0 = λ l. IsPermutation l c.sort_unstable_by.new.self.items in
    subst P all c.sort_unstable_by.ensures.permutation
