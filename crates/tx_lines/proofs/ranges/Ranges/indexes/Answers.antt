use Rattle.tx_lines.proofs.Common.{◌≡◌, ◌≤◌, ◌+◌, ◌<◌, List, length, get_or, ap, sym, ◌∙◌, subst, arith, LineRange, IsFirst}
use Rattle.std.proofs.lemmas.List.{get_or_default}
use Rattle.tx_lines.proofs.ByCode.{firsts_rise}
use Rattle.tx_lines.proofs.ranges.Ranges.indexes.Goals as goal

pub returns-then-index-len : goal.returns-then-index-len
returns-then-index-len g c =
    let items = c.self.inside.firsts.items in
    let h : c.args.code + 1 < length items = omega arith in
    let l : c.args.code < length items = omega arith in
    let f : c.index.result.now ≡ get_or items c.args.code 0 = c.index.ensures ∙ ap (λ k. get_or items k c.index.result.now) c.index-index.ensures ∙ get_or_default items c.args.code c.index.result.now 0 l in
    let a : IsFirst c.self.inside.ranges.items c.args.code c.index.result.now = subst (λ x. IsFirst c.self.inside.ranges.items c.args.code x) (sym f) (c.self.invariant.1 c.args.code l) in
    let e : c.index-then-index-len.result.now ≡ get_or items (c.args.code + 1) 0 = c.index-then-index-len.ensures ∙ ap (λ k. get_or items (k + 1) c.index-then-index-len.result.now) c.index-index.ensures ∙ get_or_default items (c.args.code + 1) c.index-then-index-len.result.now 0 h in
    let b : IsFirst c.self.inside.ranges.items (c.args.code + 1) c.index-then-index-len.result.now = subst (λ x. IsFirst c.self.inside.ranges.items (c.args.code + 1) x) (sym e) (c.self.invariant.1 (c.args.code + 1) h) in
    let q = subst (λ (x : List LineRange). IsFirst x (c.args.code + 1) c.index-then-index-len.result.now) c.self.view_is b in
    record {
      order = firsts_rise c.self.inside.ranges.items c.args.code c.index.result.now c.index-then-index-len.result.now a b;
      within = subst (λ (x : List LineRange). c.index-then-index-len.result.now ≤ length x) c.self.view_is b.within;
      before = (subst (λ (x : List LineRange). IsFirst x c.args.code c.index.result.now) c.self.view_is a).point.0;
      behind = λ k d l m. (let p = q.point.1 k d l m in omega arith);
    }
