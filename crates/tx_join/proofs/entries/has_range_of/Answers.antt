use Rattle.tx_join.proofs.Common.{◌≡◌, ℕ, suc, ◌+◌, ◌<◌, Bool, true, false, ◌||◌, List, [], ◌∷◌, length, take, drop, sym, ap, ◌∙◌, arith, slice_get, list_any, option_map_or, take-append-drop, list_any-append, entry_at, take_next, is_range_of}
use Rattle.tx_join.proofs.Found.{drop_next}
use Rattle.tx_join.proofs.entries.has_range_of.Goals as goal

-- the entry at an index is the first that passes, or fails too
module _ {A : Type 0} (t : A → Bool) (xs : List A) (i : ℕ) (b : Bool) (l : i < length xs) (none : list_any t (take i xs) ≡ false) (is : b ≡ option_map_or t (slice_get xs i) false) where
  here : t (entry_at xs i l).0 ≡ b
  here = ap (λ o. option_map_or t o false) (sym (entry_at xs i l).1) ∙ sym is

  one_more : b ≡ false → list_any t (take (i + 1) xs) ≡ false
  one_more e =
      let x = entry_at xs i l in
      let h : t x.0 ≡ false = here ∙ e in
      ap (list_any t) (take_next xs i x.0 x.1) ∙ list_any-append t (take i xs) (x.0 ∷ []) ∙ (λ j. none j || (h j || false))

  any_here : b ≡ true → list_any t xs ≡ true
  any_here e =
      let x = entry_at xs i l in
      let h : t x.0 ≡ true = here ∙ e in
      ap (list_any t) (sym (take-append-drop i xs)) ∙ list_any-append t (take i xs) (drop i xs)
      ∙ ap (λ ys. list_any t (take i xs) || list_any t ys) (drop_next xs i x.0 x.1) ∙ (λ j. none j || (h j || list_any t (drop (suc i) xs)))

pub returns-then-is_range_at : goal.returns-then-is_range_at
returns-then-is_range_at g c =
    let p = c.args.plan.now in
    let t = c.loop-index-test.true in
    let n = c.ranges-index-end.ensures.count in
    sym (any_here (is_range_of c.args.code c.args.low.now c.args.high.now) p.ranges c.loop-index.index c.is_range_at.result (omega arith) c.loop-index.invariant c.is_range_at.ensures c.if-is_range_at.true)

pub loop-index-preserved : goal.loop-index-preserved
loop-index-preserved g c =
    let p = c.args.plan.now in
    let t = c.loop-index-test.true in
    let n = c.ranges-index-end.ensures.count in
    one_more (is_range_of c.args.code c.args.low.now c.args.high.now) p.ranges c.loop-index.index c.is_range_at.result (omega arith) c.loop-index.invariant c.is_range_at.ensures c.if-is_range_at.false
