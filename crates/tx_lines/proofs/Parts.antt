-- The ranges that start by a number, counted among those of a part.
use Rattle.std.proofs.Common.{◌≡◌, ℕ, ◌+◌, ◌-◌, ◌<◌, ◌≤◌, true, false, List, length, get_or, drop, inl, inr, ap, sym, ◌∙◌, arith}
use Rattle.std.proofs.lemmas.Bool.{cases_lt}
use Rattle.std.proofs.lemmas.List.{get_or-drop, get_or-take, length-drop, length-take-le}
use Rattle.std.specs.List.{AllWithin, slice_range}
use Rattle.tx_lines.proofs.Common.{IsPartitionedBy, IsPartitionPoint, LineRange}
use Rattle.tx_lines.specs.inner.Ordered.{IsInOrder, IsStart}
use Rattle.tx_lines.proofs.Order.{partitioned, starts_by}
use Rattle.tx_lines.proofs.ByCode.{below_first, above_first}

module _ (ranges : List LineRange) (ordered : IsInOrder ranges) (code : ℕ) (number : List ℕ) (first end : ℕ) (rising : first ≤ end) (within : end ≤ length ranges) where
  abbrev own : List LineRange
  own = slice_range ranges first end

  pub own_length : length own ≡ end - first
  own_length = (let n = length-drop first ranges in length-take-le (end - first) (drop first ranges) (omega arith))

  own_at : (j : ℕ) (d : LineRange) → j < length own → get_or own j d ≡ get_or ranges (first + j) d
  own_at j d l = (let n = own_length in get_or-take (end - first) (drop first ranges) j d (omega arith) ∙ get_or-drop first ranges j d)

  -- those of the part that start by the number come first
  pub own_partitioned : IsPartitionedBy (starts_by ranges ordered code number) own
  own_partitioned i j d l h p =
      let n = own_length in
      let starts = starts_by ranges ordered code number in
      ap starts (own_at i d (omega arith))
      ∙ partitioned ranges ordered code number (first + i) (first + j) d (omega arith) (omega arith) (sym (ap starts (own_at j d h)) ∙ p)

  pub counted : (n : ℕ) → n ≤ length own → AllWithin (λ r. r.code < code) ranges 0 first → AllWithin (λ r. code < r.code) ranges end (length ranges)
      → IsPartitionPoint (λ y. starts_by ranges ordered code number y ≡ true) (λ y. starts_by ranges ordered code number y ≡ false) own n → IsStart ranges code number (first + n)
  counted n few before behind point =
      let m = own_length in
      let starts = starts_by ranges ordered code number in
      record {
        within = omega arith;
        point = (
          λ j d l h. elim (cases_lt j first) [
            | inl b ↦ below_first _ code _ (before j d l b)
            | inr a ↦
                let k : first + (j - first) ≡ j = omega arith in
                ap (λ i. starts (get_or ranges i d)) (sym k) ∙ sym (ap starts (own_at (j - first) d (omega arith))) ∙ point.0 (j - first) d (omega arith) (omega arith)
          ],
          λ j d l h. elim (cases_lt j end) [
            | inl b ↦
                let k : first + (j - first) ≡ j = omega arith in
                ap (λ i. starts (get_or ranges i d)) (sym k) ∙ sym (ap starts (own_at (j - first) d (omega arith))) ∙ point.1 (j - first) d (omega arith) (omega arith)
            | inr a ↦ above_first _ code _ (behind j d a h)
          ],
        );
      }
