-- The lines of exchanges, codes, ranges and groups declare them.
use Rattle.std.proofs.Common.{◌≡◌, ◌≢◌, ◌⊎◌, ℕ, ◌<◌, ◌==◌, Bool, true, false, ◌&&◌, List, [], ◌∷◌, ◌++◌, length, Option, Some, unwrap_or, codes, refl, sym, ap, ◌∙◌, subst, arith, inl, inr}
use Rattle.tx_plantext.proofs.Common.{AllByRecursion, list_any, decimal, bytes_eq, is_name, Direction, exchange_words, code_words, range_words, group_words, direction_word, bytes_apart, exchange_back, exchange_is_name, code_back, figures_are_code}
use Rattle.std.proofs.lemmas.Bool.{and_from, and_left, and_right, or_from, not_from_true, le-leb, lt-leb, ne_eqb, eq-eqb, cases_eq}
use Rattle.tx_text.proofs.WrittenWords.{IsShortWord, name_word, figures_word, number_word, number_back, line_of_short, fixed_word}
use Rattle.tx_plan.specs.declared.ids.Direction.TheVariants.{OneWay, BothWay}
use Rattle.tx_plan.specs.declared.range.LineRange.{LineRange}
use Rattle.tx_plan.specs.Plan.{Plan, Code, Group, exchange_named, code_named, exchange_name, figures_of}
use Rattle.tx_plan.specs.Lines.{at_most}
use Rattle.tx_plan.specs.Rules.{IsPlan, EachPair, IsCode, IsRange, IsGroup, AreSeparate}
use Rattle.tx_plan.specs.Declaring.{exchange_refusals, code_refusals, lines_refusals, group_refusals, has_exchange, has_code, has_group, shares, overlaps, is_ordered}
use Rattle.tx_plantext.specs.PlanText.{declare, direction_of, count_of, group_by}
use Rattle.tx_plantext.proofs.Indexes.{all_between, apart_front, all_weaker, none_passes, length_front}
use Rattle.tx_plantext.proofs.ListLines.{IsLineOf, none_true, unless-none}

-- the word for a direction says it
pub direction_back : (d : Direction) → direction_of (direction_word d) ≡ Some d
direction_back OneWay = refl
direction_back BothWay = refl

module _ (v : ℕ) (p : Plan) (h : IsPlan p) where
  -- ---- what was declared before the next line of each kind
  abbrev pub exchanges_so_far : List (List ℕ) → Plan
  exchanges_so_far xs = record { exchanges = xs; codes = []; ranges = []; groups = []; routes = []; bars = [] }

  abbrev pub codes_so_far : List Code → Plan
  codes_so_far xs = record { exchanges = p.exchanges; codes = xs; ranges = []; groups = []; routes = []; bars = [] }

  abbrev pub ranges_so_far : List LineRange → Plan
  ranges_so_far xs = record { exchanges = p.exchanges; codes = p.codes; ranges = xs; groups = []; routes = []; bars = [] }

  abbrev pub groups_so_far : List Group → Plan
  groups_so_far xs = record { exchanges = p.exchanges; codes = p.codes; ranges = p.ranges; groups = xs; routes = []; bars = [] }

  -- ---- EXCHANGE
  exchange_new : (f : List (List ℕ)) (x : List ℕ) (b : List (List ℕ)) → f ++ x ∷ b ≡ p.exchanges → has_exchange (exchanges_so_far f) x ≡ false
  exchange_new f x b e =
      none_passes (bytes_eq x) f (all_weaker (λ y. y ≢ x) (λ y. bytes_eq x y ≡ false) (λ y k. bytes_apart x y (λ q. k (sym q))) f
      (apart_front (λ y z. y ≢ z) f x b (subst (EachPair (λ y z. y ≢ z)) (sym e) h.exchanges_differ)))

  pub exchange_declared : (f : List (List ℕ)) (x : List ℕ) (b : List (List ℕ)) → f ++ x ∷ b ≡ p.exchanges → IsLineOf declare v exchanges_so_far exchange_words f x
  unfolding declare
  exchange_declared f x b e =
      let n = all_between (λ y. is_name y ≡ true) f x b (subst (AllByRecursion (λ y. is_name y ≡ true)) (sym e) h.exchanges) in
      let s = length_front f x b in
      let l = ap length e in
      let k = h.few_exchanges in
      record {
        adds = unless-none _ _ _ (none_true (exchange_refusals (exchanges_so_far f) x) (not_from_true _ n, (exchange_new f x b e, (lt-leb 256 (length f) (omega arith), tt)))) refl;
        no_end = refl;
        some = omega arith;
        written = line_of_short (exchange_words x) (fixed_word (codes "EXCHANGE") refl, (name_word x n, tt)) (omega arith);
      }

  -- ---- CODE
  code_new : (f : List Code) (x : Code) (b : List Code) → f ++ x ∷ b ≡ p.codes → has_code (codes_so_far f) x.figures ≡ false
  code_new f x b e =
      none_passes (λ c. bytes_eq x.figures c.figures) f (all_weaker (λ y. y.figures ≢ x.figures) (λ y. bytes_eq x.figures y.figures ≡ false) (λ y k. bytes_apart x.figures y.figures (λ q. k (sym q))) f
      (apart_front (λ y z. y.figures ≢ z.figures) f x b (subst (EachPair (λ (y z : Code). y.figures ≢ z.figures)) (sym e) h.codes_differ)))

  pub code_declared : (f : List Code) (x : Code) (b : List Code) → f ++ x ∷ b ≡ p.codes → IsLineOf declare v codes_so_far (code_words p) f x
  unfolding declare
  code_declared f x b e =
      let n = all_between (IsCode p) f x b (subst (AllByRecursion (IsCode p)) (sym e) h.codes) in
      let home = exchange_back p h x.home n.home in
      let name = exchange_is_name p h x.home n.home in
      let there = home.there in
      let back = home.back in
      let s = length_front f x b in
      let l = ap length e in
      let k = h.few_codes in
      record {
        adds = unless-none _ _ _
            (none_true (code_refusals (codes_so_far f) x.figures (exchange_name p x.home))
            (not_from_true _ name, (not_from_true _ n.figures, (code_new f x b e, (not_from_true _ there, (lt-leb 1100 (length f) (omega arith), tt))))))
            (rw back refl);
        no_end = refl;
        some = omega arith;
        written = line_of_short (code_words p x) (fixed_word (codes "CODE") refl, (figures_word 2 3 x.figures (omega arith) (omega arith) n.figures, (name_word (exchange_name p x.home) name, tt))) (omega arith);
      }

  -- ---- LINES
  apart_shares : (q r : LineRange) → AreSeparate q r → shares r.code r.low r.high q ≡ false
  apart_shares q r k =
      let code = q.code == r.code in
      let width = length q.low == length r.low in
      let below = at_most q.low r.high in
      let above = at_most r.low q.high in
      elim (cases_eq q.code r.code) [
        | inr d ↦ and_left code (width && (below && above)) (ne_eqb q.code r.code d)
        | inl c ↦ elim (cases_eq (length q.low) (length r.low)) [
          | inr d ↦ and_right code (width && (below && above)) (and_left width (below && above) (ne_eqb (length q.low) (length r.low) d))
          | inl w ↦ and_right code (width && (below && above)) (and_right width (below && above) (one_fails below above (k c w)))
        ]
      ]
    where
      one_fails : (x y : Bool) → (y ≡ false) ⊎ (x ≡ false) → (x && y) ≡ false
      one_fails x y (inl z) = and_right x y z
      one_fails x y (inr z) = and_left x y z

  range_new : (f : List LineRange) (x : LineRange) (b : List LineRange) → f ++ x ∷ b ≡ p.ranges → list_any (shares x.code x.low x.high) f ≡ false
  range_new f x b e =
      none_passes (shares x.code x.low x.high) f (all_weaker (λ y. AreSeparate y x) (λ y. shares x.code x.low x.high y ≡ false) (λ y k. apart_shares y x k) f
      (apart_front AreSeparate f x b (subst (EachPair AreSeparate) (sym e) h.ranges_apart)))

  pub range_declared : (f : List LineRange) (x : LineRange) (b : List LineRange) → f ++ x ∷ b ≡ p.ranges → IsLineOf declare v ranges_so_far (range_words p) f x
  unfolding declare
  range_declared f x b e =
      let n = all_between (IsRange p) f x b (subst (AllByRecursion (IsRange p)) (sym e) h.ranges) in
      let code = code_back p h x.code n.code in
      let figures = figures_are_code p h x.code n.code in
      let there = code.there in
      let back = code.back in
      let s = length_front f x b in
      let l = ap length e in
      let k = h.few_ranges in
      let width = n.width in
      let ordered : is_ordered x.low x.high ≡ true = and_from _ _ (eq-eqb (length x.low) (length x.high) width) n.order in
      let free : overlaps (ranges_so_far f) (code_named p (figures_of p x.code)) x.low x.high ≡ false = rw back (range_new f x b e) in
      record {
        adds = unless-none _ _ _
            (none_true (lines_refusals (ranges_so_far f) (figures_of p x.code) x.low x.high)
            (not_from_true _ figures, (or_from _ _ (not_from_true _ n.low) (not_from_true _ n.high), (not_from_true _ there, (not_from_true _ ordered, (free, (lt-leb 4096 (length f) (omega arith), tt)))))))
            (rw back refl);
        no_end = refl;
        some = omega arith;
        written = line_of_short (range_words p x) (
          fixed_word (codes "LINES") refl,
          (
            figures_word 2 3 (figures_of p x.code) (omega arith) (omega arith) figures,
            (figures_word 1 9 x.low (omega arith) (omega arith) n.low, (figures_word 1 9 x.high (omega arith) (omega arith) n.high, tt)),
          ),
        ) (omega arith);
      }

  -- ---- GROUP
  group_new : (f : List Group) (x : Group) (b : List Group) → f ++ x ∷ b ≡ p.groups → has_group (groups_so_far f) x.name ≡ false
  group_new f x b e =
      none_passes (λ c. bytes_eq x.name c.name) f (all_weaker (λ y. y.name ≢ x.name) (λ y. bytes_eq x.name y.name ≡ false) (λ y k. bytes_apart x.name y.name (λ q. k (sym q))) f
      (apart_front (λ y z. y.name ≢ z.name) f x b (subst (EachPair (λ (y z : Group). y.name ≢ z.name)) (sym e) h.groups_differ)))

  -- exchanges at two indexes have two names
  ends_apart : (a b : ℕ) → a < length p.exchanges → b < length p.exchanges → a ≢ b → bytes_eq (exchange_name p a) (exchange_name p b) ≡ false
  ends_apart a b l k d =
      bytes_apart (exchange_name p a) (exchange_name p b) (λ e.
      let r = (exchange_back p h a l).back in
      let s = (exchange_back p h b k).back in
      let t = ap (exchange_named p) e in
      d (let z : a ≡ b = cc in z))

  direction_short : (d : Direction) → IsShortWord (direction_word d)
  direction_short OneWay = fixed_word (codes "ONEWAY") refl
  direction_short BothWay = fixed_word (codes "BOTHWAY") refl

  pub group_declared : (f : List Group) (x : Group) (b : List Group) → f ++ x ∷ b ≡ p.groups → IsLineOf declare v groups_so_far (group_words p) f x
  unfolding declare
  group_declared f x b e =
      let n = all_between (IsGroup p) f x b (subst (AllByRecursion (IsGroup p)) (sym e) h.groups) in
      let first = exchange_back p h x.a n.first in
      let second = exchange_back p h x.b n.second in
      let name_a = exchange_is_name p h x.a n.first in
      let name_b = exchange_is_name p h x.b n.second in
      let back_a = first.back in
      let back_b = second.back in
      let some = n.some in
      let few = n.few in
      let s = length_front f x b in
      let l = ap length e in
      let k = h.few_groups in
      let count : count_of (decimal x.count) ≡ x.count = ap (λ o. unwrap_or o 0) (number_back 240 x.count few (omega arith)) in
      let a = exchange_name p x.a in
      let b = exchange_name p x.b in
      record {
        adds = ap (λ (d : Option Direction). group_by (groups_so_far f) x.name a b d (count_of (decimal x.count))) (direction_back x.direction)
            ∙ ap (λ (m : ℕ). group_by (groups_so_far f) x.name a b (Some x.direction) m) count
            ∙ unless-none _ _ _
            (none_true (group_refusals (groups_so_far f) x.name a b x.count) (
              or_from _ _ (not_from_true _ n.name) (or_from _ _ (not_from_true _ name_a) (not_from_true _ name_b)),
              (
                not_from_true _ (and_from _ _ (le-leb 1 x.count some) (le-leb x.count 240 few)),
                (
                  group_new f x _ e,
                  (or_from _ _ (not_from_true _ first.there) (not_from_true _ second.there), (ends_apart x.a x.b n.first n.second n.ends_differ, (lt-leb 4096 (length f) (omega arith), tt))),
                ),
              ),
            ))
            (rw (back_a, back_b) refl);
        no_end = refl;
        some = omega arith;
        written = line_of_short (group_words p x)
            (fixed_word (codes "GROUP") refl, (name_word x.name n.name, (name_word a name_a, (name_word b name_b, (direction_short x.direction, (number_word x.count (omega (arith, few)), tt)))))) (omega arith);
      }
