-- Warnings that are found one after another.
use Rattle.tx_lint.proofs.Common.{◌≡◌, ℕ, ◌+◌, ◌<◌, ◌≤◌, Bool, true, false, List, [], ◌∷◌, ◌++◌, map, filter, take, length, Option, Some, None, refl, ap, sym, subst, ◌∙◌, append-nil, arith, option_map, option_map_or, flat_map, range_with_len, list_any, IsPlan, route_list, entry_at, list_found, NamedRisk, Entry, Warning}
use Rattle.std.specs.Prelude.{◌||◌, ◌&&◌, ◌==◌, not, nat_lt, if◌then◌else◌, is_some, slice_get}
use Rattle.std.specs.Cmp.Lexicographic.{pointwise}
use Rattle.std.proofs.lemmas.List.{map-append, map-id, append_assoc, take_all}
use Rattle.std.proofs.lemmas.List.Folds.{list_any_at, list_any_more}
use Rattle.std.proofs.lemmas.List.FromFn.{filter_of_map_range_with_len_more}
use Rattle.std.proofs.lemmas.Option.{slice_get_within, get_or_from_slice_get}
use Rattle.tx_plan.specs.Circuits.{ends_of}
use Rattle.tx_plan.specs.Plan.{Plan, Group, Route}
use Rattle.tx_plan.specs.Codes.{after, is_prefix}
use Rattle.tx_text.proofs.Ranges.{flat_map-range_more}
use Rattle.tx_lint.specs.declared.warning.Warning.TheVariants.{NoLines, UnusedList, NoList, Ambiguous, SharedRisk, Unlisted, NoGroup}
use Rattle.tx_lint.specs.Warnings.{Coming, wants_list, begins, is_unlisted, lie_in, is_mute, is_idle, is_alone, codes_where, warned_once, warned_if, exchange_warnings, code_warnings, list_warnings, entry_warnings}

-- the warnings of an entry, with its line
abbrev pub told_of : Plan → List NamedRisk → Coming → ℕ × Entry → List (ℕ × Warning)
told_of p risks comes e = map (λ w. (e.0, w)) (entry_warnings p risks comes e.1)

-- that the exchange x has no list for a code
abbrev pub missing_list : Plan → (x c : ℕ) → List Warning
missing_list p x c = warned_if (wants_list p x c) (NoList c)

-- that a shorter code begins the code c
abbrev pub ambiguous_with : Plan → (c d : ℕ) → List Warning
ambiguous_with p c d = warned_if (begins p d c) (Ambiguous d)

-- that all groups go with a risk
abbrev pub shared_by : Plan → List NamedRisk → List ℕ → (k : ℕ) → List Warning
shared_by p risks groups k = warned_if (lie_in p risks k groups) (SharedRisk k)

-- those of one code more
pub next_code : (line i : ℕ) (f : ℕ → List Warning) (a b c : List (ℕ × Warning))
    → b ≡ a ++ map (λ w. (line, w)) (flat_map f (range_with_len 0 i))
    → c ≡ b ++ map (λ w. (line, w)) (f i)
    → c ≡ a ++ map (λ w. (line, w)) (flat_map f (range_with_len 0 (i + 1)))
next_code line i f a b c before more =
    let with_line : Warning → ℕ × Warning = λ w. (line, w) in
    let front = flat_map f (range_with_len 0 i) in
    more ∙ ap (λ l. l ++ map with_line (f i)) before
    ∙ append_assoc a (map with_line front) (map with_line (f i))
    ∙ ap (λ l. a ++ l) (sym (map-append with_line front (f i)))
    ∙ ap (λ l. a ++ map with_line l) (sym (flat_map-range_more f i))

-- those of one list after another
pub both_told : (line : ℕ) (f g : List Warning) (a b c : List (ℕ × Warning))
    → b ≡ a ++ map (λ w. (line, w)) f → c ≡ b ++ map (λ w. (line, w)) g
    → c ≡ a ++ map (λ w. (line, w)) (f ++ g)
both_told line f g a b c before more =
    let with_line : Warning → ℕ × Warning = λ w. (line, w) in
    more ∙ ap (λ l. l ++ map with_line g) before
    ∙ append_assoc a (map with_line f) (map with_line g)
    ∙ ap (λ l. a ++ l) (sym (map-append with_line f g))

-- ---- a code that begins another

pub prefix-pointwise : (a b : List ℕ)
    → pointwise (λ x y. x == y) a (take (length a) b) ≡ is_prefix a b
prefix-pointwise [] b = refl
prefix-pointwise (x ∷ a) [] = refl
prefix-pointwise (x ∷ a) (y ∷ b) =
    elim (x == y) as (λ t. (t && pointwise (λ x y. x == y) a (take (length a) b))
    ≡ is_some (if t then after a b else None)) [
      | true ↦ prefix-pointwise a b
      | false ↦ refl
    ]

-- ---- the lines of a code

pub any_there : {X : Type 0} (test : X → Bool) (xs : List X) (i : ℕ) (x : X) → slice_get xs i ≡ Some x
    → test x ≡ true → true ≡ list_any test xs
any_there test xs i x at passes =
    let low = slice_get_within xs i x at in
    sym (list_any_at test xs i x low (ap test (get_or_from_slice_get xs i x x at) ∙ passes))

pub none_more : {X : Type 0} (test : X → Bool) (xs : List X) (i : ℕ) (x : X) → slice_get xs i ≡ Some x
    → test x ≡ false → list_any test (take i xs) ≡ false → list_any test (take (i + 1) xs) ≡ false
none_more test xs i x at fails before =
    list_any_more test xs i x (slice_get_within xs i x at)
    ∙ (λ j. before j || (ap test (get_or_from_slice_get xs i x x at) ∙ fails) j)

-- ---- a code that may begin the code c, and a risk that may have all groups of a list

pub ambiguous_is : (p : Plan) (c i d : ℕ) (begun : Bool) → begun ≡ begins p d c → d ≡ i
    → warned_if begun (Ambiguous d) ≡ ambiguous_with p c i
ambiguous_is p c i d begun is same =
    λ j. warned_if ((is ∙ ap (λ k. begins p k c) same) j) (Ambiguous (same j))

-- ---- a code for which the exchange may want a list

pub missing_is : (p : Plan) (x i c : ℕ) (wanting : Bool) → wanting ≡ wants_list p x c → c ≡ i
    → warned_if wanting (NoList c) ≡ missing_list p x i
missing_is p x i c wanting is same = λ j. warned_if ((is ∙ ap (wants_list p x) same) j) (NoList (same j))

-- ---- all warnings of a code

pub code_told : (p : Plan) (c line : ℕ) (unlisted : Bool) (a b d : List (ℕ × Warning))
    → unlisted ≡ is_unlisted p c
    → b ≡ a ++ map (λ w. (line, w))
    (flat_map (ambiguous_with p c) (range_with_len 0 (length p.codes)))
    → d ≡ b ++ map (λ w. (line, w)) (warned_if unlisted (Unlisted c))
    → d ≡ a ++ map (λ w. (line, w)) (code_warnings p c)
code_told p c line unlisted a b d none f g =
    let with_line : Warning → ℕ × Warning = λ w. (line, w) in
    let ambiguous = flat_map (ambiguous_with p c) (range_with_len 0 (length p.codes)) in
    both_told line ambiguous (warned_if (is_unlisted p c) (Unlisted c)) a b d f
    (g ∙ ap (λ t. b ++ map with_line (warned_if t (Unlisted c))) none)

-- ---- all warnings of an exchange

-- one code more may be of those for which a test holds
pub where_more : (test : ℕ → Bool) (i : ℕ)
    → filter test (range_with_len 0 (i + 1))
    ≡ filter test (range_with_len 0 i) ++ (if test i then i ∷ [] else [])
where_more test i =
    ap (filter test) (sym (map-id (range_with_len 0 (i + 1))))
    ∙ filter_of_map_range_with_len_more test (λ c. c) 0 i i (omega arith)
    ∙ ap (λ l. filter test l ++ (if test i then i ∷ [] else [])) (map-id (range_with_len 0 i))

-- one code more was looked at
pub next_where : (test : ℕ → Bool) (i c : ℕ) (reason : Bool) (a b : List ℕ)
    → a ≡ filter test (range_with_len 0 i) → reason ≡ test c → c ≡ i
    → b ≡ a ++ (if reason then c ∷ [] else []) → b ≡ filter test (range_with_len 0 (i + 1))
next_where test i c reason a b before is same more =
    more ∙ (λ j. before j ++ (if (is ∙ ap test same) j then same j ∷ [] else []))
    ∙ sym (where_more test i)

pub exchange_told : (p : Plan) (comes : Coming) (x line : ℕ) (mute idle : List Warning)
    (alone : Bool) (a b d e f : List (ℕ × Warning))
    → mute ≡ warned_once NoLines (codes_where p (is_mute p x))
    → idle ≡ warned_once UnusedList (codes_where p (is_idle p comes x))
    → alone ≡ is_alone p x
    → b ≡ a ++ map (λ w. (line, w)) mute
    → d ≡ b ++ map (λ w. (line, w)) idle
    → e ≡ d ++ map (λ w. (line, w))
    (flat_map (missing_list p x) (range_with_len 0 (length p.codes)))
    → f ≡ e ++ map (λ w. (line, w)) (warned_if alone (NoGroup x))
    → f ≡ a ++ map (λ w. (line, w)) (exchange_warnings p comes x)
exchange_told p comes x line mute idle alone a b d e f m i l h k n o =
    let missing = flat_map (missing_list p x) (range_with_len 0 (length p.codes)) in
    let none = warned_if (is_alone p x) (NoGroup x) in
    let all : f ≡ a ++ map (λ w. (line, w)) (mute ++ (idle ++ (missing ++ none))) =
    both_told line mute (idle ++ (missing ++ none)) a b f h
    (both_told line idle (missing ++ none) b d f k
    (both_told line missing none d e f n
    (o ∙ ap (λ t. e ++ map (λ (w : Warning). (line, w)) (warned_if t (NoGroup x))) l))) in
    all ∙ (λ j. a ++ map (λ (w : Warning). (line, w)) (m j ++ (i j ++ (missing ++ none))))

abbrev pub has_end : (x : ℕ) → Group → Bool
has_end x g = (g.a == x) || (g.b == x)

-- the ends of the group at an index
group_there : (p : Plan) (i : ℕ) → i < length p.groups
    → (g : Group) × (slice_get p.groups i ≡ Some g) × (ends_of p i ≡ (g.a, g.b))
group_there p i low =
    let e = entry_at p.groups i low in
    (e.0, e.1, ap (λ o. option_map_or (λ (r : Group). (r.a, r.b)) o (0, 0)) e.1)

-- one has
pub alone_there : (p : Plan) (i x : ℕ) (has : Bool) → i < length p.groups
    → has ≡ (((ends_of p i).0 == x) || ((ends_of p i).1 == x)) → has ≡ true → false ≡ is_alone p x
alone_there p i x has low is true-is =
    let there = group_there p i low in
    let passes : has_end x there.0 ≡ true =
    ap (λ (k : ℕ × ℕ). (k.0 == x) || (k.1 == x)) (sym there.2) ∙ sym is ∙ true-is in
    ap (λ b. not b && nat_lt 1 (length p.exchanges))
    (any_there (has_end x) p.groups i there.0 there.1 passes)

-- one more has not
pub alone_more : (p : Plan) (i x : ℕ) (has : Bool) → i < length p.groups
    → has ≡ (((ends_of p i).0 == x) || ((ends_of p i).1 == x)) → has ≡ false
    → list_any (has_end x) (take i p.groups) ≡ false
    → list_any (has_end x) (take (i + 1) p.groups) ≡ false
alone_more p i x has low is false-is before =
    let there = group_there p i low in
    let fails : has_end x there.0 ≡ false =
    ap (λ (k : ℕ × ℕ). (k.0 == x) || (k.1 == x)) (sym there.2) ∙ sym is ∙ false-is in
    none_more (has_end x) p.groups i there.0 there.1 fails before

-- none has
pub alone_all : (p : Plan) (i x : ℕ) (more : Bool) → length p.groups ≤ i
    → list_any (has_end x) (take i p.groups) ≡ false
    → more ≡ nat_lt 1 (length p.exchanges) → more ≡ is_alone p x
alone_all p i x more all none is =
    is ∙ ap (λ b. not b && nat_lt 1 (length p.exchanges)) (sym none)
    ∙ ap (λ gs. not (list_any (has_end x) gs) && nat_lt 1 (length p.exchanges))
    (take_all i p.groups all)

-- ---- a route, by its pair

abbrev pub pair_of : Route → ℕ × ℕ
pair_of r = (r.exchange, r.code)

pub route_of_pair : (p : Plan) (i : ℕ) (k : ℕ × ℕ)
    → Some k ≡ option_map pair_of (slice_get p.routes i)
    → (r : Route) × (slice_get p.routes i ≡ Some r) × (k ≡ (r.exchange, r.code))
route_of_pair p i k got = by (slice_get p.routes i) refl got
  where
    by : (o : Option Route) → slice_get p.routes i ≡ o
        → Some k ≡ option_map pair_of o
        → (r : Route) × (slice_get p.routes i ≡ Some r) × (k ≡ (r.exchange, r.code))
    by None e h = absurd (let bad : ⊥ = cc in bad)
    by (Some r) e h = (r, e, (let same : k ≡ (r.exchange, r.code) = cc in same))

-- a list for the code
pub listed_there : (p : Plan) (i c : ℕ) (k : ℕ × ℕ)
    → Some k ≡ option_map pair_of (slice_get p.routes i)
    → (k.1 == c) ≡ true → false ≡ is_unlisted p c
listed_there p i c k got same =
    let there = route_of_pair p i k got in
    let passes : (there.0.code == c) ≡ true = ap (λ q. q.1 == c) (sym there.2) ∙ same in
    ap (λ b. not b && nat_lt 1 (length p.exchanges))
    (any_there (λ (r : Route). r.code == c) p.routes i there.0 there.1 passes)

-- none so far
pub unlisted_more : (p : Plan) (i c : ℕ) (k : ℕ × ℕ)
    → Some k ≡ option_map pair_of (slice_get p.routes i)
    → (k.1 == c) ≡ false → list_any (λ (r : Route). r.code == c) (take i p.routes) ≡ false
    → list_any (λ (r : Route). r.code == c) (take (i + 1) p.routes) ≡ false
unlisted_more p i c k got other before =
    let there = route_of_pair p i k got in
    let fails : (there.0.code == c) ≡ false = ap (λ q. q.1 == c) (sym there.2) ∙ other in
    none_more (λ (r : Route). r.code == c) p.routes i there.0 there.1 fails before

-- none at all
pub unlisted_all : (p : Plan) (i c : ℕ) (more : Bool) → length p.routes ≤ i
    → list_any (λ (r : Route). r.code == c) (take i p.routes) ≡ false
    → more ≡ nat_lt 1 (length p.exchanges) → more ≡ is_unlisted p c
unlisted_all p i c more all none is =
    is ∙ ap (λ b. not b && nat_lt 1 (length p.exchanges)) (sym none)
    ∙ ap (λ rs. not (list_any (λ (r : Route). r.code == c) rs) && nat_lt 1 (length p.exchanges))
    (take_all i p.routes all)

-- ---- all warnings of a list

pub list_told : (p : Plan) (risks : List NamedRisk) (i line : ℕ) (k : ℕ × ℕ)
    (groups : List ℕ) (a b : List (ℕ × Warning)) → IsPlan p
    → Some k ≡ option_map pair_of (slice_get p.routes i)
    → groups ≡ route_list p k.0 k.1
    → b ≡ a ++ map (λ w. (line, w))
    (flat_map (shared_by p risks groups) (range_with_len 0 (length risks)))
    → b ≡ a ++ map (λ w. (line, w))
    (option_map_or (list_warnings p risks) (slice_get p.routes i) [])
list_told p risks i line k groups a b ok got list f =
    let with_line : Warning → ℕ × Warning = λ w. (line, w) in
    let there = route_of_pair p i k got in
    let r = there.0 in
    let key = there.2 in
    let same : route_list p k.0 k.1 ≡ r.groups =
    (λ j. route_list p (key j).0 (key j).1) ∙ list_found p i r ok there.1 in
    let shared : List ℕ → List Warning =
    λ gs. flat_map (shared_by p risks gs) (range_with_len 0 (length risks)) in
    subst (λ o. b ≡ a ++ map with_line (option_map_or (list_warnings p risks) o []))
    (sym there.1)
    (f ∙ ap (λ gs. a ++ map with_line (shared gs)) (list ∙ same))

-- an index without a route
pub none_told : (p : Plan) (risks : List NamedRisk) (i line : ℕ)
    (a : List (ℕ × Warning))
    → None ≡ option_map pair_of (slice_get p.routes i)
    → a ≡ a ++ map (λ w. (line, w))
    (option_map_or (list_warnings p risks) (slice_get p.routes i) [])
none_told p risks i line a none = by (slice_get p.routes i) none
  where
    by : (o : Option Route) → None ≡ option_map pair_of o
        → a ≡ a ++ map (λ w. (line, w)) (option_map_or (list_warnings p risks) o [])
    by None e = sym (append-nil a)
    by (Some r) e = absurd (let bad : ⊥ = cc in bad)
