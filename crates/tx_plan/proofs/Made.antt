-- What a call of the builder leaves is a plan.
use Rattle.std.proofs.Common.{◌≡◌, ℕ, Bool, true, false, List, [], ◌∷◌, ◌++◌, map, None, Result, Ok, Err, OnOk, OnErr, refl, sym, ap, ◌∙◌, subst}
use Rattle.std.specs.Prelude.{if◌then◌else◌, IfOk}
use Rattle.tx_plan.proofs.Common.{list_any, keys_of, bytes_eq, map_push, IndexMap, insert_entry, Direction, GroupRow, Pair, LineRange, Plan, Code, Group, IsPlan, code_of_row, group_of_row, first_true, exchange_refusals, code_refusals, lines_refusals, group_refusals, route_refusals, bar_refusals, exchange_at, code_at, group_at}
use Rattle.indexmap.specs.IndexSet.{insert_key}
use Rattle.tx_plan.proofs.Lookups.{entry_last}
use Rattle.tx_plan.proofs.Tables.{list_any-map}
use Rattle.tx_plan.proofs.Growing.{kept_exchange, kept_code, kept_lines, kept_group, kept_route, kept_bar}

-- one more entry, or what there was
pub either : {L U E : Type 0} (P : L → Type 0) (r : Result U E) (new old next : L) → OnOk r (new ≡ next) → OnErr r (new ≡ old) → P old → P next → P new
either P (Ok x) new old next ok err was will = subst P (sym ok) will
either P (Err x) new old next ok err was will = subst P (sym err) was

-- the same, by a test of the result
pub pushed : {L : Type 0} (P : L → Type 0) (b : Bool) (new old next : L) → new ≡ (if b then next else old) → P old → P next → P new
pushed P true new old next e was will = subst P (sym e) will
pushed P false new old next e was will = subst P (sym e) was

-- a new key of a set, or its keys as they were
pub inserted_key : {U E : Type 0} (r : Result U E) (P : List (List ℕ) → Type 0) (ks new : List (List ℕ)) (k : List ℕ) → IfOk r (λ _. new ≡ insert_key bytes_eq ks k) → OnErr r (new ≡ ks) → list_any (bytes_eq k) ks ≡ false → P ks → P (ks ++ k ∷ []) → P new
inserted_key (Ok x) P ks new k ok err absent was will = subst P (sym (ok ∙ ap (λ b. if b then ks else ks ++ k ∷ []) absent)) will
inserted_key (Err x) P ks new k ok err absent was will = subst P (sym err) was

-- a new entry of a map, or its entries as they were
pub inserted_entry : {V S U E : Type 0} (r : Result U E) (P : List (List ℕ × V) → Type 0) (m : IndexMap (List ℕ) V S) (new : List (List ℕ × V)) (k : List ℕ) (v : V) → OnOk r (new ≡ insert_entry bytes_eq m.entries k v) → OnErr r (new ≡ m.entries) → list_any (bytes_eq k) (keys_of m.entries) ≡ false → P m.entries → P (m.entries ++ (k, v) ∷ []) → P new
inserted_entry (Ok x) P m new k v ok err absent was will = subst P (sym (ok ∙ entry_last bytes_eq m m.entries k v refl absent)) will
inserted_entry (Err x) P m new k v ok err absent was will = subst P (sym err) was

-- no key of a map of codes is the figures of a code that is not declared, and likewise of groups
pub no_code_key : (k : List ℕ) (es : List (List ℕ × ℕ)) → list_any (λ (r : Code). bytes_eq k r.figures) (map code_of_row es) ≡ false → list_any (bytes_eq k) (keys_of es) ≡ false
no_code_key k es h = list_any-map (bytes_eq k) (λ e. e.0) es ∙ sym (list_any-map (λ (r : Code). bytes_eq k r.figures) code_of_row es) ∙ h

pub no_group_key : (k : List ℕ) (es : List (List ℕ × GroupRow)) → list_any (λ (r : Group). bytes_eq k r.name) (map group_of_row es) ≡ false → list_any (bytes_eq k) (keys_of es) ≡ false
no_group_key k es h = list_any-map (bytes_eq k) (λ e. e.0) es ∙ sym (list_any-map (λ (r : Group). bytes_eq k r.name) group_of_row es) ∙ h

module _ (p now : Plan) (v : p ≡ now) (m : IsPlan p) where
  pub made_exchange : (name e : List ℕ) → first_true (exchange_refusals now name) ≡ None → e ≡ name → IsPlan (record p { exchanges = p.exchanges ++ e ∷ [] })
  made_exchange name e h k = rw k (kept_exchange p name m (subst (λ q. first_true (exchange_refusals q name) ≡ None) (sym v) h))

  pub made_code : (code home : List ℕ) (e : List ℕ × ℕ) → first_true (code_refusals now code home) ≡ None → e ≡ (code, exchange_at now home) → IsPlan (record p { codes = p.codes ++ code_of_row e ∷ [] })
  made_code code home e h k = rw (k, ← v) (kept_code p code home m (subst (λ q. first_true (code_refusals q code home) ≡ None) (sym v) h))

  pub made_lines : (code low high : List ℕ) (e : LineRange) → first_true (lines_refusals now code low high) ≡ None → e ≡ record { code = code_at now code; low = low; high = high } → IsPlan (record p { ranges = p.ranges ++ e ∷ [] })
  made_lines code low high e h k = rw (k, ← v) (kept_lines p code low high m (subst (λ q. first_true (lines_refusals q code low high) ≡ None) (sym v) h))

  pub made_group : (name a b : List ℕ) (d : Direction) (count : ℕ) (e : List ℕ × GroupRow) → first_true (group_refusals now name a b count) ≡ None → e ≡ (name, record { a = exchange_at now a; b = exchange_at now b; direction = d; count = count }) → IsPlan (record p { groups = p.groups ++ group_of_row e ∷ [] })
  made_group name a b d count e h k = rw (k, ← v) (kept_group p name a b d count m (subst (λ q. first_true (group_refusals q name a b count) ≡ None) (sym v) h))

  pub made_route : (x c : List ℕ) (gs : List (List ℕ)) (e : Pair × List ℕ) → first_true (route_refusals now x c gs) ≡ None → e ≡ (record { exchange = exchange_at now x; code = code_at now c }, map (group_at now) gs) → IsPlan (record p { routes = p.routes ++ record { exchange = e.0.exchange; code = e.0.code; groups = e.1 } ∷ [] })
  made_route x c gs e h k = rw (k, ← v) (kept_route p x c gs m (subst (λ q. first_true (route_refusals q x c gs) ≡ None) (sym v) h))

  pub made_bar : (x c : List ℕ) (e : Pair) → first_true (bar_refusals now x c) ≡ None → e ≡ record { exchange = exchange_at now x; code = code_at now c } → IsPlan (record p { bars = p.bars ++ e ∷ [] })
  made_bar x c e h k = rw (k, ← v) (kept_bar p x c m (subst (λ q. first_true (bar_refusals q x c) ≡ None) (sym v) h))
