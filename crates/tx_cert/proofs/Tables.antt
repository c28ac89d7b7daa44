-- The table of a certificate, seen as a map.
use Rattle.std.proofs.Common.{◌≡◌, ◌≢◌, ℕ, zero, suc, ◌+◌, ◌*◌, ◌<◌, ◌≤◌, true, false, nat_lt, ◌&&◌, ◌⊎◌, inl, inr, eqb, eqb-true, List, [], ◌∷◌, ◌++◌, length, get_or, replicate, Option, None, Some, cond, refl, sym, ap, ◌∙◌, subst, arith}
use Rattle.std.specs.Prelude.{map, slice_set, if◌then◌else◌}
use Rattle.tx_cert.proofs.Common.{flat_map, range_with_len, eq_by_cmp, mul-add-lt, same_from_place, Certificate, Pair, pair_cmp, no_ranks, rank_at, with_rank, IsCertificate}
use Rattle.std.specs.Option.{IfSome}
use Rattle.std.specs.FinMap.{FinMap, get, insert, empty, find, get-empty, get-insert, get-from_entries, same_map}
use Rattle.std.proofs.lemmas.Bool.{eqb-false, lt-ltb, ltb-true, and_from, and_parts}
use Rattle.std.proofs.lemmas.List.{length-set, get_or_read, get_or-set_same, get_or-set_other, get_or-replicate}
use Rattle.std.proofs.lemmas.List.Elements.{All-set}
use Rattle.tx_plan.specs.Among.{Among}
use Rattle.tx_plan.proofs.Among.{among_map, among_flat}
use Rattle.tx_cert.specs.inner.Table.{Table, IsTable, index_of, rank_in, pairs, entry_of, ranks_in, certificate_of}
use Rattle.tx_cert.proofs.Pairs.{pairs_total, exact, tells}

-- the keys that have a value, each with it
abbrev entries_of : (Pair → Option ℕ) → List Pair → List (Pair × ℕ)
entries_of f ks = flat_map (λ k. entry_of k (f k)) ks

-- where no key is left out that has a value, each is found as it is
found : (f : Pair → Option ℕ) (q : Pair) (ks : List Pair) → (f q ≡ None) ⊎ Among q ks → find pair_cmp q (entries_of f ks) ≡ f q
found f q [] (inl none) = sym none
found f q [] (inr h) = absurd h
found f q (k ∷ ks) h = elim (tells q k) [
  | inl same ↦ here (f k) refl same.0 same.1 (λ none. found f q ks (inl none))
  | inr away ↦ there (f k) away.0 (found f q ks (elim h [ inl none ↦ inl none | inr m ↦ elim m [ inl e ↦ absurd (away.1 (sym e)) | inr later ↦ inr later ] ]))
]
  where
    here : (o : Option ℕ) → f k ≡ o → eq_by_cmp pair_cmp q k ≡ true → q ≡ k → (f q ≡ None → find pair_cmp q (entries_of f ks) ≡ f q) → find pair_cmp q (entry_of k o ++ entries_of f ks) ≡ f q
    here None e t same rest = rest (ap f same ∙ e)
    here (Some r) e t same rest = ap (λ b. cond b (Some r) (find pair_cmp q (entries_of f ks))) t ∙ sym e ∙ ap f (sym same)

    there : (o : Option ℕ) → eq_by_cmp pair_cmp q k ≡ false → find pair_cmp q (entries_of f ks) ≡ f q → find pair_cmp q (entry_of k o ++ entries_of f ks) ≡ f q
    there None t h = h
    there (Some r) t h = ap (λ b. cond b (Some r) (find pair_cmp q (entries_of f ks))) t ∙ h

among_range : (a n i : ℕ) → a ≤ i → i < a + n → Among i (range_with_len a n)
among_range a zero i l h = absurd (omega arith)
among_range a (suc n) i l h =
    elim (eqb a i) as (λ b. eqb a i ≡ b → Among i (range_with_len a (suc n))) [
      | true ↦ λ e. inl (eqb-true a i e)
      | false ↦ λ e. let away = eqb-false a i e in inr (among_range (a + 1) n i (omega arith) (omega arith))
    ] refl

among_pairs : (codes exchanges : ℕ) (q : Pair) → q.0 < codes → q.1 < exchanges → Among q (pairs codes exchanges)
among_pairs codes exchanges q h k =
    among_flat (λ code. map (λ exchange. (code, exchange)) (range_with_len 0 exchanges)) q.0 q (range_with_len 0 codes) (among_range 0 codes q.0 (omega arith) (omega arith))
    (among_map (λ (x : ℕ). (q.0, x)) q.1 (range_with_len 0 exchanges) (among_range 0 exchanges q.1 (omega arith) (omega arith)))

abbrev with_ranks : Table → FinMap pair_cmp ℕ → Certificate
with_ranks t ranks = record { codes = t.codes; exchanges = t.exchanges; ranks = ranks }

module _ (t : Table) where
  -- a code and an exchange of the certificate
  abbrev IsKnown : Pair → Type 0
  IsKnown q = (q.0 < t.codes) × (q.1 < t.exchanges)

  -- what is ranked in the table is one of its codes and one of its exchanges
  ranked_in : (q : Pair) (r : ℕ) → rank_in t q ≡ Some r → IsKnown q × (get_or t.ranks (index_of t.exchanges q) None ≡ Some r)
  ranked_in q r h =
      elim (nat_lt q.0 t.codes && nat_lt q.1 t.exchanges) as (λ b. (nat_lt q.0 t.codes && nat_lt q.1 t.exchanges) ≡ b → (if b then get_or t.ranks (index_of t.exchanges q) None else None) ≡ Some r → IsKnown q × (get_or t.ranks (index_of t.exchanges q) None ≡ Some r)) [
        | true ↦ λ e s. let b = and_parts (nat_lt q.0 t.codes) (nat_lt q.1 t.exchanges) e in ((ltb-true q.0 t.codes b.0, ltb-true q.1 t.exchanges b.1), s)
        | false ↦ λ e s. absurd (let bad : ⊥ = cc in bad)
      ] refl h

  rank_known : (q : Pair) → IsKnown q → rank_in t q ≡ get_or t.ranks (index_of t.exchanges q) None
  rank_known q k = ap (λ b. if b then get_or t.ranks (index_of t.exchanges q) None else None) (and_from (nat_lt q.0 t.codes) (nat_lt q.1 t.exchanges) (lt-ltb q.0 t.codes k.0) (lt-ltb q.1 t.exchanges k.1))

  listed : (q : Pair) (o : Option ℕ) → rank_in t q ≡ o → (o ≡ None) ⊎ Among q (pairs t.codes t.exchanges)
  listed q None h = inl refl
  listed q (Some r) h = let b = ranked_in q r h in inr (among_pairs t.codes t.exchanges q b.0.0 b.0.1)

  -- THE MAP HAS WHAT THE TABLE HAS
  pub get-ranks_in : (q : Pair) → get (ranks_in t) q ≡ rank_in t q
  unfolding ranks_in
  get-ranks_in q = get-from_entries pairs_total (entries_of (rank_in t) (pairs t.codes t.exchanges)) q ∙ found (rank_in t) q (pairs t.codes t.exchanges) (listed q (rank_in t q) refl)

  -- what is ranked in the map is so in the table
  ranked_at : (c x r : ℕ) → rank_at (certificate_of t) c x ≡ Some r → IsKnown (c, x) × (get_or t.ranks (index_of t.exchanges (c, x)) None ≡ Some r)
  ranked_at c x r h = ranked_in (c, x) r (sym (get-ranks_in (c, x)) ∙ h)

  pub is_certificate : IsTable t → IsCertificate (certificate_of t)
  is_certificate w = record {
    own_codes = λ c x r h. (ranked_at c x r h).0.0;
    own_exchanges = λ c x r h. (ranked_at c x r h).0.1;
    small = λ c x r h.
        let b = ranked_at c x r h in
        let entries = w.entries in
        let low = mul-add-lt c t.exchanges x t.codes b.0.0 b.0.1 in
        subst (λ o. IfSome o (λ n. n ≤ 65535)) b.1 (w.small (index_of t.exchanges (c, x)) None (omega arith));
  }

  module _ (w : IsTable t) (c x i : ℕ) (code : c < t.codes) (exchange : x < t.exchanges) (at : i ≡ c * t.exchanges + x) where
    -- the index of a code and an exchange is in the table
    within : i < length t.ranks
    within = let entries = w.entries in let low = mul-add-lt c t.exchanges x t.codes code exchange in omega arith

    -- what stands there is its rank
    pub rank_read : (o : Option ℕ) → o ≡ get_or t.ranks i o → o ≡ rank_at (certificate_of t) c x
    rank_read o e = get_or_read t.ranks i o within e None ∙ ap (λ j. get_or t.ranks j None) at ∙ sym (get-ranks_in (c, x) ∙ rank_known (c, x) (code, exchange))

  -- a foreign code or exchange has none
  pub rank_foreign : (c x : ℕ) → (t.codes ≤ c) ⊎ (t.exchanges ≤ x) → None ≡ rank_at (certificate_of t) c x
  rank_foreign c x far = bare (rank_in t (c, x)) refl ∙ sym (get-ranks_in (c, x))
    where
      bare : (o : Option ℕ) → rank_in t (c, x) ≡ o → None ≡ rank_in t (c, x)
      bare None e = sym e
      bare (Some r) e = let b = ranked_in (c, x) r e in absurd (elim far [ inl h ↦ let k = b.0.0 in omega arith | inr h ↦ let k = b.0.1 in omega arith ])

-- A RANK IS WRITTEN
pub table_set : (t : Table) (i r : ℕ) → IsTable t → r ≤ 65535 → IsTable (record t { ranks = slice_set t.ranks i (Some r) })
table_set t i r w l = record {
  entries = length-set t.ranks i (Some r) ∙ w.entries;
  small = All-set (λ o. IfSome o (λ n. n ≤ 65535)) t.ranks i (Some r) l w.small;
}

module _ (t : Table) (w : IsTable t) (c x i r : ℕ) (code : c < t.codes) (exchange : x < t.exchanges) (at : i ≡ c * t.exchanges + x) where
  abbrev table_with : Table
  table_with = record t { ranks = slice_set t.ranks i (Some r) }

  here : rank_in table_with (c, x) ≡ Some r
  here =
      rank_known table_with (c, x) (code, exchange) ∙ ap (λ j. get_or (slice_set t.ranks i (Some r)) j None) (sym at)
      ∙ get_or-set_same t.ranks i (Some r) None (within t w c x i code exchange at)

  there : (q : Pair) → q ≢ (c, x) → rank_in table_with q ≡ rank_in t q
  there q away =
      elim (nat_lt q.0 t.codes && nat_lt q.1 t.exchanges) as (λ b. (nat_lt q.0 t.codes && nat_lt q.1 t.exchanges) ≡ b
      → (if b then get_or (slice_set t.ranks i (Some r)) (index_of t.exchanges q) None else None) ≡ (if b then get_or t.ranks (index_of t.exchanges q) None else None)) [
        | true ↦ λ e.
            let low = ltb-true q.1 t.exchanges (and_parts (nat_lt q.0 t.codes) (nat_lt q.1 t.exchanges) e).1 in
            let other : index_of t.exchanges q ≢ i = λ p. let s = same_from_place q.0 q.1 c x t.exchanges low exchange (p ∙ at) in away (λ k. (s.0 k, s.1 k)) in
            get_or-set_other t.ranks i (index_of t.exchanges q) (Some r) None other
        | false ↦ λ e. refl
      ] refl

  ranked : (q : Pair) → rank_in table_with q ≡ cond (eq_by_cmp pair_cmp q (c, x)) (Some r) (rank_in t q)
  ranked q = elim (tells q (c, x)) [
    | inl same ↦ ap (rank_in table_with) same.1 ∙ here ∙ sym (ap (λ b. cond b (Some r) (rank_in t q)) same.0)
    | inr away ↦ there q away.1 ∙ sym (ap (λ b. cond b (Some r) (rank_in t q)) away.0)
  ]

  pub certificate_set : certificate_of (record t { ranks = slice_set t.ranks i (Some r) }) ≡ with_rank (certificate_of t) c x r
  certificate_set = ap (with_ranks t) (same_map pairs_total exact (ranks_in table_with) (insert (ranks_in t) (c, x) r)
      (λ q. get-ranks_in table_with q ∙ ranked q ∙ sym (get-insert pairs_total (ranks_in t) (c, x) r q ∙ ap (cond (eq_by_cmp pair_cmp q (c, x)) (Some r)) (get-ranks_in t q))))

-- NOTHING IS RANKED
module _ (codes exchanges : ℕ) where
  abbrev blank : Table
  blank = record { codes = codes; exchanges = exchanges; ranks = replicate (codes * exchanges) None }

  none : (q : Pair) (o : Option ℕ) → rank_in blank q ≡ o → o ≡ None
  none q None e = refl
  none q (Some r) e =
      let b = ranked_in blank q r e in
      let low = mul-add-lt q.0 exchanges q.1 codes b.0.0 b.0.1 in
      let bare = get_or-replicate {A = Option ℕ} (codes * exchanges) (q.0 * exchanges + q.1) None None (omega arith) in
      absurd (let bad : ⊥ = cc in bad)

  pub certificate_new : certificate_of (record { codes = codes; exchanges = exchanges; ranks = replicate (codes * exchanges) None }) ≡ no_ranks codes exchanges
  certificate_new = ap (with_ranks blank) (same_map pairs_total exact (ranks_in blank) empty (λ q. get-ranks_in blank q ∙ none q (rank_in blank q) refl ∙ sym (get-empty pair_cmp q)))
