-- How a certificate keeps its ranks: a table with an entry for each code and exchange.
use Rattle.std.specs.Prelude.{◌≡◌, ℕ, ◌+◌, ◌*◌, ◌≤◌, ◌&&◌, nat_lt, List, [], ◌∷◌, length, map, Option, None, Some, slice_index_or, if◌then◌else◌, refl}
use Rattle.std.specs.List.{All, flat_map, range_with_len}
use Rattle.std.specs.Option.{IfSome}
use Rattle.std.specs.Coded.{Coded, code_by, coded×, coded_ℕ}
use Rattle.std.specs.FinMap.{FinMap, from_entries, code}
use Rattle.tx_cert.specs.Certificate.{Certificate, Pair, pair_cmp}

-- the ranks by codes and then by exchanges, or none where an exchange has no rank
pub record Table : Type 0 where
  pub codes : ℕ
  pub exchanges : ℕ
  pub ranks : List (Option ℕ)

-- there is an entry for each code and exchange, and no rank is above 65,535
pub record IsTable (t : Table) : Type 0 where
  pub entries : length t.ranks ≡ t.codes * t.exchanges
  pub small : All (λ r. IfSome r (λ n. n ≤ 65535)) t.ranks

-- where the rank of an exchange for a code is, among so many exchanges
abbrev pub index_of : ℕ → Pair → ℕ
index_of exchanges pair = pair.0 * exchanges + pair.1

-- the rank that is there, and none for a foreign code or exchange
abbrev pub rank_in : Table → Pair → Option ℕ
rank_in t pair =
    if nat_lt pair.0 t.codes && nat_lt pair.1 t.exchanges
    then slice_index_or t.ranks (index_of t.exchanges pair) None
    else None

-- the codes with the exchanges, in the order of their indexes
abbrev pub pairs : ℕ → ℕ → List Pair
pairs codes exchanges =
    flat_map (λ code. map (λ exchange. (code, exchange)) (range_with_len 0 exchanges))
    (range_with_len 0 codes)

-- an entry of the map, where there is a rank
abbrev pub entry_of : Pair → Option ℕ → List (Pair × ℕ)
entry_of pair None = []
entry_of pair (Some rank) = (pair, rank) ∷ []

-- the map that a table stands for
unfoldable pub ranks_in : Table → FinMap pair_cmp ℕ
ranks_in t =
    from_entries (flat_map (λ pair. entry_of pair (rank_in t pair)) (pairs t.codes t.exchanges))

-- the certificate that a table stands for
abbrev pub certificate_of : Table → Certificate
certificate_of t = record { codes = t.codes; exchanges = t.exchanges; ranks = ranks_in t }

-- certificates as tuples, so that they are values
abbrev pub certificate_code : Coded Certificate
certificate_code =
    code_by
    (ℕ × (ℕ × FinMap pair_cmp ℕ))
    (coded× coded_ℕ (coded× coded_ℕ (code (coded× coded_ℕ coded_ℕ) coded_ℕ)))
    (λ t. (t.codes, (t.exchanges, t.ranks)))
    (λ p. record { codes = p.0; exchanges = p.1.0; ranks = p.1.1 })
    (λ _. refl)
