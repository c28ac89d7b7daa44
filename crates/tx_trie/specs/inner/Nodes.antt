-- The nodes of a trie, and the codes that are at them.
use Rattle.std.specs.Prelude.{◌≡◌, ℕ, ◌+◌, ◌-◌, ◌*◌, ◌<◌, true, if◌then◌else◌, List, [], ◌∷◌, length, Option, Some, None, slice_get, slice_index_or}
use Rattle.std.specs.Option.{option_map}
use Rattle.tx_plan.specs.Plan.{Code}
use Rattle.tx_plan.specs.Rules.{is_code}

-- where figures lead from a node: x leads from n to 10 n + x
abbrev pub node_after : ℕ → List ℕ → ℕ
node_after n [] = n
node_after n (x ∷ xs) = node_after (10 * n + (x - 48)) xs

-- where figures lead from the root
abbrev pub node_of : List ℕ → ℕ
node_of text = node_after 1 text

-- the code of exactly this text
abbrev pub look : List (Option ℕ) → List ℕ → Option ℕ
look nodes text = if is_code text then slice_index_or nodes (node_of text) None else None

-- At the nodes are the first n codes, each where its figures lead, and no other.
pub record AreFirst (codes : List Code) (n : ℕ) (nodes : List (Option ℕ)) : Type 0 where
  pub long : length nodes ≡ 2000
  pub gives : (m i : ℕ) → slice_index_or nodes m None ≡ Some i
      → (i < n) × (option_map (λ (c : Code). node_of c.figures) (slice_get codes i) ≡ Some m)
  pub finds : (i : ℕ) (c : Code) → i < n → slice_get codes i ≡ Some c
      → slice_index_or nodes (node_of c.figures) None ≡ Some i

-- At the nodes are these codes, each of two or three figures.
pub record IsTrie (codes : List Code) (nodes : List (Option ℕ)) : Type 0 where
  pub forms : (i : ℕ) (c : Code) → slice_get codes i ≡ Some c → is_code c.figures ≡ true
  pub all : AreFirst codes (length codes) nodes
