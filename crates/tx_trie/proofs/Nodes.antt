-- Where the figures of codes lead.
use Rattle.std.proofs.Common.{◌≡◌, ℕ, ◌+◌, ◌-◌, ◌*◌, ◌<◌, ◌≤◌, Bool, true, false, List, [], ◌∷◌, Option, Some, None, refl, ap, ◌∙◌, arith}
use Rattle.std.proofs.lemmas.Option.{same_Some, slice_get_within}
use Rattle.std.specs.Prelude.{slice_get, slice_index_or, if◌then◌else◌}
use Rattle.tx_trie.proofs.Common.{option_map, Code, is_code, IsSpelled, two, three, spelled, IsLookUp, node_after, node_of, look, IsTrie}

pub node_within : (text : List ℕ) → IsSpelled text → node_of text < 2000
node_within text (two a b f g) = omega arith
node_within text (three a b c f g h) = omega arith

-- figures lead to no smaller node
least_after : (n : ℕ) (xs : List ℕ) → n ≤ node_after n xs
least_after n [] = omega arith
least_after n (x ∷ xs) = let l = least_after (10 * n + (x - 48)) xs in omega arith

-- on the way to the node of a code
pub on_the_way : (text : List ℕ) → is_code text ≡ true → (n : ℕ) (rest : List ℕ) → node_after n rest ≡ node_of text → n < 2000
on_the_way text form n rest e = let w = node_within text (spelled text form) in let l = least_after n rest in omega arith

-- two codes have two nodes
pub node_once : (s t : List ℕ) → IsSpelled s → IsSpelled t → node_of s ≡ node_of t → s ≡ t
node_once s t (two a b f g) (two x y k l) e =
    let p : a ≡ x = omega arith in
    let q : b ≡ y = omega arith in
    λ i. p i ∷ q i ∷ []
node_once s t (three a b c f g h) (three x y z k l m) e =
    let p : a ≡ x = omega arith in
    let q : b ≡ y = omega arith in
    let r : c ≡ z = omega arith in
    λ i. p i ∷ q i ∷ r i ∷ []
node_once s t (two a b f g) (three x y z k l m) e = absurd (omega arith)
node_once s t (three a b c f g h) (two x y k l) e = absurd (omega arith)

-- the code at a node
at_node : (codes : List Code) (nodes : List (Option ℕ)) → IsTrie codes nodes → (m i : ℕ) → slice_index_or nodes m None ≡ Some i → (c : Code) × (slice_get codes i ≡ Some c) × (node_of c.figures ≡ m)
at_node codes nodes is m i h = by (slice_get codes i) refl (is.all.gives m i h).1
  where
    by : (o : Option Code) → slice_get codes i ≡ o → option_map (λ (c : Code). node_of c.figures) o ≡ Some m → (c : Code) × (slice_get codes i ≡ Some c) × (node_of c.figures ≡ m)
    by None e k = let bad : ⊥ = cc in absurd bad
    by (Some c) e k = (c, e, same_Some (node_of c.figures) m k)

pub trie_look_up : (codes : List Code) (nodes : List (Option ℕ)) → IsTrie codes nodes → IsLookUp codes (look nodes)
trie_look_up codes nodes is = record {
  forms = is.forms;
  finds = λ i c at. ap (λ b. if b then slice_index_or nodes (node_of c.figures) None else None) (is.forms i c at) ∙ is.all.finds i c (slice_get_within codes i c at) at;
  found = λ text i h. found text i (is_code text) refl h;
}
  where
    found : (text : List ℕ) (i : ℕ) (b : Bool) → is_code text ≡ b → (if b then slice_index_or nodes (node_of text) None else None) ≡ Some i → (c : Code) × (slice_get codes i ≡ Some c) × (c.figures ≡ text)
    found text i true t k =
        let c = at_node codes nodes is (node_of text) i k in
        (c.0, c.1, node_once c.0.figures text (spelled c.0.figures (is.forms i c.0 c.1)) (spelled text t) c.2)
    found text i false t k = let bad : ⊥ = cc in absurd bad
