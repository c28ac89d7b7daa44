-- Look-ups by a key, and what an insertion of a new key leaves.
use Rattle.tx_plan.proofs.Common.{◌≡◌, Bool, false, List, [], ◌∷◌, ◌++◌, Option, Some, None, is_some, refl, ap, ◌∙◌, list_any, keys_of, is_some-lookup}
use Rattle.indexmap.specs.IndexMap.{IndexMap, get, insert_entry}
use Rattle.indexmap.proofs.CallerLemmas.{insert_entry-new}

none_is : {X : Type 0} (o : Option X) → is_some o ≡ false → o ≡ None
none_is None h = refl
none_is (Some x) h = absurd (cc)

pub entry_last : {K V S : Type 0} (eq : K → K → Bool) (m : IndexMap K V S) (es : List (K × V)) (k : K) (v : V) → m.entries ≡ es → list_any (eq k) (keys_of es) ≡ false → insert_entry eq m.entries k v ≡ es ++ (k, v) ∷ []
entry_last eq m es k v e h = insert_entry-new eq m k v (none_is (get eq m k) (is_some-lookup (eq k) m.entries ∙ ap (λ l. list_any (eq k) (keys_of l)) e ∙ h)) ∙ ap (λ l. l ++ (k, v) ∷ []) e
