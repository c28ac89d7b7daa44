-- The calls that the keys by circuit lead to.
use Rattle.tx_engine.proofs.Common.{◌≡◌, ℕ, Bool, true, List, Some, sym, ap, subst, ◌∙◌, list_any, Plan, Among, Circuit, Calling, Call, exchange_of, carries, seizes_from, circuits_carried, any_mem, Kept, KeptCalls, kept_at, calls_in, keys_of, pick, EndKeys, AreKeyed, is_first_end}
use Rattle.tx_engine.proofs.Sorted.{mem_sorted}
use Rattle.tx_engine.proofs.After.{carried_mem, seizing_from}

module _ (p : Plan) (c : KeptCalls) (ks : List (List EndKeys)) (keyed : AreKeyed p c ks) (x : Circuit) where
  pub seizer_kept : (d : Call) → Among d (calls_in c) → d.phase ≡ Calling x → (e : Kept) × (kept_at c (pick (is_first_end p x (exchange_of p d)) (keys_of ks x)) ≡ Some e) × (e.call ≡ d)
  seizer_kept d m calls =
      let r = mem_sorted c.slots d m in
      let key = keyed.seizers r.0 r.1 r.2 x (ap (λ (z : Call). z.phase) r.3 ∙ calls) in
      (r.1, ap (kept_at c) (ap (λ (z : Call). pick (is_first_end p x (exchange_of p z)) (keys_of ks x)) (sym r.3) ∙ key) ∙ r.2, r.3)

  pub carrier_kept : (d : Call) → Among d (calls_in c) → carries d x ≡ true → (first : Bool) → (e : Kept) × (kept_at c (pick first (keys_of ks x)) ≡ Some e) × (e.call ≡ d)
  carrier_kept d m carried first =
      let r = mem_sorted c.slots d m in
      let key = keyed.carriers r.0 r.1 r.2 x (subst (λ (z : Call). Among x (circuits_carried z)) (sym r.3) (carried_mem d x carried)) first in
      (r.1, ap (kept_at c) key ∙ r.2, r.3)

  -- one that carries it
  pub carrier_found : list_any (λ d. carries d x) (calls_in c) ≡ true → (first : Bool) → (e : Kept) × (kept_at c (pick first (keys_of ks x)) ≡ Some e) × Among e.call (calls_in c) × (carries e.call x ≡ true)
  carrier_found h first =
      let r = any_mem (λ d. carries d x) (calls_in c) h in
      let k = carrier_kept r.0 r.1 r.2 first in
      (k.0, k.1, subst (λ z. Among z (calls_in c)) (sym k.2) r.1, ap (λ (z : Call). carries z x) k.2 ∙ r.2)

  -- one that has seized it from an exchange
  pub seizer_found : (y : ℕ) → list_any (λ d. seizes_from p d x y) (calls_in c) ≡ true → (e : Kept) × (kept_at c (pick (is_first_end p x y) (keys_of ks x)) ≡ Some e) × Among e.call (calls_in c) × (seizes_from p e.call x y ≡ true)
  seizer_found y h =
      let r = any_mem (λ d. seizes_from p d x y) (calls_in c) h in
      let f = seizing_from p r.0 x y r.2 in
      let k = seizer_kept r.0 r.1 f.0 in
      (k.0, ap (λ z. kept_at c (pick (is_first_end p x z) (keys_of ks x))) (sym f.1) ∙ k.1, subst (λ z. Among z (calls_in c)) (sym k.2) r.1, ap (λ (z : Call). seizes_from p z x y) k.2 ∙ r.2)
