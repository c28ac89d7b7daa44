-- Which calls are open when others ended or changed.
use Rattle.tx_engine.proofs.Common.{◌≡◌, ℕ, ◌==◌, true, false, cond, List, [], ◌∷◌, map, Some, refl, ◌∙◌, option_map, Call, call_of}

-- a call that changes and keeps its number
pub changed_open : (f : Call → Call) → ((c : Call) → (f c).number ≡ c.number) → (n : ℕ) (cs : List Call) → call_of n (map f cs) ≡ option_map f (call_of n cs)
changed_open f same n [] = refl
changed_open f same n (c ∷ cs) =
    (λ i. cond (same c i == n) (Some (f c)) (changed_open f same n cs i))
    ∙ elim (c.number == n) as (λ b. cond b (Some (f c)) (option_map f (call_of n cs)) ≡ option_map f (cond b (Some c) (call_of n cs))) [ true ↦ refl | false ↦ refl ]
