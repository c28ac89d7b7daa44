use Rattle.tx_order.proofs.Common.{◌≡◌, ℕ, List, Bool, true, sym, ◌∙◌, bytes_eq-Decides, bytes_eq}
use Rattle.tx_order.proofs.entries.is_same_list.Goals as goal

alike : (x y p q : List ℕ) (r : Bool) → x ≡ p → y ≡ q → r ≡ bytes_eq x y → (r ≡ true → p ≡ q) × (p ≡ q → r ≡ true)
alike x y p q r a b e = (
  λ h. sym a ∙ ((bytes_eq-Decides x y).0 (sym e ∙ h) ∙ b),
  λ s. e ∙ (bytes_eq-Decides x y).1 (a ∙ (s ∙ sym b)),
)

pub returns : goal.returns
returns g c = alike c.list.result.now c.list-2.result.now _ _ c.eq.result c.list.ensures c.list-2.ensures c.eq.ensures
