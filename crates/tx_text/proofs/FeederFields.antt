-- The fields of a line feeder that has no completed line.
use Rattle.tx_text.proofs.Common.{◌≡◌, Bool, true, false, cond, Option, Some, None, refl, ap, ◌∙◌, Line, Feed}
use Rattle.tx_text.specs.inner.Feeder.{feed_of, held_line}
use Rattle.tx_text.specs.declared.feeder.LineFeeder.TheInside.{Inside}

not_complete : (b : Bool) (l : Line) → ◌≡◌ {A = Option Line} (cond b (Some l) None) None → b ≡ false
not_complete true l h = cc
not_complete false l h = refl

pub no_line : {A : Type 0} (a : Inside A) (f : Feed) → feed_of a ≡ f → f.line ≡ None → a.complete ≡ false
no_line a f e h = not_complete a.complete (held_line a) (ap (λ (x : Feed). x.line) e ∙ h)

pub held_begun : {A : Type 0} (a : Inside A) (f : Feed) → feed_of a ≡ f → a.complete ≡ false → a.held.items ≡ f.begun
held_begun a f e h = rw h at (ap (λ (x : Feed). x.begun) e)
