use Rattle.tx_rank.proofs.Common.{◌≡◌, ◌↔◌, ℕ, List, Bool, Option, Some, None, true, false, is_some, not, refl, sym, subst, Mark, Net, Walk, end_of, IsNet, Certifies, AreSettled, IsPassed, rank_in, IsShortAt, IsLongFound}
use Rattle.std.proofs.lemmas.Bool.{true≢false}
use Rattle.tx_rank.proofs.Walked.{short_at, short_true, certifies, certified_no_loop, certified_no_short, certified_no_long}
use Rattle.tx_rank.proofs.certifiable.can_be_certified.Goals as goal

-- after a pass without a loop
module _ (n : Net) (ranks : ℕ → Option ℕ) (done : AreSettled n ranks) (limit spare : ℕ) where
  none_short : (x : ℕ) → IsShortAt n ranks spare x → (of : ℕ → Option ℕ) → Certifies n of limit spare → ⊥
  none_short x s of cert =
      let w = done.ranked x s.rank s.ranked s.away in
      certified_no_short n of limit spare cert w.start w.steps (short_true n ranks done spare x w.start w.steps w.walk w.ends s.away s.few)

  exactly : IsNet n → ((x : ℕ) → IsShortAt n ranks spare x → ⊥) → (long : Option Walk) → IsLongFound n ranks limit long → (none : Bool) → is_some long ≡ not none
      → (none ≡ true) ↔ ((of : ℕ → Option ℕ) × Certifies n of limit spare)
  exactly net short None low true e = (λ _. (ranks, certifies n ranks done limit spare low (λ x steps s. short (end_of x steps) (short_at n ranks done spare x steps s))), λ _. refl)
  exactly net short None low false e = absurd (true≢false (sym e))
  exactly net short (Some w) l true e = absurd (true≢false e)
  exactly net short (Some w) l false e = (λ t. absurd (true≢false (sym t)), λ some. absurd (certified_no_long n some.0 limit spare some.1 net.listed w.start w.steps l))

pub returns-then-closed : goal.returns-then-closed
returns-then-closed g c =
    let n = g.N.CodeNet.net c.args.net.now in
    let search = c.pass.new.search in
    (λ e. absurd (true≢false (sym e)), λ some. absurd (certified_no_loop n some.0 c.args.limit c.args.spare some.1 search.start search.steps.items (c.in_ok-closed.ensures.closed c.if-closed.true)))

pub returns-then-has_short : goal.returns-then-has_short
returns-then-has_short g c =
    let n = g.N.CodeNet.net c.args.net.now in
    let passed : IsPassed n c.deref.result.now = subst (λ (m : List Mark). IsPassed n m) (sym c.deref.ensures.value) (c.in_ok-closed.ensures.done c.if-closed.false) in
    let short = c.has_short.ensures.yes c.if-has_short.true in
    (λ e. absurd (true≢false (sym e)), λ some. absurd (none_short n (rank_in c.deref.result.now) passed.ranks c.args.limit c.args.spare short.0 short.1 some.0 some.1))

pub returns : goal.returns
returns g c =
    let n = g.N.CodeNet.net c.args.net.now in
    let marks = c.pass.new.search.marks.items in
    let passed = c.in_ok-closed.ensures.done c.if-closed.false in
    let short = subst (λ (m : List Mark). (x : ℕ) → IsShortAt n (rank_in m) c.args.spare x → ⊥) c.deref.ensures.value (c.has_short.ensures.not_so c.if-has_short.false) in
    let long = subst (λ (m : List Mark). IsLongFound n (rank_in m) c.args.limit c.in_ok-long.long) c.deref-2.ensures.value c.in_ok-long.ensures in
    exactly n (rank_in marks) passed.ranks c.args.limit c.args.spare (g.met.N.CodeNet.is_net c.args.net.now) short c.in_ok-long.long long c.is_none.result c.is_none.ensures
