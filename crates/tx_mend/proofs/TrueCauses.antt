-- Why an exchange cannot be served.
use Rattle.tx_mend.proofs.Common.{◌≡◌, ℕ, suc, ◌+◌, ◌<◌, ◌≤◌, true, false, nat_lt, length, Option, Some, None, inl, inr, refl, sym, ap, ◌∙◌, arith, filter, is_some, is_none, option_and_then, option_map_or, and_parts, cases_lt, lt-ltb, false≢true, Plan, home_of, IsPlan, other_end, Rank, Groups, CanBeServed, RanksOfCode, outgoing, leads_on, can_follow}
use Rattle.tx_mend.specs.Unserved.{groups_on, groups_near, no_limit, unlimited_rank, cause_of}
use Rattle.tx_mend.specs.Laws.{LeadsToServed, AreLeadingOn, IsTrueCause, CausesAreTrue}
use Rattle.tx_mend.proofs.RoundRanks.{Ranked, within, stays_on, in_round, follows_next}
use Rattle.tx_mend.proofs.Mendable.{serves}

limit_is : no_limit ≡ 254
unfolding no_limit
limit_is = refl

module _ (p : Plan) (code spare : ℕ) where
  abbrev Round : ℕ → RanksOfCode
  Round n = Ranked (home_of p code) (can_follow p spare) n

  later : (n m x r : ℕ) → n ≤ m → Round n x ≡ Some r → Round m x ≡ Some r
  later n m x r h e = stays_on (home_of p code) (can_follow p spare) m n x r h e

  -- the rounds that rank whatever can be ranked
  abbrev last : ℕ
  last = suc no_limit

  not_both : (n x r : ℕ) → n ≤ 255 → Round n x ≡ Some r → Round last x ≡ None → ⊥
  not_both n x r h e none = let m = limit_is in let k = later n last x r (omega arith) e in let bad : Some r ≡ None = sym k ∙ none in let no : ⊥ = cc in no

  -- without a rank at any limit too few groups lead on
  pub few_on : (limit x : ℕ) → limit ≤ 253 → unlimited_rank p code spare x ≡ None → groups_on p code limit spare x ≤ spare
  few_on limit x h none = elim (cases_lt spare (groups_on p code limit spare x)) [
    | inl l ↦ (let f = follows_next (home_of p code) (can_follow p spare) (suc limit) x (lt-ltb spare (length (filter (λ g. leads_on p (Round (suc limit)) x g) (outgoing p x))) l) in
        absurd (not_both (suc (suc limit)) x f.0 (omega arith) f.1 none))
    | inr l ↦ l
  ]

  -- an exchange that is not served within the limit has too few groups to those of a rank up to it
  pub few_near : (limit x : ℕ) → is_none (Round (suc limit) x) ≡ true → groups_near p code limit spare x ≤ spare
  few_near limit x none = elim (cases_lt spare (groups_near p code limit spare x)) [
    | inl l ↦ (let f = follows_next (home_of p code) (can_follow p spare) limit x (lt-ltb spare (groups_near p code limit spare x) l) in
        let e = ap is_none f.1 in let bad : true ≡ false = sym none ∙ e in absurd (false≢true (sym bad)))
    | inr l ↦ l
  ]

  module _ (ok : IsPlan p) (known : code < length p.codes) (small : spare ≤ 15) where
    served : (limit x r : ℕ) → Round (suc limit) x ≡ Some r → CanBeServed p code limit spare x
    served limit x r e = (serves p ok code limit spare x known small).0 (ap is_some e)

    ranked : (limit x : ℕ) → CanBeServed p code limit spare x → (r : ℕ) × (Round (suc limit) x ≡ Some r)
    ranked limit x k = by (Round (suc limit) x) refl ((serves p ok code limit spare x known small).1 k)
      where
        by : (o : Option ℕ) → Round (suc limit) x ≡ o → is_some o ≡ true → (r : ℕ) × (Round (suc limit) x ≡ Some r)
        by None e s = absurd (false≢true s)
        by (Some r) e s = (r, e)

    leads_served : (limit x g : ℕ) → leads_on p (Round (suc limit)) x g ≡ true → LeadsToServed p code limit spare x g
    leads_served limit x g h = by (other_end p g x) refl h
      where
        by : (o : Option ℕ) → other_end p g x ≡ o → is_some (option_and_then (Round (suc limit)) o) ≡ true → LeadsToServed p code limit spare x g
        by None e s = absurd (false≢true s)
        by (Some to) e s = record { to = to; leads = e; served = (serves p ok code limit spare to known small).0 s }

    served_leads : (limit x g : ℕ) → LeadsToServed p code limit spare x g → leads_on p (Round (suc limit)) x g ≡ true
    served_leads limit x g h = ap (λ o. is_some (option_and_then (Round (suc limit)) o)) h.leads ∙ (serves p ok code limit spare h.to known small).1 h.served

    leading_on : (limit x : ℕ) → AreLeadingOn p code limit spare x (groups_on p code limit spare x)
    leading_on limit x = record { test = leads_on p (Round (suc limit)) x; passes = λ g. (leads_served limit x g, served_leads limit x g); count = refl }

    module _ (limit x : ℕ) (few : limit ≤ 253) (not_served : CanBeServed p code limit spare x → ⊥) where
      by_rank : (r : ℕ) → Round last x ≡ Some r → IsTrueCause p code limit spare x (Rank r)
      by_rank r e =
          let own = in_round (home_of p code) (can_follow p spare) last x r e in
          let beyond : limit + 1 < r = elim (cases_lt (suc limit) r) [
            | inl l ↦ omega arith
            | inr l ↦ absurd (not_served (served limit x r (later r (suc limit) x r l own)))
          ] in (
            beyond,
            λ other h. (
              λ k.
                  let s = ranked other x k in
                  let same : s.0 ≡ r = let a = later (suc other) last x s.0 (let m = limit_is in omega arith) s.1 in let b : Some s.0 ≡ Some r = sym a ∙ e in cc in
                  let w = within (home_of p code) (can_follow p spare) (suc other) x s.0 s.1 in
                  omega arith,
              λ l. served other x r (later r (suc other) x r (omega arith) own),
            ),
          )

      by_groups : Round last x ≡ None → IsTrueCause p code limit spare x (Groups (groups_on p code limit spare x))
      by_groups e = (leading_on limit x, few_on limit x few e, λ other h k. let s = ranked other x k in not_both (suc other) x s.0 (omega arith) s.1 e)

      pub true_cause : IsTrueCause p code limit spare x (cause_of p code limit spare x)
      true_cause = by (Round last x) refl
        where
          by : (o : Option ℕ) → Round last x ≡ o → IsTrueCause p code limit spare x (option_map_or (λ r. Rank r) o (Groups (groups_on p code limit spare x)))
          by None e = by_groups e
          by (Some r) e = by_rank r e

pub causes : CausesAreTrue
causes p ok code limit spare x known small few not_served = true_cause p code spare ok known small limit x few not_served
