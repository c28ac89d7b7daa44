-- The ranks of a certificate of a plan are those that the checker reads.
use Rattle.tx_check.proofs.Common.{◌≡◌, ◌<◌, ℕ, Bool, true, false, nat_lt, length, Option, Some, None, refl, sym, ap, subst, arith, if◌then◌else◌, Plan, IsCertified, ranks_for}
use Rattle.std.proofs.lemmas.Bool.{lt-ltb}
use Rattle.tx_cert.specs.Certificate.{Certificate, IsCertificateOf, rank_at, ranks_of}

-- a certificate of the plan ranks no other exchanges than the plan's
own_ranks : (p : Plan) (t : Certificate) → IsCertificateOf p t → ranks_of t ≡ ranks_for p t
own_ranks p t h = λ i c x. own c x (rank_at t c x) refl i
  where
    bare : (b : Bool) → ◌≡◌ {A = Option ℕ} None (if b then None else None)
    bare true = refl
    bare false = refl

    own : (c x : ℕ) (o : Option ℕ) → rank_at t c x ≡ o → rank_at t c x ≡ ranks_for p t c x
    own c x None e = subst (λ (o : Option ℕ). o ≡ (if nat_lt x (length p.exchanges) then o else None)) (sym e) (bare (nat_lt x (length p.exchanges)))
    own c x (Some r) e =
        let among : x < length p.exchanges = let k = h.rules.own_exchanges c x r e in let s = h.exchanges in omega arith in
        sym (ap (λ b. if b then rank_at t c x else None) (lt-ltb x (length p.exchanges) among))

pub certified_for : (p : Plan) (t : Certificate) (limit spare : ℕ) → IsCertificateOf p t → IsCertified p (ranks_of t) limit spare → IsCertified p (ranks_for p t) limit spare
certified_for p t limit spare own cert = subst (λ ranks. IsCertified p ranks limit spare) (own_ranks p t own) cert
