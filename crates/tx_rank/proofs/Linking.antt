-- Links, as they are made.
use Rattle.tx_rank.proofs.Common.{◌≡◌, ◌≢◌, ℕ, zero, suc, ◌+◌, ◌<◌, true, false, eqb, eqb-true, List, [], ◌∷◌, ◌++◌, length, take, get_or, ◌⊎◌, inl, inr, Option, Some, None, refl, sym, ap, subst, ◌∙◌, arith, slice_get, replicate, set, length-set, eqb-false, slice_get-get_or, Among, among_cases, Net, Goes, end_of, take_next}
use Rattle.tx_rank.specs.inner.Links.{IsLink, AreLinks, LinksAll, StaysLinked, LinksBelow}
use Rattle.tx_rank.proofs.Looks.{among_at}
use Rattle.tx_rank.proofs.Turns.{set_same, set_other}

pub record IsLinking (n : Net) (ranks : ℕ → Option ℕ) (p : ℕ) (groups : List ℕ) (old links : List (Option (ℕ × ℕ))) : Type 0 where
  pub long : length links ≡ n.exchanges
  pub true_of : AreLinks n ranks links
  pub stays : StaysLinked old links
  pub all : LinksAll n links p groups

module _ (n : Net) (ranks : ℕ → Option ℕ) (p : ℕ) where
  put : (links : List (Option (ℕ × ℕ))) (y : ℕ) (s : ℕ × ℕ) → y < length links → slice_get (set links y (Some s)) y ≡ Some (Some s)
  put links y s h = set_same links y (get_or links y None) (Some s) (slice_get-get_or links y None h)

  kept : (links : List (Option (ℕ × ℕ))) (y : ℕ) (s : ℕ × ℕ) → y < length links → StaysLinked links (set links y (Some s))
  kept links y s h z t old =
      elim (eqb y z) as (λ b. eqb y z ≡ b → (t' : ℕ × ℕ) × (slice_get (set links y (Some s)) z ≡ Some (Some t'))) [
        | true ↦ λ e. (s, ap (slice_get (set links y (Some s))) (sym (eqb-true y z e)) ∙ put links y s h)
        | false ↦ λ e. (t, set_other links y z (Some s) (eqb-false y z e) ∙ old)
      ] refl

  linking_more : (groups : List ℕ) (old links : List (Option (ℕ × ℕ))) (g y r : ℕ) → IsLinking n ranks p groups old links → ranks p ≡ Some r → p ≢ n.home → Among g (n.list p) → n.far g p ≡ Some y → y < n.exchanges → IsLinking n ranks p (groups ++ g ∷ []) old (set links y (Some (g, p)))
  linking_more groups old links g y r l ranked away listed leads within =
      let long = l.long in
      let fits : y < length links = omega arith in
      let stay = kept links y (g, p) fits in
      record {
        long = length-set links y (Some (g, p)) ∙ long;
        true_of = λ z s h. elim (eqb y z) as (λ b. eqb y z ≡ b → IsLink n ranks z s) [
          | true ↦ λ e.
              let same = eqb-true y z e in
              let z' = ap (slice_get (set links y (Some (g, p)))) same in
              let w = put links y (g, p) fits in
              let is : (g, p) ≡ s = cc in
              subst (λ (t : ℕ × ℕ). IsLink n ranks z t) is (record { rank = r; ranked = ranked; away = away; listed = listed; leads = leads ∙ ap (λ k. Some k) same })
          | false ↦ λ e. l.true_of z s (sym (set_other links y z (Some (g, p)) (eqb-false y z e)) ∙ h)
        ] refl;
        stays = λ z s h. let t = l.stays z s h in stay z t.0 t.1;
        all = λ h z m leads'. elim (among_cases h groups (g ∷ []) m) [
          | inl a ↦ let t = l.all h z a leads' in stay z t.0 t.1
          | inr b ↦ elim b [
            | inl e ↦ let q = ap (λ k. n.far k p) e in let same : y ≡ z = cc in ((g, p), ap (slice_get (set links y (Some (g, p)))) (sym same) ∙ put links y (g, p) fits)
            | inr f ↦ absurd f
          ]
        ];
      }

  pub linking_step : (i : ℕ) (old links : List (Option (ℕ × ℕ))) (g y : ℕ) → slice_get (n.list p) i ≡ Some g → IsLinking n ranks p (take i (n.list p)) old links → (r : ℕ) × (ranks p ≡ Some r) → p ≢ n.home → n.far g p ≡ Some y → y < n.exchanges → IsLinking n ranks p (take (i + 1) (n.list p)) old (set links y (Some (g, p)))
  linking_step i old links g y at l r away leads within =
      subst (λ (x : List ℕ). IsLinking n ranks p x old (set links y (Some (g, p)))) (sym (take_next (n.list p) i g at)) (linking_more (take i (n.list p)) old links g y r.0 l r.1 away (among_at (n.list p) i g at) leads within)

  -- where it leads is linked already
  pub linking_kept : (i : ℕ) (old links : List (Option (ℕ × ℕ))) (g y : ℕ) (s : ℕ × ℕ) → slice_get (n.list p) i ≡ Some g → IsLinking n ranks p (take i (n.list p)) old links → n.far g p ≡ Some y → slice_get links y ≡ Some (Some s)
      → IsLinking n ranks p (take (i + 1) (n.list p)) old links
  linking_kept i old links g y s at l leads linked =
      subst (λ (x : List ℕ). IsLinking n ranks p x old links) (sym (take_next (n.list p) i g at))
      (record {
        long = l.long;
        true_of = l.true_of;
        stays = l.stays;
        all = λ h z m leads'. elim (among_cases h (take i (n.list p)) (g ∷ []) m) [
          | inl a ↦ l.all h z a leads'
          | inr b ↦ elim b [
            | inl e ↦ let q = ap (λ k. n.far k p) e in let same : y ≡ z = cc in (s, ap (slice_get links) (sym same) ∙ linked)
            | inr f ↦ absurd f
          ]
        ];
      })

-- the links of the exchanges before index i
pub record IsLinkedBelow (n : Net) (ranks : ℕ → Option ℕ) (links : List (Option (ℕ × ℕ))) (i : ℕ) : Type 0 where
  pub long : length links ≡ n.exchanges
  pub true_of : AreLinks n ranks links
  pub below : LinksBelow n ranks links i

-- nothing is linked yet
none_there : (k y : ℕ) (s : ℕ × ℕ) → slice_get (replicate {A = Option (ℕ × ℕ)} k None) y ≡ Some (Some s) → ⊥
none_there zero y s e = cc
none_there (suc k) zero s e = cc
none_there (suc k) (suc y) s e = none_there k y s e

module _ (n : Net) (ranks : ℕ → Option ℕ) where
  pub none_linked : (links : List (Option (ℕ × ℕ))) (k : ℕ) → length links ≡ n.exchanges → links ≡ replicate k None → IsLinkedBelow n ranks links 0
  none_linked links k long is = record {
    long = long;
    true_of = λ y s e. absurd (none_there k y s (ap (λ l. slice_get l y) (sym is) ∙ e));
    below = λ p r lt. absurd (omega (arith, lt));
  }

  -- the next index has nothing to link
  pub below_skip : (links : List (Option (ℕ × ℕ))) (i : ℕ) → LinksBelow n ranks links i → ((r : ℕ) → ranks i ≡ Some r → i ≢ n.home → ⊥) → LinksBelow n ranks links (i + 1)
  below_skip links i b nothing p r h ranked away =
      elim (eqb p i) as (λ t. eqb p i ≡ t → LinksAll n links p (n.list p)) [
        | true ↦ λ e. let same = eqb-true p i e in absurd (nothing r (ap ranks (sym same) ∙ ranked) (λ q. away (same ∙ q)))
        | false ↦ λ e. let d = eqb-false p i e in b p r (omega arith) ranked away
      ] refl

  pub below_more : (old links : List (Option (ℕ × ℕ))) (i : ℕ) → LinksBelow n ranks old i → StaysLinked old links → LinksAll n links i (n.list i) → LinksBelow n ranks links (i + 1)
  below_more old links i b stays all p r h ranked away =
      elim (eqb p i) as (λ t. eqb p i ≡ t → LinksAll n links p (n.list p)) [
        | true ↦ λ e. subst (λ (k : ℕ). LinksAll n links k (n.list k)) (sym (eqb-true p i e)) all
        | false ↦ λ e. λ g y m leads. let d = eqb-false p i e in let t = b p r (omega arith) ranked away g y m leads in stays y t.0 t.1
      ] refl

  -- the last step of a walk
  pub record IsLast (x : ℕ) (y : ℕ) : Type 0 where
    pub front : List (ℕ × ℕ)
    pub goes : Goes n x front
    pub group : ℕ
    pub away : end_of x front ≢ n.home
    pub listed : Among group (n.list (end_of x front))
    pub leads : n.far group (end_of x front) ≡ Some y

  pub last_step : (x : ℕ) (steps : List (ℕ × ℕ)) (y : ℕ) → Goes n x steps → end_of x steps ≡ y → (x ≡ y) ⊎ IsLast x y
  last_step x [] y go e = inl e
  last_step x (s ∷ steps) y go e =
      elim (last_step s.1 steps y go.3 e) [
        | inl same ↦ inr (record { front = []; goes = tt; group = s.0; away = go.0; listed = go.1; leads = go.2 ∙ ap (λ k. Some k) same })
        | inr l ↦ inr (record { front = s ∷ l.front; goes = (go.0, go.1, go.2, l.goes); group = l.group; away = l.away; listed = l.listed; leads = l.leads })
      ]
