-- Marking the exchanges that calls come to.
use Rattle.tx_rank.proofs.Common.{◌≡◌, ◌≢◌, ℕ, zero, suc, ◌+◌, ◌<◌, ◌≤◌, Bool, true, false, List, [], ◌∷◌, ◌++◌, length, take, ◌⊎◌, inl, inr, Some, refl, sym, ap, subst, ◌∙◌, arith, false≢true, cases_lt, take_all, length-replicate, set, length-set, take-append_seam, Plan, is_origin_for, IsPlan, Among, among_cases, Net, net_of, Goes, end_of, IsReached, take_next}
use Rattle.std.specs.Prelude.{◌&&◌, not, slice_get, replicate}
use Rattle.tx_rank.proofs.Ways.{end_push, goes_push}
use Rattle.tx_rank.proofs.Looks.{among_at}
use Rattle.tx_rank.proofs.Nets.{is_net}
use Rattle.tx_rank.specs.Reached.{is_marked, AreReached}
use Rattle.tx_rank.specs.inner.Seen.{AreSeen, LeadsToSeen, StaysSeen}

-- ---- marks

pub at_within : (marks : List Bool) (x : ℕ) → is_marked marks x ≡ true → x < length marks
at_within [] x h = absurd (false≢true h)
at_within (b ∷ bs) zero h = omega arith
at_within (b ∷ bs) (suc x) h = let i = at_within bs x h in omega arith

put : (marks : List Bool) (y : ℕ) → y < length marks → is_marked (set marks y true) y ≡ true
put [] y h = absurd (omega (arith, h))
put (b ∷ bs) zero h = refl
put (b ∷ bs) (suc y) h = put bs y (omega (arith, h))

stays : (marks : List Bool) (y : ℕ) → StaysSeen marks (set marks y true)
stays [] y x h = h
stays (b ∷ bs) zero zero h = refl
stays (b ∷ bs) zero (suc x) h = h
stays (b ∷ bs) (suc y) zero h = h
stays (b ∷ bs) (suc y) (suc x) h = stays bs y x h

back : (marks : List Bool) (y x : ℕ) → is_marked (set marks y true) x ≡ true → (x ≡ y) ⊎ (is_marked marks x ≡ true)
back [] y x h = inr h
back (b ∷ bs) zero zero h = inl refl
back (b ∷ bs) zero (suc x) h = inr h
back (b ∷ bs) (suc y) zero h = inr h
back (b ∷ bs) (suc y) (suc x) h = elim (back bs y x h) [ inl e ↦ inl (ap suc e) | inr k ↦ inr k ]

-- marks that were lent are back
pub put_back : (k : ℕ) (new rest : List Bool) → length new ≡ k → take k (new ++ rest) ≡ new
put_back k new rest e = rw (← e) (take-append_seam new rest)

-- how many exchanges are not marked
abbrev pub left : List Bool → ℕ
left [] = 0
left (true ∷ bs) = left bs
left (false ∷ bs) = suc (left bs)

pub left_less : (bs : List Bool) (i : ℕ) → i < length bs → is_marked bs i ≡ false → left (set bs i true) < left bs
left_less [] i h e = absurd (omega (arith, h))
left_less (true ∷ bs) zero h e = absurd (false≢true (sym e))
left_less (false ∷ bs) zero h e = omega arith
left_less (true ∷ bs) (suc i) h e = left_less bs i (omega (arith, h)) e
left_less (false ∷ bs) (suc i) h e = let l = left_less bs i (omega (arith, h)) e in omega arith

-- ---- where calls may start

at_end : (bs : List Bool) (b : Bool) → is_marked (bs ++ b ∷ []) (length bs) ≡ b
at_end [] b = refl
at_end (c ∷ bs) b = at_end bs b

length_push : (bs : List Bool) (b : Bool) → length (bs ++ b ∷ []) ≡ length bs + 1
length_push [] b = refl
length_push (c ∷ bs) b = let e = length_push bs b in omega arith

before_end : (bs : List Bool) (b : Bool) (x : ℕ) → x < length bs → is_marked (bs ++ b ∷ []) x ≡ is_marked bs x
before_end [] b x h = absurd (omega (arith, h))
before_end (c ∷ bs) b zero h = refl
before_end (c ∷ bs) b (suc x) h = before_end bs b x (omega (arith, h))

-- the origins before index i are marked
pub record AreOriginsBefore (p : Plan) (c i : ℕ) (marks : List Bool) : Type 0 where
  pub long : length marks ≡ i
  pub each : (x : ℕ) → x < i → is_marked marks x ≡ is_origin_for p x c

module _ (p : Plan) (c : ℕ) where
  pub origins_next : (i : ℕ) (marks new : List Bool) (b : Bool) → AreOriginsBefore p c i marks → new ≡ marks ++ b ∷ [] → b ≡ is_origin_for p i c → AreOriginsBefore p c (i + 1) new
  origins_next i marks new b o more e =
      subst (AreOriginsBefore p c (i + 1)) (sym more)
      (record {
        long = let n = length_push marks b in let l = o.long in omega arith;
        each = λ x h. elim (cases_lt x i) [
          | inl l ↦ before_end marks b x (omega (arith, l, o.long)) ∙ o.each x l
          | inr ge ↦
              let same : x ≡ i = omega (arith, h, ge) in
              subst (λ (y : ℕ). is_marked (marks ++ b ∷ []) y ≡ is_origin_for p y c) (o.long ∙ sym same) (at_end marks b ∙ e ∙ ap (λ (y : ℕ). is_origin_for p y c) (sym o.long))
        ];
      })

  pub origins_seen : (i : ℕ) (marks : List Bool) → IsPlan p → c < length p.codes → i ≡ length p.exchanges → AreOriginsBefore p c i marks → AreSeen (net_of p c) marks
  origins_seen i marks ok known all o =
      let l = o.long in
      record {
        long = l ∙ all;
        origins = λ x h. let w = (is_net p ok c known).origins x h in o.each x (omega (arith, w, all)) ∙ h;
        reached = λ x h. let w = at_within marks x h in record {
          start = x;
          steps = [];
          walk = record { origin = sym (o.each x (omega (arith, w, l))) ∙ h; goes = tt };
          ends = refl;
        };
      }

-- ---- an exchange is opened

pub record IsOpening (n : Net) (x : ℕ) (groups : List ℕ) (old marks : List Bool) : Type 0 where
  pub seen : AreSeen n marks
  pub stays : StaysSeen old marks
  pub leads : (g y : ℕ) → Among g groups → n.far g x ≡ Some y → is_marked marks y ≡ true

module _ (n : Net) (x : ℕ) where
  -- a call goes on
  reached_on : (g y : ℕ) → IsReached n x → x ≢ n.home → Among g (n.list x) → n.far g x ≡ Some y → IsReached n y
  reached_on g y r away listed leads =
      let at = sym r.ends in
      record {
        start = r.start;
        steps = r.steps ++ (g, y) ∷ [];
        walk = record {
          origin = r.walk.origin;
          goes = goes_push n r.start r.steps (g, y) r.walk.goes (λ e. away (at ∙ e)) (subst (λ (k : ℕ). Among g (n.list k)) at listed) (subst (λ (k : ℕ). n.far g k ≡ Some y) at leads);
        };
        ends = end_push r.start r.steps (g, y);
      }

  opening_more : (groups : List ℕ) (old seen : List Bool) (g y : ℕ) → IsOpening n x groups old seen → IsReached n x → x ≢ n.home → Among g (n.list x) → n.far g x ≡ Some y → y < n.exchanges → IsOpening n x (groups ++ g ∷ []) old (set seen y true)
  opening_more groups old seen g y o r away listed leads within =
      let long = o.seen.long in
      let fits : y < length seen = omega (arith, long, within) in
      let stay = stays seen y in
      record {
        seen = record {
          long = length-set seen y true ∙ long;
          origins = λ z h. stay z (o.seen.origins z h);
          reached = λ z h. elim (back seen y z h) [ inl e ↦ subst (IsReached n) (sym e) (reached_on g y r away listed leads) | inr k ↦ o.seen.reached z k ];
        };
        stays = λ z h. stay z (o.stays z h);
        leads = λ h z m leads'. elim (among_cases h groups (g ∷ []) m) [
          | inl a ↦ stay z (o.leads h z a leads')
          | inr b ↦ elim b [
            | inl e ↦ let q = ap (λ k. n.far k x) e in let same : y ≡ z = cc in subst (λ (k : ℕ). is_marked (set seen y true) k ≡ true) same (put seen y fits)
            | inr f ↦ absurd f
          ]
        ];
      }

  -- the group at an index leads to y
  pub opening_step : (i : ℕ) (old seen : List Bool) (g y : ℕ) → slice_get (n.list x) i ≡ Some g → IsOpening n x (take i (n.list x)) old seen → IsReached n x → x ≢ n.home → n.far g x ≡ Some y → y < n.exchanges → IsOpening n x (take (i + 1) (n.list x)) old (set seen y true)
  opening_step i old seen g y at o r away leads within =
      subst (λ (gs : List ℕ). IsOpening n x gs old (set seen y true)) (sym (take_next (n.list x) i g at)) (opening_more (take i (n.list x)) old seen g y o r away (among_at (n.list x) i g at) leads within)

  pub opening_all : (i : ℕ) (old seen : List Bool) → length (n.list x) ≤ i → IsOpening n x (take i (n.list x)) old seen → IsOpening n x (n.list x) old seen
  opening_all i old seen h o = subst (λ (gs : List ℕ). IsOpening n x gs old seen) (take_all i (n.list x) h) o

-- ---- which exchange is opened

pub waits : (a b : Bool) → (a && not b) ≡ true → (a ≡ true) × (b ≡ false)
waits true false e = (refl, refl)
waits true true e = absurd (false≢true e)
waits false b e = absurd (false≢true e)

waits_not : (a b : Bool) → (a && not b) ≡ false → a ≡ true → b ≡ true
waits_not true true e h = refl
waits_not true false e h = absurd (false≢true (sym e))
waits_not false b e h = absurd (false≢true h)

pub none_more : (seen opened : List Bool) (i x : ℕ) → x ≡ i → (is_marked seen x && not (is_marked opened x)) ≡ false → ((y : ℕ) → y < i → is_marked seen y ≡ true → is_marked opened y ≡ true) → (y : ℕ) → y < i + 1 → is_marked seen y ≡ true → is_marked opened y ≡ true
none_more seen opened i x e b before y lt s =
    elim (cases_lt y i) [
      | inl l ↦ before y l s
      | inr ge ↦ let same : x ≡ y = omega (arith, lt, ge, e) in waits_not (is_marked seen y) (is_marked opened y) (subst (λ (k : ℕ). (is_marked seen k && not (is_marked opened k)) ≡ false) same b) s
    ]

-- ---- all exchanges are opened

pub record IsMarking (n : Net) (marks done : List Bool) : Type 0 where
  pub seen : AreSeen n marks
  pub long : length done ≡ n.exchanges
  pub opened : (x : ℕ) → is_marked done x ≡ true → LeadsToSeen n marks x

pub unmarked : (k x : ℕ) → is_marked (replicate k false) x ≡ false
unmarked zero x = refl
unmarked (suc k) zero = refl
unmarked (suc k) (suc x) = unmarked k x

module _ (n : Net) where
  pub marking_none : (k : ℕ) (seen opened : List Bool) → AreSeen n seen → opened ≡ replicate k false → k ≡ n.exchanges → IsMarking n seen opened
  marking_none k seen opened s e h =
      record {
        seen = s;
        long = ap length e ∙ length-replicate k false ∙ h;
        opened = λ x m. absurd (false≢true (sym (ap (λ (l : List Bool). is_marked l x) e ∙ unmarked k x) ∙ m));
      }

  pub marking_more : (old seen opened : List Bool) (x : ℕ) → IsMarking n old opened → AreSeen n seen → StaysSeen old seen → LeadsToSeen n seen x → IsMarking n seen (set opened x true)
  marking_more old seen opened x m s stay leads =
      record {
        seen = s;
        long = length-set opened x true ∙ m.long;
        opened = λ y h. elim (back opened x y h) [ inl e ↦ subst (LeadsToSeen n seen) (sym e) leads | inr k ↦ λ away g z a f. stay z (m.opened y k away g z a f) ];
      }

  all_seen : (seen : List Bool) (x : ℕ) (steps : List (ℕ × ℕ)) → ((y : ℕ) → is_marked seen y ≡ true → LeadsToSeen n seen y) → Goes n x steps → is_marked seen x ≡ true → is_marked seen (end_of x steps) ≡ true
  all_seen seen x [] c go h = h
  all_seen seen x (s ∷ steps) c go h = all_seen seen s.1 steps c go.3 (c x h go.0 s.0 s.1 go.1 go.2)

  pub marking_all : (seen opened : List Bool) → IsMarking n seen opened → ((x : ℕ) → is_marked seen x ≡ true → is_marked opened x ≡ true) → AreReached n seen
  marking_all seen opened m none =
      record {
        long = m.seen.long;
        reached = m.seen.reached;
        all = λ x r. subst (λ (k : ℕ). is_marked seen k ≡ true) r.ends (all_seen seen r.start r.steps (λ y h. m.opened y (none y h)) r.walk.goes (m.seen.origins r.start r.walk.origin));
      }
