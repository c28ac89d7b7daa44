-- What the conditions of the table's calls say of the groups.
use Rattle.tx_circuits.proofs.Common.{◌≡◌, ◌∙◌, ℕ, ◌<◌, Bool, true, false, List, length, map, Option, Some, None, refl, sym, ap, subst, arith, ◌⊎◌, inl, inr, slice_get, is_some, option_and_then, IfSome, option_map, option_map_or, contains, length-map, slice_get_within, is_circuit, may_seize, Circuit, End, GroupHead, has_seized, GroupState, state_at, end_at, seizing_end, first_index, group_of, is_marked, holds, sits, table_of}
use Rattle.std.proofs.lemmas.Bool.{false_from_ne_true}
use Rattle.tx_circuits.specs.Table.{Table, plan_of, IsSeizedBy}
use Rattle.tx_circuits.proofs.Members.{known, some_from, end_is, marked_within}
use Rattle.tx_circuits.proofs.Reading.{contains_circuits, contains_seats, contains_marks, circuit_known, end_known}

pub state_in : (ts : List GroupState) (c : Circuit) → is_some (state_at ts c) ≡ true → c.group < length ts
state_in ts c h = (let k = known ts c h in slice_get_within ts c.group k.group k.at)

-- a test of a group's head
pub head_read : (test : GroupHead → Bool) (o : Option GroupState) → option_map_or (λ t. test t.head) o false ≡ option_map_or test (option_map (λ t. t.head) o) false
head_read test None = refl
head_read test (Some t) = refl

-- the group of an end
pub record IsGroupAt (ts : List GroupState) (g x : ℕ) (end : End) : Type 0 where
  pub group : GroupState
  pub at : slice_get ts g ≡ Some group
  pub seizes : seizing_end group.head x ≡ Some end

pub group_at : (ts : List GroupState) (g x : ℕ) (end : End) → end_at ts g x ≡ Some end → IsGroupAt ts g x end
group_at ts g x end h = by_group (slice_get ts g) refl h
  where
    by_group : (o : Option GroupState) → slice_get ts g ≡ o → option_and_then (λ t. seizing_end t.head x) o ≡ Some end → IsGroupAt ts g x end
    by_group None e f = absurd cc
    by_group (Some t) e f = record { group = t; at = e; seizes = f }

pub index_is : (ts : List GroupState) (g : ℕ) (end : End) (r : Option ℕ) (t : GroupState) → IfSome (slice_get ts g) (λ t. r ≡ first_index t end) → slice_get ts g ≡ Some t → r ≡ first_index t end
index_is ts g end r t h at = subst (λ (o : Option GroupState). IfSome o (λ t. r ≡ first_index t end)) at h

module _ (ts : List GroupState) (now : Table) (view : table_of ts ≡ now) where
  pub group_in : (g : ℕ) → g < length now.groups → g < length ts
  group_in g h = (let a : length (map group_of ts) ≡ length now.groups = ap (λ (t : Table). length t.groups) view in let b : length (map group_of ts) ≡ length ts = length-map ts group_of in omega arith)

  pub failed_is_marked : (g : ℕ) → contains now.failed g ≡ is_marked (λ t. t.failed) ts g
  failed_is_marked g = ap (λ (t : Table). contains t.failed g) (sym view) ∙ contains_marks (λ t. t.failed) ts g

  pub blocked_is_marked : (g : ℕ) → contains now.blocked g ≡ is_marked (λ t. t.blocked) ts g
  blocked_is_marked g = ap (λ (t : Table). contains t.blocked g) (sym view) ∙ contains_marks (λ t. t.blocked) ts g

  pub releasing_holds : (c : Circuit) → contains now.releasing c ≡ holds (λ s. s.releasing) ts c
  releasing_holds c = ap (λ (t : Table). contains t.releasing c) (sym view) ∙ contains_circuits (λ s. s.releasing) ts c

  pub out_holds : (c : Circuit) → contains now.out c ≡ holds (λ s. s.out) ts c
  out_holds c = ap (λ (t : Table). contains t.out c) (sym view) ∙ contains_circuits (λ s. s.out) ts c

  pub carried_holds : (c : Circuit) → contains now.carried c ≡ holds (λ s. s.carried) ts c
  carried_holds c = ap (λ (t : Table). contains t.carried c) (sym view) ∙ contains_circuits (λ s. s.carried) ts c

  pub seized_sits : (c : Circuit) (x : ℕ) → contains now.seized (c, x) ≡ sits ts (c, x)
  seized_sits c x = ap (λ (t : Table). contains t.seized (c, x)) (sym view) ∙ contains_seats ts (c, x)

  pub failed_in : (g : ℕ) → contains now.failed g ≡ true → g < length ts
  failed_in g h = marked_within (λ t. t.failed) ts g (sym (failed_is_marked g) ∙ h)

  pub blocked_in : (g : ℕ) → contains now.blocked g ≡ true → g < length ts
  blocked_in g h = marked_within (λ t. t.blocked) ts g (sym (blocked_is_marked g) ∙ h)

  pub circuit_is : (c : Circuit) → is_circuit (plan_of now) c ≡ is_some (state_at ts c)
  circuit_is c = ap (λ (t : Table). is_circuit (plan_of t) c) (sym view) ∙ circuit_known ts c

  pub end_is_there : (g x : ℕ) → may_seize (plan_of now) g x ≡ is_some (end_at ts g x)
  end_is_there g x = ap (λ (t : Table). may_seize (plan_of t) g x) (sym view) ∙ end_known ts g x

  pub releasing_in : (c : Circuit) → contains now.releasing c ≡ true → is_some (state_at ts c) ≡ true
  releasing_in c h = some_from (λ s. s.releasing) (state_at ts c) (sym (releasing_holds c) ∙ h)

  pub out_in : (c : Circuit) → contains now.out c ≡ true → is_some (state_at ts c) ≡ true
  out_in c h = some_from (λ s. s.out) (state_at ts c) (sym (out_holds c) ∙ h)

  pub seat_in : (c : Circuit) (x : ℕ) → contains now.seized (c, x) ≡ true → (is_some (state_at ts c) ≡ true) × (is_some (end_at ts c.group x) ≡ true)
  seat_in c x h = by_end (end_at ts c.group x) (sym (seized_sits c x) ∙ h)
    where
      by_end : (o : Option End) → option_map_or (λ end. holds (has_seized end) ts c) o false ≡ true → (is_some (state_at ts c) ≡ true) × (is_some o ≡ true)
      by_end None k = absurd cc
      by_end (Some end) k = (some_from (has_seized end) (state_at ts c) k, refl)

  -- none but a group's ends has seized a circuit of it
  pub seized_ends : (c : Circuit) (x : ℕ) (t : GroupHead) → Some t ≡ option_map (λ u. u.head) (slice_get ts c.group) → contains now.seized (c, x) ≡ true → (x ≡ t.a) ⊎ (x ≡ t.b)
  seized_ends c x t e h = by_end (end_at ts c.group x) refl (seat_in c x h).1
    where
      by_end : (o : Option End) → end_at ts c.group x ≡ o → is_some o ≡ true → (x ≡ t.a) ⊎ (x ≡ t.b)
      by_end None f k = absurd cc
      by_end (Some end) f k =
          let at = group_at ts c.group x end f in
          let same : t ≡ at.group.head = ap (or_head t) (e ∙ ap (option_map (λ u. u.head)) at.at) in
          elim (end_is at.group.head x end at.seizes) [ inl l ↦ inl (sym (ap (λ (u : GroupHead). u.a) same ∙ l.1)) | inr r ↦ inr (sym (ap (λ (u : GroupHead). u.b) same ∙ r.1)) ]
        where
          or_head : GroupHead → Option GroupHead → GroupHead
          or_head d None = d
          or_head d (Some w) = w

  pub seized_none : (c : Circuit) (x : ℕ) → None ≡ option_map (λ u. u.head) (slice_get ts c.group) → contains now.seized (c, x) ≡ false
  seized_none c x e = seized_sits c x ∙ by_group (slice_get ts c.group) e
    where
      by_group : (o : Option GroupState) → None ≡ option_map (λ u. u.head) o → option_map_or (λ end. holds (has_seized end) ts c) (option_and_then (λ t. seizing_end t.head x) o) false ≡ false
      by_group None f = refl
      by_group (Some t) f = absurd cc

-- where neither of two exchanges has it, and no other may, nobody has
pub unseized : (now : Table) (c : Circuit) (a b : ℕ) → ((x : ℕ) → contains now.seized (c, x) ≡ true → (x ≡ a) ⊎ (x ≡ b)) → contains now.seized (c, a) ≡ false → contains now.seized (c, b) ≡ false
    → (x : ℕ) → contains now.seized (c, x) ≡ false
unseized now c a b ends f g x = false_from_ne_true (contains now.seized (c, x)) (λ h. elim (ends x h) [
  | inl e ↦ (let bad : true ≡ false = sym h ∙ ap (λ y. contains now.seized (c, y)) e ∙ f in absurd cc)
  | inr e ↦ (let bad : true ≡ false = sym h ∙ ap (λ y. contains now.seized (c, y)) e ∙ g in absurd cc)
])

-- which of two exchanges has the circuit alone
module _ (now : Table) (c : Circuit) (a b : ℕ) (ends : (x : ℕ) → contains now.seized (c, x) ≡ true → (x ≡ a) ⊎ (x ≡ b)) where
  pub alone_far : contains now.seized (c, a) ≡ false → contains now.seized (c, b) ≡ true → IsSeizedBy now c b
  alone_far f h = record {
    this = h;
    no_other = λ y k. elim (ends y k) [
      | inl e ↦ (let bad : true ≡ false = sym k ∙ ap (λ z. contains now.seized (c, z)) e ∙ f in absurd cc)
      | inr e ↦ e
    ];
  }

  pub alone_near : contains now.seized (c, a) ≡ true → contains now.seized (c, b) ≡ false → IsSeizedBy now c a
  alone_near h f = record {
    this = h;
    no_other = λ y k. elim (ends y k) [
      | inl e ↦ e
      | inr e ↦ (let bad : true ≡ false = sym k ∙ ap (λ z. contains now.seized (c, z)) e ∙ f in absurd cc)
    ];
  }

  pub alone_one : a ≡ b → contains now.seized (c, a) ≡ true → IsSeizedBy now c a
  alone_one same h = record { this = h; no_other = λ y k. elim (ends y k) [ inl e ↦ e | inr e ↦ e ∙ sym same ] }

  pub not_alone : (a ≡ b → ⊥) → contains now.seized (c, a) ≡ true → contains now.seized (c, b) ≡ true → (x : ℕ) → IsSeizedBy now c x → ⊥
  not_alone apart h k x s = apart (s.no_other a h ∙ sym (s.no_other b k))

  pub nobody : contains now.seized (c, a) ≡ false → contains now.seized (c, b) ≡ false → (x : ℕ) → IsSeizedBy now c x → ⊥
  nobody f g x s = (let bad : true ≡ false = sym s.this ∙ unseized now c a b ends f g x in absurd cc)
