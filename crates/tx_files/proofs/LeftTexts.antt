-- Texts of which groups are left out: their risks, and the network of two.
use Rattle.std.proofs.Common.{◌≡◌, ◌∙◌, ◌<◌, List, None, length, sym, ap, ap₂, subst, inl, inr}
use Rattle.std.specs.List.{AllByRecursion}
use Rattle.tx_plan.specs.Plan.{Plan, Group}
use Rattle.tx_plan.proofs.Lists.{all_map}
use Rattle.tx_join.specs.Joined.{joined_new}
use Rattle.tx_join.specs.Refusals.{join_refusal, IsRefusedAs}
use Rattle.tx_join.specs.declared.refusal.JoinRefusal.{JoinRefusal}
use Rattle.tx_join.specs.declared.refusal.JoinRefusal.TheVariants.{NoMemory as JoinNoMemory}
use Rattle.tx_files.proofs.Common.{NamedRisk, AreRisksFor, CommandFault, PlanText, memory_stop}
use Rattle.tx_commands.specs.declared.down.Down.{Down}
use Rattle.tx_files.specs.declared.two_plans.TwoPlans.{TwoPlans}
use Rattle.tx_files.specs.Left.{text_while, AreLeft}
use Rattle.tx_files.specs.TwoPlans.{join_stop, IsJoin, IsNoJoinOf}

-- risks are of each plan of the groups
pub risks_stay : (p q : Plan) (risks : List NamedRisk) → p.groups ≡ q.groups
    → AreRisksFor p risks → AreRisksFor q risks
risks_stay p q risks same h = record {
  each = all_map risks (λ r k. record {
    name = k.name;
    some = k.some;
    known = subst (λ (gs : List Group). AllByRecursion (λ g. g < length gs) r.groups) same k.known;
    differ = k.differ;
  }) h.each;
  differ = h.differ;
}

module _ {A : Type 0} where
  -- the joined network keeps its groups
  pub joined_groups : (d : Down) (t l : TwoPlans A) → IsJoin t.old.plan t.new.plan t.joined
      → AreLeft d t l → t.joined.new.groups ≡ l.joined.new.groups
  joined_groups d t l j left =
      ap (λ (p : Plan). p.groups) j.after
      ∙ ap₂ (λ (o n : PlanText A). (joined_new o.plan n.plan).groups) (sym left.old) (sym left.new)
      ∙ ap (λ (p : Plan). p.groups) (sym left.joined.after)

  -- two plans that have a joined network lack no more than memory
  pub joined_stop : (old new : PlanText A) (fault : CommandFault)
      → join_refusal old.plan new.plan ≡ None → IsNoJoinOf old new fault → fault ≡ memory_stop
  joined_stop old new fault none h =
      h.told ∙ ap (join_stop old new) (lacking old.plan new.plan h.refusal none h.refused)
    where
      lacking : (p q : Plan) (e : JoinRefusal) → join_refusal p q ≡ None → IsRefusedAs p q e
          → e ≡ JoinNoMemory
      lacking p q e none (inl some) = let bad : ⊥ = let k = sym none ∙ some in cc in absurd bad
      lacking p q e none (inr (again, is)) = is

  -- what is left of two plans that have a joined network has one
  pub still_joined : (d : Down) (t : TwoPlans A) (old new : PlanText A) (fault : CommandFault)
      → old ≡ text_while d t.old → new ≡ text_while d t.new
      → join_refusal t.old.plan t.new.plan ≡ None → IsNoJoinOf old new fault → fault ≡ memory_stop
  still_joined d t old new fault is_old is_new none h =
      joined_stop old new fault (rw (is_old, is_new) none) h
