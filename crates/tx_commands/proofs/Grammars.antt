-- What a command has once a command is added.
use Rattle.std.proofs.Common.{◌≡◌, ◌∙◌, Bool, true, Option, None, Some, Result, Ok, IfOk, IsSomeAnd, ap, ap₂, subst}
use Rattle.std.proofs.lemmas.Result.{IfOk-weaker}
use Rattle.clap.specs.Words.{AddsSubcommand, App, Rule, app_of, rule_of, with_subcommand}
use Rattle.clap.specs.declared.builder.arg.Arg.{Arg}
use Rattle.clap.specs.declared.builder.command.Command.{Command}
use Rattle.clap.specs.declared.builder.range.ValueRange.{ValueRange}
use Rattle.clap.proofs.SimpleLemmas.{plain_fields}

pub with_command : (old new sub : Command) (app words : App) → app_of old ≡ app → app_of sub ≡ words → words.top.is_plain ≡ true → AddsSubcommand old sub new → app_of new ≡ with_subcommand app words.top
with_command old new sub app words is same plain adds =
    adds.shape (plain_fields sub (ap (λ (a : App). a.top.is_plain) same ∙ plain)).globals ∙ ap₂ with_subcommand is (ap (λ (a : App). a.top) same)

-- the same of a call that adds a command to what may not have been made
pub one_more : {E : Type 0} (made words next : Result Command E) (app sub : App) → IfOk made (λ c. app_of c ≡ app) → IfOk words (λ c. app_of c ≡ sub) → sub.top.is_plain ≡ true
    → IfOk next (λ c. (old : Command) × (w : Command) × (made ≡ Ok old) × (words ≡ Ok w) × AddsSubcommand old w c) → IfOk next (λ c. app_of c ≡ with_subcommand app sub.top)
one_more made words next app sub is same plain adds =
    IfOk-weaker next _ _ (λ c a. with_command a.0 c a.1 app sub (subst (λ m. IfOk m (λ c. app_of c ≡ app)) a.2 is) (subst (λ m. IfOk m (λ c. app_of c ≡ sub)) a.3 same) plain a.4) adds

-- an option that may have to be given
pub needs : (a b : Arg) (r : Rule) (needed : Bool) → b ≡ record a { required = needed } → rule_of a ≡ r → rule_of b ≡ record r { required = needed }
needs a b r needed is rule = ap rule_of is ∙ ap (λ (x : Rule). record x { required = needed }) rule

-- an argument that takes so many values
pub several : (a b : Arg) (r : Rule) (range : ValueRange) → b ≡ record a { num_vals = b.num_vals } → IsSomeAnd b.num_vals (λ v. v ≡ range) → rule_of a ≡ r → rule_of b ≡ record r { range = Some range }
several a b r range is some rule = ap rule_of is ∙ ap₂ (λ (x : Rule) n. record x { range = n }) rule (only b.num_vals some)
  where
    only : (o : Option ValueRange) → IsSomeAnd o (λ v. v ≡ range) → o ≡ Some range
    only None h = absurd h
    only (Some v) h = ap Some h
