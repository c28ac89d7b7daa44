-- What a page shows of what is done before a change and after it.
use Rattle.std.specs.Prelude.{ℕ, Bool, true, false, if◌then◌else◌, List, [], ◌∷◌, ◌++◌, length, codes}
use Rattle.std.specs.List.{flat_map}
use Rattle.tx_plan.specs.Plan.{Plan}
use Rattle.tx_plan.specs.Mixed.{rerouted}
use Rattle.tx_join.specs.declared.entries.Entries.{Entries}
use Rattle.tx_join.specs.declared.entries.Entries.TheVariants.{Exchanges, Codes, Ranges, Groups}
use Rattle.tx_join.specs.Joined.{routes_alone, bars_alone}
use Rattle.tx_join.specs.Differences.{count_of_entries, is_known, entry_words, circuits_lines, differ}
use Rattle.tx_order.specs.declared.switching.Switching.{Switching}
use Rattle.tx_order.specs.declared.switching.Switching.TheVariants.{Ordered, NoOrder}
use Rattle.tx_svg.specs.Indexed.{texts_below}
use Rattle.tx_page_change.specs.ChangeTexts.{table_texts, stages_texts, difference_texts}
use Rattle.tx_page_change.specs.declared.change.Change.{Change}

-- an entry of p after a word, unless q has it
abbrev pub if_alone_texts : Entries → (word : List ℕ) → (p q : Plan) → ℕ → List (List ℕ)
if_alone_texts entries word p q i =
    if is_known entries p q i then [] else word ∷ entry_words entries p i

-- the entries of a list that p has alone
abbrev pub alone_texts : Entries → (word : List ℕ) → (p q : Plan) → List (List ℕ)
alone_texts entries word p q =
    texts_below (count_of_entries entries p) (if_alone_texts entries word p q)

-- both numbers of circuits of a group that gets more, or of one that loses some
abbrev pub group_circuits_texts : (grows : Bool) → (old new : Plan) → ℕ → List (List ℕ)
group_circuits_texts grows old new g = flat_map (λ l. l) (circuits_lines grows old new g)

-- of all such groups
abbrev pub circuits_texts : (grows : Bool) → (old new : Plan) → List (List ℕ)
circuits_texts grows old new =
    texts_below (length old.groups) (group_circuits_texts grows old new)

-- what is put there
abbrev pub put_texts : (old new : Plan) → List (List ℕ)
put_texts old new = alone_texts Exchanges (codes "NEW") new old
    ++ (alone_texts Groups (codes "NEW") new old ++ circuits_texts true old new)

-- what goes
abbrev pub gone_texts : (old new : Plan) → List (List ℕ)
gone_texts old new = alone_texts Exchanges (codes "GONE") old new
    ++ (alone_texts Codes (codes "GONE") old new ++ (alone_texts Ranges (codes "GONE") old new
    ++ (alone_texts Groups (codes "GONE") old new ++ circuits_texts false old new)))

-- what is opened
abbrev pub opened_texts : (old new : Plan) → List (List ℕ)
opened_texts old new = alone_texts Codes (codes "NEW") new old
    ++ alone_texts Ranges (codes "NEW") new old

-- a plan without lists and bars
abbrev pub bare : Plan → Plan
bare p = rerouted p [] []

-- a plan with those lists and bars alone whose exchange or code another plan does not have
abbrev pub alone_in : (p q : Plan) → Plan
alone_in p q = rerouted p (routes_alone p q) (bars_alone p q)

-- before the first stage: what is put there, with each list and bar of a new exchange or a new code
abbrev pub before_texts : (old new : Plan) → List (List ℕ)
before_texts old new = put_texts old new ++ table_texts new (bare new) (alone_in new old)

-- after the last one: what goes, with its lists and bars, and what is opened
abbrev pub after_texts : (old new : Plan) → List (List ℕ)
after_texts old new =
    gone_texts old new ++ (table_texts old (alone_in old new) (bare old) ++ opened_texts old new)

module _ {A : Type 0} where
  -- the stages of an order, if there is one and the new plan is safe; else all that differs over
  -- the joined network
  abbrev pub switching_texts : (safe : Bool) → Switching A → List (List ℕ)
  switching_texts safe (Ordered o) = if safe then stages_texts o
      else difference_texts o.transition.old o.transition.new
  switching_texts safe (NoOrder plans before after) = difference_texts plans.old plans.new

  -- what is done before that, and after it
  abbrev pub steps_texts : (safe : Bool) → Change A → List (List ℕ)
  steps_texts safe c = codes "differ" ∷ (before_texts c.old.plan.now c.new.plan.now
      ++ (switching_texts safe c.switching.now
      ++ after_texts c.old.plan.now c.new.plan.now))

  -- what is switched, with what is done before and after if the plans differ beside lists and bars
  abbrev pub change_texts : (safe : Bool) → Change A → List (List ℕ)
  change_texts safe c = if differ c.old.plan.now c.new.plan.now then steps_texts safe c
      else switching_texts safe c.switching.now
