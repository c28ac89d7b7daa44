-- What is done before and after the lists and bars of both plans are switched.
use Rattle.std.specs.Prelude.{ℕ, Bool, true, false, if◌then◌else◌, List, [], ◌∷◌, ◌++◌, codes}
use Rattle.tx_plan.specs.Plan.{Plan}
use Rattle.tx_plantext.specs.PlanWritten.{route_words, bar_words, lines_of_list}
use Rattle.tx_join.specs.declared.entries.Entries.TheVariants.{Exchanges, Codes, Ranges, Groups}
use Rattle.tx_join.specs.Joined.{routes_alone, bars_alone}
use Rattle.tx_join.specs.Differences.{alone, circuits, differ}

-- the lists of p for an exchange or a code that q does not have, after this word
abbrev pub lists_alone : (word : List ℕ) → (p q : Plan) → List ℕ
lists_alone word p q = lines_of_list (λ r. word ∷ route_words p r) (routes_alone p q)

-- and the bars
abbrev pub bans_alone : (word : List ℕ) → (p q : Plan) → List ℕ
bans_alone word p q = lines_of_list (λ b. word ∷ bar_words p b) (bars_alone p q)

-- what is put there: exchanges, groups and circuits, and each list and bar of a new exchange or a
-- new code
abbrev pub put_text : (old new : Plan) → List ℕ
put_text old new = alone Exchanges (codes "NEW") new old ++ (alone Groups (codes "NEW") new old
    ++ (circuits true old new
    ++ (lists_alone (codes "NEW") new old ++ bans_alone (codes "NEW") new old)))

-- what goes of the network
abbrev pub network_gone : (old new : Plan) → List ℕ
network_gone old new = alone Exchanges (codes "GONE") old new ++ (alone Codes (codes "GONE") old new
    ++ (alone Ranges (codes "GONE") old new ++ (alone Groups (codes "GONE") old new
    ++ circuits false old new)))

-- all that goes
abbrev pub gone_text : (old new : Plan) → List ℕ
gone_text old new = network_gone old new
    ++ (lists_alone (codes "GONE") old new ++ bans_alone (codes "GONE") old new)

-- what is opened: codes and lines
abbrev pub opened_text : (old new : Plan) → List ℕ
opened_text old new = alone Codes (codes "NEW") new old ++ alone Ranges (codes "NEW") new old

-- a part of a report, if the plans differ beside lists and bars
abbrev pub part : Bool → (text : List ℕ) → List ℕ
part b text = if b then text else []

-- What is done before the first stage
abbrev pub before_text : (old new : Plan) → List ℕ
before_text old new = part (differ old new) (codes "BEFORE\n" ++ put_text old new)

-- What is done after the last one
abbrev pub after_text : (old new : Plan) → List ℕ
after_text old new =
    part (differ old new) (codes "AFTER\n" ++ (gone_text old new ++ opened_text old new))
