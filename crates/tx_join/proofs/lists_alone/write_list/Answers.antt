use Rattle.tx_join.proofs.Common.{Bool, not, List, [], ℕ, ◌≡◌, ◌++◌, ◌∷◌, ◌∙◌, map, append_assoc, ap, sym, codes, if◌then◌else◌, puts_none, puts_then, puts_is, exchange_name, figures_of, group_name, route_list}
use Rattle.tx_text.specs.Written.{joined, line_written}
use Rattle.tx_join.proofs.lists_alone.write_list.Goals as goal

-- a word, a blank and the words of a list
after_word : (word w : List ℕ) (ws : List (List ℕ)) → line_written (word ∷ w ∷ ws) ≡ (word ++ codes " ") ++ line_written (w ∷ ws)
after_word word w ws = append_assoc word (32 ∷ joined (w ∷ ws)) (10 ∷ []) ∙ sym (append_assoc word (32 ∷ []) (joined (w ∷ ws) ++ 10 ∷ []))

pub returns-then-has_both : goal.returns-then-has_both
returns-then-has_both g c =
    let p = c.args.plan.now in
    let words : List (List ℕ) = c.args.word.now ∷ codes "ROUTE" ∷ exchange_name p c.args.exchange ∷ figures_of p c.args.code ∷ map (group_name p) (route_list p c.args.exchange c.args.code) in
    puts_is (ap (λ (b : Bool). if not b then line_written words else []) (sym c.has_both.ensures ∙ c.if-has_both.true)) puts_none

pub returns : goal.returns
returns g c =
    let p = c.args.plan.now in
    let rest : List (List ℕ) = exchange_name p c.args.exchange ∷ figures_of p c.args.code ∷ map (group_name p) (route_list p c.args.exchange c.args.code) in
    puts_is (ap (λ (b : Bool). if not b then line_written (c.args.word.now ∷ codes "ROUTE" ∷ rest) else []) (sym c.has_both.ensures ∙ c.if-has_both.false) ∙ after_word c.args.word.now (codes "ROUTE") rest)
    (puts_then c.put_parts.ensures c.write_route.ensures)
