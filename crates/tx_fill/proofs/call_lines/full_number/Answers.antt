use Rattle.tx_fill.proofs.Common.{◌≡◌, ◌∙◌, ◌++◌, List, ℕ, true, ap, sym, cond_some, are_figures, full_number}
use Rattle.tx_fill.proofs.LinesAt.{full_figures, is_read}
use Rattle.tx_fill.proofs.call_lines.full_number.Goals as goal

pub returns : goal.returns
returns g c =
    let line = c.args.line.now in
    let text : List ℕ = c.deref.result.now in
    let same : text ≡ full_number c.args.plan.now line = c.deref.ensures.0 ∙ c.put-2.ensures.text
    ∙ (λ j. c.put.ensures.text j ++ c.bytes.ensures.value j)
    ∙ (λ j. (c.new-keyed.ensures j ++ c.code_figures.ensures.value j) ++ line.national) in
    sym (cond_some (are_figures 1 12 text) text c.in-Some.figures
    (sym c.read.ensures ∙ c.in-Some.is)).1 ∙ same

pub unreachable-requires : goal.unreachable-requires
unreachable-requires g c =
    let line = c.args.line.now in
    let text : List ℕ = c.deref.result.now in
    let same : text ≡ full_number c.args.plan.now line = c.deref.ensures.0 ∙ c.put-2.ensures.text
    ∙ (λ j. c.put.ensures.text j ++ c.bytes.ensures.value j)
    ∙ (λ j. (c.new-keyed.ensures j ++ c.code_figures.ensures.value j) ++ line.national) in
    let passes : are_figures 1 12 text ≡ true = ap (are_figures 1 12) same
    ∙ full_figures c.args.plan.now line.code line.national c.rules.ensures c.bytes.ensures.figures in
    is_read (are_figures 1 12 text) text passes (sym c.read.ensures ∙ c.in-None.is)
