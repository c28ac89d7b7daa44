use Rattle.tx_requests.proofs.Common.{◌∙◌, [], ◌∷◌, map, ap, sym, Vec, is_shown}
use Rattle.std.proofs.lemmas.List.{map-append}
use Rattle.tx_mend.proofs.Placed.{filter_pushed, filter_same}
use Rattle.tx_svg.specs.declared.picture.Picture.{Picture}
use Rattle.tx_requests.proofs.page_found.pictures_of.Goals as goal
use Rattle.tx_requests.proofs.page_found.pictures_of.Goals.{then-is_shown+in_ok-picture_of+in_ok-push, else-is_shown}

pub loop-index-preserved : goal.loop-index-preserved
loop-index-preserved g c =
    let t = is_shown c.args.request.now c.args.texts.now c.args.found.now.ranking c.args.change.now in
    let code = λ (q : Picture g.row.A.Denot). q.code in
    let old = c.loop-index.pictures.items in
    let told = ap t (sym c.of-code.ensures) ∙ sym c.is_shown.ensures in
    elim c.if-is_shown.branch [
      | then-is_shown+in_ok-picture_of+in_ok-push w ↦
          let q = w.in_ok-picture_of.field-0 in
          filter_pushed t c.loop-index.index (map code old) _ q.code c.loop-index.invariant
          (ap (λ (v : Vec _ _). map code v.items) w.pictures-is ∙ ap (map code) w.in_ok-push.ensures.items
          ∙ map-append code old (q ∷ []))
          (w.in_ok-picture_of.ensures ∙ c.of-code.ensures) (told ∙ w.if-is_shown.true)
      | else-is_shown w ↦
          filter_same t c.loop-index.index (map code old) _ c.loop-index.invariant
          (ap (λ (v : Vec _ _). map code v.items) w.pictures-is) (told ∙ w.if-is_shown.false)
    ]
