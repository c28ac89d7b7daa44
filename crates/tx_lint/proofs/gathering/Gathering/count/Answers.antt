use Rattle.std.proofs.Common.{◌^◌, ◌∙◌, Some, sym, ap, arith}
use Rattle.std.proofs.lemmas.Option.{slice_get-get_or}
use Rattle.tx_lint.proofs.Gathered.{few_at, counted_at, none_at}
use Rattle.tx_lint.proofs.gathering.Gathering.count.Goals as goal

pub overflow_add-told : goal.overflow_add-told
overflow_add-told g c =
    let told = c.args.self.now.told.items in
    let t = c.in-Some.told.now in
    let at = slice_get-get_or told c.args.index t c.in-Some.ensures.item.3.0 ∙ ap Some (sym c.in-Some.ensures.value) in
    let few = few_at (2 ^ 63) told c.args.index t c.requires at in
    omega (arith, few)

pub returns-in-Some : goal.returns-in-Some
returns-in-Some g c =
    let told = c.args.self.now.told.items in
    let t = c.in-Some.told.now in
    let at = slice_get-get_or told c.args.index t c.in-Some.ensures.item.3.0 ∙ ap Some (sym c.in-Some.ensures.value) in
    λ j. record { told = counted_at told c.args.index t at j; missing = c.args.self.now.missing.entries }

pub returns-in_default : goal.returns-in_default
returns-in_default g c =
    let told = c.args.self.now.told.items in
    λ j. record { told = none_at told c.args.index c.in_default.ensures.item.3 j; missing = c.args.self.now.missing.entries }
