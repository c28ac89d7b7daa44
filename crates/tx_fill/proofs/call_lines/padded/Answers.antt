use Rattle.tx_fill.proofs.Common.{◌≡◌, ◌∙◌, ◌++◌, ◌-◌, List, ℕ, take, length, ap, sym, arith, decimal, replicate, cond_some, is_national}
use Rattle.std.proofs.lemmas.List.{length-take-le}
use Rattle.tx_fill.proofs.LinesAt.{decimal_short, padded_is, is_read}
use Rattle.tx_fill.proofs.call_lines.padded.Goals as goal

pub slice_bounds-put-count : goal.slice_bounds-put-count
slice_bounds-put-count c =
    let long : length c.as_bytes-digits.result.now ≡ length (decimal c.args.number) =
    ap length (c.as_bytes-digits.ensures.value ∙ c.format.ensures.text) in
    let short = decimal_short c.args.width c.args.number c.requires.some c.requires.few c.requires.fits in
    omega arith

pub put-requires-2 : goal.put-requires-2
put-requires-2 c =
    let digits = c.as_bytes-digits.result.now in
    let long : length digits ≡ length (decimal c.args.number) =
    ap length (c.as_bytes-digits.ensures.value ∙ c.format.ensures.text) in
    let short = decimal_short c.args.width c.args.number c.requires.some c.requires.few c.requires.fits in
    let few = c.requires.few in
    let none = ap length c.new-figures.ensures in
    let blank : List ℕ = replicate 9 48 in
    let zeros : length (take (c.args.width - length digits) blank) ≡ c.args.width - length digits =
    length-take-le (c.args.width - length digits) blank (omega arith) in
    let width = c.put.ensures.width in
    (omega arith, omega arith)

pub returns : goal.returns
returns c =
    let digits : List ℕ = c.as_bytes-digits.result.now in
    let text : List ℕ = c.deref.result.now in
    let front = take (c.args.width - length digits) (replicate 9 48) in
    let same : text ≡ front ++ digits = c.deref.ensures.0 ∙ c.put-2.ensures.text
    ∙ ap (λ l. l ++ digits) (c.put.ensures.text ∙ ap (λ l. l ++ front) c.new-figures.ensures) in
    let padded = padded_is c.args.width c.args.number digits text c.requires.some c.requires.few
    c.requires.fits (c.as_bytes-digits.ensures.value ∙ c.format.ensures.text) same in
    sym (cond_some (is_national text) text c.in-Some.national (sym c.read.ensures ∙ c.in-Some.is)).1
    ∙ padded.0

pub unreachable-requires : goal.unreachable-requires
unreachable-requires c =
    let digits : List ℕ = c.as_bytes-digits.result.now in
    let text : List ℕ = c.deref.result.now in
    let front = take (c.args.width - length digits) (replicate 9 48) in
    let same : text ≡ front ++ digits = c.deref.ensures.0 ∙ c.put-2.ensures.text
    ∙ ap (λ l. l ++ digits) (c.put.ensures.text ∙ ap (λ l. l ++ front) c.new-figures.ensures) in
    let padded = padded_is c.args.width c.args.number digits text c.requires.some c.requires.few
    c.requires.fits (c.as_bytes-digits.ensures.value ∙ c.format.ensures.text) same in
    is_read (is_national text) text padded.1 (sym c.read.ensures ∙ c.in-None.is)
