use Rattle.tx_text.proofs.Common.{◌≡◌, ℕ, ◌+◌, ◌-◌, Bool, true, false, ◌&&◌, List, length, take, drop, ap, sym, ◌∙◌, arith, rules, list_all, is_text_byte}
use Rattle.std.proofs.lemmas.List.{take_rest}
use Rattle.tx_text.proofs.Blocks.{in_blocks, in_two, overlapping}
use Rattle.tx_text.proofs.reader.is_text.Goals as goal

pub returns-then-len-lt16 : goal.returns-then-len-lt16
returns-then-len-lt16 c =
    let line : List ℕ = c.args.line.now in
    ap (λ b. b && c.are_text-then-len-lt16-2.result) c.are_text-then-len-lt16.ensures
    ∙ ap (λ b. list_all is_text_byte (take 8 line) && b) (c.are_text-then-len-lt16-2.ensures ∙ ap (list_all is_text_byte) (take_rest line (length line - 8)))
    ∙ overlapping is_text_byte line 8 (length line - 8) (omega (arith, c.if-len-lt16.true))

-- one more block
block : (line : List ℕ) (i n : ℕ) (b : Bool) → n ≡ 16 → b ≡ list_all is_text_byte (take n (drop i line)) → list_all is_text_byte (take i line) ≡ true → list_all is_text_byte (take (i + 16) line) ≡ b
block line i n b e h all =
    in_blocks is_text_byte line i 16 ∙ ap (λ a. a && list_all is_text_byte (take 16 (drop i line))) all ∙ ap (λ m. list_all is_text_byte (take m (drop i line))) (sym e) ∙ sym h

pub returns-then-not-are_text : goal.returns-then-not-are_text
returns-then-not-are_text c =
    let line : List ℕ = c.args.line.now in
    let bad : c.are_text-in-loop-done.result ≡ false = search rules in
    let front : list_all is_text_byte (take (c.loop-done.done + 16) line) ≡ false = block line c.loop-done.done _ _ (omega arith) c.are_text-in-loop-done.ensures c.loop-done.invariant.0 ∙ bad in
    sym (in_two is_text_byte line (c.loop-done.done + 16) ∙ ap (λ b. b && list_all is_text_byte (drop (c.loop-done.done + 16) line)) front)

pub loop-done-preserved : goal.loop-done-preserved
loop-done-preserved c =
    let good : c.are_text-in-loop-done.result ≡ true = search rules in
    (block c.args.line.now c.loop-done.done _ _ (omega arith) c.are_text-in-loop-done.ensures c.loop-done.invariant.0 ∙ good, omega (arith, c.loop-done-test.true))

pub returns : goal.returns
returns c =
    let line : List ℕ = c.args.line.now in
    c.are_text-2.ensures ∙ ap (list_all is_text_byte) (take_rest line (length line - 16))
    ∙ ap (λ b. b && list_all is_text_byte (drop (length line - 16) line)) (sym c.loop-done.invariant.0)
    ∙ overlapping is_text_byte line c.loop-done.done (length line - 16) (omega (arith, c.loop-done-test.false))
