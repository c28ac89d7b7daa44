use Rattle.std.proofs.Common.{◌≡◌, ℕ, ◌+◌, ◌<◌, ◌≤◌, List, [], ◌∷◌, ◌++◌, codes, length, get_or, take, sym, ap, ◌∙◌, append_assoc, append-nil, rules, arith}
use Rattle.std.specs.List.{flat_map}
use Rattle.std.proofs.lemmas.List.{take_all, take_more}
use Rattle.std.proofs.lemmas.List.Concat.{flat_map-append}
use Rattle.tx_text.proofs.Putting.{puts_none, puts_is}
use Rattle.tx_tickets.specs.Texts.{hop_text}
use Rattle.tx_tickets.proofs.Begun.{begun_more, begun_out, begun_all}
use Rattle.tx_tickets.proofs.ticket.write_path.Goals as goal

-- a line with one hop more
text_more : {X : Type 0} (f : X → List ℕ) (xs : List X) (i : ℕ) (x : X) → i < length xs → x ≡ get_or xs i x → (front : List ℕ) → front ++ flat_map f (take (i + 1) xs) ≡ (front ++ flat_map f (take i xs)) ++ f x
text_more f xs i x low is front =
    let more = ap (flat_map f) (take_more xs i x low ∙ ap (λ y. take i xs ++ y ∷ []) (sym is)) ∙ flat_map-append f (take i xs) (x ∷ []) ∙ ap (λ l. flat_map f (take i xs) ++ l) (append-nil (f x)) in
    ap (λ l. front ++ l) more ∙ sym (append_assoc front (flat_map f (take i xs)) (f x))

pub loop-hop-init : goal.loop-hop-init
loop-hop-init g c = record {
  begun = record { gone = []; whole = append-nil c.args.text.now.items; puts = puts_none };
  room = omega arith;
}

pub loop-hop-preserved-then-len-le-FULL : goal.loop-hop-preserved-then-len-le-FULL
loop-hop-preserved-then-len-le-FULL g c =
    let t = text_more (hop_text c.args.plan.now) c.args.hops.now c.loop-hop.hop-index c.hop-item.result c.loop-hop-test.true c.hop-item.is c.args.text.now.items in
    record {
      begun = rw (t, c.put_hop.ensures.text) (begun_more c.loop-hop.invariant.begun (hop_text c.args.plan.now c.hop-item.result));
      room = search rules;
    }

pub loop-hop-preserved : goal.loop-hop-preserved
loop-hop-preserved g c =
    let t = text_more (hop_text c.args.plan.now) c.args.hops.now c.loop-hop.hop-index c.hop-item.result c.loop-hop-test.true c.hop-item.is c.args.text.now.items in
    record {
      begun = rw (t, c.clear.ensures) (begun_out (begun_more c.loop-hop.invariant.begun (hop_text c.args.plan.now c.hop-item.result)) (rw (c.as_slice.ensures.value, c.put_hop.ensures.text) at c.put_bytes.ensures));
      room = search rules;
    }

pub returns : goal.returns
returns g c =
    let f = hop_text c.args.plan.now in
    let hops = c.args.hops.now in
    let front = c.args.text.now.items in
    let i : length hops ≤ c.loop-hop.hop-index = omega arith in
    let whole : front ++ (flat_map f hops ++ codes "\n") ≡ (front ++ flat_map f (take c.loop-hop.hop-index hops)) ++ codes "\n" =
    ap (λ l. front ++ (flat_map f l ++ codes "\n")) (sym (take_all c.loop-hop.hop-index hops i)) ∙ sym (append_assoc front (flat_map f (take c.loop-hop.hop-index hops)) (codes "\n")) in
    puts_is whole (begun_all (begun_more c.loop-hop.invariant.begun (codes "\n")) (rw (c.as_slice-2.ensures.value, c.put.ensures.text) at c.put_bytes-2.ensures))
