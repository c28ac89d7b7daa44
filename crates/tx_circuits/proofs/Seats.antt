-- The order of the ends of circuits is total and exact, and two tie where they are one.
use Rattle.tx_circuits.proofs.Common.{◌≡◌, ℕ, ◌==◌, ◌&&◌, ap, sym, ◌∙◌, eqb-true, eq-eqb, nat_cmp, eq_by_cmp, is_eq, Equal, IsTotalOrder, nat_cmp_total, Equal-is, and_parts, and_from, same_circuit, circuit_cmp, Circuit, circuits_total, exact_circuits, same_circuit-is, same_circuit-itself, Seat, seat_cmp}
use Rattle.std.proofs.lemmas.Bool.Decides.{same_from_decides}
use Rattle.std.proofs.lemmas.Cmp.{on_total, then_total, tied_itself}
use Rattle.std.proofs.lemmas.Map.Lookups.{exact_pairs, exact_unsigned}

pub seats_total : IsTotalOrder seat_cmp
seats_total = then_total (on_total (λ (s : Seat). s.0) circuits_total) (on_total (λ (s : Seat). s.1) nat_cmp_total)

pub exact_seats : (s t : Seat) → seat_cmp s t ≡ Equal → s ≡ t
exact_seats s t h = exact_pairs circuit_cmp nat_cmp exact_circuits exact_unsigned s t h

pub seat_tie : (x y : Circuit) (d e : ℕ) → eq_by_cmp seat_cmp (y, e) (x, d) ≡ (same_circuit x y && (d == e))
seat_tie x y d e = same_from_decides (eq_by_cmp seat_cmp (y, e) (x, d)) (same_circuit x y && (d == e))
    (λ t. sym (exact_seats (y, e) (x, d) ((Equal-is (seat_cmp (y, e) (x, d))).0 t)), λ t. ap (λ (z : Seat). eq_by_cmp seat_cmp (y, e) z) t ∙ ap is_eq (tied_itself seats_total (y, e))) (
      λ t. let r = and_parts (same_circuit x y) (d == e) t in λ i. (same_circuit-is x y r.0 i, eqb-true d e r.1 i),
      λ t. and_from (same_circuit x y) (d == e) (ap (λ (z : Seat). same_circuit x z.0) (sym t) ∙ same_circuit-itself x) (eq-eqb d e (ap (λ (z : Seat). z.1) t)),
    )
