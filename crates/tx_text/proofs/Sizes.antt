-- Each line that is given leaves less to read.
use Rattle.std.proofs.Common.{◌≡◌, ℕ, ◌+◌, ◌<◌, Bool, true, false, List, [], length, Option, None, Some, Result, Ok, Err, IfOk, IfSome, OnOk, refl, ap, arith, subst}
use Rattle.tx_text.proofs.Common.{length-drop, length-take-le, ltb-true, position_or_len, is_lf, TextFault, gives_by, feed_gives, piece_fault, has_lf, front_of, Reading, reading_size, fed_on, has_line, piece_left}

pub if_ok : {T E : Type 0} {P : T → Type 0} (r : Result T E) → ((x : T) → P x) → IfOk r P
if_ok (Ok x) h = h x
if_ok (Err e) h = tt

pub on_ok : {T E P : Type 0} (r : Result T E) → P → OnOk r P
on_ok (Ok x) h = h
on_ok (Err e) h = tt

shorter : (piece : List ℕ) (o p : Option TextFault) (lf : Bool) (n : ℕ) → (lf ≡ true → n < length piece) → has_line (gives_by o p lf n) ≡ Ok true → length (piece_left (gives_by o p lf n) piece) < length piece
shorter piece (Some x) p lf n h e = absurd (cc)
shorter piece None (Some x) lf n h e = absurd (cc)
shorter piece None None true n h e = omega (arith, length-drop (n + 1) piece, h refl)
shorter piece None None false n h e = absurd (cc)

front_short : (piece : List ℕ) → has_lf piece ≡ true → length (front_of piece) < length piece
front_short piece e =
    let h = ltb-true (position_or_len is_lf piece) (length piece) e in
    omega (arith, h, length-take-le (position_or_len is_lf piece) piece (omega (arith, h)))

pub fed_smaller : (r n : Reading) → has_line (feed_gives r.feed r.piece) ≡ Ok true → n ≡ fed_on r → reading_size n < reading_size r
fed_smaller r n e h =
    let s = shorter r.piece r.feed.fault (piece_fault r.feed r.piece) (has_lf r.piece) (length (front_of r.piece)) (front_short r.piece) e in
    rw h (omega (arith, s))

pub if_some : {X : Type 0} {P : X → Type 0} (o : Option X) → ((x : X) → P x) → IfSome o P
if_some (Some x) h = h x
if_some None h = tt

pub some_at : {X : Type 0} (P : X → Type 0) (o : Option X) (x : X) → o ≡ Some x → IfSome o P → P x
some_at P o x e h = subst (λ q. IfSome q P) e h

pub fed_left : (r n : Reading) → n ≡ fed_on r → n.left ≡ r.left
fed_left r n h = ap (λ (x : Reading). x.left) h

pub emptied : (r n : Reading) → n ≡ fed_on r → n.piece ≡ [] → n.left ≡ r.left
emptied r n h e = ap (λ (x : Reading). x.left) h
