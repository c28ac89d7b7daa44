use Rattle.tx_requests.proofs.Common.{◌≡◌, map, is_shown}
use Rattle.std.specs.List.{filter, range_with_len}
use Rattle.tx_requests.proofs.page_found.pictures_of.Given as goal

abbrev pub invariant-loop-index : goal.invariant-loop-index
invariant-loop-index g l =
    map (λ q. q.code) l.pictures.items ≡ filter (is_shown l.request l.texts l.found.ranking l.change) (range_with_len 0 l.index)
