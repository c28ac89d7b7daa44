use Rattle.std.proofs.Common.{arith, drop}
use Rattle.tx_trie.proofs.Nodes.{on_the_way}
use Rattle.tx_trie.proofs.trie.node_of.Goals as goal

pub overflow_mul-node : goal.overflow_mul-node
overflow_mul-node c =
    let low = on_the_way c.args.figures.now c.requires c.loop-figure.node (drop c.loop-figure.figure-index c.args.figures.now) c.loop-figure.invariant in
    omega arith

pub overflow_add-node : goal.overflow_add-node
overflow_add-node c =
    let low = on_the_way c.args.figures.now c.requires c.loop-figure.node (drop c.loop-figure.figure-index c.args.figures.now) c.loop-figure.invariant in
    omega (arith, c.from.ensures)
