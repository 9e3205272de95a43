-- `splitting` lays out the leaf, the node and what makes the split: 2, 17 and at most 2 stores. Assumes nothing.
use Rattle.std.proofs.Common.{length, length-append, rules, ap}
use Rattle.laying.proofs.Blocks.{leaf_long, node_long}
use Rattle.laying.proofs.splitting.Goals as goal

pub lay_node-requires : goal.lay_node-requires
lay_node-requires g c =
    let a = rw (length-append, leaf_long) at (ap length c.lay_leaf.ensures) in
    search rules

pub lay_links-requires : goal.lay_links-requires
lay_links-requires g c =
    let a = rw (length-append, leaf_long) at (ap length c.lay_leaf.ensures) in
    let b = rw (length-append, node_long) at (ap length c.lay_node.ensures) in
    search rules
