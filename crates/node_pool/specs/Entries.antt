-- What a pool keeps of each node.
use Rattle.std.specs.Prelude.{◌≡◌, ℕ, ◌≤◌, ◌<◌, ◌^◌, List, length, map}
use Rattle.node_tree.specs.declared.node.Node.{Node}
use Rattle.node_pool.specs.declared.pool.Entry.{Entry}
use Rattle.node_pool.specs.Preorder.{IsPreorder}
use Rattle.node_tree.specs.Numbers.{count_of}

-- the node and the size that is kept
abbrev pub seen : Entry → Node × ℕ
seen e = (e.node.now, e.size)

-- a node and its size
abbrev pub sized : Node → Node × ℕ
sized n = (n, count_of n)

abbrev pub nodes_in : List Entry → List Node
nodes_in = map (λ (e : Entry). e.node.now)

-- the entries of a pool with that room and that much memory
pub record IsPool (entries : List Entry) (room memory : ℕ) : Type 0 where
  pub sizes : map seen entries ≡ map sized (nodes_in entries)
  pub preorder : IsPreorder (nodes_in entries)
  pub fits : length entries ≤ room
  pub reserved : room ≤ memory
  pub small : room < 2 ^ 32
