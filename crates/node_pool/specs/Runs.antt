-- Runs of neighbouring siblings.
use Rattle.std.specs.Prelude.{ℕ, zero, suc, ◌+◌, ◌<◌, ◌^◌, List, [], ◌∷◌, ◌++◌, length}
use Rattle.node_tree.specs.declared.node.Node.{Node}
use Rattle.node_tree.specs.Numbers.{count_of}
use Rattle.node_pool.specs.Preorder.{AreAt}

-- a run is the number of its first node, and how many they are
abbrev pub Run : Type 0
Run = ℕ × ℕ

-- the runs from this node on that are longer than so many, where there are that many of them
abbrev pub longer : ℕ → ℕ → ℕ → List Run
longer at done zero = []
longer at done (suc left) = (at, done + 1) ∷ longer at (done + 1) left

-- the runs of at least one of these siblings in order, where the first of them has this number
abbrev pub runs_of : ℕ → List Node → List Run
runs_of at [] = []
runs_of at (n ∷ ns) = longer at 0 (length (n ∷ ns)) ++ runs_of (at + count_of n) ns

-- what an iterator of runs keeps: the siblings that are left stand there, and no number is too large
pub record AreRuns (nodes : List Node) (next : ℕ) (rest : List Node) (done left : ℕ) : Type 0 where
  pub stand : AreAt nodes next rest
  pub few : length nodes < 2 ^ 32
  pub small : done + left < 2 ^ 32
