use Rattle.node_tree.specs.Tree.{pre_of}
use Rattle.file_match.specs.Words.{HasRoom}
use Rattle.file_match.proofs.Marked.{CoversRest}
use Rattle.file_match.proofs.words.words_of.Given as goal

abbrev pub invariant-loop-node : goal.invariant-loop-node
invariant-loop-node l = record {
  room : HasRoom l.fn.count l.marks.items;
  covers : CoversRest l.fn.count l.marks.items (pre_of l.fn.tree) l.node-iterator;
}
