use Rattle.std.proofs.Common.{◌≡◌, ◌++◌, take}
use Rattle.tree_code.proofs.Parts.{kids_code}
use Rattle.tree_code.proofs.written.+add_tree.Given as goal

abbrev pub invariant-loop-kid : goal.invariant-loop-kid
invariant-loop-kid l = l.bytes.items ≡ l.initial.bytes.items ++ kids_code l.look (take l.kid-index l.kid-items)
