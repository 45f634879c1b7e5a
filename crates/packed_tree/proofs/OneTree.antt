-- The one tree of some bytes.
use Rattle.std.proofs.Common.{◌≡◌, ℕ, List, [], ◌++◌, sym, ap, ◌∙◌}
use Rattle.std.specs.Prelude.{Result, Ok, Err, IfOk}
use Rattle.std.proofs.lemmas.List.{append-nil}
use Rattle.node_tree.specs.declared.node.Node.{Node}
use Rattle.node_tree.specs.declared.memory.Memory.{Memory}
use Rattle.tree_code.specs.Code.{tree_code}
use Rattle.tree_code.specs.Reads.{Reads}
use Rattle.tree_code.proofs.Telling.{tree_tells}
use Rattle.packed_tree.specs.Packed.{TreeOf}

pub one_tree : (bytes : List ℕ) (of : TreeOf bytes) (n : Node) → bytes ≡ tree_code n → of.tree ≡ n
one_tree bytes of n e = (tree_tells of.tree n [] [] (ap (λ (v : List ℕ). v ++ []) (sym of.code ∙ e))).0

-- what is read of them is that tree
pub read_tree : (bytes : List ℕ) (of : TreeOf bytes) (old new : List ℕ) (r : Result Node Memory) → Reads tree_code old r new → old ≡ bytes → (n : Node) → of.tree ≡ n → IfOk r (λ t. t ≡ n)
read_tree bytes of old new (Ok t) reads e n is = (reads of.tree [] (e ∙ of.code ∙ sym (append-nil (tree_code of.tree)))).0 ∙ is
read_tree bytes of old new (Err m) reads e n is = tt
