-- Bytes that are those of a tree.
use Rattle.std.specs.Prelude.{◌≡◌, List, [], ℕ, ◌++◌}
use Rattle.std.specs.Coded.{Coded-set, coded_list, coded_ℕ}
use Rattle.std.proofs.Common.{sym, ap, subst, ◌∙◌}
use Rattle.node_tree.specs.declared.node.Node.{Node}
use Rattle.tree_code.specs.Code.{tree_code}
use Rattle.tree_code.proofs.Telling.{tree_tells}

-- the tree whose bytes these are
pub record TreeOf (bytes : List ℕ) : Type 0 where
  pub tree : Node
  pub code : bytes ≡ tree_code tree

-- there is one at most
pub TreeOf-prop : (bytes : List ℕ) → IsProp (TreeOf bytes)
TreeOf-prop bytes a b = subst (λ (t : Node). (c : bytes ≡ tree_code t) → a ≡ made t c) same (λ c. ap (made a.tree) (Coded-set (coded_list coded_ℕ) bytes (tree_code a.tree) a.code c)) b.code
  where
    made : (t : Node) → bytes ≡ tree_code t → TreeOf bytes
    made t c = record { tree = t; code = c }

    same : a.tree ≡ b.tree
    same = (tree_tells a.tree b.tree [] [] (ap (λ (v : List ℕ). v ++ []) (sym a.code ∙ b.code))).0
