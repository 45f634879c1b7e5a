-- The loops that look for units.
use Rattle.std.proofs.Common.{◌≡◌, ◌≢◌, ℕ, zero, suc, ◌+◌, ◌-◌, ◌<◌, ◌≤◌, Bool, true, false, if◌then◌else◌, List, [], ◌∷◌, ◌++◌, length, drop, append_assoc, Some, None, sym, ◌∙◌, ap, subst, refl, arith}
use Rattle.std.specs.Prelude.{slice_get, Result, IfOk}
use Rattle.node_tree.specs.declared.node.Node.{Node}
use Rattle.node_tree.specs.Kinds.{is_function}
use Rattle.node_tree.specs.declared.memory.Memory.{Memory}
use Rattle.node_tree.specs.Numbers.{Numbered, count_of}
use Rattle.graph_form.specs.declared.graph.Graph.{Graph}
use Rattle.node_tree.specs.Tree.{pre_of, kind_of}
use Rattle.flow_graph.specs.Units.{functions_from, units_of, body_of, body_at, points_in, points_of, Goes, GoesIn, IsGraphOf}

pub functions_more : (at : ℕ) (n : Node) (ns : List Node) → is_function (kind_of n) ≡ true → functions_from at (n ∷ ns) ≡ at ∷ functions_from (at + 1) ns
functions_more at n ns is = rw is refl

pub functions_none : (at : ℕ) (n : Node) (ns : List Node) → is_function (kind_of n) ≡ false → functions_from at (n ∷ ns) ≡ functions_from (at + 1) ns
functions_none at n ns other = rw other refl

-- a unit that isn't the top level
pub body_is : (root : Node) (unit : ℕ) → unit ≢ 0 → body_of root unit ≡ body_at unit (slice_get (pre_of root) unit)
body_is root zero ne = absurd (ne refl)
body_is root (suc k) ne = refl

pub got_next : (n : Node) (ns : List Node) (k j : ℕ) → k ≡ suc j → slice_get (n ∷ ns) k ≡ slice_get ns j
got_next n ns k j e = ap (slice_get (n ∷ ns)) e

-- a graph of a unit by its depth and its body is one of the unit
pub graph_is : (root : Node) (depth unit : ℕ) (body : List Numbered) (r : Result Graph Memory) → depth ≡ count_of root → body ≡ body_of root unit
    → IfOk r (IsGraphOf (points_in depth unit body) (GoesIn depth unit body)) → IfOk r (IsGraphOf (points_of root unit) (Goes root unit))
graph_is root depth unit body r depth-is body-is h =
    let P : List Numbered → Type 0 = λ b. IfOk r (IsGraphOf (points_in depth unit b) (GoesIn depth unit b)) in
    let Q : ℕ → Type 0 = λ d. IfOk r (IsGraphOf (points_in d unit (body_of root unit)) (GoesIn d unit (body_of root unit))) in
    subst Q depth-is (subst P body-is h)
