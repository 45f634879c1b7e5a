use Rattle.std.proofs.Common.{ℕ, List, ◌≤◌, length, sym, subst, ◌∙◌}
use Rattle.std.specs.Str.{IsUtf8}
use Rattle.node_tree.specs.declared.known.Known.{Known}
use Rattle.node_tree.specs.declared.node.Node.{Node}
use Rattle.node_tree.specs.KnownNames.{AreNames, AreInOrder}
use Rattle.node_tree.specs.Spans.{SpansLieIn}
use Rattle.import_names.proofs.view.copied.Goals as goal

pub view_of-requires-clause-utf8 : goal.view_of-requires-clause-utf8
view_of-requires-clause-utf8 c =
    let P : List ℕ → Type 0 = λ bytes. ∥ IsUtf8 bytes ∥₁ in
    subst P (sym c.in_ok-bytes.ensures) c.args.view.now.utf8

pub view_of-requires-clause-small : goal.view_of-requires-clause-small
view_of-requires-clause-small c =
    let P : List ℕ → Type 0 = λ bytes. length bytes ≤ 1000000 in
    subst P (sym c.in_ok-bytes.ensures) c.args.view.now.small

pub view_of-requires-clause-placed : goal.view_of-requires-clause-placed
view_of-requires-clause-placed c =
    let v = c.args.view.now in
    let P : List ℕ → Type 0 = λ bytes. SpansLieIn bytes v.tree in
    let Q : Node → Type 0 = λ tree. SpansLieIn c.in_ok-bytes.bytes tree in
    subst Q (sym c.in_ok-tree.ensures) (subst P (sym c.in_ok-bytes.ensures) v.placed)

pub view_of-requires-clause-names : goal.view_of-requires-clause-names
view_of-requires-clause-names c =
    let v = c.args.view.now in
    let P : Node → Type 0 = λ tree. AreNames tree v.known in
    let Q : List Known → Type 0 = λ known. AreNames c.in_ok-tree.tree known in
    subst Q (sym (c.in_ok-known.ensures ∙ c.as_slice.ensures)) (subst P (sym c.in_ok-tree.ensures) v.names)

pub view_of-requires-clause-in_order : goal.view_of-requires-clause-in_order
view_of-requires-clause-in_order c =
    let P : List Known → Type 0 = λ known. AreInOrder known in
    subst P (sym (c.in_ok-known.ensures ∙ c.as_slice.ensures)) c.args.view.now.in_order
