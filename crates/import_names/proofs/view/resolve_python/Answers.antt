use Rattle.std.proofs.Common.{◌≡◌, ℕ, List, ◌≤◌, length, sym, subst, ◌∙◌, ap}
use Rattle.std.specs.Str.{IsUtf8}
use Rattle.node_tree.specs.declared.known.Known.{Known}
use Rattle.node_tree.specs.declared.node.Node.{Node}
use Rattle.node_tree.specs.KnownNames.{AreNames, AreInOrder}
use Rattle.node_tree.specs.Spans.{SpansLieIn}
use Rattle.import_names.specs.Claims.{meaning}
use Rattle.import_names.specs.Resolved.{replaced, kept}
use Rattle.import_names.specs.Ordered as order
use Rattle.import_names.proofs.Placing.{replaced_lies}
use Rattle.import_names.proofs.Renumbering.{are_names, are_in_order}
use Rattle.import_names.proofs.view.resolve_python.Goals as goal

pub replaced-requires : goal.replaced-requires
replaced-requires c = subst order.AreInOrder (sym c.as_slice.ensures.value) c.in_ok-claims.ensures.ordered

pub kept-requires : goal.kept-requires
kept-requires c = subst order.AreInOrder (sym c.as_slice-2.ensures.value) c.in_ok-claims.ensures.ordered

pub view_of-requires-clause-utf8 : goal.view_of-requires-clause-utf8
view_of-requires-clause-utf8 c =
    let P : List ℕ → Type 0 = λ bytes. ∥ IsUtf8 bytes ∥₁ in
    subst P (sym c.in_ok-bytes.ensures) c.args.view.now.utf8

pub view_of-requires-clause-small : goal.view_of-requires-clause-small
view_of-requires-clause-small c =
    let P : List ℕ → Type 0 = λ bytes. length bytes ≤ 1000000 in
    subst P (sym c.in_ok-bytes.ensures) c.args.view.now.small

pub view_of-requires-clause-placed : goal.view_of-requires-clause-placed
view_of-requires-clause-placed c =
    let v = c.args.view.now in
    let P : List ℕ → Type 0 = λ bytes. SpansLieIn bytes v.tree in
    let Q : Node → Type 0 = λ tree. SpansLieIn c.in_ok-bytes.bytes tree in
    subst Q (sym c.in_ok-tree.ensures) (replaced_lies c.in_ok-bytes.bytes (meaning c.as_slice.result.now) v.tree (subst P (sym c.in_ok-bytes.ensures) v.placed))

pub view_of-requires-clause-names : goal.view_of-requires-clause-names
view_of-requires-clause-names c =
    let v = c.args.view.now in
    let means = ap meaning c.as_slice.ensures.value in
    let tree : c.in_ok-tree.tree ≡ replaced (meaning c.in_ok-claims.claims.items) v.tree = c.in_ok-tree.ensures ∙ ap (λ m. replaced m v.tree) means in
    let known : c.in_ok-known.known ≡ kept (meaning c.in_ok-claims.claims.items) v.tree v.known =
    c.in_ok-known.ensures ∙ ap (λ m. kept m v.tree c.as_slice-3.result.now) (ap meaning c.as_slice-2.ensures.value) ∙ ap (kept (meaning c.in_ok-claims.claims.items) v.tree) c.as_slice-3.ensures in
    let P : Node → Type 0 = λ t. AreNames t (kept (meaning c.in_ok-claims.claims.items) v.tree v.known) in
    let Q : List Known → Type 0 = λ ks. AreNames c.in_ok-tree.tree ks in
    subst Q (sym known) (subst P (sym tree) (are_names (meaning c.in_ok-claims.claims.items) v.tree v.known))

pub view_of-requires-clause-in_order : goal.view_of-requires-clause-in_order
view_of-requires-clause-in_order c =
    let v = c.args.view.now in
    let known : c.in_ok-known.known ≡ kept (meaning c.in_ok-claims.claims.items) v.tree v.known =
    c.in_ok-known.ensures ∙ ap (λ m. kept m v.tree c.as_slice-3.result.now) (ap meaning c.as_slice-2.ensures.value) ∙ ap (kept (meaning c.in_ok-claims.claims.items) v.tree) c.as_slice-3.ensures in
    let P : List Known → Type 0 = λ ks. AreInOrder ks in
    subst P (sym known) (are_in_order (meaning c.in_ok-claims.claims.items) v.tree v.known v.in_order)
