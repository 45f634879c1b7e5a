use Rattle.std.proofs.Common.{◌≡◌, ◌∙◌, List, map, sym, subst, true, false}
use Rattle.piece_match.specs.declared.unite.PlacedLeaf.{PlacedLeaf}
use Rattle.piece_match.specs.Union.{IsUnion, moved_part}
use Rattle.file_parts.proofs.Through.{seen_alone, seen_joined, all_placed, seen_placed}
use Rattle.tree_match.specs.Members.{known_tree}
use Rattle.file_parts.proofs.joining.join.Goals as goal

pub returns-then-is_empty-clause-exact : goal.returns-then-is_empty-clause-exact
returns-then-is_empty-clause-exact c pattern view all are leaves =
    let P : List PlacedLeaf → Type 0 = λ qs. IsUnion (map moved_part qs) c.in_ok-plain.plain in
    seen_alone pattern view all are c.args.leaves.now leaves c.in_ok-plain.plain (sym c.in_ok-further.ensures ∙ c.is_empty.ensures.0 c.if-is_empty.true) (subst P (c.as_slice-2.ensures ∙ c.in_ok-those.ensures) c.in_ok-plain.ensures)

pub returns-then-is_empty-clause-placed : goal.returns-then-is_empty-clause-placed
returns-then-is_empty-clause-placed c pattern view all are leaves =
    seen_placed view.bytes pattern view.lang (known_tree view) c.in_ok-plain.plain view.placed (returns-then-is_empty-clause-exact c pattern view all are leaves)

pub returns-clause-exact : goal.returns-clause-exact
returns-clause-exact c pattern view all are leaves =
    let P : List PlacedLeaf → Type 0 = λ qs. IsUnion (map moved_part qs) c.in_ok-plain.plain in
    let Q : List PlacedLeaf → Type 0 = λ qs. IsUnion (map moved_part qs) c.in_ok-union_moved.field-0 in
    seen_joined pattern view all are c.args.leaves.now leaves c.in_ok-plain.plain c.in_ok-union_moved.field-0 c.join_by_place.result (λ e.
    let f : true ≡ false = sym (c.is_empty.ensures.1 (c.in_ok-further.ensures ∙ e)) ∙ c.if-is_empty.false in cc) (subst P (c.as_slice-2.ensures ∙ c.in_ok-those.ensures) c.in_ok-plain.ensures)
    (subst Q (c.as_slice-3.ensures ∙ c.in_ok-further.ensures) c.in_ok-union_moved.ensures) c.join_by_place.ensures

pub returns-clause-placed : goal.returns-clause-placed
returns-clause-placed c pattern view all are leaves = all_placed view.bytes pattern view.lang (known_tree view) c.join_by_place.result view.placed (returns-clause-exact c pattern view all are leaves)
