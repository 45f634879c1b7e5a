use Rattle.std.proofs.Common.{List, length, sym, ap, ◌∙◌, subst, arith}
use Rattle.std.proofs.lemmas.List.{take_all, length-map}
use Rattle.tree_match.specs.Ascending.{IsAscending}
use Rattle.tree_match.specs.Members.{Member, member_cmp}
use Rattle.piece_match.specs.Moved.{moved_member, moved_members}
use Rattle.piece_match.proofs.Later.{still_ascends}
use Rattle.piece_match.proofs.moving.moved.Goals as goal

pub of-requires-clause-few : goal.of-requires-clause-few
of-requires-clause-few c =
    let set = c.args.set.now in
    let whole = take_all c.loop-range.range-index c.members-range-items.result.now c.loop-range-test.false ∙ c.members-range-items.ensures.members in
    omega (arith, ap length (c.loop-range.invariant ∙ ap (moved_members c.args.by) whole), length-map set (moved_member c.args.by), c.members-range-items.ensures.few)

pub of-requires-clause-ordered : goal.of-requires-clause-ordered
of-requires-clause-ordered c =
    let P : List Member → Type 0 = IsAscending member_cmp in
    let whole = take_all c.loop-range.range-index c.members-range-items.result.now c.loop-range-test.false ∙ c.members-range-items.ensures.members in
    subst P (sym (c.loop-range.invariant ∙ ap (moved_members c.args.by) whole)) (still_ascends c.args.by c.args.set.now c.members-range-items.ensures.ordered)
