use Rattle.std.proofs.Common.{◌≡◌, ◌<◌, List, [], length, arith, sym, ◌∙◌, subst}
use Rattle.std.proofs.lemmas.Bool.Decides.{nat_tests}
use Rattle.std.specs.Prelude.{Result, Ok, Err, IfOk}
use Rattle.std.specs.Ordering.{MatchOrdering}
use Rattle.std.specs.declared.cmp.Ordering.{Ordering}
use Rattle.std.specs.declared.cmp.Ordering.TheVariants.{Less, Equal, Greater}
use Rattle.sorted_sets.proofs.Settling.{no_end}
use Rattle.tree_match.specs.Members.{Member, member_cmp}
use Rattle.piece_match.proofs.Merges.{some_last, ends_ordered}
use Rattle.piece_match.proofs.merge.order_lasts.Goals as goal

pub returns-then-is_empty : goal.returns-then-is_empty
returns-then-is_empty c =
    let left : length c.args.left.now ≡ 0 = grind (arith, nat_tests, c.is_empty.ensures, c.if-is_empty.true) in
    let right : 0 < length c.args.right.now = grind (arith, nat_tests, c.is_empty-then-is_empty.ensures, c.if-is_empty-2.false) in
    let (x, last) = some_last c.args.right.now right in
    (x, last, λ y h. absurd (no_end c.args.left.now y left h))

pub returns-then-is_empty-3 : goal.returns-then-is_empty-3
returns-then-is_empty-3 c =
    let left : 0 < length c.args.left.now = grind (arith, nat_tests, c.is_empty.ensures, c.if-is_empty.false) in
    let right : length c.args.right.now ≡ 0 = grind (arith, nat_tests, c.is_empty-2.ensures, c.if-is_empty-3.true) in
    let (x, last) = some_last c.args.left.now left in
    (x, last, λ y h. absurd (no_end c.args.right.now y right h))

pub returns : goal.returns
returns c =
    let left : 0 < length c.args.left.now = grind (arith, nat_tests, c.is_empty.ensures, c.if-is_empty.false) in
    let right : 0 < length c.args.right.now = grind (arith, nat_tests, c.is_empty-2.ensures, c.if-is_empty-3.false) in
    ends_ordered _ c.args.left.now c.args.right.now _ _ left right c.index-left-left.is c.index-right-right.is c.order.ensures
