use Rattle.std.proofs.Common.{◌≡◌, List, subst}
use Rattle.std.specs.Ordering.{MatchOrdering}
use Rattle.std.specs.declared.cmp.Ordering.{Ordering}
use Rattle.tree_match.specs.Members.{Member}
use Rattle.piece_match.specs.Merging.{EndsBefore, EndsAlike}
use Rattle.piece_match.proofs.Merges.{take_less, take_greater, take_equal}
use Rattle.piece_match.proofs.merge.take_least.Goals as goal

-- what is said of the slices is said of the lists
abbrev Ends : Ordering → List Member → List Member → Type 0
Ends o l r = MatchOrdering o (EndsBefore l r) (EndsAlike l r) (EndsBefore r l)

lists : (o p : Ordering) (l l' r r' : List Member) → o ≡ p → l ≡ l' → r ≡ r' → Ends o l r → Ends p l' r'
lists o p l l' r r' e f g h =
    let P : Ordering → Type 0 = λ x. Ends x l' r' in
    let Q : List Member → Type 0 = λ x. Ends o x r' in
    let R : List Member → Type 0 = λ x. Ends o l x in
    subst P e (subst Q f (subst R g h))

pub returns-in-Less : goal.returns-in-Less
returns-in-Less c =
    take_less _ c.args.left.now c.args.right.now _ c.requires.left_falls c.requires.right_falls (lists _ _ _ _ _ _ c.in-Less.is c.as_slice.ensures c.as_slice-2.ensures c.in_ok-order_lasts.ensures) c.pop.ensures

pub returns-in-Greater : goal.returns-in-Greater
returns-in-Greater c =
    take_greater _ c.args.left.now c.args.right.now _ c.requires.left_falls c.requires.right_falls (lists _ _ _ _ _ _ c.in-Greater.is c.as_slice.ensures c.as_slice-2.ensures c.in_ok-order_lasts.ensures) c.pop-in-Greater.ensures

pub returns-in-Equal : goal.returns-in-Equal
returns-in-Equal c =
    take_equal _ _ c.args.left.now c.args.right.now _ _ c.requires.left_falls c.requires.right_falls (lists _ _ _ _ _ _ c.in-Equal.is c.as_slice.ensures c.as_slice-2.ensures c.in_ok-order_lasts.ensures) c.pop-in-Equal.ensures c.pop-in-Equal-2.ensures
