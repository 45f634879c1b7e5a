-- The names of all members of a formula stand in order.
use Rattle.std.proofs.Common.{◌≡◌, inl, inr, ℕ, List, [], ◌∷◌, sym, subst, Bool, true, false}
use Rattle.std.specs.Prelude.{None, MatchBool}
use Rattle.meta_bind.specs.declared.bound.Bound.{Bound}
use Rattle.meta_bind.specs.Bounds.{NamesAscend}
use Rattle.tree_match.specs.declared.leaf.Leaf.{Leaf}
use Rattle.tree_match.specs.Members.{Member}
use Rattle.member_join.specs.declared.operand.Role.{Role}
use Rattle.member_join.specs.declared.operand.Role.TheVariants.{Plain, Inside}
use Rattle.range_algebra.specs.Trees
use Rattle.member_join.specs.Choices.{Chosen, NoneOf, IsMet}
use Rattle.range_algebra.specs.Meets.{Meets, MeetsSome, OneOfEach, OneAnd, IsShownAmong}
use Rattle.member_join.specs.Operands.{Ascends}
use Rattle.range_algebra.specs.Operands.{LeavesAscend}
use Rattle.member_join.proofs.Names.{AllAscend, none_ascend, met_ascends, first_ascends}

operands_ascend : (P I : Chosen) → AllAscend P → AllAscend I → (m : Member) (p q : Bool) → MatchBool p (IsMet P I m) (MatchBool q (IsMet I NoneOf m) ⊥) → Ascends m
operands_ascend P I p i m true b h = met_ascends P I p i m h
operands_ascend P I p i m false true h = met_ascends I NoneOf i none_ascend m h
operands_ascend P I p i m false false h = elim h [ ]

shown_ascends : (c m : Member) (names : List (List ℕ)) (f : Bool) → MatchBool f (IsShownAmong names c m) (m ≡ c) → Ascends c → Ascends m
shown_ascends c m names true (name, there, (b, bound, some, is)) up = let P : Member → Type 0 = Ascends in subst P (sym is) up
shown_ascends c m names false is up = let P : Member → Type 0 = Ascends in subst P (sym is) up

module _ (leaves : List Leaf) (texts : List (List ℕ)) (bytes : List ℕ) (up : LeavesAscend leaves) where
  -- the members of the formula of an operand
  abbrev BranchAscends : Trees.Branch → Type 0
  BranchAscends (Trees.positive t) = (m : Member) → Meets leaves texts bytes t None m → Ascends m
  BranchAscends (Trees.inside t) = (m : Member) → Meets leaves texts bytes t None m → Ascends m
  BranchAscends _ = Unit {0}

  one_ascends : (b : Trees.Branch) (role : Role) (Rest : Chosen) → BranchAscends b → AllAscend Rest → AllAscend (OneAnd leaves texts bytes role b Rest)
  one_ascends (Trees.positive t) Plain Rest one rest ms h = first_ascends (Meets leaves texts bytes t None) Rest one rest ms h
  one_ascends (Trees.positive t) Inside Rest one rest ms h = rest ms h
  one_ascends (Trees.inside t) Plain Rest one rest ms h = rest ms h
  one_ascends (Trees.inside t) Inside Rest one rest ms h = first_ascends (Meets leaves texts bytes t None) Rest one rest ms h
  one_ascends (Trees.without t) Plain Rest one rest ms h = rest ms h
  one_ascends (Trees.without t) Inside Rest one rest ms h = rest ms h
  one_ascends (Trees.outside t) Plain Rest one rest ms h = rest ms h
  one_ascends (Trees.outside t) Inside Rest one rest ms h = rest ms h
  one_ascends (Trees.without_regex k) Plain Rest one rest ms h = rest ms h
  one_ascends (Trees.without_regex k) Inside Rest one rest ms h = rest ms h
  one_ascends (Trees.meta_regex name k) Plain Rest one rest ms h = rest ms h
  one_ascends (Trees.meta_regex name k) Inside Rest one rest ms h = rest ms h
  one_ascends (Trees.meta_compare x) Plain Rest one rest ms h = rest ms h
  one_ascends (Trees.meta_compare x) Inside Rest one rest ms h = rest ms h
  one_ascends (Trees.meta_pattern name t) Plain Rest one rest ms h = rest ms h
  one_ascends (Trees.meta_pattern name t) Inside Rest one rest ms h = rest ms h
  one_ascends (Trees.focus names) Plain Rest one rest ms h = rest ms h
  one_ascends (Trees.focus names) Inside Rest one rest ms h = rest ms h

  mutual
    pub tree_ascends : (t : Trees.Tree) (m : Member) → Meets leaves texts bytes t None m → Ascends m
    tree_ascends (Trees.leaf k) m h = up k m h
    tree_ascends (Trees.regex k) m h = let P : List Bound → Type 0 = NamesAscend in subst P (sym h.1) tt
    tree_ascends (Trees.some_of ts) m h = trees_ascend ts m h
    tree_ascends (Trees.all_of bs) m (c, ops, allowed, shown) =
        shown_ascends c m (Trees.focused bs) (Trees.has Trees.is_focus bs) shown
        (operands_ascend (OneOfEach leaves texts bytes Plain bs) (OneOfEach leaves texts bytes Inside bs) (each_ascends bs Plain) (each_ascends bs Inside) c (Trees.has Trees.is_positive bs) (Trees.has Trees.is_inside bs) ops)

    pub trees_ascend : (ts : Trees.Trees) (m : Member) → MeetsSome leaves texts bytes ts m → Ascends m
    trees_ascend Trees.no_trees m h = elim h [ ]
    trees_ascend (Trees.tree_then t ts) m (inl h) = tree_ascends t m h
    trees_ascend (Trees.tree_then t ts) m (inr h) = trees_ascend ts m h

    pub each_ascends : (bs : Trees.Branches) (role : Role) → AllAscend (OneOfEach leaves texts bytes role bs)
    each_ascends Trees.no_branches role ms h = none_ascend ms h
    each_ascends (Trees.branch_then b bs) role ms h = one_ascends b role (OneOfEach leaves texts bytes role bs) (branch_ascends b) (each_ascends bs role) ms h

    pub branch_ascends : (b : Trees.Branch) → BranchAscends b
    branch_ascends (Trees.positive t) = tree_ascends t
    branch_ascends (Trees.inside t) = tree_ascends t
    branch_ascends (Trees.without t) = tt
    branch_ascends (Trees.outside t) = tt
    branch_ascends (Trees.without_regex k) = tt
    branch_ascends (Trees.meta_regex name k) = tt
    branch_ascends (Trees.meta_compare x) = tt
    branch_ascends (Trees.meta_pattern name t) = tt
    branch_ascends (Trees.focus names) = tt
