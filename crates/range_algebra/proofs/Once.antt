-- The search for a set with too many members finds one thing.
use Rattle.std.proofs.Common.{◌≡◌, ◌⊎◌, inl, inr, ℕ, suc, ◌≤◌, List, [], ◌∷◌, length, refl, sym, ap, ◌∙◌, subst, Bool, true, false, arith}
use Rattle.std.specs.Prelude.{Option, None, Some, MatchBool, slice_get}
use Rattle.tree_match.specs.declared.leaf.Leaf.{Leaf}
use Rattle.tree_match.specs.declared.leaf.Leaf.TheVariants.{Full, Crowded}
use Rattle.node_match.specs.Sets.{Among}
use Rattle.member_join.specs.declared.operand.Role.{Role}
use Rattle.member_join.specs.declared.operand.Role.TheVariants.{Plain, Inside}
use Rattle.sorted_sets.specs.Sizes.{IsDistinct, HasAtMost, HasMoreThan}
use Rattle.range_algebra.specs.Regexes.{IsMatch}
use Rattle.range_algebra.specs.Trees
use Rattle.member_join.specs.Choices.{NoneOf, IsCounted}
use Rattle.range_algebra.specs.Meets.{Meets, MeetsSome, OneOfEach}
use Rattle.member_join.specs.Limits.{Search, Nothing, OneSet, Then}
use Rattle.range_algebra.specs.Crowds.{InChild, LeafSearch, is_operand, OneOfFirst, PlainPrefixes, InsidePrefixes, Prefixes, AtAll, Over, OverTrees, OverBranches, OverBranch}

-- ---- how many items two lists have

module _ {X : Type 0} where
  -- a list without one of its items
  record Without (ys : List X) (x : X) : Type 0 where
    others : List X
    shorter : length ys ≡ suc (length others)
    left : (z : X) → Among ys z → (x ≡ z) ⊎ Among others z

  without : (ys : List X) (x : X) → Among ys x → Without ys x
  without [] x h = elim h [ ]
  without (y ∷ ys) x (inl e) = record { others = ys; shorter = refl; left = λ z k. at z k }
    where
      at : (z : X) → (y ≡ z) ⊎ Among ys z → (x ≡ z) ⊎ Among ys z
      at z (inl f) = inl (sym e ∙ f)
      at z (inr k) = inr k
  without (y ∷ ys) x (inr h) = let r = without ys x h in record { others = y ∷ r.others; shorter = ap suc r.shorter; left = λ z k. at r z k }
    where
      deeper : (r : Without ys x) (z : X) → (x ≡ z) ⊎ Among r.others z → (x ≡ z) ⊎ Among (y ∷ r.others) z
      deeper r z (inl f) = inl f
      deeper r z (inr k) = inr (inr k)

      at : (r : Without ys x) (z : X) → (y ≡ z) ⊎ Among ys z → (x ≡ z) ⊎ Among (y ∷ r.others) z
      at r z (inl f) = inr (inl f)
      at r z (inr k) = deeper r z (r.left z k)

  -- different items that are all among some are no more than these
  no_more : (xs ys : List X) → IsDistinct xs → ((x : X) → Among xs x → Among ys x) → length xs ≤ length ys
  no_more [] ys apart all = omega arith
  no_more (x ∷ xs) ys apart all =
      let r = without ys x (all x (inl refl)) in
      let rest : length xs ≤ length r.others = no_more xs r.others apart.1 (λ z h. at r z h (r.left z (all z (inr h)))) in
      omega (arith, rest, r.shorter)
    where
      at : (r : Without ys x) (z : X) → Among xs z → (x ≡ z) ⊎ Among r.others z → Among r.others z
      at r z h (inl e) = let P : X → Type 0 = Among xs in absurd (apart.0 (subst P (sym e) h))
      at r z h (inr k) = k

  -- no set has so many members at most, and more
  few_or_many : (most : ℕ) (Set : X → Type 0) → HasAtMost most Set → HasMoreThan most Set → ⊥
  few_or_many most Set few many =
      let le = no_more many.items few.items many.distinct (λ x h. few.whole x (many.members x h)) in
      let few_le = few.few in
      let many_lt = many.many in
      absurd (omega (arith, le, few_le, many_lt))

-- ---- searches

-- whatever the search finds is one thing
abbrev FindsOne : Search → Type 0
FindsOne Found = (o p : Option (List ℕ)) → Found o → Found p → o ≡ p

nothing_one : FindsOne Nothing
nothing_one o p e f = e ∙ sym f

set_one : {X : Type 0} (name : List ℕ) (Set : X → Type 0) → FindsOne (OneSet name Set)
set_one name Set None None s t = refl
set_one name Set None (Some p) s t = absurd (few_or_many 10000 Set s t.1)
set_one name Set (Some o) None s t = absurd (few_or_many 10000 Set t s.1)
set_one name Set (Some o) (Some p) s t = ap Some (s.0 ∙ sym t.0)

then_one : (First Next : Search) → FindsOne First → FindsOne Next → FindsOne (Then First Next)
then_one First Next first next None None s t = refl
then_one First Next first next None (Some p) s (inl t) = first None (Some p) s.0 t
then_one First Next first next None (Some p) s (inr t) = next None (Some p) s.1 t.1
then_one First Next first next (Some o) None (inl s) t = first (Some o) None s t.0
then_one First Next first next (Some o) None (inr s) t = next (Some o) None s.1 t.1
then_one First Next first next (Some o) (Some p) (inl s) (inl t) = first (Some o) (Some p) s t
then_one First Next first next (Some o) (Some p) (inl s) (inr t) = absurd (let e = first (Some o) None s t.0 in cc)
then_one First Next first next (Some o) (Some p) (inr s) (inl t) = absurd (let e = first (Some p) None t s.0 in cc)
then_one First Next first next (Some o) (Some p) (inr s) (inr t) = next (Some o) (Some p) s.1 t.1

child_one : (i : ℕ) (Inner : Search) → FindsOne Inner → FindsOne (InChild i Inner)
child_one i Inner inner None None s t = refl
child_one i Inner inner None (Some []) s t = elim t [ ]
child_one i Inner inner None (Some (k ∷ q)) s t = absurd (let e = inner None (Some q) s t.1 in cc)
child_one i Inner inner (Some []) p s t = elim s [ ]
child_one i Inner inner (Some (j ∷ o)) None s t = absurd (let e = inner (Some o) None s.1 t in cc)
child_one i Inner inner (Some (j ∷ o)) (Some []) s t = elim t [ ]
child_one i Inner inner (Some (j ∷ o)) (Some (k ∷ q)) s t =
    let e : o ≡ q = (let f = inner (Some o) (Some q) s.1 t.1 in cc) in
    ap (λ (n : ℕ). Some (n ∷ o)) (s.0 ∙ sym t.0) ∙ ap (λ (l : List ℕ). Some (k ∷ l)) e

choice_one : (b : Bool) (S T : Search) → FindsOne S → FindsOne T → FindsOne (λ o. MatchBool b (S o) (T o))
choice_one true S T s t = s
choice_one false S T s t = t

leaf_one : (leaf : Option Leaf) → FindsOne (LeafSearch leaf)
leaf_one None o p e f = e ∙ sym f
leaf_one (Some (Full members)) o p s t = set_one [] (Among members) o p s t
leaf_one (Some Crowded) o p e f = e ∙ sym f

module _ (leaves : List Leaf) (texts : List (List ℕ)) (bytes : List ℕ) where
  plain_one : (role : Role) (all : Trees.Branches) (i : ℕ) (bs : Trees.Branches) → FindsOne (PlainPrefixes leaves texts bytes role all i bs)
  plain_one role all i Trees.no_branches o p e f = e ∙ sym f
  plain_one role all i (Trees.branch_then b bs) o p s t =
      let Set = IsCounted (OneOfFirst leaves texts bytes role (suc i) all) NoneOf in
      let Rest : Search = PlainPrefixes leaves texts bytes role all (suc i) bs in
      choice_one (is_operand role b) (Then (OneSet (i ∷ []) Set) Rest) Rest (then_one (OneSet (i ∷ []) Set) Rest (set_one (i ∷ []) Set) (plain_one role all (suc i) bs)) (plain_one role all (suc i) bs) o p s t

  inside_one : (all : Trees.Branches) (i : ℕ) (bs : Trees.Branches) → FindsOne (InsidePrefixes leaves texts bytes all i bs)
  inside_one all i Trees.no_branches o p e f = e ∙ sym f
  inside_one all i (Trees.branch_then b bs) o p s t =
      let Set = IsCounted (OneOfEach leaves texts bytes Plain all) (OneOfFirst leaves texts bytes Inside (suc i) all) in
      let Rest : Search = InsidePrefixes leaves texts bytes all (suc i) bs in
      choice_one (Trees.is_inside b) (Then (OneSet (i ∷ []) Set) Rest) Rest (then_one (OneSet (i ∷ []) Set) Rest (set_one (i ∷ []) Set) (inside_one all (suc i) bs)) (inside_one all (suc i) bs) o p s t

  prefixes_one : (bs : Trees.Branches) → FindsOne (Prefixes leaves texts bytes bs)
  prefixes_one bs =
      let Plains : Search = PlainPrefixes leaves texts bytes Plain bs 0 bs in
      let Insides : Search = InsidePrefixes leaves texts bytes bs 0 bs in
      choice_one (Trees.has Trees.is_positive bs) (Then Plains Insides) (PlainPrefixes leaves texts bytes Inside bs 0 bs) (then_one Plains Insides (plain_one Plain bs 0 bs) (inside_one bs 0 bs)) (plain_one Inside bs 0 bs)

  at_all_one : (bs : Trees.Branches) → FindsOne (AtAll leaves texts bytes bs)
  at_all_one bs =
      let Set = Meets leaves texts bytes (Trees.all_of bs) None in
      then_one (Prefixes leaves texts bytes bs) (OneSet [] Set) (prefixes_one bs) (set_one [] Set)

  mutual
    tree_one : (t : Trees.Tree) → FindsOne (Over leaves texts bytes t)
    tree_one (Trees.leaf k) = leaf_one (slice_get leaves k)
    tree_one (Trees.regex k) = set_one [] (IsMatch texts bytes k)
    tree_one (Trees.some_of ts) = then_one (OverTrees leaves texts bytes 0 ts) (OneSet [] (MeetsSome leaves texts bytes ts)) (trees_one ts 0) (set_one [] (MeetsSome leaves texts bytes ts))
    tree_one (Trees.all_of bs) = then_one (OverBranches leaves texts bytes 0 bs) (AtAll leaves texts bytes bs) (branches_one bs 0) (at_all_one bs)

    trees_one : (ts : Trees.Trees) (i : ℕ) → FindsOne (OverTrees leaves texts bytes i ts)
    trees_one Trees.no_trees i = nothing_one
    trees_one (Trees.tree_then t ts) i =
        then_one (InChild i (Over leaves texts bytes t)) (OverTrees leaves texts bytes (suc i) ts) (child_one i (Over leaves texts bytes t) (tree_one t)) (trees_one ts (suc i))

    branches_one : (bs : Trees.Branches) (i : ℕ) → FindsOne (OverBranches leaves texts bytes i bs)
    branches_one Trees.no_branches i = nothing_one
    branches_one (Trees.branch_then b bs) i =
        then_one (InChild i (OverBranch leaves texts bytes b)) (OverBranches leaves texts bytes (suc i) bs) (child_one i (OverBranch leaves texts bytes b) (branch_one b)) (branches_one bs (suc i))

    branch_one : (b : Trees.Branch) → FindsOne (OverBranch leaves texts bytes b)
    branch_one (Trees.positive t) = tree_one t
    branch_one (Trees.inside t) = tree_one t
    branch_one (Trees.without t) = tree_one t
    branch_one (Trees.outside t) = tree_one t
    branch_one (Trees.meta_pattern name t) = tree_one t
    branch_one (Trees.without_regex k) = nothing_one
    branch_one (Trees.meta_regex name k) = nothing_one
    branch_one (Trees.meta_compare x) = nothing_one
    branch_one (Trees.focus names) = nothing_one

  pub over_one : (t : Trees.Tree) (o p : Option (List ℕ)) → Over leaves texts bytes t o → Over leaves texts bytes t p → o ≡ p
  over_one t o p s q = tree_one t o p s q
