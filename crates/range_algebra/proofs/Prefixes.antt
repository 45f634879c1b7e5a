-- The prefixes of the children, by their operands.
use Rattle.std.proofs.Common.{◌≡◌, ◌↔◌, inl, inr, ℕ, suc, ◌+◌, List, [], ◌∷◌, ◌++◌, refl, sym, subst, Bool, true, false, arith}
use Rattle.std.specs.Prelude.{Option, None, Some, MatchBool, Vec, ◌||◌}
use Rattle.std.specs.declared.alloc.Global.{Global}
use Rattle.tree_match.specs.declared.leaf.Leaf.{Leaf}
use Rattle.node_match.specs.Sets.{Among}
use Rattle.tree_match.specs.Members.{Member}
use Rattle.member_join.specs.declared.state.State.{State}
use Rattle.member_join.specs.declared.operand.Operand.{Operand}
use Rattle.range_algebra.specs.declared.part.Part.{Part}
use Rattle.range_algebra.specs.declared.part.Part.TheVariants as kinds
use Rattle.member_join.specs.declared.operand.Role.{Role}
use Rattle.member_join.specs.declared.operand.Role.TheVariants.{Plain, Inside}
use Rattle.sorted_sets.specs.Sizes.{Each}
use Rattle.range_algebra.specs.Trees
use Rattle.member_join.specs.Choices.{Chosen, FirstOf, NoneOf, IsChoice, IsMet, IsCounted}
use Rattle.range_algebra.specs.Meets.{Meets, OneOfEach, OneAnd, IsChosen}
use Rattle.range_algebra.specs.Parts.{IsSetIn, IsPart}
use Rattle.member_join.specs.Limits.{Search, Nothing, Then, OneSet}
use Rattle.range_algebra.specs.Crowds.{is_operand, OneOfFirst, PlainPrefixes, InsidePrefixes, Prefixes}
use Rattle.member_join.specs.Operands.{Ascends, OperandsAscend, ChosenFrom, PlainFronts, InsideFronts, Fronts}
use Rattle.range_algebra.specs.Operands.{LeavesAscend, BeginsWithOperand, AreOperands}
use Rattle.range_algebra.proofs.Names.{tree_ascends}
use Rattle.member_join.proofs.Limits.{one_set_as}
use Rattle.member_join.proofs.Reaching.{no_choice}

-- ---- lists of sets

-- the same lists
abbrev Same : Chosen → Chosen → Type 0
Same P Q = (ms : List Member) → P ms ↔ Q ms

same_then : (P Q R : Chosen) → Same P Q → Same Q R → Same P R
same_then P Q R f g ms = (λ h. (g ms).0 ((f ms).0 h), λ h. (f ms).1 ((g ms).1 h))

same_back : (P Q : Chosen) → Same P Q → Same Q P
same_back P Q f ms = ((f ms).1, (f ms).0)

first_as : (Set : Member → Type 0) (P Q : Chosen) → Same P Q → Same (FirstOf Set P) (FirstOf Set Q)
first_as Set P Q same [] = (λ h. h, λ h. h)
first_as Set P Q same (m ∷ ms) = (λ h. (h.0, (same ms).0 h.1), λ h. (h.0, (same ms).1 h.1))

set_as : (A B : Member → Type 0) (P : Chosen) → ((m : Member) → A m ↔ B m) → Same (FirstOf A P) (FirstOf B P)
set_as A B P same [] = (λ h. h, λ h. h)
set_as A B P same (m ∷ ms) = (λ h. ((same m).0 h.0, h.1), λ h. ((same m).1 h.0, h.1))

choice_as : (P Q I J : Chosen) (s : State) → Same P Q → Same I J → IsChoice P I s → IsChoice Q J s
choice_as P Q I J s f g h = record {
  chosen = h.chosen;
  around = h.around;
  plain_members = (f h.chosen).0 h.plain_members;
  inside_members = (g h.around).0 h.inside_members;
  agree = h.agree;
  range = h.range;
  marked = h.marked;
  plain = h.plain;
  inside = h.inside;
}

counted_as : (P Q I J : Chosen) → Same P Q → Same I J → (s : State) → IsCounted P I s ↔ IsCounted Q J s
counted_as P Q I J f g s = (λ h. (choice_as P Q I J s f g h.0, h.1), λ h. (choice_as Q P J I s (same_back P Q f) (same_back I J g) h.0, h.1))

met_to : (P Q I J : Chosen) → Same P Q → Same I J → (m : Member) → IsMet P I m → IsMet Q J m
met_to P Q I J f g m h = record { state = h.state; choice = choice_as P Q I J h.state f g h.choice; ends_last = h.ends_last; marked = h.marked; range = h.range; binding = h.binding }

met_as : (P Q I J : Chosen) → Same P Q → Same I J → (m : Member) → IsMet P I m ↔ IsMet Q J m
met_as P Q I J f g m = (met_to P Q I J f g m, met_to Q P J I (same_back P Q f) (same_back I J g) m)

same_none : Same NoneOf NoneOf
same_none ms = (λ h. h, λ h. h)

-- one member of each operand, then such a list
abbrev Along : List Operand → Chosen → Chosen
Along [] C ms = C ms
Along (o ∷ os) C ms = FirstOf (Among o.members.now) (Along os C) ms

along_as : (os : List Operand) (P Q : Chosen) → Same P Q → Same (Along os P) (Along os Q)
along_as [] P Q same ms = same ms
along_as (o ∷ os) P Q same ms = first_as (Among o.members.now) (Along os P) (Along os Q) (along_as os P Q same) ms

along_more : (os : List Operand) (x : Operand) (P : Chosen) → Same (Along os (FirstOf (Among x.members.now) P)) (Along (os ++ x ∷ []) P)
along_more [] x P ms = (λ h. h, λ h. h)
along_more (o ∷ os) x P ms = first_as (Among o.members.now) (Along os (FirstOf (Among x.members.now) P)) (Along (os ++ x ∷ []) P) (along_more os x P) ms

along_none : (os : List Operand) → Same (Along os NoneOf) (ChosenFrom os)
along_none [] ms = (λ h. h, λ h. h)
along_none (o ∷ os) ms = first_as (Among o.members.now) (Along os NoneOf) (ChosenFrom os) (along_none os) ms

-- ---- searches

then_both : (A B C D : Search) → ((o : Option (List ℕ)) → A o → C o) → ((o : Option (List ℕ)) → B o → D o) → (o : Option (List ℕ)) → Then A B o → Then C D o
then_both A B C D f g None h = (f None h.0, g None h.1)
then_both A B C D f g (Some p) (inl a) = inl (f (Some p) a)
then_both A B C D f g (Some p) (inr h) = inr (f None h.0, g (Some p) h.1)

then_nothing : (A : Search) (o : Option (List ℕ)) → Then A Nothing o → A o
then_nothing A None h = h.0
then_nothing A (Some p) (inl a) = a
then_nothing A (Some p) (inr h) = let e : Some p ≡ None = h.1 in absurd cc

named_as : {X : Type 0} (i j : ℕ) (P Q : X → Type 0) → i ≡ j → ((x : X) → P x ↔ Q x) → (o : Option (List ℕ)) → OneSet (i ∷ []) P o → OneSet (j ∷ []) Q o
named_as i j P Q e same o h = let R : ℕ → Type 0 = λ k. OneSet (k ∷ []) Q o in subst R e (one_set_as (i ∷ []) P Q same o h)

module _ (leaves : List Leaf) (texts : List (List ℕ)) (bytes : List ℕ) where
  -- ---- the sets of children

  other_child : (role : Role) (b : Trees.Branch) (Rest : Chosen) → is_operand role b ≡ false → Same (OneAnd leaves texts bytes role b Rest) Rest
  other_child Plain (Trees.positive t) Rest e ms = absurd cc
  other_child Plain (Trees.inside t) Rest e ms = (λ h. h, λ h. h)
  other_child Plain (Trees.without t) Rest e ms = (λ h. h, λ h. h)
  other_child Plain (Trees.outside t) Rest e ms = (λ h. h, λ h. h)
  other_child Plain (Trees.without_regex k) Rest e ms = (λ h. h, λ h. h)
  other_child Plain (Trees.meta_regex name k) Rest e ms = (λ h. h, λ h. h)
  other_child Plain (Trees.meta_compare x) Rest e ms = (λ h. h, λ h. h)
  other_child Plain (Trees.meta_pattern name t) Rest e ms = (λ h. h, λ h. h)
  other_child Plain (Trees.focus names) Rest e ms = (λ h. h, λ h. h)
  other_child Inside (Trees.positive t) Rest e ms = (λ h. h, λ h. h)
  other_child Inside (Trees.inside t) Rest e ms = absurd cc
  other_child Inside (Trees.without t) Rest e ms = (λ h. h, λ h. h)
  other_child Inside (Trees.outside t) Rest e ms = (λ h. h, λ h. h)
  other_child Inside (Trees.without_regex k) Rest e ms = (λ h. h, λ h. h)
  other_child Inside (Trees.meta_regex name k) Rest e ms = (λ h. h, λ h. h)
  other_child Inside (Trees.meta_compare x) Rest e ms = (λ h. h, λ h. h)
  other_child Inside (Trees.meta_pattern name t) Rest e ms = (λ h. h, λ h. h)
  other_child Inside (Trees.focus names) Rest e ms = (λ h. h, λ h. h)

  -- what holds of an operand of each role holds of a child with that role
  of_operands {ℓ} : (P : Role → Trees.Branch → Type ℓ) → ((t : Trees.Tree) → P Plain (Trees.positive t)) → ((t : Trees.Tree) → P Inside (Trees.inside t)) → (role : Role) (b : Trees.Branch) → is_operand role b ≡ true → P role b
  of_operands P p i Plain (Trees.positive t) e = p t
  of_operands P p i Plain (Trees.inside t) e = absurd cc
  of_operands P p i Plain (Trees.without t) e = absurd cc
  of_operands P p i Plain (Trees.outside t) e = absurd cc
  of_operands P p i Plain (Trees.without_regex k) e = absurd cc
  of_operands P p i Plain (Trees.meta_regex name k) e = absurd cc
  of_operands P p i Plain (Trees.meta_compare x) e = absurd cc
  of_operands P p i Plain (Trees.meta_pattern name t) e = absurd cc
  of_operands P p i Plain (Trees.focus names) e = absurd cc
  of_operands P p i Inside (Trees.positive t) e = absurd cc
  of_operands P p i Inside (Trees.inside t) e = i t
  of_operands P p i Inside (Trees.without t) e = absurd cc
  of_operands P p i Inside (Trees.outside t) e = absurd cc
  of_operands P p i Inside (Trees.without_regex k) e = absurd cc
  of_operands P p i Inside (Trees.meta_regex name k) e = absurd cc
  of_operands P p i Inside (Trees.meta_compare x) e = absurd cc
  of_operands P p i Inside (Trees.meta_pattern name t) e = absurd cc
  of_operands P p i Inside (Trees.focus names) e = absurd cc

  operand_child : (members : List Member) (role : Role) (b : Trees.Branch) → is_operand role b ≡ true → IsSetIn leaves texts bytes b members → (Rest : Chosen) → Same (OneAnd leaves texts bytes role b Rest) (FirstOf (Among members) Rest)
  operand_child members =
      of_operands (λ r c. IsSetIn leaves texts bytes c members → (Rest : Chosen) → Same (OneAnd leaves texts bytes r c Rest) (FirstOf (Among members) Rest))
      (λ t s Rest. set_as (Meets leaves texts bytes t None) (Among members) Rest (λ m. ((s.exact m).1, (s.exact m).0)))
      (λ t s Rest. set_as (Meets leaves texts bytes t None) (Among members) Rest (λ m. ((s.exact m).1, (s.exact m).0)))

  set_ascends : LeavesAscend leaves → (members : List Member) (role : Role) (b : Trees.Branch) → is_operand role b ≡ true → IsSetIn leaves texts bytes b members → Each Ascends members
  set_ascends up members =
      of_operands (λ r c. IsSetIn leaves texts bytes c members → Each Ascends members) (λ t s m h. tree_ascends leaves texts bytes up t m ((s.exact m).0 h)) (λ t s m h. tree_ascends leaves texts bytes up t m ((s.exact m).0 h))

  pub part_members : (part : Part) (role : Role) (b : Trees.Branch) → is_operand role b ≡ true → IsPart leaves texts bytes b part → (v : Vec Member Global) × (part ≡ kinds.Members v) × IsSetIn leaves texts bytes b v.items
  part_members (kinds.Members v) role b e h = (v, refl, h)
  part_members kinds.Nothing role b e h = elim (of_operands (λ r c. IsPart leaves texts bytes c kinds.Nothing → ⊥) (λ t k. k) (λ t k. k) role b e h) [ ]
  part_members (kinds.Bare sets) role b e h = elim (of_operands (λ r c. IsPart leaves texts bytes c (kinds.Bare sets) → ⊥) (λ t k. k) (λ t k. k) role b e h) [ ]

  -- ---- the operands of the children

  module _ (role : Role) where
    pub operands_ascend : LeavesAscend leaves → (bs : Trees.Branches) (i : ℕ) (os : List Operand) → AreOperands leaves texts bytes role i bs os → OperandsAscend os
    operands_ascend up Trees.no_branches i os h = let P : List Operand → Type 0 = OperandsAscend in subst P (sym h) (λ o k. elim k [ ])
    operands_ascend up (Trees.branch_then b bs) i os h = at (is_operand role b) refl os h (operands_ascend up bs (suc i))
      where
        begins : is_operand role b ≡ true → (xs : List Operand) → BeginsWithOperand leaves texts bytes i b (AreOperands leaves texts bytes role (suc i) bs) xs → ((ys : List Operand) → AreOperands leaves texts bytes role (suc i) bs ys → OperandsAscend ys) → OperandsAscend xs
        begins e [] k rest o there = elim k [ ]
        begins e (x ∷ xs) k rest o (inl is) = let P : Operand → Type 0 = λ y. Each Ascends y.members.now in subst P is (set_ascends up x.members.now role b e k.1)
        begins e (x ∷ xs) k rest o (inr there) = rest xs k.2 o there

        at : (t : Bool) → is_operand role b ≡ t → (xs : List Operand) → MatchBool t (BeginsWithOperand leaves texts bytes i b (AreOperands leaves texts bytes role (suc i) bs) xs) (AreOperands leaves texts bytes role (suc i) bs xs) → ((ys : List Operand) → AreOperands leaves texts bytes role (suc i) bs ys → OperandsAscend ys) → OperandsAscend xs
        at true e xs k rest = begins e xs k rest
        at false e xs k rest = rest xs k

    one_of_each : (bs : Trees.Branches) (i : ℕ) (os : List Operand) → AreOperands leaves texts bytes role i bs os → Same (OneOfEach leaves texts bytes role bs) (ChosenFrom os)
    one_of_each Trees.no_branches i os h = let P : List Operand → Type 0 = λ xs. Same NoneOf (ChosenFrom xs) in subst P (sym h) (λ ms. (λ k. k, λ k. k))
    one_of_each (Trees.branch_then b bs) i os h = at (is_operand role b) refl os h (one_of_each bs (suc i))
      where
        begins : is_operand role b ≡ true → (xs : List Operand) → BeginsWithOperand leaves texts bytes i b (AreOperands leaves texts bytes role (suc i) bs) xs → ((ys : List Operand) → AreOperands leaves texts bytes role (suc i) bs ys → Same (OneOfEach leaves texts bytes role bs) (ChosenFrom ys)) → Same (OneAnd leaves texts bytes role b (OneOfEach leaves texts bytes role bs)) (ChosenFrom xs)
        begins e [] k rest ms = elim k [ ]
        begins e (x ∷ xs) k rest ms =
            same_then (OneAnd leaves texts bytes role b (OneOfEach leaves texts bytes role bs)) (FirstOf (Among x.members.now) (OneOfEach leaves texts bytes role bs)) (FirstOf (Among x.members.now) (ChosenFrom xs))
            (operand_child x.members.now role b e k.1 (OneOfEach leaves texts bytes role bs)) (first_as (Among x.members.now) (OneOfEach leaves texts bytes role bs) (ChosenFrom xs) (rest xs k.2)) ms

        at : (t : Bool) → is_operand role b ≡ t → (xs : List Operand) → MatchBool t (BeginsWithOperand leaves texts bytes i b (AreOperands leaves texts bytes role (suc i) bs) xs) (AreOperands leaves texts bytes role (suc i) bs xs) → ((ys : List Operand) → AreOperands leaves texts bytes role (suc i) bs ys → Same (OneOfEach leaves texts bytes role bs) (ChosenFrom ys)) → Same (OneAnd leaves texts bytes role b (OneOfEach leaves texts bytes role bs)) (ChosenFrom xs)
        at true e xs k rest ms = begins e xs k rest ms
        at false e xs k rest ms =
            same_then (OneAnd leaves texts bytes role b (OneOfEach leaves texts bytes role bs)) (OneOfEach leaves texts bytes role bs) (ChosenFrom xs) (other_child role b (OneOfEach leaves texts bytes role bs) e) (rest xs k) ms

    none_there : (bs : Trees.Branches) (i : ℕ) → AreOperands leaves texts bytes role i bs [] → Trees.has (is_operand role) bs ≡ false
    none_there Trees.no_branches i h = refl
    none_there (Trees.branch_then b bs) i h = at (is_operand role b) h (none_there bs (suc i))
      where
        at : (t : Bool) → MatchBool t (BeginsWithOperand leaves texts bytes i b (AreOperands leaves texts bytes role (suc i) bs) []) (AreOperands leaves texts bytes role (suc i) bs []) → (AreOperands leaves texts bytes role (suc i) bs [] → Trees.has (is_operand role) bs ≡ false) → t || Trees.has (is_operand role) bs ≡ false
        at true k rest = elim k [ ]
        at false k rest = rest k

    some_there : (bs : Trees.Branches) (i : ℕ) (x : Operand) (xs : List Operand) → AreOperands leaves texts bytes role i bs (x ∷ xs) → Trees.has (is_operand role) bs ≡ true
    some_there Trees.no_branches i x xs h = absurd cc
    some_there (Trees.branch_then b bs) i x xs h = at (is_operand role b) h (some_there bs (suc i) x xs)
      where
        at : (t : Bool) → MatchBool t (BeginsWithOperand leaves texts bytes i b (AreOperands leaves texts bytes role (suc i) bs) (x ∷ xs)) (AreOperands leaves texts bytes role (suc i) bs (x ∷ xs)) → (AreOperands leaves texts bytes role (suc i) bs (x ∷ xs) → Trees.has (is_operand role) bs ≡ true) → t || Trees.has (is_operand role) bs ≡ true
        at true k rest = refl
        at false k rest = rest k

    -- ---- the first children

    -- the first i of all children have these operands, and the others are left
    abbrev Cut : Trees.Branches → List Operand → ℕ → Trees.Branches → Type 0
    Cut all done i bs = (k n : ℕ) → k ≡ i + n → Same (OneOfFirst leaves texts bytes role k all) (Along done (OneOfFirst leaves texts bytes role n bs))

    cut_start : (all : Trees.Branches) → Cut all [] 0 all
    cut_start all k n e ms = let P : ℕ → Type 0 = λ j. OneOfFirst leaves texts bytes role j all ms ↔ OneOfFirst leaves texts bytes role n all ms in let f : n ≡ k = omega (arith, e) in subst P f (λ h. h, λ h. h)

    cut_other : (all : Trees.Branches) (done : List Operand) (i : ℕ) (b : Trees.Branch) (bs : Trees.Branches) → is_operand role b ≡ false → Cut all done i (Trees.branch_then b bs) → Cut all done (suc i) bs
    cut_other all done i b bs e cut k n f =
        same_then (OneOfFirst leaves texts bytes role k all) (Along done (OneAnd leaves texts bytes role b (OneOfFirst leaves texts bytes role n bs))) (Along done (OneOfFirst leaves texts bytes role n bs))
        (cut k (suc n) (omega (arith, f))) (along_as done (OneAnd leaves texts bytes role b (OneOfFirst leaves texts bytes role n bs)) (OneOfFirst leaves texts bytes role n bs) (other_child role b (OneOfFirst leaves texts bytes role n bs) e))

    cut_operand : (all : Trees.Branches) (done : List Operand) (i : ℕ) (b : Trees.Branch) (bs : Trees.Branches) (x : Operand) → is_operand role b ≡ true → IsSetIn leaves texts bytes b x.members.now → Cut all done i (Trees.branch_then b bs)
        → Cut all (done ++ x ∷ []) (suc i) bs
    cut_operand all done i b bs x e set cut k n f =
        same_then (OneOfFirst leaves texts bytes role k all) (Along done (FirstOf (Among x.members.now) (OneOfFirst leaves texts bytes role n bs))) (Along (done ++ x ∷ []) (OneOfFirst leaves texts bytes role n bs))
        (same_then (OneOfFirst leaves texts bytes role k all) (Along done (OneAnd leaves texts bytes role b (OneOfFirst leaves texts bytes role n bs))) (Along done (FirstOf (Among x.members.now) (OneOfFirst leaves texts bytes role n bs)))
        (cut k (suc n) (omega (arith, f)))
        (along_as done (OneAnd leaves texts bytes role b (OneOfFirst leaves texts bytes role n bs)) (FirstOf (Among x.members.now) (OneOfFirst leaves texts bytes role n bs)) (operand_child x.members.now role b e set (OneOfFirst leaves texts bytes role n bs))))
        (along_more done x (OneOfFirst leaves texts bytes role n bs))

    none_first : (bs : Trees.Branches) → Same (OneOfFirst leaves texts bytes role 0 bs) NoneOf
    none_first Trees.no_branches ms = (λ h. h, λ h. h)
    none_first (Trees.branch_then b bs) ms = (λ h. h, λ h. h)

    cut_front : (all : Trees.Branches) (done : List Operand) (i : ℕ) (bs : Trees.Branches) → Cut all done i bs → Same (OneOfFirst leaves texts bytes role i all) (ChosenFrom done)
    cut_front all done i bs cut =
        same_then (OneOfFirst leaves texts bytes role i all) (Along done (OneOfFirst leaves texts bytes role 0 bs)) (ChosenFrom done) (cut i 0 (omega arith))
        (same_then (Along done (OneOfFirst leaves texts bytes role 0 bs)) (Along done NoneOf) (ChosenFrom done) (along_as done (OneOfFirst leaves texts bytes role 0 bs) NoneOf (none_first bs)) (along_none done))

    pub plain_prefixes : (all : Trees.Branches) (bs : Trees.Branches) (i : ℕ) (done left : List Operand) → AreOperands leaves texts bytes role i bs left → Cut all done i bs → (o : Option (List ℕ)) → PlainFronts done left o → PlainPrefixes leaves texts bytes role all i bs o
    plain_prefixes all Trees.no_branches i done left h cut o f = let P : List Operand → Type 0 = λ xs. PlainFronts done xs o in subst P h f
    plain_prefixes all (Trees.branch_then b bs) i done left h cut o f = at (is_operand role b) refl left h f (plain_prefixes all bs (suc i))
      where
        begins : is_operand role b ≡ true → (xs : List Operand) → BeginsWithOperand leaves texts bytes i b (AreOperands leaves texts bytes role (suc i) bs) xs → PlainFronts done xs o
            → ((d ys : List Operand) → AreOperands leaves texts bytes role (suc i) bs ys → Cut all d (suc i) bs → (p : Option (List ℕ)) → PlainFronts d ys p → PlainPrefixes leaves texts bytes role all (suc i) bs p)
            → Then (OneSet (i ∷ []) (IsCounted (OneOfFirst leaves texts bytes role (suc i) all) NoneOf)) (PlainPrefixes leaves texts bytes role all (suc i) bs) o
        begins e [] k g rest = elim k [ ]
        begins e (x ∷ xs) k g rest =
            let next = cut_operand all done i b bs x e k.1 cut in
            then_both (OneSet (x.number ∷ []) (IsCounted (ChosenFrom (done ++ x ∷ [])) NoneOf)) (PlainFronts (done ++ x ∷ []) xs) (OneSet (i ∷ []) (IsCounted (OneOfFirst leaves texts bytes role (suc i) all) NoneOf)) (PlainPrefixes leaves texts bytes role all (suc i) bs)
            (named_as x.number i (IsCounted (ChosenFrom (done ++ x ∷ [])) NoneOf) (IsCounted (OneOfFirst leaves texts bytes role (suc i) all) NoneOf) k.0
            (counted_as (ChosenFrom (done ++ x ∷ [])) (OneOfFirst leaves texts bytes role (suc i) all) NoneOf NoneOf (same_back (OneOfFirst leaves texts bytes role (suc i) all) (ChosenFrom (done ++ x ∷ [])) (cut_front all (done ++ x ∷ []) (suc i) bs next)) same_none))
            (rest (done ++ x ∷ []) xs k.2 next) o g

        at : (t : Bool) → is_operand role b ≡ t → (xs : List Operand) → MatchBool t (BeginsWithOperand leaves texts bytes i b (AreOperands leaves texts bytes role (suc i) bs) xs) (AreOperands leaves texts bytes role (suc i) bs xs) → PlainFronts done xs o
            → ((d ys : List Operand) → AreOperands leaves texts bytes role (suc i) bs ys → Cut all d (suc i) bs → (p : Option (List ℕ)) → PlainFronts d ys p → PlainPrefixes leaves texts bytes role all (suc i) bs p)
            → MatchBool t (Then (OneSet (i ∷ []) (IsCounted (OneOfFirst leaves texts bytes role (suc i) all) NoneOf)) (PlainPrefixes leaves texts bytes role all (suc i) bs) o) (PlainPrefixes leaves texts bytes role all (suc i) bs o)
        at true e xs k g rest = begins e xs k g rest
        at false e xs k g rest = rest done xs k (cut_other all done i b bs e cut) o g

  module _ (plains : List Operand) (all : Trees.Branches) (first : Same (ChosenFrom plains) (OneOfEach leaves texts bytes Plain all)) where
    pub inside_prefixes : (bs : Trees.Branches) (i : ℕ) (done left : List Operand) → AreOperands leaves texts bytes Inside i bs left → Cut Inside all done i bs → (o : Option (List ℕ)) → InsideFronts plains done left o → InsidePrefixes leaves texts bytes all i bs o
    inside_prefixes Trees.no_branches i done left h cut o f = let P : List Operand → Type 0 = λ xs. InsideFronts plains done xs o in subst P h f
    inside_prefixes (Trees.branch_then b bs) i done left h cut o f = at (is_operand Inside b) refl left h f (inside_prefixes bs (suc i))
      where
        begins : is_operand Inside b ≡ true → (xs : List Operand) → BeginsWithOperand leaves texts bytes i b (AreOperands leaves texts bytes Inside (suc i) bs) xs → InsideFronts plains done xs o
            → ((d ys : List Operand) → AreOperands leaves texts bytes Inside (suc i) bs ys → Cut Inside all d (suc i) bs → (p : Option (List ℕ)) → InsideFronts plains d ys p → InsidePrefixes leaves texts bytes all (suc i) bs p)
            → Then (OneSet (i ∷ []) (IsCounted (OneOfEach leaves texts bytes Plain all) (OneOfFirst leaves texts bytes Inside (suc i) all))) (InsidePrefixes leaves texts bytes all (suc i) bs) o
        begins e [] k g rest = elim k [ ]
        begins e (x ∷ xs) k g rest =
            let next = cut_operand Inside all done i b bs x e k.1 cut in
            then_both (OneSet (x.number ∷ []) (IsCounted (ChosenFrom plains) (ChosenFrom (done ++ x ∷ [])))) (InsideFronts plains (done ++ x ∷ []) xs) (OneSet (i ∷ []) (IsCounted (OneOfEach leaves texts bytes Plain all) (OneOfFirst leaves texts bytes Inside (suc i) all))) (InsidePrefixes leaves texts bytes all (suc i) bs)
            (named_as x.number i (IsCounted (ChosenFrom plains) (ChosenFrom (done ++ x ∷ []))) (IsCounted (OneOfEach leaves texts bytes Plain all) (OneOfFirst leaves texts bytes Inside (suc i) all)) k.0
            (counted_as (ChosenFrom plains) (OneOfEach leaves texts bytes Plain all) (ChosenFrom (done ++ x ∷ [])) (OneOfFirst leaves texts bytes Inside (suc i) all) first
            (same_back (OneOfFirst leaves texts bytes Inside (suc i) all) (ChosenFrom (done ++ x ∷ [])) (cut_front Inside all (done ++ x ∷ []) (suc i) bs next))))
            (rest (done ++ x ∷ []) xs k.2 next) o g

        at : (t : Bool) → is_operand Inside b ≡ t → (xs : List Operand) → MatchBool t (BeginsWithOperand leaves texts bytes i b (AreOperands leaves texts bytes Inside (suc i) bs) xs) (AreOperands leaves texts bytes Inside (suc i) bs xs) → InsideFronts plains done xs o
            → ((d ys : List Operand) → AreOperands leaves texts bytes Inside (suc i) bs ys → Cut Inside all d (suc i) bs → (p : Option (List ℕ)) → InsideFronts plains d ys p → InsidePrefixes leaves texts bytes all (suc i) bs p)
            → MatchBool t (Then (OneSet (i ∷ []) (IsCounted (OneOfEach leaves texts bytes Plain all) (OneOfFirst leaves texts bytes Inside (suc i) all))) (InsidePrefixes leaves texts bytes all (suc i) bs) o) (InsidePrefixes leaves texts bytes all (suc i) bs o)
        at true e xs k g rest = begins e xs k g rest
        at false e xs k g rest = rest done xs k (cut_other Inside all done i b bs e cut) o g

  -- ---- the answer

  module _ (bs : Trees.Branches) (plains insides : List Operand) (are_plain : AreOperands leaves texts bytes Plain 0 bs plains) (are_inside : AreOperands leaves texts bytes Inside 0 bs insides) where
    insides_same : Same (ChosenFrom insides) (OneOfEach leaves texts bytes Inside bs)
    insides_same = same_back (OneOfEach leaves texts bytes Inside bs) (ChosenFrom insides) (one_of_each Inside bs 0 insides are_inside)

    plains_same : Same (ChosenFrom plains) (OneOfEach leaves texts bytes Plain bs)
    plains_same = same_back (OneOfEach leaves texts bytes Plain bs) (ChosenFrom plains) (one_of_each Plain bs 0 plains are_plain)

    -- some operand is plain
    module _ (x : Operand) (xs : List Operand) (is : plains ≡ x ∷ xs) where
      plain_there : Trees.has Trees.is_positive bs ≡ true
      plain_there = let P : List Operand → Type 0 = AreOperands leaves texts bytes Plain 0 bs in some_there Plain bs 0 x xs (subst P is are_plain)

      pub plain_chosen : (m : Member) → IsMet (ChosenFrom plains) (ChosenFrom insides) m ↔ IsChosen leaves texts bytes bs m
      plain_chosen m =
          let e = plain_there in
          rw e (met_as (ChosenFrom plains) (OneOfEach leaves texts bytes Plain bs) (ChosenFrom insides) (OneOfEach leaves texts bytes Inside bs) plains_same insides_same m)

      pub plain_search : (o : Option (List ℕ)) → Fronts plains insides o → Prefixes leaves texts bytes bs o
      plain_search o h =
          let e = plain_there in
          rw e (then_both (PlainFronts [] plains) (InsideFronts plains [] insides) (PlainPrefixes leaves texts bytes Plain bs 0 bs) (InsidePrefixes leaves texts bytes bs 0 bs)
          (plain_prefixes Plain bs bs 0 [] plains are_plain (cut_start Plain bs)) (inside_prefixes plains bs plains_same bs 0 [] insides are_inside (cut_start Inside bs)) o h)

    -- none is
    module _ (is : plains ≡ []) where
      no_plain : Trees.has Trees.is_positive bs ≡ false
      no_plain = let P : List Operand → Type 0 = AreOperands leaves texts bytes Plain 0 bs in none_there Plain bs 0 (subst P is are_plain)

      pub inside_search : (o : Option (List ℕ)) → Fronts insides [] o → Prefixes leaves texts bytes bs o
      inside_search o h =
          let e = no_plain in
          rw e (plain_prefixes Inside bs bs 0 [] insides are_inside (cut_start Inside bs) o (then_nothing (PlainFronts [] insides) o h))

      inside_met : (m : Member) → IsMet (ChosenFrom insides) (ChosenFrom []) m ↔ IsMet (OneOfEach leaves texts bytes Inside bs) NoneOf m
      inside_met m = met_as (ChosenFrom insides) (OneOfEach leaves texts bytes Inside bs) (ChosenFrom []) NoneOf insides_same same_none m

      inside_cases : (os : List Operand) → insides ≡ os → (m : Member) → IsMet (ChosenFrom insides) (ChosenFrom []) m ↔ MatchBool (Trees.has Trees.is_inside bs) (IsMet (OneOfEach leaves texts bytes Inside bs) NoneOf m) ⊥
      inside_cases [] f m =
          let P : List Operand → Type 0 = AreOperands leaves texts bytes Inside 0 bs in
          let e = none_there Inside bs 0 (subst P f are_inside) in
          let Q : List Operand → Type 0 = λ ys. IsMet (ChosenFrom ys) (ChosenFrom []) m in
          rw e (λ h. no_choice (subst Q f h).state (subst Q f h).choice, λ h. elim h [ ])
      inside_cases (y ∷ ys) f m =
          let P : List Operand → Type 0 = AreOperands leaves texts bytes Inside 0 bs in
          let e = some_there Inside bs 0 y ys (subst P f are_inside) in
          rw e (inside_met m)

      pub inside_chosen : (m : Member) → IsMet (ChosenFrom insides) (ChosenFrom []) m ↔ IsChosen leaves texts bytes bs m
      inside_chosen m = let e = no_plain in rw e (inside_cases insides refl m)
