-- What a child allows, by the members of its formula.
use Rattle.std.proofs.Common.{◌≡◌, ◌⊎◌, ◌↔◌, ℕ, ◌+◌, ◌<◌, List, [], ◌∷◌, length, drop, get_or, Bool, true, false, not, ◌||◌, map, refl, sym, ap, ◌∙◌, subst}
use Rattle.std.specs.Prelude.{IsTrue, Option, None, Some, MatchOption, MatchBool, Result, Ok, Err, IfOk, Vec}
use Rattle.std.specs.declared.alloc.Global.{Global}
use Rattle.node_tree.specs.declared.span.Span.{Span}
use Rattle.meta_bind.specs.declared.bound.Bound.{Bound}
use Rattle.meta_bind.specs.Bounds.{Agree, bound_at}
use Rattle.meta_filter.specs.Values.{holds}
use Rattle.rule_form.specs.declared.comparison.Comparison.{Comparison}
use Rattle.rule_form.specs.declared.formula.Formula.{Formula, Formula-F, roll-Formula}
use Rattle.rule_form.specs.declared.formula.Formula.TheVariants as formulas
use Rattle.rule_form.specs.declared.formula.Formula.TheVariants.{rolls-All}
use Rattle.rule_form.specs.declared.formula.Child.{Child, Child-F, roll-Child}
use Rattle.rule_form.specs.declared.formula.Child.TheVariants as children
use Rattle.rule_form.specs.declared.formula.Child.TheVariants.{rolls-Not, rolls-NotInside, rolls-NotRegex, rolls-MetaRegex, rolls-MetaCompare, rolls-MetaPattern}
use Rattle.rule_form.specs.declared.formula.Child.TheOpen as layers
use Rattle.tree_match.specs.declared.leaf.Leaf.{Leaf}
use Rattle.tree_match.specs.Ascending.{IsAscending}
use Rattle.tree_match.specs.Members.{Member, member_cmp}
use Rattle.range_algebra.specs.Halves.{IsOrderedFor, AreApart}
use Rattle.range_algebra.specs.declared.part.Part.{Part}
use Rattle.range_algebra.specs.declared.part.Part.TheVariants as parts
use Rattle.sorted_sets.specs.Sizes.{Any}
use Rattle.range_algebra.specs.Conditions.{IsEqualTo, IsAround, IsSharedWith, AllowsBy}
use Rattle.range_algebra.specs.Regexes.{unbound, matches_bound, AreMatches}
use Rattle.range_algebra.specs.Trees.{Tree, Branch, Branches, no_branches, branch_then, positive, inside, without, outside, without_regex, meta_regex, meta_compare, meta_pattern, focus, leaf, regex, some_of, all_of, branches_of, tree_of, branch_of, has, is_positive, is_inside, is_focus, focused}
use Rattle.range_algebra.specs.Meets.{Meets, Allows, Allowed, IsShown, IsShownAmong}
use Rattle.range_algebra.specs.Parts.{has_operands, members_in, IsBare, IsSetOf, IsPart, IsTakenAway, AreTakenAway, AreParts}
use Rattle.range_algebra.proofs.Openings.{branch_at, by_layer, tree_at, by_tree_layer, item_within, item_parted}
use Rattle.range_algebra.proofs.Layers.{tree_all, branch_metapattern}
use Rattle.range_algebra.proofs.Regexes.{among_matches, matches_apart}

-- ---- a child's test

-- a test that fails where the other holds
pub denied : (y : Bool) (A : Type 0) → IsTrue y ↔ A → IsTrue (not y) ↔ (A → ⊥)
denied true A h = (λ e. absurd (cc), λ n. absurd (n (h.0 refl)))
denied false A h = (λ e a. (let f = h.1 a in cc), λ n. refl)

module _ (texts : List (List ℕ)) (bytes : List ℕ) (members : List Member) (one : Member) where
  abbrev Says : Bool → Branch → Type 0
  Says y b = IsTrue y ↔ AllowsBy texts bytes members one b

  pub says_without : (b : Branch) (t : Tree) (y : Bool) → b ≡ without t → IsTrue y ↔ Any (IsEqualTo one.0 one.1) members → Says (not y) b
  says_without b t y e h = let P : Branch → Type 0 = Says (not y) in subst P (sym e) (denied y (Any (IsEqualTo one.0 one.1) members) h)

  pub ordered_without : (b : Branch) (t : Tree) → b ≡ without t → IsOrderedFor b members → IsAscending member_cmp members
  ordered_without b t e up = let P : Branch → Type 0 = λ x. IsOrderedFor x members in subst P e up

  pub ordered_outside : (b : Branch) (t : Tree) → b ≡ outside t → IsOrderedFor b members → IsAscending member_cmp members
  ordered_outside b t e up = let P : Branch → Type 0 = λ x. IsOrderedFor x members in subst P e up

  pub says_outside : (b : Branch) (t : Tree) (y : Bool) → b ≡ outside t → IsTrue y ↔ Any (IsAround one.0 one.1) members → Says (not y) b
  says_outside b t y e h = let P : Branch → Type 0 = Says (not y) in subst P (sym e) (denied y (Any (IsAround one.0 one.1) members) h)

  pub ordered_matches : (b : Branch) (k : ℕ) → b ≡ without_regex k → IsOrderedFor b members → AreApart members
  ordered_matches b k e apart = let P : Branch → Type 0 = λ x. IsOrderedFor x members in subst P e apart

  pub says_matches : (b : Branch) (k : ℕ) (y : Bool) → b ≡ without_regex k → IsTrue y ↔ Any (IsSharedWith one.0) members → Says (not y) b
  says_matches b k y e h = let P : Branch → Type 0 = Says (not y) in subst P (sym e) (denied y (Any (IsSharedWith one.0) members) h)

  -- a test that is the one that the child makes
  says_tested : (b test : Branch) (y z : Bool) → b ≡ test → y ≡ z → IsTrue z ↔ AllowsBy texts bytes members one test → Says y b
  says_tested b test y z e same h =
      let P : Branch → Type 0 = Says y in
      let Q : Bool → Type 0 = λ w. Says w test in
      subst P (sym e) (subst Q (sym same) h)

  pub says_regex : (b : Branch) (name : List ℕ) (k : ℕ) (y : Bool) → b ≡ meta_regex name k → y ≡ matches_bound texts bytes k name one.1 → Says y b
  says_regex b name k y e same = says_tested b (meta_regex name k) y (matches_bound texts bytes k name one.1) e same (λ t. t, λ t. t)

  pub says_pattern : (b : Branch) (name : List ℕ) (t : Tree) → b ≡ meta_pattern name t → Says false b
  says_pattern b name t e = let P : Branch → Type 0 = Says false in subst P (sym e) (λ f. absurd (cc), λ n. absurd n)

  pub says_compare : (b : Branch) (x : Comparison) (y : Bool) → b ≡ meta_compare x → y ≡ holds one.1 bytes x → Says y b
  says_compare b x y e same = says_tested b (meta_compare x) y (holds one.1 bytes x) e same (λ t. t, λ t. t)

  pub says_other : (c : Child) → ((f : Formula) → c ≡ children.Not f → ⊥) → ((f : Formula) → c ≡ children.NotInside f → ⊥) → ((k : ℕ) → c ≡ children.NotRegex k → ⊥) → ((name : List ℕ) (k : ℕ) → c ≡ children.MetaRegex name k → ⊥) → ((x : Comparison) → c ≡ children.MetaCompare x → ⊥)
      → ((name : List ℕ) (f : Formula) → c ≡ children.MetaPattern name f → ⊥) → Says true (branch_of c)
  says_other c no_without no_outside no_matches no_regex no_compare no_pattern = (λ e. by_layer (AllowsBy texts bytes members one) c at, λ a. refl)
    where
      at : (x : Child-F Child Formula) → c ≡ roll-Child x → AllowsBy texts bytes members one (branch_at x)
      at (layers.Positive f) e = tt
      at (layers.Inside f) e = tt
      at (layers.Not f) e = absurd (no_without f (e ∙ rolls-Not f))
      at (layers.NotInside f) e = absurd (no_outside f (e ∙ rolls-NotInside f))
      at (layers.NotRegex k) e = absurd (no_matches k (e ∙ rolls-NotRegex k))
      at (layers.MetaRegex name k) e = absurd (no_regex name k (e ∙ rolls-MetaRegex name k))
      at (layers.MetaCompare x) e = absurd (no_compare x (e ∙ rolls-MetaCompare x))
      at (layers.MetaPattern name f) e = absurd (no_pattern name f (e ∙ rolls-MetaPattern name f))
      at (layers.Focus names) e = tt

-- ---- what is bound

nowhere : (name : List ℕ) (bs : List Bound) (F : Bound → Type 0) → bs ≡ [] → MatchOption (bound_at name bs) ⊥ F → ⊥
nowhere name [] F e x = x
nowhere name (b ∷ bs) F e x = absurd (cc)

at_bound : (o : Option Bound) (b : Bound) → o ≡ Some b → (F : Bound → Type 0) → MatchOption o ⊥ F ↔ F b
at_bound o b e F = let P : Option Bound → Type 0 = λ x. MatchOption x ⊥ F ↔ F b in subst P (sym e) (λ x. x, λ x. x)

-- ---- without operands

-- neither of the two is there
picked : (p q : Bool) (A B C : Type 0) → p || q ≡ false → MatchBool p A (MatchBool q B C) ↔ C
picked true q A B C e = absurd (cc)
picked false true A B C e = absurd (cc)
picked false false A B C e = (λ x. x, λ x. x)

-- one of the two is there
passed : (p q : Bool) (A B C D : Type 0) → (p || q ≡ false → ⊥) → MatchBool p A (MatchBool q B C) → MatchBool p A (MatchBool q B D)
passed true q A B C D some x = x
passed false true A B C D some x = x
passed false false A B C D some x = absurd (some refl)

shown_whole : (t : Bool) (A B : Type 0) → t ≡ false → MatchBool t A B ↔ B
shown_whole true A B e = absurd (cc)
shown_whole false A B e = (λ x. x, λ x. x)

-- nothing is in focus where no name is bound
unfocused : (names : List (List ℕ)) (range : Span) (m : Member) → IsShownAmong names (range, []) m → ⊥
unfocused names range m (name, among, (b, e, some, is)) = cc

shown_bare : (t : Bool) (names : List (List ℕ)) (range : Span) (m : Member) → MatchBool t (IsShownAmong names (range, []) m) (m ≡ (range, [])) ↔ ((t ≡ false) × (m ≡ (range, [])))
shown_bare true names range m = (λ x. absurd (unfocused names range m x), λ x. absurd (let e = x.0 in cc))
shown_bare false names range m = (λ x. (refl, x), λ x. x.1)

module _ (leaves : List Leaf) (texts : List (List ℕ)) (bytes : List ℕ) where
  -- a formula without operands has the given range alone, where all children allow it and none puts a name in focus
  pub bare_meets : (bs : Branches) → has_operands bs ≡ false → (range : Span) (m : Member) → Meets leaves texts bytes (all_of bs) (Some range) m ↔ ((has is_focus bs ≡ false) × Allowed leaves texts bytes bs (range, []) × (m ≡ (range, [])))
  bare_meets bs none range m = (to, from)
    where
      to : Meets leaves texts bytes (all_of bs) (Some range) m → (has is_focus bs ≡ false) × Allowed leaves texts bytes bs (range, []) × (m ≡ (range, []))
      to (c, operand, allowed, shown) =
          let given : Member = (range, []) in
          let Shows : Member → Type 0 = λ x. Allowed leaves texts bytes bs x × IsShown bs x m in
          let e : c ≡ given = (picked (has is_positive bs) (has is_inside bs) _ _ _ none).0 operand in
          let h : Shows given = subst Shows e (allowed, shown) in
          let s = (shown_bare (has is_focus bs) (focused bs) range m).0 h.1 in
          (s.0, h.0, s.1)

      from : (has is_focus bs ≡ false) × Allowed leaves texts bytes bs (range, []) × (m ≡ (range, [])) → Meets leaves texts bytes (all_of bs) (Some range) m
      from (unseen, allowed, e) = ((range, []), (picked (has is_positive bs) (has is_inside bs) _ _ _ none).1 refl, allowed, (shown_bare (has is_focus bs) (focused bs) range m).1 (unseen, e))

  -- other formulas make nothing of a given range
  pub given_aside : (t : Tree) → (IsBare t → ⊥) → (range : Span) (m : Member) → Meets leaves texts bytes t (Some range) m ↔ Meets leaves texts bytes t None m
  given_aside (leaf k) some range m = (λ x. x, λ x. x)
  given_aside (regex k) some range m = (λ x. x, λ x. x)
  given_aside (some_of ts) some range m = (λ x. x, λ x. x)
  given_aside (all_of bs) some range m = (
    λ x. (x.0, passed (has is_positive bs) (has is_inside bs) _ _ _ _ some x.1, x.2, x.3),
    λ x. (x.0, passed (has is_positive bs) (has is_inside bs) _ _ _ _ some x.1, x.2, x.3),
  )

  -- ---- by the members of the formula

  without_by : (t : Tree) (members : List Member) (one : Member) → IsSetOf leaves texts bytes t members → AllowsBy texts bytes members one (without t) ↔ Allows leaves texts bytes (without t) one
  without_by t members one set = (
    λ none b m agree. none ((one.0, b), (set.exact (one.0, b)).1 m, (refl, agree)),
    λ none x. none x.0.1 (let P : Span → Type 0 = λ r. Meets leaves texts bytes t None (r, x.0.1) in subst P x.2.0 ((set.exact x.0).0 x.1)) x.2.1,
  )

  outside_by : (t : Tree) (members : List Member) (one : Member) → IsSetOf leaves texts bytes t members → AllowsBy texts bytes members one (outside t) ↔ Allows leaves texts bytes (outside t) one
  outside_by t members one set = (
    λ none m is within agree. none (m, (set.exact m).1 is, (within, agree)),
    λ none x. none x.0 ((set.exact x.0).0 x.1) x.2.0 x.2.1,
  )

  matches_by : (k : ℕ) (members : List Member) (one : Member) → AreMatches texts bytes k members → AllowsBy texts bytes members one (without_regex k) ↔ Allows leaves texts bytes (without_regex k) one
  matches_by k members one are = (
    λ none (s, among, shared). none (unbound s, (among_matches texts bytes k members are (unbound s)).1 (among, refl), shared),
    λ none (m, among, shared). none (m.0, ((among_matches texts bytes k members are m).0 among).0, shared),
  )

  -- what a child that is no condition by a formula allows, by its part
  pub allows_of : (b : Branch) (p : Part) (one : Member) → IsPart leaves texts bytes b p → ((name : List ℕ) (t : Tree) → b ≡ meta_pattern name t → ⊥) → AllowsBy texts bytes (members_in p) one b ↔ Allows leaves texts bytes b one
  allows_of (positive t) p one is other = (λ x. x, λ x. x)
  allows_of (inside t) p one is other = (λ x. x, λ x. x)
  allows_of (without t) parts.Nothing one is other = absurd is
  allows_of (without t) (parts.Members v) one is other = without_by t v.items one is
  allows_of (without t) (parts.Bare sets) one is other = absurd is
  allows_of (outside t) parts.Nothing one is other = absurd is
  allows_of (outside t) (parts.Members v) one is other = outside_by t v.items one is
  allows_of (outside t) (parts.Bare sets) one is other = absurd is
  allows_of (without_regex k) parts.Nothing one is other = absurd is
  allows_of (without_regex k) (parts.Members v) one is other = matches_by k v.items one is
  allows_of (without_regex k) (parts.Bare sets) one is other = absurd is
  allows_of (meta_regex name k) p one is other = (λ x. x, λ x. x)
  allows_of (meta_compare x) p one is other = (λ x. x, λ x. x)
  allows_of (meta_pattern name t) p one is other = absurd (other name t refl)
  allows_of (focus names) p one is other = (λ x. x, λ x. x)

  -- the members of a formula that takes something away are in order
  pub part_ordered : (b : Branch) (p : Part) (given : List Member) → IsPart leaves texts bytes b p → given ≡ members_in p → IsOrderedFor b given
  part_ordered (without t) parts.Nothing given is same = absurd is
  part_ordered (without t) (parts.Members v) given is same = let P : List Member → Type 0 = IsAscending member_cmp in subst P (sym same) is.ordered
  part_ordered (without t) (parts.Bare sets) given is same = absurd is
  part_ordered (outside t) parts.Nothing given is same = absurd is
  part_ordered (outside t) (parts.Members v) given is same = let P : List Member → Type 0 = IsAscending member_cmp in subst P (sym same) is.ordered
  part_ordered (outside t) (parts.Bare sets) given is same = absurd is
  part_ordered (positive t) p given is same = tt
  part_ordered (inside t) p given is same = tt
  part_ordered (without_regex k) parts.Nothing given is same = absurd is
  part_ordered (without_regex k) (parts.Members v) given is same = let P : List Member → Type 0 = AreApart in subst P (sym same) (matches_apart texts bytes k v.items is)
  part_ordered (without_regex k) (parts.Bare sets) given is same = absurd is
  part_ordered (meta_regex name k) p given is same = tt
  part_ordered (meta_compare x) p given is same = tt
  part_ordered (meta_pattern name t) p given is same = tt
  part_ordered (focus names) p given is same = tt

  pub taken_ordered : (b : Branch) (members given : List Member) → IsTakenAway leaves texts bytes b members → given ≡ members → IsOrderedFor b given
  taken_ordered (without t) members given is same = let P : List Member → Type 0 = IsAscending member_cmp in subst P (sym same) is.ordered
  taken_ordered (outside t) members given is same = let P : List Member → Type 0 = IsAscending member_cmp in subst P (sym same) is.ordered
  taken_ordered (positive t) members given is same = tt
  taken_ordered (inside t) members given is same = tt
  taken_ordered (without_regex k) members given is same = let P : List Member → Type 0 = AreApart in subst P (sym same) (matches_apart texts bytes k members is)
  taken_ordered (meta_regex name k) members given is same = tt
  taken_ordered (meta_compare x) members given is same = tt
  taken_ordered (meta_pattern name t) members given is same = tt
  taken_ordered (focus names) members given is same = tt

  -- those of a condition's formula too
  pub pattern_ordered : (name : List ℕ) (t : Tree) (p : Part) (given : List Member) → IsPart leaves texts bytes (meta_pattern name t) p → ((sets : Vec (Vec Member Global) Global) → p ≡ parts.Bare sets → ⊥) → given ≡ members_in p → IsAscending member_cmp given
  pattern_ordered name t parts.Nothing given is never same = absurd is
  pattern_ordered name t (parts.Bare sets) given is never same = absurd (never sets refl)
  pattern_ordered name t (parts.Members v) given is never same = let P : List Member → Type 0 = IsAscending member_cmp in subst P (sym same) is.0.ordered

  -- what a child of a formula without operands allows, where no name is bound
  pub allows_taken : (b : Branch) (members : List Member) (one : Member) → one.1 ≡ [] → IsTakenAway leaves texts bytes b members → AllowsBy texts bytes members one b ↔ Allows leaves texts bytes b one
  allows_taken (positive t) members one e is = (λ x. x, λ x. x)
  allows_taken (inside t) members one e is = (λ x. x, λ x. x)
  allows_taken (without t) members one e is = without_by t members one is
  allows_taken (outside t) members one e is = outside_by t members one is
  allows_taken (without_regex k) members one e is = matches_by k members one is
  allows_taken (meta_regex name k) members one e is = (λ x. x, λ x. x)
  allows_taken (meta_compare x) members one e is = (λ x. x, λ x. x)
  allows_taken (meta_pattern name t) members one e is = (λ n. absurd n, λ x. nowhere name one.1 _ e x)
  allows_taken (focus names) members one e is = (λ x. x, λ x. x)

  -- ---- all children

  -- the first of the children that are left doesn't allow the choice
  pub refused : (bs left rest : Branches) (b : Branch) (one : Member) (y : Bool) → Allowed leaves texts bytes bs one ↔ Allowed leaves texts bytes left one → left ≡ branch_then b rest → IsTrue y ↔ Allows leaves texts bytes b one → y ≡ false → Allowed leaves texts bytes bs one → ⊥
  refused bs left rest b one y same e is false_is all =
      let P : Branches → Type 0 = λ x. Allowed leaves texts bytes x one in
      let h : P (branch_then b rest) = subst P e (same.0 all) in
      let f = is.1 h.0 in
      cc

  -- it allows it
  pub passed_on : (bs left rest : Branches) (b : Branch) (one : Member) (y : Bool) → Allowed leaves texts bytes bs one ↔ Allowed leaves texts bytes left one → left ≡ branch_then b rest → IsTrue y ↔ Allows leaves texts bytes b one → y ≡ true → Allowed leaves texts bytes bs one ↔ Allowed leaves texts bytes rest one
  passed_on bs left rest b one y same e is true_is =
      let P : Branches → Type 0 = λ x. Allowed leaves texts bytes x one in
      let first = is.0 true_is in
      (λ all. (let h : P (branch_then b rest) = subst P e (same.0 all) in h.1), λ more. same.1 (let h : P (branch_then b rest) = (first, more) in subst P (sym e) h))

  pub all_passed : (bs left : Branches) (one : Member) → Allowed leaves texts bytes bs one ↔ Allowed leaves texts bytes left one → left ≡ no_branches → Allowed leaves texts bytes bs one
  all_passed bs left one same e = let P : Branches → Type 0 = λ x. Allowed leaves texts bytes x one in same.1 (let h : P no_branches = tt in subst P (sym e) h)

  -- the answer for a formula without operands
  pub bare_answer : (bs : Branches) (range : Span) (one : Member) (y : Bool) → has_operands bs ≡ false → one ≡ (range, []) → IsTrue y ↔ ((has is_focus bs ≡ false) × Allowed leaves texts bytes bs one) → IsTrue y ↔ Meets leaves texts bytes (all_of bs) (Some range) (range, [])
  bare_answer bs range one y none e is =
      let given : Member = (range, []) in
      let P : Member → Type 0 = λ x. IsTrue y ↔ ((has is_focus bs ≡ false) × Allowed leaves texts bytes bs x) in
      let h : P given = subst P e is in
      let meets = bare_meets bs none range given in
      (λ t. meets.1 ((h.0 t).0, (h.0 t).1, refl), λ m. (let k = meets.0 m in h.1 (k.0, k.1)))

  module _ (cs : List Child) (i : ℕ) (child : Child) (lt : i < length cs) (is : child ≡ get_or cs i child) where
    pub taken_within : (sets : List (Vec Member Global)) → AreTakenAway leaves texts bytes (branches_of (map branch_of (drop i cs))) (drop i sets) → i < length sets
    taken_within sets are = item_within cs i child lt is (AreTakenAway leaves texts bytes) (λ b v. IsTakenAway leaves texts bytes b v.items) (λ b bs h. h) (λ b bs x xs h. h) sets are

    pub taken_parted : (sets : List (Vec Member Global)) (v : Vec Member Global) → AreTakenAway leaves texts bytes (branches_of (map branch_of (drop i cs))) (drop i sets) → v ≡ get_or sets i v
        → IsTakenAway leaves texts bytes (branch_of child) v.items × AreTakenAway leaves texts bytes (branches_of (map branch_of (drop (i + 1) cs))) (drop (i + 1) sets)
    taken_parted sets v are here = item_parted cs i child lt is (AreTakenAway leaves texts bytes) (λ b w. IsTakenAway leaves texts bytes b w.items) (λ b bs h. h) (λ b bs x xs h. h) sets are v here

    pub part_within : (ps : List Part) → AreParts leaves texts bytes (branches_of (map branch_of (drop i cs))) (drop i ps) → i < length ps
    part_within ps are = item_within cs i child lt is (AreParts leaves texts bytes) (IsPart leaves texts bytes) (λ b bs h. h) (λ b bs x xs h. h) ps are

    pub part_parted : (ps : List Part) (p : Part) → AreParts leaves texts bytes (branches_of (map branch_of (drop i cs))) (drop i ps) → p ≡ get_or ps i p
        → IsPart leaves texts bytes (branch_of child) p × AreParts leaves texts bytes (branches_of (map branch_of (drop (i + 1) cs))) (drop (i + 1) ps)
    part_parted ps p are here = item_parted cs i child lt is (AreParts leaves texts bytes) (IsPart leaves texts bytes) (λ b bs h. h) (λ b bs x xs h. h) ps are p here

  -- what a child of a formula without operands says, by its set
  pub taken_says : (b : Branch) (v members : List Member) (one : Member) (y : Bool) → one.1 ≡ [] → IsTakenAway leaves texts bytes b v → members ≡ v → IsTrue y ↔ AllowsBy texts bytes members one b → IsTrue y ↔ Allows leaves texts bytes b one
  taken_says b v members one y e is same says =
      let P : List Member → Type 0 = IsTakenAway leaves texts bytes b in
      let by = allows_taken b members one e (subst P (sym same) is) in
      (λ t. by.0 (says.0 t), λ a. says.1 (by.1 a))

  -- ---- conditions by a formula

  -- what is known of the sets of a formula without operands
  pub bare_part : (name : List ℕ) (f : Formula) (p : Part) (cs given : List Child) (sets : Vec (Vec Member Global) Global) (items : List (Vec Member Global)) → IsPart leaves texts bytes (meta_pattern name (tree_of f)) p → f ≡ formulas.All cs → p ≡ parts.Bare sets → given ≡ cs → items ≡ sets.items
      → (has_operands (branches_of (map branch_of given)) ≡ false) × AreTakenAway leaves texts bytes (branches_of (map branch_of given)) items
  bare_part name f p cs given sets items is all bare same held =
      let P : Part → Type 0 = IsPart leaves texts bytes (meta_pattern name (tree_of f)) in
      let Q : Tree → Type 0 = λ t. IsPart leaves texts bytes (meta_pattern name t) (parts.Bare sets) in
      let R : List Child → Type 0 = λ ks. (has_operands (branches_of (map branch_of ks)) ≡ false) × AreTakenAway leaves texts bytes (branches_of (map branch_of ks)) sets.items in
      let S : List (Vec Member Global) → Type 0 = λ vs. (has_operands (branches_of (map branch_of given)) ≡ false) × AreTakenAway leaves texts bytes (branches_of (map branch_of given)) vs in
      let h : R cs = subst Q (ap tree_of all ∙ tree_all cs) (subst P bare is) in
      subst S (sym held) (subst R (sym same) h)

  -- only a formula of children is without operands
  pub no_bare : (name : List ℕ) (f : Formula) (p : Part) → IsPart leaves texts bytes (meta_pattern name (tree_of f)) p → ((cs : List Child) → f ≡ formulas.All cs → ⊥) → (sets : Vec (Vec Member Global) Global) → p ≡ parts.Bare sets → ⊥
  no_bare name f p is other sets bare =
      let P : Part → Type 0 = IsPart leaves texts bytes (meta_pattern name (tree_of f)) in
      let Q : Tree → Type 0 = λ t. IsPart leaves texts bytes (meta_pattern name t) (parts.Bare sets) → ⊥ in
      by_tree_layer Q f at (subst P bare is)
    where
      at : (x : Formula-F Child Formula) → f ≡ roll-Formula x → IsPart leaves texts bytes (meta_pattern name (tree_at x)) (parts.Bare sets) → ⊥
      at (layers.Leaf k) e h = h
      at (layers.Regex k) e h = h
      at (layers.Any fs) e h = h
      at (layers.All cs) e h = other cs (e ∙ rolls-All cs)

  -- what the condition says of a bound name
  pub bare_match : (name : List ℕ) (f : Formula) (cs given : List Child) (b : Bound) (one : Member) (y : Bool) → f ≡ formulas.All cs → given ≡ cs → has_operands (branches_of (map branch_of given)) ≡ false → bound_at name one.1 ≡ Some b
      → IsTrue y ↔ Meets leaves texts bytes (all_of (branches_of (map branch_of given))) (Some b.span) (b.span, []) → IsTrue y ↔ Allows leaves texts bytes (meta_pattern name (tree_of f)) one
  bare_match name f cs given b one y all same none bound is =
      let t : Tree = all_of (branches_of (map branch_of given)) in
      let P : Tree → Type 0 = λ x. IsTrue y ↔ Allows leaves texts bytes (meta_pattern name x) one in
      let e : tree_of f ≡ t = ap tree_of all ∙ (tree_all cs ∙ ap (λ (ks : List Child). all_of (branches_of (map branch_of ks))) (sym same)) in
      let at = at_bound (bound_at name one.1) b bound (λ x. (d : List Bound) × Meets leaves texts bytes t (Some x.span) (x.span, d) × Agree one.1 d) in
      let Q : List Bound → Type 0 = λ d. Meets leaves texts bytes t (Some b.span) (b.span, d) in
      let empty : (d : List Bound) → Q d → Q [] = λ d m. subst Q (ap (λ (x : Member). x.1) ((bare_meets (branches_of (map branch_of given)) none b.span (b.span, d)).0 m).2) m in
      subst P (sym e) (λ u. at.1 ([], is.0 u, λ n v w f g. (cc)), λ a. is.1 (let k = at.0 a in empty k.0 k.1))

  pub set_match : (name : List ℕ) (t : Tree) (p : Part) (b : Bound) (one : Member) (y : Bool) (members : List Member) → IsPart leaves texts bytes (meta_pattern name t) p → ((sets : Vec (Vec Member Global) Global) → p ≡ parts.Bare sets → ⊥) → bound_at name one.1 ≡ Some b → members ≡ members_in p
      → IsTrue y ↔ Any (IsEqualTo b.span one.1) members → IsTrue y ↔ Allows leaves texts bytes (meta_pattern name t) one
  set_match name t parts.Nothing b one y members is never bound same says = absurd is
  set_match name t (parts.Bare sets) b one y members is never bound same says = absurd (never sets refl)
  set_match name t (parts.Members v) b one y members is never bound same says =
      let P : List Member → Type 0 = λ ms. IsTrue y ↔ Any (IsEqualTo b.span one.1) ms in
      let h : P v.items = subst P same says in
      let Q : Span → List Bound → Type 0 = λ r d. Meets leaves texts bytes t None (r, d) in
      let at = at_bound (bound_at name one.1) b bound (λ x. (d : List Bound) × Meets leaves texts bytes t (Some x.span) (x.span, d) × Agree one.1 d) in (
        λ u. at.1 (let x = h.0 u in (x.0.1, (given_aside t is.1 b.span (b.span, x.0.1)).1 (let R : Span → Type 0 = λ r. Q r x.0.1 in subst R x.2.0 ((is.0.exact x.0).0 x.1)), x.2.1)),
        λ a. h.1 (let k = at.0 a in ((b.span, k.0), (is.0.exact (b.span, k.0)).1 ((given_aside t is.1 b.span (b.span, k.0)).0 k.1), (refl, k.2))),
      )

-- a child that is such a condition
pub pattern_branch : (c : Child) (name written : List ℕ) (f : Formula) → c ≡ children.MetaPattern name f → written ≡ name → branch_of c ≡ meta_pattern written (tree_of f)
pattern_branch c name written f e same = ap branch_of e ∙ (branch_metapattern name f ∙ ap (λ (n : List ℕ). meta_pattern n (tree_of f)) (sym same))

-- a child that is none
pub no_pattern : (c : Child) → ((name : List ℕ) (f : Formula) → c ≡ children.MetaPattern name f → ⊥) → (name : List ℕ) (t : Tree) → branch_of c ≡ meta_pattern name t → ⊥
no_pattern c other name t = by_layer (λ b. b ≡ meta_pattern name t → ⊥) c at
  where
    at : (x : Child-F Child Formula) → c ≡ roll-Child x → branch_at x ≡ meta_pattern name t → ⊥
    at (layers.Positive f) e h = cc
    at (layers.Inside f) e h = cc
    at (layers.Not f) e h = cc
    at (layers.NotInside f) e h = cc
    at (layers.NotRegex k) e h = cc
    at (layers.MetaRegex n k) e h = cc
    at (layers.MetaCompare x) e h = cc
    at (layers.MetaPattern n f) e h = other n f (e ∙ rolls-MetaPattern n f)
    at (layers.Focus names) e h = cc

-- a test says the same, said otherwise, where there is one
pub if_ok_says : {E : Type 0} (A B : Type 0) (r : Result Bool E) → A ↔ B → IfOk r (λ y. IsTrue y ↔ A) → IfOk r (λ y. IsTrue y ↔ B)
if_ok_says A B (Ok y) same h = (λ t. same.0 (h.0 t), λ b. h.1 (same.1 b))
if_ok_says A B (Err e) same h = tt
