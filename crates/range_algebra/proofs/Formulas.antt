-- The set of a formula, and the first of its sets that has too many members, by the form of the formula.
use Rattle.std.proofs.Common.{◌≡◌, ◌↔◌, inl, inr, ℕ, suc, ◌≤◌, List, [], ◌∷◌, map, length, Bool, true, false, refl, sym, ap, ◌∙◌, subst, arith}
use Rattle.std.specs.Prelude.{None, Vec, Result, Ok, Err, IfOk, IfErr, MatchBool, ◌||◌, not}
use Rattle.std.specs.declared.alloc.Global.{Global}
use Rattle.rule_form.specs.declared.formula.Formula.{Formula, Formula-F, out-Formula, roll-Formula, roll-out-Formula}
use Rattle.rule_form.specs.declared.formula.Formula.TheVariants as formulas
use Rattle.rule_form.specs.declared.formula.Formula.TheVariants.{rolls-Leaf, rolls-Regex, rolls-Any, rolls-All}
use Rattle.rule_form.specs.declared.formula.Child.{Child, Child-F, out-Child, roll-Child, roll-out-Child}
use Rattle.rule_form.specs.declared.formula.Child.TheVariants as children
use Rattle.rule_form.specs.declared.formula.Child.TheVariants.{rolls-Positive, rolls-Inside, rolls-Not, rolls-NotInside, rolls-NotRegex, rolls-MetaRegex, rolls-MetaCompare, rolls-MetaPattern, rolls-Focus}
use Rattle.rule_form.specs.declared.formula.Child.TheOpen as layers
use Rattle.tree_match.specs.declared.leaf.Leaf.{Leaf}
use Rattle.node_match.specs.Sets.{Among}
use Rattle.tree_match.specs.Ascending.{IsAscending}
use Rattle.tree_match.specs.Members.{Member, member_cmp}
use Rattle.member_join.specs.declared.fault.EvalFault.{EvalFault}
use Rattle.member_join.specs.declared.operand.Role.TheVariants.{Inside}
use Rattle.range_algebra.specs.declared.part.Part.{Part}
use Rattle.range_algebra.specs.declared.part.Part.TheVariants as parts
use Rattle.range_algebra.specs.Trees
use Rattle.range_algebra.specs.Trees.{tree_of, trees_of, branch_of, branches_of, has, is_positive, is_inside}
use Rattle.range_algebra.specs.Meets.{Meets, MeetsSome}
use Rattle.range_algebra.specs.Parts.{has_operands, members_in, IsInSome, IsSetOf, AreSetsOf, IsPart, IsTakenAway, AreTakenAway, IsBare, IsBarePart, HasNoFormula}
use Rattle.member_join.specs.Limits.{IsFaultFrom, OneSet}
use Rattle.range_algebra.specs.Crowds.{Over, OverTrees, OverBranches, OverBranch, AtAll, PlainPrefixes}
use Rattle.range_algebra.proofs.Layers.{tree_leaf, tree_regex, tree_any, tree_all, branch_metaregex, branch_metacompare, branch_focus}
use Rattle.sorted_sets.proofs.Searches.{any_cons}
use Rattle.member_join.proofs.Limits.{at_most, fault_more, fault_first, fault_next}

-- ---- no operand

neither : (a b : Bool) → (a || b) ≡ false → (a ≡ false) × (b ≡ false)
neither true b e = absurd cc
neither false b e = (refl, e)

-- a choice that goes the other way
other_way : (a : Bool) (P Q : Type 0) → a ≡ false → Q → MatchBool a P Q
other_way true P Q e q = absurd cc
other_way false P Q e q = q

no_way : (a b : Bool) (P Q : Type 0) → a ≡ false → b ≡ false → MatchBool a P (MatchBool b Q ⊥) → ⊥
no_way true b P Q e f h = absurd cc
no_way false true P Q e f h = absurd cc
no_way false false P Q e f h = h

pub none_there : (y a : Bool) → y ≡ not a → y ≡ true → a ≡ false
none_there y true e f = let g = sym f ∙ e in absurd cc
none_there y false e f = refl

-- ---- what is known by the variant

pub tree_is_any : (f : Formula) (fs gs : List Formula) → f ≡ formulas.Any fs → gs ≡ fs → tree_of f ≡ Trees.some_of (trees_of (map tree_of gs))
tree_is_any f fs gs e same = ap tree_of e ∙ tree_any fs ∙ ap (λ (hs : List Formula). Trees.some_of (trees_of (map tree_of hs))) (sym same)

pub tree_is_all : (f : Formula) (cs ds : List Child) → f ≡ formulas.All cs → ds ≡ cs → tree_of f ≡ Trees.all_of (branches_of (map branch_of ds))
tree_is_all f cs ds e same = ap tree_of e ∙ tree_all cs ∙ ap (λ (xs : List Child). Trees.all_of (branches_of (map branch_of xs))) (sym same)

-- a formula of another kind isn't bare
pub not_bare : (f : Formula) → ((cs : List Child) → f ≡ formulas.All cs → ⊥) → IsBare (tree_of f) → ⊥
not_bare f none = at (out-Formula f) (roll-out-Formula f)
  where
    at : (x : Formula-F Child Formula) → roll-Formula x ≡ f → IsBare (tree_of f) → ⊥
    at (layers.Leaf k) e h = subst IsBare (ap tree_of (sym e ∙ rolls-Leaf k) ∙ tree_leaf k) h
    at (layers.Regex k) e h = subst IsBare (ap tree_of (sym e ∙ rolls-Regex k) ∙ tree_regex k) h
    at (layers.Any fs) e h = subst IsBare (ap tree_of (sym e ∙ rolls-Any fs) ∙ tree_any fs) h
    at (layers.All cs) e h = none cs (sym e ∙ rolls-All cs)

pub has_one : (f : Formula) (bs : Trees.Branches) (y : Bool) → tree_of f ≡ Trees.all_of bs → y ≡ not (has_operands bs) → y ≡ false → IsBare (tree_of f) → ⊥
has_one f bs y is e g h = at (has_operands bs) (sym e ∙ g) (subst IsBare is h)
  where
    at : (a : Bool) → not a ≡ false → a ≡ false → ⊥
    at true k m = cc
    at false k m = cc

module _ (leaves : List Leaf) (texts : List (List ℕ)) (bytes : List ℕ) where
  no_prefixes : (all : Trees.Branches) (i : ℕ) (bs : Trees.Branches) → has is_inside bs ≡ false → PlainPrefixes leaves texts bytes Inside all i bs None
  no_prefixes all i Trees.no_branches e = refl
  no_prefixes all i (Trees.branch_then b bs) e =
      let two = neither (is_inside b) (has is_inside bs) e in
      other_way _ _ _ two.0 (no_prefixes all (suc i) bs two.1)

  -- a formula without operands has no members
  bare_empty : (bs : Trees.Branches) (m : Member) → has_operands bs ≡ false → Meets leaves texts bytes (Trees.all_of bs) None m → ⊥
  bare_empty bs m e h =
      let two = neither (has is_positive bs) (has is_inside bs) e in
      no_way _ _ _ _ two.0 two.1 h.1

  pub bare_over : (bs : Trees.Branches) → has_operands bs ≡ false → OverBranches leaves texts bytes 0 bs None → Over leaves texts bytes (Trees.all_of bs) None
  bare_over bs e none =
      let two = neither (has is_positive bs) (has is_inside bs) e in
      (none, (other_way _ _ _ two.0 (no_prefixes bs 0 bs two.1), record { items = []; whole = λ m h. bare_empty bs m e h; few = omega arith }))

  -- the sets of the formulas are those of which some must have a member
  pub in_some : (ts : Trees.Trees) (sets : List (Vec Member Global)) → AreSetsOf leaves texts bytes ts sets → (m : Member) → IsInSome sets m ↔ MeetsSome leaves texts bytes ts m
  in_some Trees.no_trees sets h m = let P : List (Vec Member Global) → Type 0 = λ s. IsInSome s m in (λ k. none (subst P h k), λ k. elim k [ ])
    where
      none : IsInSome [] m → ⊥
      none (v, g, a) = g
  in_some (Trees.tree_then t ts) [] h m = elim h [ ]
  in_some (Trees.tree_then t ts) (v ∷ sets) h m =
      let rest = in_some ts sets h.1 m in
      let split = any_cons (λ (w : Vec Member Global). Among w.items m) v sets in (
        λ k. elim (split.0 k) [ inl a ↦ inl ((h.0.exact m).0 a) | inr a ↦ inr (rest.0 a) ],
        λ k. elim k [ inl a ↦ split.1 (inl ((h.0.exact m).1 a)) | inr a ↦ split.1 (inr (rest.1 a)) ],
      )

  -- ---- what is known by the tree

  -- the set of a formula that is of this form
  pub set_by : (f : Formula) (t : Trees.Tree) → tree_of f ≡ t → {E : Type 0} (r : Result (Vec Member Global) E) → IfOk r (λ v. IsSetOf leaves texts bytes t v.items) → IfOk r (λ v. IsSetOf leaves texts bytes (tree_of f) v.items)
  set_by f t is {E} r h = let P : Trees.Tree → Type 0 = λ u. IfOk r (λ v. IsSetOf leaves texts bytes u v.items) in subst P (sym is) h

  pub over_by : (f : Formula) (t : Trees.Tree) → tree_of f ≡ t → {V E : Type 0} (r : Result V E) → IfOk r (λ _. Over leaves texts bytes t None) → IfOk r (λ _. Over leaves texts bytes (tree_of f) None)
  over_by f t is {V} {E} r h = let P : Trees.Tree → Type 0 = λ u. IfOk r (λ _. Over leaves texts bytes u None) in subst P (sym is) h

  pub fault_by : (f : Formula) (t : Trees.Tree) → tree_of f ≡ t → {V : Type 0} (r : Result V EvalFault) → IfErr r (IsFaultFrom (Over leaves texts bytes t)) → IfErr r (IsFaultFrom (Over leaves texts bytes (tree_of f)))
  fault_by f t is {V} r h = let P : Trees.Tree → Type 0 = λ u. IfErr r (IsFaultFrom (Over leaves texts bytes u)) in subst P (sym is) h

  pub over_at : (f : Formula) (t : Trees.Tree) → tree_of f ≡ t → Over leaves texts bytes t None → Over leaves texts bytes (tree_of f) None
  over_at f t is h = let P : Trees.Tree → Type 0 = λ u. Over leaves texts bytes u None in subst P (sym is) h

  pub some_child_fault : (f : Formula) (ts : Trees.Trees) → tree_of f ≡ Trees.some_of ts → (e : EvalFault) → IsFaultFrom (OverTrees leaves texts bytes 0 ts) e → IsFaultFrom (Over leaves texts bytes (tree_of f)) e
  some_child_fault f ts is e h =
      let P : Trees.Tree → Type 0 = λ u. IsFaultFrom (Over leaves texts bytes u) e in
      subst P (sym is) (fault_first (OverTrees leaves texts bytes 0 ts) (OneSet [] (MeetsSome leaves texts bytes ts)) e h)

  pub all_child_fault : (f : Formula) (bs : Trees.Branches) → tree_of f ≡ Trees.all_of bs → (e : EvalFault) → IsFaultFrom (OverBranches leaves texts bytes 0 bs) e → IsFaultFrom (Over leaves texts bytes (tree_of f)) e
  all_child_fault f bs is e h =
      let P : Trees.Tree → Type 0 = λ u. IsFaultFrom (Over leaves texts bytes u) e in
      subst P (sym is) (fault_first (OverBranches leaves texts bytes 0 bs) (AtAll leaves texts bytes bs) e h)

  -- the same of a child
  pub branch_part : (c : Child) (b : Trees.Branch) → branch_of c ≡ b → (p : Part) → IsPart leaves texts bytes b p → IsPart leaves texts bytes (branch_of c) p
  branch_part c b is p h = let P : Trees.Branch → Type 0 = λ u. IsPart leaves texts bytes u p in subst P (sym is) h

  pub branch_over : (c : Child) (b : Trees.Branch) → branch_of c ≡ b → OverBranch leaves texts bytes b None → OverBranch leaves texts bytes (branch_of c) None
  branch_over c b is h = let P : Trees.Branch → Type 0 = λ u. OverBranch leaves texts bytes u None in subst P (sym is) h

  pub branch_fault : (c : Child) (b : Trees.Branch) → branch_of c ≡ b → (e : EvalFault) → IsFaultFrom (OverBranch leaves texts bytes b) e → IsFaultFrom (OverBranch leaves texts bytes (branch_of c)) e
  branch_fault c b is e h = let P : Trees.Branch → Type 0 = λ u. IsFaultFrom (OverBranch leaves texts bytes u) e in subst P (sym is) h

  module _ (c : Child) (name : List ℕ) (t : Trees.Tree) (is : branch_of c ≡ Trees.meta_pattern name t) (r : Result Part EvalFault) where
    pub asked_part : IfOk r (λ p. (n : List ℕ) → IsPart leaves texts bytes (Trees.meta_pattern n t) p) → IfOk r (IsPart leaves texts bytes (branch_of c))
    asked_part h = at r h
      where
        at : (q : Result Part EvalFault) → IfOk q (λ p. (n : List ℕ) → IsPart leaves texts bytes (Trees.meta_pattern n t) p) → IfOk q (IsPart leaves texts bytes (branch_of c))
        at (Ok p) k = branch_part c (Trees.meta_pattern name t) is p (k name)
        at (Err e) k = tt

    pub asked_over : IfOk r (λ _. Over leaves texts bytes t None) → IfOk r (λ _. OverBranch leaves texts bytes (branch_of c) None)
    asked_over h = at r h
      where
        at : (q : Result Part EvalFault) → IfOk q (λ _. Over leaves texts bytes t None) → IfOk q (λ _. OverBranch leaves texts bytes (branch_of c) None)
        at (Ok p) k = branch_over c (Trees.meta_pattern name t) is k
        at (Err e) k = tt

    pub asked_fault : IfErr r (IsFaultFrom (Over leaves texts bytes t)) → IfErr r (IsFaultFrom (OverBranch leaves texts bytes (branch_of c)))
    asked_fault h = at r h
      where
        at : (q : Result Part EvalFault) → IfErr q (IsFaultFrom (Over leaves texts bytes t)) → IfErr q (IsFaultFrom (OverBranch leaves texts bytes (branch_of c)))
        at (Ok p) k = tt
        at (Err e) k = branch_fault c (Trees.meta_pattern name t) is e k

  -- the sets of the children of a bare formula are what a condition needs
  pub bare_part : (f : Formula) (bs : Trees.Branches) → tree_of f ≡ Trees.all_of bs → has_operands bs ≡ false → (sets : List (Vec Member Global)) → AreTakenAway leaves texts bytes bs sets → (name : List ℕ) → IsBarePart leaves texts bytes (Trees.meta_pattern name (tree_of f)) sets
  bare_part f bs is e sets h name = let P : Trees.Tree → Type 0 = λ u. IsBarePart leaves texts bytes (Trees.meta_pattern name u) sets in subst P (sym is) (e, h)

  -- a child of another kind asks for no set
  module _ (c : Child) (a : (f : Formula) → c ≡ children.Positive f → ⊥) (b : (f : Formula) → c ≡ children.Inside f → ⊥) (d : (f : Formula) → c ≡ children.Not f → ⊥) (g : (f : Formula) → c ≡ children.NotInside f → ⊥) (r : (k : ℕ) → c ≡ children.NotRegex k → ⊥)
      (h : (name : List ℕ) (f : Formula) → c ≡ children.MetaPattern name f → ⊥) where
    none_by : (u : Trees.Branch) → branch_of c ≡ u → HasNoFormula u → OverBranch leaves texts bytes u None → HasNoFormula (branch_of c) × OverBranch leaves texts bytes (branch_of c) None
    none_by u is k m = (subst HasNoFormula (sym is) k, branch_over c u is m)

    pub no_formula : HasNoFormula (branch_of c) × OverBranch leaves texts bytes (branch_of c) None
    no_formula = at (out-Child c) (roll-out-Child c)
      where
        at : (x : Child-F Child Formula) → roll-Child x ≡ c → HasNoFormula (branch_of c) × OverBranch leaves texts bytes (branch_of c) None
        at (layers.Positive f) e = absurd (a f (sym e ∙ rolls-Positive f))
        at (layers.Inside f) e = absurd (b f (sym e ∙ rolls-Inside f))
        at (layers.Not f) e = absurd (d f (sym e ∙ rolls-Not f))
        at (layers.NotInside f) e = absurd (g f (sym e ∙ rolls-NotInside f))
        at (layers.NotRegex k) e = absurd (r k (sym e ∙ rolls-NotRegex k))
        at (layers.MetaRegex name k) e = none_by (Trees.meta_regex name k) (ap branch_of (sym e ∙ rolls-MetaRegex name k) ∙ branch_metaregex name k) tt refl
        at (layers.MetaCompare x) e = none_by (Trees.meta_compare x) (ap branch_of (sym e ∙ rolls-MetaCompare x) ∙ branch_metacompare x) tt refl
        at (layers.MetaPattern name f) e = absurd (h name f (sym e ∙ rolls-MetaPattern name f))
        at (layers.Focus names) e = none_by (Trees.focus names) (ap branch_of (sym e ∙ rolls-Focus names) ∙ branch_focus names) tt refl

  -- the members of some of the formulas
  module _ (ts : Trees.Trees) (sets : List (Vec Member Global)) (each : AreSetsOf leaves texts bytes ts sets) (none : OverTrees leaves texts bytes 0 ts None) (r : Result (Vec Member Global) EvalFault) where
    pub some_set : IfOk r (λ v. IsAscending member_cmp v.items) → IfOk r (λ v. (m : Member) → Among v.items m ↔ IsInSome sets m) → IfOk r (λ v. IsSetOf leaves texts bytes (Trees.some_of ts) v.items)
    some_set up same = at r up same
      where
        at : (q : Result (Vec Member Global) EvalFault) → IfOk q (λ v. IsAscending member_cmp v.items) → IfOk q (λ v. (m : Member) → Among v.items m ↔ IsInSome sets m) → IfOk q (λ v. IsSetOf leaves texts bytes (Trees.some_of ts) v.items)
        at (Ok v) u s = record { exact = λ m. (λ a. (in_some ts sets each m).0 ((s m).0 a), λ a. (s m).1 ((in_some ts sets each m).1 a)); ordered = u }
        at (Err e) u s = tt

    pub some_over : IfOk r (λ v. (m : Member) → Among v.items m ↔ IsInSome sets m) → IfOk r (λ v. length v.items ≤ 10000) → IfOk r (λ _. Over leaves texts bytes (Trees.some_of ts) None)
    some_over same few = at r same few
      where
        at : (q : Result (Vec Member Global) EvalFault) → IfOk q (λ v. (m : Member) → Among v.items m ↔ IsInSome sets m) → IfOk q (λ v. length v.items ≤ 10000) → IfOk q (λ _. Over leaves texts bytes (Trees.some_of ts) None)
        at (Ok v) s f = (none, at_most (MeetsSome leaves texts bytes ts) v.items (λ m. (λ a. (in_some ts sets each m).0 ((s m).0 a), λ a. (s m).1 ((in_some ts sets each m).1 a))) f)
        at (Err e) s f = tt

    pub some_fault : IfErr r (IsFaultFrom (OneSet [] (IsInSome sets))) → IfErr r (IsFaultFrom (Over leaves texts bytes (Trees.some_of ts)))
    some_fault h = at r h
      where
        at : (q : Result (Vec Member Global) EvalFault) → IfErr q (IsFaultFrom (OneSet [] (IsInSome sets))) → IfErr q (IsFaultFrom (Over leaves texts bytes (Trees.some_of ts)))
        at (Ok v) k = tt
        at (Err e) k =
            fault_next (OverTrees leaves texts bytes 0 ts) (OneSet [] (MeetsSome leaves texts bytes ts)) e none
            (fault_more [] (IsInSome sets) (MeetsSome leaves texts bytes ts) (λ m a. (in_some ts sets each m).0 a) e k)

  -- what all children allow
  module _ (bs : Trees.Branches) (none : OverBranches leaves texts bytes 0 bs None) where
    pub all_over : {V E : Type 0} (r : Result V E) → IfOk r (λ _. AtAll leaves texts bytes bs None) → IfOk r (λ _. Over leaves texts bytes (Trees.all_of bs) None)
    all_over {V} {E} (Ok v) h = (none, h)
    all_over {V} {E} (Err e) h = tt

    pub all_fault : {V : Type 0} (r : Result V EvalFault) → IfErr r (IsFaultFrom (AtAll leaves texts bytes bs)) → IfErr r (IsFaultFrom (Over leaves texts bytes (Trees.all_of bs)))
    all_fault {V} (Ok v) h = tt
    all_fault {V} (Err e) h = fault_next (OverBranches leaves texts bytes 0 bs) (AtAll leaves texts bytes bs) e none h

  -- what a bare formula takes away of its children's parts
  pub part_taken : (b : Trees.Branch) (p : Part) → IsPart leaves texts bytes b p → IsTakenAway leaves texts bytes b (members_in p)
  part_taken (Trees.without t) (parts.Members v) h = h
  part_taken (Trees.outside t) (parts.Members v) h = h
  part_taken (Trees.without t) parts.Nothing h = elim h [ ]
  part_taken (Trees.outside t) parts.Nothing h = elim h [ ]
  part_taken (Trees.without t) (parts.Bare sets) h = elim h [ ]
  part_taken (Trees.outside t) (parts.Bare sets) h = elim h [ ]
  part_taken (Trees.positive t) p h = tt
  part_taken (Trees.inside t) p h = tt
  part_taken (Trees.without_regex k) (parts.Members v) h = h
  part_taken (Trees.without_regex k) parts.Nothing h = elim h [ ]
  part_taken (Trees.without_regex k) (parts.Bare sets) h = elim h [ ]
  part_taken (Trees.meta_regex name k) p h = tt
  part_taken (Trees.meta_compare x) p h = tt
  part_taken (Trees.meta_pattern name t) p h = tt
  part_taken (Trees.focus names) p h = tt
