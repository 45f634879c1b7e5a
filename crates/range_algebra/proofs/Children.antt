-- The sets of children, gathered one by one, and the first that has too many members.
use Rattle.std.proofs.Common.{◌≡◌, ◌↔◌, ◌⊎◌, inl, inr, ℕ, suc, ◌+◌, ◌<◌, ◌≤◌, List, [], ◌∷◌, ◌++◌, map, length, drop, get_or, refl, sym, ap, ◌∙◌, subst, add-one}
use Rattle.std.specs.Prelude.{Option, None, Some, Vec, Result, Ok, Err, IfErr, reverse}
use Rattle.std.specs.declared.alloc.Global.{Global}
use Rattle.std.proofs.lemmas.List.{drop_all, append_assoc, append-nil, reverse-append}
use Rattle.meta_bind.proofs.Lookups.{opened}
use Rattle.rule_form.specs.declared.formula.Formula.{Formula}
use Rattle.rule_form.specs.declared.formula.Child.{Child}
use Rattle.tree_match.specs.declared.leaf.Leaf.{Leaf}
use Rattle.tree_match.specs.Members.{Member}
use Rattle.node_match.specs.Sets.{Among, Adds}
use Rattle.sorted_sets.proofs.Searches.{any_cons, any_end}
use Rattle.range_algebra.specs.declared.part.Part.{Part}
use Rattle.member_join.specs.declared.fault.EvalFault.{EvalFault}
use Rattle.member_join.specs.declared.fault.EvalFault.TheVariants as faults
use Rattle.range_algebra.specs.Trees.{tree_of, trees_of, branch_of, branches_of}
use Rattle.range_algebra.specs.Parts.{IsInSome, IsSetOf, AreSetsOf, IsPart, AreParts, IsTakenAway, AreTakenAway}
use Rattle.member_join.specs.Limits.{Search, Nothing, Then, IsFaultFrom}
use Rattle.range_algebra.specs.Crowds.{InChild, Over, OverTrees, OverBranch, OverBranches}
use Rattle.range_algebra.specs.Faults.{IsSeenFrom, IsFaultOf}

-- ---- members one by one, and sets one by one

pub among_left : {X : Type 0} (xs : List X) (i : ℕ) (x y : X) → i < length xs → x ≡ get_or xs i x → Among (drop i xs) y ↔ ((x ≡ y) ⊎ Among (drop (i + 1) xs) y)
among_left {X} xs i x y lt is =
    let P : List X → Type 0 = λ zs. Among zs y ↔ ((x ≡ y) ⊎ Among (drop (i + 1) xs) y) in
    subst P (sym (opened xs i x lt is)) (λ h. h, λ h. h)

pub among_none : {X : Type 0} (xs : List X) (i : ℕ) (y : X) → length xs ≤ i → Among (drop i xs) y → ⊥
among_none {X} xs i y le h = let P : List X → Type 0 = λ zs. Among zs y in subst P (drop_all i xs le) h

pub some_left : (sets : List (Vec Member Global)) (i : ℕ) (v : Vec Member Global) (m : Member) → i < length sets → v ≡ get_or sets i v → IsInSome (drop i sets) m ↔ (Among v.items m ⊎ IsInSome (drop (i + 1) sets) m)
some_left sets i v m lt is =
    let P : List (Vec Member Global) → Type 0 = λ zs. IsInSome zs m ↔ (Among v.items m ⊎ IsInSome (drop (i + 1) sets) m) in
    subst P (sym (opened sets i v lt is)) (any_cons (λ (w : Vec Member Global). Among w.items m) v (drop (i + 1) sets))

pub some_none : (sets : List (Vec Member Global)) (i : ℕ) (m : Member) → length sets ≤ i → IsInSome (drop i sets) m → ⊥
some_none sets i m le h = any_end (λ (w : Vec Member Global). Among w.items m) sets i le h

-- what was gathered together with one set more is in some set
pub one_of_some : (sets : List (Vec Member Global)) (i : ℕ) (old new : List Member) → ((m : Member) → (Among old m ⊎ IsInSome (drop i sets) m) ↔ IsInSome sets m) → (v : Vec Member Global) → i < length sets → v ≡ get_or sets i v → (given : List Member) → given ≡ v.items
    → Adds old new (Among given) → (m : Member) → Among new m → IsInSome sets m
one_of_some sets i old new inv v lt is given e adds m h = at ((adds m).0 h)
  where
    at : Among old m ⊎ Among given m → IsInSome sets m
    at (inl a) = (inv m).0 (inl a)
    at (inr a) = let P : List Member → Type 0 = λ ms. Among ms m in (inv m).0 (inr ((some_left sets i v m lt is).1 (inl (subst P e a))))

-- ---- one search after another

next_as : (First Next Other : Search) → ((o : Option (List ℕ)) → Next o → Other o) → (o : Option (List ℕ)) → Then First Next o → Then First Other o
next_as First Next Other to None h = (h.0, to None h.1)
next_as First Next Other to (Some p) (inl h) = inl h
next_as First Next Other to (Some p) (inr h) = inr (h.0, to (Some p) h.1)

-- a fault in a child, seen from above
pub seen_from : (i : ℕ) (Inner : Search) (inner e : EvalFault) → IsSeenFrom i inner e → IsFaultFrom Inner inner → IsFaultFrom (InChild i Inner) e
seen_from i Inner inner faults.Memory seen h = tt
seen_from i Inner faults.Memory (faults.Crowded given) seen h = elim seen [ ]
seen_from i Inner (faults.Crowded numbers) (faults.Crowded given) seen h =
    let P : List ℕ → Type 0 = λ ns. InChild i Inner (Some ns) in
    subst P (sym (ap reverse seen ∙ reverse-append numbers (i ∷ []))) (refl, h)

-- the fault of what is found in a child
pub fault_in : {T : Type 0} (i : ℕ) (Inner : Search) (found : Result T EvalFault) (e : EvalFault) → IsFaultOf i found e → IfErr found (IsFaultFrom Inner) → IsFaultFrom (InChild i Inner) e
fault_in i Inner (Ok v) e of h = elim of [ ]
fault_in i Inner (Err inner) e of h = seen_from i Inner inner e of h

-- ---- children one by one

module _ {X : Type 0} where
  -- the searches in the items, which are the children from that number on
  abbrev pub OverEach : (X → Search) → ℕ → List X → Search
  OverEach Inner i [] o = Nothing o
  OverEach Inner i (x ∷ xs) o = Then (InChild i (Inner x)) (OverEach Inner (suc i) xs) o

  -- one of the others for each of the items
  abbrev pub OneForEach : {Y : Type 0} → (X → Y → Type 0) → List X → List Y → Type 0
  OneForEach R [] ys = ys ≡ []
  OneForEach R (x ∷ xs) [] = ⊥
  OneForEach R (x ∷ xs) (y ∷ ys) = R x y × OneForEach R xs ys

  -- what is there for the first items, the searches in which found nothing
  pub record Walked {Y : Type 0} (Inner : X → Search) (R : X → Y → Type 0) (xs : List X) (i : ℕ) (ys : List Y) : Type 0 where
    pub whole : (more : List Y) → OneForEach R (drop i xs) more → OneForEach R xs (ys ++ more)
    pub search : (o : Option (List ℕ)) → OverEach Inner i (drop i xs) o → OverEach Inner 0 xs o

  module _ {Y : Type 0} (Inner : X → Search) (R : X → Y → Type 0) (xs : List X) where
    pub walk_start : (ys : List Y) → ys ≡ [] → Walked Inner R xs 0 ys
    walk_start ys e = let P : List Y → Type 0 = Walked Inner R xs 0 in subst P (sym e) (record { whole = λ more h. h; search = λ o h. h })

    past : (x : X) (i : ℕ) (Next : Search) → Inner x None → (o : Option (List ℕ)) → Next o → Then (InChild i (Inner x)) Next o
    past x i Next none None h = (none, h)
    past x i Next none (Some p) h = inr (none, h)

    module _ (i : ℕ) (ys : List Y) (w : Walked Inner R xs i ys) where
      pub walk_step : (x : X) (y : Y) (new : List Y) → i < length xs → x ≡ get_or xs i x → R x y → Inner x None → new ≡ ys ++ y ∷ [] → Walked Inner R xs (i + 1) new
      walk_step x y new lt is r none e = let P : List Y → Type 0 = Walked Inner R xs (i + 1) in subst P (sym e) (record { whole = whole; search = search })
        where
          whole : (more : List Y) → OneForEach R (drop (i + 1) xs) more → OneForEach R xs ((ys ++ y ∷ []) ++ more)
          whole more h =
              let Q : List X → Type 0 = λ zs. OneForEach R zs (y ∷ more) in
              let S : List Y → Type 0 = OneForEach R xs in
              subst S (sym (append_assoc ys (y ∷ []) more)) (w.whole (y ∷ more) (subst Q (sym (opened xs i x lt is)) (r, h)))

          search : (o : Option (List ℕ)) → OverEach Inner (i + 1) (drop (i + 1) xs) o → OverEach Inner 0 xs o
          search o h =
              let Q : List X → Type 0 = λ zs. OverEach Inner i zs o in
              let S : ℕ → Type 0 = λ j. OverEach Inner j (drop (i + 1) xs) o in
              w.search o (subst Q (sym (opened xs i x lt is)) (past x i (OverEach Inner (suc i) (drop (i + 1) xs)) none o (subst S (add-one i) h)))

      pub walk_fault : (x : X) (e : EvalFault) → i < length xs → x ≡ get_or xs i x → IsFaultFrom (InChild i (Inner x)) e → IsFaultFrom (OverEach Inner 0 xs) e
      walk_fault x faults.Memory lt is h = tt
      walk_fault x (faults.Crowded numbers) lt is h =
          let Q : List X → Type 0 = λ zs. OverEach Inner i zs (Some (reverse numbers)) in
          w.search (Some (reverse numbers)) (subst Q (sym (opened xs i x lt is)) (inl h))

      pub walk_end : length xs ≤ i → OneForEach R xs ys × OverEach Inner 0 xs None
      walk_end le =
          let Q : List X → Type 0 = λ zs. OneForEach R zs [] in
          let S : List Y → Type 0 = OneForEach R xs in
          let U : List X → Type 0 = λ zs. OverEach Inner i zs None in
          (subst S (append-nil ys) (w.whole [] (subst Q (sym (drop_all i xs le)) refl)), w.search None (subst U (sym (drop_all i xs le)) refl))

-- ---- the same said of trees

module _ (leaves : List Leaf) (texts : List (List ℕ)) (bytes : List ℕ) where
  abbrev pub InTree : Formula → Search
  InTree f = Over leaves texts bytes (tree_of f)

  abbrev pub InBranch : Child → Search
  InBranch c = OverBranch leaves texts bytes (branch_of c)

  abbrev pub IsTreeSet : Formula → Vec Member Global → Type 0
  IsTreeSet f v = IsSetOf leaves texts bytes (tree_of f) v.items

  abbrev pub IsBranchPart : Child → Part → Type 0
  IsBranchPart c p = IsPart leaves texts bytes (branch_of c) p

  abbrev pub IsBranchTaken : Child → Vec Member Global → Type 0
  IsBranchTaken c v = IsTakenAway leaves texts bytes (branch_of c) v.items

  pub over_trees : (i : ℕ) (fs : List Formula) (o : Option (List ℕ)) → OverEach InTree i fs o → OverTrees leaves texts bytes i (trees_of (map tree_of fs)) o
  over_trees i [] o h = h
  over_trees i (f ∷ fs) o h =
      next_as (InChild i (InTree f)) (OverEach InTree (suc i) fs) (OverTrees leaves texts bytes (suc i) (trees_of (map tree_of fs))) (over_trees (suc i) fs) o h

  pub over_branches : (i : ℕ) (cs : List Child) (o : Option (List ℕ)) → OverEach InBranch i cs o → OverBranches leaves texts bytes i (branches_of (map branch_of cs)) o
  over_branches i [] o h = h
  over_branches i (c ∷ cs) o h =
      next_as (InChild i (InBranch c)) (OverEach InBranch (suc i) cs) (OverBranches leaves texts bytes (suc i) (branches_of (map branch_of cs))) (over_branches (suc i) cs) o h

  pub tree_sets : (fs : List Formula) (sets : List (Vec Member Global)) → OneForEach IsTreeSet fs sets → AreSetsOf leaves texts bytes (trees_of (map tree_of fs)) sets
  tree_sets [] sets h = h
  tree_sets (f ∷ fs) [] h = h
  tree_sets (f ∷ fs) (v ∷ sets) h = (h.0, tree_sets fs sets h.1)

  pub branch_parts : (cs : List Child) (parts : List Part) → OneForEach IsBranchPart cs parts → AreParts leaves texts bytes (branches_of (map branch_of cs)) parts
  branch_parts [] parts h = h
  branch_parts (c ∷ cs) [] h = h
  branch_parts (c ∷ cs) (p ∷ parts) h = (h.0, branch_parts cs parts h.1)

  pub branch_taken : (cs : List Child) (sets : List (Vec Member Global)) → OneForEach IsBranchTaken cs sets → AreTakenAway leaves texts bytes (branches_of (map branch_of cs)) sets
  branch_taken [] sets h = h
  branch_taken (c ∷ cs) [] h = h
  branch_taken (c ∷ cs) (v ∷ sets) h = (h.0, branch_taken cs sets h.1)
