-- The members of each formula, and the first set among them that has too many.
use Rattle.std.proofs.Common.{◌≡◌, inl, inr, ℕ, suc, ◌<◌, List, [], ◌∷◌, map, length, get_or, refl, sym, subst}
use Rattle.std.specs.Prelude.{Option, None, Some, Result, Err, IfErr}
use Rattle.std.specs.Borrow.{Bor}
use Rattle.meta_bind.proofs.Lookups.{opened}
use Rattle.rule_form.specs.declared.formula.Formula.{Formula}
use Rattle.tree_match.specs.declared.leaf.Leaf.{Leaf}
use Rattle.tree_match.specs.Leaf.{IsWhole}
use Rattle.tree_match.specs.Members.{Member}
use Rattle.member_join.specs.declared.fault.EvalFault.{EvalFault}
use Rattle.member_join.specs.declared.fault.EvalFault.TheVariants as faults
use Rattle.member_join.specs.Limits.{Search, Then}
use Rattle.range_algebra.specs.Trees.{tree_of, trees_of}
use Rattle.range_algebra.specs.Meets.{Meets}
use Rattle.range_algebra.specs.Crowds.{InChild, Over, OverTrees, IsFault}
use Rattle.range_algebra.proofs.Children.{OverEach, OneForEach, Walked}
use Rattle.taint_judge.specs.Lists.{lent, AreEach, OverFormulas}

-- the fault of the child with that number, which is put before the others
pub fault_inside : (i : ℕ) (Found : Search) (numbers given : List ℕ) → given ≡ i ∷ numbers → IsFault Found (faults.Crowded numbers) → IsFault (InChild i Found) (faults.Crowded given)
fault_inside i Found numbers given e h = let P : List ℕ → Type 0 = λ ns. InChild i Found (Some ns) in subst P (sym e) (refl, h)

-- a search in an item is one in all
pub walked_fault : {X Y : Type 0} (Inner : X → Search) (R : X → Y → Type 0) (xs : List X) (i : ℕ) (ys : List Y) → Walked Inner R xs i ys → (x : X) → i < length xs → x ≡ get_or xs i x → (e : EvalFault) → IsFault (InChild i (Inner x)) e → IsFault (OverEach Inner 0 xs) e
walked_fault {X} Inner R xs i ys w x lt is faults.Memory h = tt
walked_fault {X} Inner R xs i ys w x lt is (faults.Crowded numbers) h =
    let Q : List X → Type 0 = λ zs. OverEach Inner i zs (Some numbers) in
    w.search (Some numbers) (subst Q (sym (opened xs i x lt is)) (inl h))

next_as : (First Next Other : Search) → ((o : Option (List ℕ)) → Next o → Other o) → (o : Option (List ℕ)) → Then First Next o → Then First Other o
next_as First Next Other to None h = (h.0, to None h.1)
next_as First Next Other to (Some p) (inl h) = inl h
next_as First Next Other to (Some p) (inr h) = inr (h.0, to (Some p) h.1)

module _ (leaves : List Leaf) (texts : List (List ℕ)) (bytes : List ℕ) where
  abbrev pub InLent : Bor Formula → Search
  InLent f = Over leaves texts bytes (tree_of f.now)

  abbrev pub IsLentSet : Bor Formula → List Member → Type 0
  IsLentSet f members = IsWhole (Meets leaves texts bytes (tree_of f.now) None) members

  over_from : (i : ℕ) (fs : List (Bor Formula)) (o : Option (List ℕ)) → OverEach InLent i fs o → OverTrees leaves texts bytes i (trees_of (map tree_of (lent fs))) o
  over_from i [] o h = h
  over_from i (f ∷ fs) o h =
      next_as (InChild i (InLent f)) (OverEach InLent (suc i) fs) (OverTrees leaves texts bytes (suc i) (trees_of (map tree_of (lent fs)))) (over_from (suc i) fs) o h

  pub over_formulas : (fs : List (Bor Formula)) (o : Option (List ℕ)) → OverEach InLent 0 fs o → OverFormulas leaves texts bytes (lent fs) o
  over_formulas fs o h = over_from 0 fs o h

  pub over_fault : (fs : List (Bor Formula)) (e : EvalFault) → IsFault (OverEach InLent 0 fs) e → IsFault (OverFormulas leaves texts bytes (lent fs)) e
  over_fault fs faults.Memory h = tt
  over_fault fs (faults.Crowded numbers) h = over_formulas fs (Some numbers) h

  pub are_each : (fs : List (Bor Formula)) (each : List (List Member)) → OneForEach IsLentSet fs each → AreEach leaves texts bytes (lent fs) each
  are_each [] each h = h
  are_each (f ∷ fs) [] h = h
  are_each (f ∷ fs) (members ∷ each) h = (h.0, are_each fs each h.1)

-- the fault that a function returns is one that it was given
pub fault_out : {A : Type 0} (Found : Search) (r : Result A EvalFault) (d e : EvalFault) → r ≡ Err d → d ≡ e → IsFault Found e → IfErr r (IsFault Found)
fault_out {A} Found r d e is same h =
    let P : EvalFault → Type 0 = IsFault Found in
    let Q : Result A EvalFault → Type 0 = λ q. IfErr q (IsFault Found) in
    subst Q (sym is) (subst P (sym same) h)
