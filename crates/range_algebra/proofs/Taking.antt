-- The operands that a loop over the children takes.
use Rattle.std.proofs.Common.{◌≡◌, ◌<◌, ◌≤◌, ℕ, suc, ◌+◌, List, [], ◌∷◌, ◌++◌, length, map, drop, get_or, refl, sym, ap, subst, Bool, true, false, arith, add-one}
use Rattle.std.specs.Prelude.{MatchBool, Vec}
use Rattle.std.specs.declared.alloc.Global.{Global}
use Rattle.std.proofs.lemmas.List.{append_assoc, append-nil, drop_all}
use Rattle.meta_bind.proofs.Lookups.{opened}
use Rattle.rule_form.specs.declared.formula.Child.{Child}
use Rattle.tree_match.specs.declared.leaf.Leaf.{Leaf}
use Rattle.tree_match.specs.Members.{Member}
use Rattle.member_join.specs.declared.operand.Operand.{Operand}
use Rattle.range_algebra.specs.declared.part.Part.{Part}
use Rattle.range_algebra.specs.declared.part.Part.TheVariants as kinds
use Rattle.member_join.specs.declared.operand.Role.{Role}
use Rattle.range_algebra.specs.Trees.{Branch, Branches, branch_then, branch_of, branches_of}
use Rattle.range_algebra.specs.Parts.{IsSetIn, IsPart, AreParts}
use Rattle.range_algebra.specs.Crowds.{is_operand}
use Rattle.range_algebra.specs.Operands.{AddsPart, AddsChild, BeginsWithOperand, AreOperands}
use Rattle.range_algebra.proofs.Prefixes.{part_members}

pub parts_length : (leaves : List Leaf) (texts : List (List ℕ)) (bytes : List ℕ) (children : List Child) (parts : List Part) → AreParts leaves texts bytes (branches_of (map branch_of children)) parts → length parts ≡ length children
parts_length leaves texts bytes [] parts h = ap length h
parts_length leaves texts bytes (c ∷ cs) [] h = elim h [ ]
parts_length leaves texts bytes (c ∷ cs) (p ∷ ps) h = omega (arith, parts_length leaves texts bytes cs ps h.1)

module _ (role : Role) (children : List Child) (parts : List Part) where
  abbrev whole : Branches
  whole = branches_of (map branch_of children)

  abbrev left : ℕ → Branches
  left i = branches_of (map branch_of (drop i children))

  -- with the operands that are left these are all
  abbrev pub Taken : ℕ → List Operand → Type 0
  Taken i ops =
      (leaves : List Leaf) (texts : List (List ℕ)) (bytes : List ℕ) → AreParts leaves texts bytes whole parts → AreParts leaves texts bytes (left i) (drop i parts) × ((rest : List Operand) → AreOperands leaves texts bytes role i (left i) rest → AreOperands leaves texts bytes role 0 whole (ops ++ rest))

  pub taken_start : (ops : List Operand) → ops ≡ [] → Taken 0 ops
  taken_start ops e leaves texts bytes all = (all, λ rest h. let P : List Operand → Type 0 = λ xs. AreOperands leaves texts bytes role 0 whole (xs ++ rest) in subst P (sym e) h)

  module _ (leaves : List Leaf) (texts : List (List ℕ)) (bytes : List ℕ) (i : ℕ) (b : Branch) (bs : Branches) (part : Part) (is_part : IsPart leaves texts bytes b part) (ops new rest : List Operand) (others : AreOperands leaves texts bytes role (suc i) bs rest) where
    added : (v : Vec Member Global) → part ≡ kinds.Members v → IsSetIn leaves texts bytes b v.items → AddsPart i part ops new → ((r : List Operand) → BeginsWithOperand leaves texts bytes i b (AreOperands leaves texts bytes role (suc i) bs) r → AreOperands leaves texts bytes role 0 whole (ops ++ r))
        → AreOperands leaves texts bytes role 0 whole (new ++ rest)
    added v is set adds all =
        let P : Part → Type 0 = λ p. AddsPart i p ops new in
        let r = subst P is adds in
        let Q : List Member → Type 0 = IsSetIn leaves texts bytes b in
        let W : List Operand → Type 0 = AreOperands leaves texts bytes role 0 whole in
        let R : List Operand → Type 0 = λ xs. AreOperands leaves texts bytes role 0 whole (xs ++ rest) in
        subst R (sym r.3) (subst W (sym (append_assoc ops (r.0 ∷ []) rest)) (all (r.0 ∷ rest) (r.1, subst Q (sym r.2) set, others)))

    next : (t : Bool) → is_operand role b ≡ t → MatchBool t (AddsPart i part ops new) (new ≡ ops)
        → ((r : List Operand) → MatchBool t (BeginsWithOperand leaves texts bytes i b (AreOperands leaves texts bytes role (suc i) bs) r) (AreOperands leaves texts bytes role (suc i) bs r) → AreOperands leaves texts bytes role 0 whole (ops ++ r))
        → AreOperands leaves texts bytes role 0 whole (new ++ rest)
    next true e adds all = let m = part_members leaves texts bytes part role b e is_part in added m.0 m.1 m.2 adds all
    next false e same all = let R : List Operand → Type 0 = λ xs. AreOperands leaves texts bytes role 0 whole (xs ++ rest) in subst R (sym same) (all rest others)

  pub taken_more : (i : ℕ) (child : Child) (part : Part) (ops new : List Operand) → i < length children → child ≡ get_or children i child → i < length parts → part ≡ get_or parts i part → AddsChild role i (branch_of child) part ops new → Taken i ops → Taken (i + 1) new
  taken_more i child part ops new lt is lt' is' adds taken leaves texts bytes all =
      let t = taken leaves texts bytes all in
      let P : List Child → Type 0 = λ cs. AreParts leaves texts bytes (branches_of (map branch_of cs)) (drop i parts) in
      let Q : List Part → Type 0 = λ ps. AreParts leaves texts bytes (branch_then (branch_of child) (left (i + 1))) ps in
      let both = subst Q (opened parts i part lt' is') (subst P (opened children i child lt is) t.0) in
      let R : List Child → Type 0 = λ cs. (r : List Operand) → AreOperands leaves texts bytes role i (branches_of (map branch_of cs)) r → AreOperands leaves texts bytes role 0 whole (ops ++ r) in
      let N : ℕ → Type 0 = λ j. (r : List Operand) → AreOperands leaves texts bytes role j (left (i + 1)) r → AreOperands leaves texts bytes role 0 whole (new ++ r) in
      (both.1, subst N (sym (add-one i)) (λ rest others. next leaves texts bytes i (branch_of child) (left (i + 1)) part both.0 ops new rest others (is_operand role (branch_of child)) refl adds (subst R (opened children i child lt is) t.1)))

  pub taken_end : (i : ℕ) (ops : List Operand) → length children ≤ i → Taken i ops → (leaves : List Leaf) (texts : List (List ℕ)) (bytes : List ℕ) → AreParts leaves texts bytes whole parts → AreOperands leaves texts bytes role 0 whole ops
  taken_end i ops le taken leaves texts bytes all =
      let t = taken leaves texts bytes all in
      let P : List Child → Type 0 = λ cs. (r : List Operand) → AreOperands leaves texts bytes role i (branches_of (map branch_of cs)) r → AreOperands leaves texts bytes role 0 whole (ops ++ r) in
      let W : List Operand → Type 0 = AreOperands leaves texts bytes role 0 whole in
      subst W (append-nil ops) (subst P (drop_all i children le) t.1 [] refl)
