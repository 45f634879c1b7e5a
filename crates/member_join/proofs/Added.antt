-- What a step of a join adds.
use Rattle.std.proofs.Common.{◌≡◌, ◌↔◌, ◌⊎◌, ◌≤◌, inl, inr, List, refl, sym, ◌∙◌, subst, arith}
use Rattle.std.specs.Prelude.{Result, Ok, Err, OnOk, IfOk}
use Rattle.node_tree.specs.declared.span.Span.{Span}
use Rattle.node_match.specs.Sets.{Among, Adds}
use Rattle.tree_match.specs.Members.{Member}
use Rattle.node_match.proofs.Sets.{adds_as}
use Rattle.member_join.specs.declared.state.State.{State}
use Rattle.member_join.specs.declared.operand.Operand.{Operand}
use Rattle.member_join.specs.declared.operand.Role.{Role}
use Rattle.member_join.specs.declared.operand.Role.TheVariants.{Plain, Inside}
use Rattle.member_join.specs.Agreements.{AgreesWith}
use Rattle.member_join.specs.Joins.{meet, joined, IsNeeded, IsJoinedWith}

-- the state of a member that agrees is the one that is added
pub with_agreement : {A E : Type 0} (role : Role) (b : State) (m : Member) (later : List Operand) (old new : List State) (j : State) → j ≡ joined role b m → AgreesWith b.plain b.inside m.1 → (r : Result A E)
    → OnOk r (Adds old new (λ s. (j ≡ s) × IsNeeded later s)) → OnOk r (Adds old new (λ s. IsJoinedWith role b s m × IsNeeded later s))
with_agreement role b m later old new j is agrees (Ok a) h = adds_as old new _ _ h (λ s. (λ p. ((agrees, sym is ∙ p.0), p.1), λ p. (is ∙ p.0.1, p.1)))
with_agreement role b m later old new j is agrees (Err e) h = h

pub same_first : {X : Type 0} (j k s : X) (N : Type 0) → j ≡ k → ((j ≡ s) × N) ↔ ((k ≡ s) × N)
same_first j k s N e = (λ p. (sym e ∙ p.0, p.1), λ p. (e ∙ p.0, p.1))

-- the same set, said otherwise, of what is given
pub if_ok_same : {V E X : Type 0} (items : V → List X) (ys : List X) (Q : X → Type 0) (r : Result V E) → IfOk r (λ v. (x : X) → Among (items v) x ↔ Among ys x) → ((x : X) → Among ys x ↔ Q x) → IfOk r (λ v. (x : X) → Among (items v) x ↔ Q x)
if_ok_same items ys Q (Ok v) h k = λ x. (λ a. (k x).0 ((h x).0 a), λ q. (h x).1 ((k x).1 q))
if_ok_same items ys Q (Err e) h k = tt

-- what was gathered, put in order
pub ordered_sound : (B C R W : Type 0) → (C ↔ B) → ((B ⊎ R) ↔ W) → C → W
ordered_sound B C R W same all c = all.0 (inl (same.0 c))

pub gathered_as : {X : Type 0} (xs ys : List X) (x : X) (R W : Type 0) → (Among xs x ↔ Among ys x) → ((Among ys x ⊎ R) ↔ W) → ((Among xs x ⊎ R) ↔ W)
gathered_as xs ys x R W same all =
    (λ h. elim h [ inl a ↦ all.0 (inl (same.0 a)) | inr r ↦ all.0 (inr r) ], λ w. elim (all.1 w) [ inl a ↦ inl (same.1 a) | inr r ↦ inr r ])

-- a state that is needed doesn't end before it begins
pub needed_ends : (later : List Operand) (s : State) → IsNeeded later s → s.range.from ≤ s.range.to
needed_ends later s (inl bytes) = omega (arith, bytes)
needed_ends later s (inr h) = omega (arith, h.0)

joined_range : (role : Role) (b : State) (m : Member) → (joined role b m).range ≡ meet b.range m.0
joined_range Plain b m = refl
joined_range Inside b m = refl

pub needed_touches : (role : Role) (b : State) (m : Member) (later : List Operand) (s : State) → IsJoinedWith role b s m → IsNeeded later s → (meet b.range m.0).from ≤ (meet b.range m.0).to
needed_touches role b m later s h n =
    let P : Span → Type 0 = λ r. r.from ≤ r.to in
    let Q : State → Type 0 = λ x. x.range.from ≤ x.range.to in
    subst P (joined_range role b m) (subst Q (sym h.1) (needed_ends later s n))
