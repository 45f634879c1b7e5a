-- The members that states give, and the same facts of results in other words.
use Rattle.std.proofs.Common.{◌≡◌, ◌⊎◌, ◌↔◌, ◌≤◌, ◌<◌, inl, inr, ℕ, List, [], sym, ap, ◌∙◌, arith}
use Rattle.std.specs.Prelude.{Some, Result, Ok, Err, IfOk, IfErr}
use Rattle.node_tree.specs.declared.span.Span.{Span}
use Rattle.meta_bind.specs.declared.bound.Bound.{Bound}
use Rattle.meta_bind.specs.Merges.{extended}
use Rattle.node_match.specs.Sets.{Among}
use Rattle.tree_match.specs.Members.{Member}
use Rattle.member_join.specs.declared.state.State.{State}
use Rattle.member_join.specs.declared.operand.Operand.{Operand}
use Rattle.member_join.specs.declared.fault.EvalFault.{EvalFault}
use Rattle.sorted_sets.specs.Sizes.{Any}
use Rattle.member_join.specs.Choices.{IsMet}
use Rattle.member_join.specs.Joins.{IsNeeded}
use Rattle.member_join.specs.Limits.{Search, IsFaultFrom}
use Rattle.member_join.specs.Operands.{ChosenFrom, IsReached, IsGivenBy}
use Rattle.member_join.proofs.Added.{needed_ends}
use Rattle.member_join.proofs.Limits.{fault_as}

module _ (plains insides : List Operand) (states : List State) (exact : (s : State) → Among states s ↔ IsReached plains insides [] s) where
  given_met : (m : Member) → Any (IsGivenBy m) states → IsMet (ChosenFrom plains) (ChosenFrom insides) m
  given_met m (s, there, gives) =
      let r = (exact s).0 there in
      record { state = s; choice = r.0; ends_last = needed_ends [] s r.1; marked = gives.0; range = sym (ap (λ (x : Member). x.0) gives.1); binding = sym (ap (λ (x : Member). x.1) gives.1) }

  met_given : (m : Member) → IsMet (ChosenFrom plains) (ChosenFrom insides) m → Any (IsGivenBy m) states
  met_given m h =
      let f : Span → Member = λ r. (r, extended h.state.plain h.state.inside) in
      let g : List Bound → Member = λ b. (m.0, b) in
      (h.state, (exact h.state).1 (h.choice, needed (order h.state.range.from h.state.range.to h.ends_last)), (h.marked, ap f (sym h.range) ∙ ap g (sym h.binding)))
    where
      order : (a b : ℕ) → a ≤ b → (a < b) ⊎ (a ≡ b)
      order a b le = grind arith

      needed : (h.state.range.from < h.state.range.to) ⊎ (h.state.range.from ≡ h.state.range.to) → IsNeeded [] h.state
      needed (inl lt) = inl lt
      needed (inr e) = inr (e, inl h.marked)

  pub given_both : (m : Member) → Any (IsGivenBy m) states ↔ IsMet (ChosenFrom plains) (ChosenFrom insides) m
  given_both m = (given_met m, met_given m)

-- the same set, said otherwise, of what is given
pub if_ok_set : {V E X : Type 0} (items : V → List X) (P Q : X → Type 0) (r : Result V E) → ((x : X) → P x ↔ Q x) → IfOk r (λ v. (x : X) → Among (items v) x ↔ P x) → IfOk r (λ v. (x : X) → Among (items v) x ↔ Q x)
if_ok_set items P Q (Ok v) same h = λ x. (λ a. (same x).0 ((h x).0 a), λ q. (h x).1 ((same x).1 q))
if_ok_set items P Q (Err e) same h = tt

pub if_ok_as : {V E : Type 0} (P Q : Type 0) (r : Result V E) → (P → Q) → IfOk r (λ v. P) → IfOk r (λ v. Q)
if_ok_as P Q (Ok v) f h = f h
if_ok_as P Q (Err e) f h = tt

pub if_fault_as : {V : Type 0} (A B : Search) (r : Result V EvalFault) → ((p : List ℕ) → A (Some p) → B (Some p)) → IfErr r (IsFaultFrom A) → IfErr r (IsFaultFrom B)
if_fault_as A B (Ok v) f h = tt
if_fault_as A B (Err e) f h = fault_as A B f e h
