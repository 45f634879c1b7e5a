-- Sets with at most, or more than, 10,000 members.
use Rattle.std.proofs.Common.{◌≡◌, ◌↔◌, inl, inr, ◌<◌, ◌≤◌, List, [], length, reverse, sym, ap, subst}
use Rattle.std.specs.Prelude.{ℕ, Option, None, Some, Result, Ok, Err, IfErr}
use Rattle.node_match.specs.Sets.{Among}
use Rattle.tree_match.specs.Ascending.{IsAscending}
use Rattle.tree_match.specs.Members.{Member, member_cmp}
use Rattle.member_join.specs.declared.fault.EvalFault.{EvalFault}
use Rattle.member_join.specs.declared.fault.EvalFault.TheVariants as faults
use Rattle.sorted_sets.specs.Orders.{member_total}
use Rattle.sorted_sets.specs.Sizes.{HasAtMost, HasMoreThan}
use Rattle.member_join.specs.Limits.{Search, IsFaultFrom, NamesSet, OneSet, Then}
use Rattle.sorted_sets.proofs.Distinct.{distinct_up}

module _ (Set : Member → Type 0) (xs : List Member) where
  pub at_most : ((m : Member) → Among xs m ↔ Set m) → length xs ≤ 10000 → HasAtMost 10000 Set
  at_most same few = record { items = xs; whole = λ m s. (same m).1 s; few = few }

  pub more_than : IsAscending member_cmp xs → ((m : Member) → Among xs m → Set m) → 10000 < length xs → HasMoreThan 10000 Set
  more_than up sound many = record { items = xs; members = sound; distinct = distinct_up member_cmp member_total xs up; many = many }

-- the fault of a set, some members of which are in order, and too many
pub too_many : {A : Type 0} (Set : Member → Type 0) (xs : List Member) (r : Result A EvalFault) → IsAscending member_cmp xs → ((m : Member) → Among xs m → Set m) → IfErr r (NamesSet []) → IfErr r (λ _. 10000 < length xs) → IfErr r (IsFaultFrom (OneSet [] Set))
too_many Set xs (Ok a) up sound named many = tt
too_many Set xs (Err faults.Memory) up sound named many = tt
too_many Set xs (Err (faults.Crowded given)) up sound named many = (ap reverse named, more_than Set xs up sound many)

-- a set with more members has too many too
pub more_than_as : {X : Type 0} (P Q : X → Type 0) → ((x : X) → P x → Q x) → HasMoreThan 10000 P → HasMoreThan 10000 Q
more_than_as P Q same h = record { items = h.items; members = λ x k. same x (h.members x k); distinct = h.distinct; many = h.many }

pub fault_more : {X : Type 0} (name : List ℕ) (P Q : X → Type 0) → ((x : X) → P x → Q x) → (e : EvalFault) → IsFaultFrom (OneSet name P) e → IsFaultFrom (OneSet name Q) e
fault_more name P Q to faults.Memory h = tt
fault_more name P Q to (faults.Crowded numbers) h = (h.0, more_than_as P Q to h.1)

-- the same set, said otherwise
pub at_most_as : {X : Type 0} (P Q : X → Type 0) → ((x : X) → Q x → P x) → HasAtMost 10000 P → HasAtMost 10000 Q
at_most_as P Q same h = record { items = h.items; whole = λ x q. h.whole x (same x q); few = h.few }

pub one_set_as : {X : Type 0} (name : List ℕ) (P Q : X → Type 0) → ((x : X) → P x ↔ Q x) → (o : Option (List ℕ)) → OneSet name P o → OneSet name Q o
one_set_as name P Q same None h = at_most_as P Q (λ x. (same x).1) h
one_set_as name P Q same (Some p) h = (h.0, more_than_as P Q (λ x. (same x).0) h.1)

-- a fault in the first of two searches, or in the next where the first finds nothing
pub fault_first : (First Next : Search) (e : EvalFault) → IsFaultFrom First e → IsFaultFrom (Then First Next) e
fault_first First Next faults.Memory h = tt
fault_first First Next (faults.Crowded given) h = inl h

pub fault_next : (First Next : Search) (e : EvalFault) → First None → IsFaultFrom Next e → IsFaultFrom (Then First Next) e
fault_next First Next faults.Memory none h = tt
fault_next First Next (faults.Crowded given) none h = inr (none, h)

-- what one search finds another one finds too
pub fault_as : (A B : Search) → ((p : List ℕ) → A (Some p) → B (Some p)) → (e : EvalFault) → IsFaultFrom A e → IsFaultFrom B e
fault_as A B same faults.Memory h = tt
fault_as A B same (faults.Crowded given) h = same (reverse given) h

pub if_fault_more : {A X : Type 0} (name : List ℕ) (P Q : X → Type 0) → ((x : X) → P x → Q x) → (r : Result A EvalFault) → IfErr r (IsFaultFrom (OneSet name P)) → IfErr r (IsFaultFrom (OneSet name Q))
if_fault_more name P Q to (Ok a) h = tt
if_fault_more name P Q to (Err e) h = fault_more name P Q to e h

-- the fault that a function returns is one that it was given
pub fault_out : {A : Type 0} (Found : Search) (r : Result A EvalFault) (d e : EvalFault) → r ≡ Err d → d ≡ e → IsFaultFrom Found e → IfErr r (IsFaultFrom Found)
fault_out {A} Found r d e is same h =
    let P : EvalFault → Type 0 = IsFaultFrom Found in
    let Q : Result A EvalFault → Type 0 = λ q. IfErr q (IsFaultFrom Found) in
    subst Q (sym is) (subst P (sym same) h)
