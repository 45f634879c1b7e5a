-- How many of some states have a byte, as the size of a set.
use Rattle.std.proofs.Common.{◌≡◌, ◌↔◌, ◌≤◌, ◌<◌, inl, inr, ℕ, List, [], ◌∷◌, reverse, refl, sym, ap, ◌∙◌, subst, Bool, true, false, cond, arith}
use Rattle.std.specs.Prelude.{None, Result, Ok, Err, IfOk, IfErr, count_by}
use Rattle.std.specs.List.{filter}
use Rattle.std.proofs.lemmas.List.Sums.{length-filter}
use Rattle.std.proofs.lemmas.Bool.Decides.{nat_tests}
use Rattle.node_match.specs.Sets.{Among}
use Rattle.tree_match.specs.Ascending.{IsAscending}
use Rattle.member_join.specs.declared.state.State.{State}
use Rattle.member_join.specs.declared.fault.EvalFault.{EvalFault}
use Rattle.member_join.specs.declared.fault.EvalFault.TheVariants as faults
use Rattle.sorted_sets.specs.Sizes.{IsDistinct, HasAtMost, HasMoreThan}
use Rattle.member_join.specs.Ranges.{HasBytes}
use Rattle.member_join.specs.Agreements.{has_bytes}
use Rattle.member_join.specs.Joins.{state_cmp}
use Rattle.member_join.specs.Orders.{state_total}
use Rattle.member_join.specs.Limits.{NamesSet, IsFaultFrom, OneSet}
use Rattle.sorted_sets.proofs.Distinct.{distinct_up}

-- ---- items that pass a test

module _ {X : Type 0} (p : X → Bool) where
  filter_from : (xs : List X) (x : X) → Among (filter p xs) x → Among xs x × (p x ≡ true)
  filter_from [] x h = elim h [ ]
  filter_from (y ∷ ys) x h = at (p y) refl h (filter_from ys x)
    where
      at : (b : Bool) → p y ≡ b → Among (cond b (y ∷ filter p ys) (filter p ys)) x → (Among (filter p ys) x → Among ys x × (p x ≡ true)) → Among (y ∷ ys) x × (p x ≡ true)
      at true e (inl is) rest = (inl is, ap p (sym is) ∙ e)
      at true e (inr k) rest = let r = rest k in (inr r.0, r.1)
      at false e k rest = let r = rest k in (inr r.0, r.1)

  filter_to : (xs : List X) (x : X) → p x ≡ true → Among xs x → Among (filter p xs) x
  filter_to [] x e h = elim h [ ]
  filter_to (y ∷ ys) x e h = at (p y) refl h (filter_to ys x e)
    where
      at : (b : Bool) → p y ≡ b → Among (y ∷ ys) x → (Among ys x → Among (filter p ys) x) → Among (cond b (y ∷ filter p ys) (filter p ys)) x
      at true f (inl is) rest = inl is
      at true f (inr k) rest = inr (rest k)
      at false f (inl is) rest = absurd (let g : false ≡ true = sym f ∙ ap p is ∙ e in cc)
      at false f (inr k) rest = rest k

  filter_distinct : (xs : List X) → IsDistinct xs → IsDistinct (filter p xs)
  filter_distinct [] h = tt
  filter_distinct (y ∷ ys) h = at (p y) (filter_distinct ys h.1)
    where
      at : (b : Bool) → IsDistinct (filter p ys) → IsDistinct (cond b (y ∷ filter p ys) (filter p ys))
      at true rest = (λ k. h.0 (filter_from ys y k).0, rest)
      at false rest = rest

-- ---- states

abbrev with_bytes : List State → List State
with_bytes states = filter (λ (s : State). has_bytes s.range) states

module _ (Set : State → Type 0) (states : List State) where
  -- what is there of the set is few
  pub at_most : ((s : State) → Set s → HasBytes s.range → Among states s) → count_by (λ (s : State). has_bytes s.range) states ≤ 10000 → HasAtMost 10000 (λ s. Set s × HasBytes s.range)
  at_most whole few = record {
    items = with_bytes states;
    whole = λ s h. filter_to (λ (x : State). has_bytes x.range) states s (let lt = h.1 in grind (arith, nat_tests)) (whole s h.0 h.1);
    few = let e = length-filter (λ (s : State). has_bytes s.range) states in rw e few;
  }

  pub more_than : IsAscending state_cmp states → ((s : State) → Among states s → Set s) → 10000 < count_by (λ (s : State). has_bytes s.range) states → HasMoreThan 10000 (λ s. Set s × HasBytes s.range)
  more_than up sound many = record {
    items = with_bytes states;
    members = λ s h. let r = filter_from (λ (x : State). has_bytes x.range) states s h in (sound s r.0, (let e = r.1 in grind (arith, nat_tests)));
    distinct = filter_distinct (λ (x : State). has_bytes x.range) states (distinct_up state_cmp state_total states up);
    many = let e = length-filter (λ (s : State). has_bytes s.range) states in rw e many;
  }

-- a fault that names a set with too many members
pub fault_of : {X : Type 0} (i : ℕ) (Set : X → Type 0) (e : EvalFault) → NamesSet (i ∷ []) e → HasMoreThan 10000 Set → IsFaultFrom (OneSet (i ∷ []) Set) e
fault_of i Set faults.Memory named more = tt
fault_of i Set (faults.Crowded given) named more = (ap reverse named, more)

-- ---- what a test of the count leaves

abbrev count : List State → ℕ
count states = count_by (λ (s : State). has_bytes s.range) states

module _ {V : Type 0} (items : V → List State) (states : List State) (r : Result V EvalFault) where
  abbrev pub IsFew : Type 0
  IsFew = IfOk r (λ v. (items v ≡ states) × (count states ≤ 10000))

  abbrev Gives : (State → Type 0) → Type 0
  Gives Q = IfOk r (λ v. (s : State) → Among (items v) s ↔ Q s)

  pub few_exact : IsFew → (Q : State → Type 0) → (count states ≤ 10000 → (s : State) → Among states s ↔ Q s) → Gives Q
  few_exact = at r
    where
      at : (q : Result V EvalFault) → IfOk q (λ v. (items v ≡ states) × (count states ≤ 10000)) → (Q : State → Type 0) → (count states ≤ 10000 → (s : State) → Among states s ↔ Q s) → IfOk q (λ v. (s : State) → Among (items v) s ↔ Q s)
      at (Ok v) h Q exact = λ s. let P : List State → Type 0 = λ xs. Among xs s ↔ Q s in subst P (sym h.0) (exact h.1 s)
      at (Err e) h Q exact = tt

  pub few_set : IsFew → (name : List ℕ) (Set : State → Type 0) → (count states ≤ 10000 → HasAtMost 10000 Set) → IfOk r (λ v. OneSet name Set None)
  few_set = at r
    where
      at : (q : Result V EvalFault) → IfOk q (λ v. (items v ≡ states) × (count states ≤ 10000)) → (name : List ℕ) (Set : State → Type 0) → (count states ≤ 10000 → HasAtMost 10000 Set) → IfOk q (λ v. OneSet name Set None)
      at (Ok v) h name Set few = few h.1
      at (Err e) h name Set few = tt

  pub many_fault : (i : ℕ) (Set : State → Type 0) → IfErr r (NamesSet (i ∷ [])) → IfErr r (λ e. 10000 < count states) → (10000 < count states → HasMoreThan 10000 Set) → IfErr r (IsFaultFrom (OneSet (i ∷ []) Set))
  many_fault i Set = at r
    where
      at : (q : Result V EvalFault) → IfErr q (NamesSet (i ∷ [])) → IfErr q (λ e. 10000 < count states) → (10000 < count states → HasMoreThan 10000 Set) → IfErr q (IsFaultFrom (OneSet (i ∷ []) Set))
      at (Ok v) named many more = tt
      at (Err e) named many more = fault_of i Set e named (more many)
