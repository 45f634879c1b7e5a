-- Bounds whose names ascend.
use Rattle.std.proofs.Common.{◌≡◌, ◌↔◌, ◌<◌, ◌≤◌, length, drop, get_or, ℕ, List, [], ◌∷◌, map, refl, sym, ap, ◌∙◌, subst, Bool, true, false, cond}
use Rattle.std.specs.Prelude.{Option, None, Some, IfSome}
use Rattle.std.specs.declared.cmp.Ordering.{Ordering}
use Rattle.std.specs.declared.cmp.Ordering.TheVariants.{Less, Equal, Greater}
use Rattle.std.specs.Ordering.{is_lt, is_eq, nat_cmp, ordering_reverse}
use Rattle.std.proofs.lemmas.Cmp.{nat_list_cmp_total, tied_itself}
use Rattle.std.proofs.lemmas.List.{drop_all}
use Rattle.node_tree.proofs.Orders.{nat_order, lists_order}
use Rattle.meta_bind.proofs.Lookups.{opened}
use Rattle.meta_bind.specs.declared.bound.Bound.{Bound}
use Rattle.meta_bind.specs.Bounds.{name_cmp, NamesAscend, bound_at, with_bound, Agree}

tie : (o : Ordering) → is_eq o ≡ true → o ≡ Equal
tie Less e = absurd cc
tie Equal e = refl
tie Greater e = absurd cc

less : (o : Ordering) → is_lt o ≡ true → o ≡ Less
less Less e = refl
less Equal e = absurd cc
less Greater e = absurd cc

greater : (o : Ordering) → is_lt o ≡ false → is_eq o ≡ false → o ≡ Greater
greater Less e f = absurd cc
greater Equal e f = absurd cc
greater Greater e f = refl

-- names that compare as equal are one
pub one_name : (a b : List ℕ) → is_eq (name_cmp a b) ≡ true → a ≡ b
one_name a b e = (lists_order nat_cmp nat_order).same a b (tie _ e)

-- a name is below the first of these
abbrev pub IsBelow : List ℕ → List Bound → Type 0
IsBelow name [] = Unit {0}
IsBelow name (c ∷ cs) = name_cmp name c.name ≡ Less

pub put_first : (b : Bound) (cs : List Bound) → IsBelow b.name cs → NamesAscend cs → NamesAscend (b ∷ cs)
put_first b [] below up = tt
put_first b (c ∷ cs) below up = (below, up)

pub tail_ascends : (b : Bound) (cs : List Bound) → NamesAscend (b ∷ cs) → NamesAscend cs
tail_ascends b [] up = tt
tail_ascends b (c ∷ cs) up = up.1

-- a name that is bound after the first is above it
above_first : (b : Bound) (cs : List Bound) (name : List ℕ) (x : Bound) → NamesAscend (b ∷ cs) → bound_at name cs ≡ Some x → name_cmp b.name name ≡ Less
above_first b [] name x up e = absurd cc
above_first b (c ∷ cs) name x up e = at (is_eq (name_cmp c.name name)) refl (λ h. above_first b cs name x (skip cs up.1) h)
  where
    skip : (ds : List Bound) → NamesAscend (c ∷ ds) → NamesAscend (b ∷ ds)
    skip [] h = tt
    skip (d ∷ ds) h = (nat_list_cmp_total.trans b.name c.name d.name up.0 h.0, h.1)

    at : (t : Bool) → is_eq (name_cmp c.name name) ≡ t → (bound_at name cs ≡ Some x → name_cmp b.name name ≡ Less) → name_cmp b.name name ≡ Less
    at true t later = let P : List ℕ → Type 0 = λ n. name_cmp b.name n ≡ Less in subst P (one_name c.name name t) up.0
    at false t later = later (sym (ap (λ (v : Bool). cond v (Some c) (bound_at name cs)) t) ∙ e)

other_bound : (b : Bound) (cs : List Bound) (name : List ℕ) → is_eq (name_cmp b.name name) ≡ false → bound_at name (b ∷ cs) ≡ bound_at name cs
other_bound b cs name e = ap (λ (v : Bool). cond v (Some b) (bound_at name cs)) e

-- a name that isn't bound can be added
pub ascends-with_bound : (b : Bound) (cs : List Bound) → NamesAscend cs → bound_at b.name cs ≡ None → NamesAscend (with_bound b cs)
ascends-with_bound b [] up none = tt
ascends-with_bound b (c ∷ cs) up none = at (is_lt (name_cmp b.name c.name)) refl (λ h. ascends-with_bound b cs (tail_ascends c cs up) h)
  where
    apart : (t : Bool) → is_eq (name_cmp c.name b.name) ≡ t → t ≡ false
    apart true t = absurd (let e : Some c ≡ None = sym (ap (λ (v : Bool). cond v (Some c) (bound_at b.name cs)) t) ∙ none in cc)
    apart false t = refl

    turned : (o : Ordering) → is_eq (ordering_reverse o) ≡ is_eq o
    turned Less = refl
    turned Equal = refl
    turned Greater = refl

    differ : is_eq (name_cmp c.name b.name) ≡ false
    differ = apart (is_eq (name_cmp c.name b.name)) refl

    before : (ds : List Bound) → NamesAscend (c ∷ ds) → name_cmp c.name b.name ≡ Less → IsBelow c.name (with_bound b ds)
    before [] h lt = lt
    before (d ∷ ds) h lt = first (is_lt (name_cmp b.name d.name))
      where
        first : (t : Bool) → IsBelow c.name (cond t (b ∷ d ∷ ds) (d ∷ with_bound b ds))
        first true = lt
        first false = h.0

    at : (t : Bool) → is_lt (name_cmp b.name c.name) ≡ t → (bound_at b.name cs ≡ None → NamesAscend (with_bound b cs)) → NamesAscend (cond t (b ∷ c ∷ cs) (c ∷ with_bound b cs))
    at true t later = (less _ t, up)
    at false t later =
        let g = greater (name_cmp b.name c.name) t (ap is_eq (nat_list_cmp_total.antisymm b.name c.name) ∙ turned (name_cmp c.name b.name) ∙ differ) in
        let lt : name_cmp c.name b.name ≡ Less = nat_list_cmp_total.antisymm c.name b.name ∙ ap ordering_reverse g in
        put_first c (with_bound b cs) (before cs up lt) (later (sym (other_bound c cs b.name differ) ∙ none))

-- the same as Agree for names that ascend, bound by bound
abbrev pub AgreeAlong : List Bound → List Bound → Type 0
AgreeAlong [] cs = Unit {0}
AgreeAlong (b ∷ bs) cs = IfSome (bound_at b.name cs) (λ c. b.nodes ≡ c.nodes) × AgreeAlong bs cs

agree_from : (bs cs : List Bound) → NamesAscend bs → AgreeAlong bs cs → Agree bs cs
agree_from [] cs up a name x y e f = absurd cc
agree_from (b ∷ bs) cs up a name x y e f = at (is_eq (name_cmp b.name name)) refl (λ h. agree_from bs cs (tail_ascends b bs up) a.1 name x y h f)
  where
    at : (t : Bool) → is_eq (name_cmp b.name name) ≡ t → (bound_at name bs ≡ Some x → x.nodes ≡ y.nodes) → x.nodes ≡ y.nodes
    at true t later =
        let is : b ≡ x = (let g = sym (ap (λ (v : Bool). cond v (Some b) (bound_at name bs)) t) ∙ e in cc) in
        let there : bound_at b.name cs ≡ Some y = ap (λ (n : List ℕ). bound_at n cs) (one_name b.name name t) ∙ f in
        let P : Option Bound → Type 0 = λ o. IfSome o (λ c. b.nodes ≡ c.nodes) in
        ap (λ (z : Bound). z.nodes) (sym is) ∙ subst P there a.0
    at false t later = later (sym (other_bound b bs name t) ∙ e)

agree_to : (bs cs : List Bound) → NamesAscend bs → Agree bs cs → AgreeAlong bs cs
agree_to [] cs up a = tt
agree_to (b ∷ bs) cs up a = (at (bound_at b.name cs) refl, agree_to bs cs (tail_ascends b bs up) later)
  where
    here : bound_at b.name (b ∷ bs) ≡ Some b
    here = ap (λ (o : Ordering). cond (is_eq o) (Some b) (bound_at b.name bs)) (tied_itself nat_list_cmp_total b.name)

    at : (o : Option Bound) → bound_at b.name cs ≡ o → IfSome o (λ c. b.nodes ≡ c.nodes)
    at None e = tt
    at (Some c) e = a b.name b c here e

    later : Agree bs cs
    later name x y e f = a name x y (other_bound b bs name (ap is_eq (above_first b bs name x up e)) ∙ e) f

pub agree_along : (bs cs : List Bound) → NamesAscend bs → AgreeAlong bs cs ↔ Agree bs cs
agree_along bs cs up = (λ a. agree_from bs cs up a, λ a. agree_to bs cs up a)

module _ {X : Type 0} (f : X → Bound) (xs : List X) (cs : List Bound) (i : ℕ) where
  pub agree_at : (x : X) → i < length xs → x ≡ get_or xs i x → AgreeAlong (map f (drop i xs)) cs → IfSome (bound_at ((f x).name) cs) (λ c. (f x).nodes ≡ c.nodes)
  agree_at x lt is a = let P : List X → Type 0 = λ ys. AgreeAlong (map f ys) cs in (subst P (opened xs i x lt is) a).0

  pub agree_end : length xs ≤ i → AgreeAlong (map f (drop i xs)) cs
  agree_end le = let P : List X → Type 0 = λ ys. AgreeAlong (map f ys) cs in subst P (sym (drop_all i xs le)) tt
