-- The facts of classes stand in one list, each class's in their places.
use Rattle.std.proofs.Common.{◌≡◌, ℕ, zero, suc, ◌+◌, ◌-◌, ◌<◌, ◌≤◌, ◌⊎◌, inl, inr, List, [], ◌∷◌, ◌++◌, length, take, drop, map, get_or, Some, sym, ◌∙◌, ap, subst, refl, arith}
use Rattle.std.specs.Prelude.{slice_get, slice_range}
use Rattle.std.proofs.lemmas.List.{take-append-le, drop_at, map-append}
use Rattle.std.proofs.lemmas.Slice.{between_is, between_to_end}
use Rattle.std.proofs.lemmas.Option.{slice_get_within}
use Rattle.graph_form.specs.Sets.{Among}
use Rattle.flow_reach.specs.Bits.{Has}
use Rattle.trace_path.specs.declared.queue.Class.{Class}
use Rattle.trace_path.specs.declared.queue.Queue.{Queue}
use Rattle.trace_path.specs.Fresh.{Finds, Gathers}
use Rattle.trace_path.specs.Queue.{Group, group_of, groups, IsIn, IsAt, Within, Steps, IsFirst}

kept_range : (xs ys : List ℕ) (i j : ℕ) → j ≤ length xs → slice_range (xs ++ ys) i j ≡ slice_range xs i j
kept_range xs ys i j le = between_is (xs ++ ys) i j ∙ ap (λ zs. drop i zs) (take-append-le j xs ys le) ∙ sym (between_is xs i j)

pub long_append : (xs ys : List ℕ) → length (xs ++ ys) ≡ length xs + length ys
long_append [] ys = omega arith
long_append (x ∷ xs) ys = omega (arith, long_append xs ys)

last_range : (xs ys : List ℕ) (n : ℕ) → n ≡ length xs + length ys → slice_range (xs ++ ys) (length xs) n ≡ ys
last_range xs ys n e = between_to_end (xs ++ ys) (length xs) n (omega (arith, long_append xs ys, e)) ∙ drop_at xs ys (length xs) refl

no_items : (xs : List ℕ) → length xs ≡ 0 → xs ≡ []
no_items [] e = refl
no_items (x ∷ xs) e = absurd (omega (arith, e))

groups_kept : (facts found : List ℕ) (classes : List Class) → ((i : ℕ) (c : Class) → IsIn classes i c → c.end ≤ length facts) → map (group_of (facts ++ found)) classes ≡ map (group_of facts) classes
groups_kept facts found [] within = refl
groups_kept facts found (c ∷ cs) within =
    let r = kept_range facts found c.first c.end (within 0 c refl) in
    let one : group_of (facts ++ found) c ≡ group_of facts c = ap (λ fs. record { point = c.point; parent = c.parent; facts = fs }) r in
    ap (λ g. g ∷ map (group_of (facts ++ found)) cs) one ∙ ap (λ gs. group_of facts c ∷ gs) (groups_kept facts found cs (λ i d at. within (suc i) d at))

in_push : (xs : List Class) (d : Class) (i : ℕ) (c : Class) → IsIn (xs ++ d ∷ []) i c → IsIn xs i c ⊎ (d ≡ c)
in_push [] d zero c at = inr cc
in_push [] d (suc i) c at = absurd cc
in_push (x ∷ xs) d zero c at = inl at
in_push (x ∷ xs) d (suc i) c at = in_push xs d i c at

-- nothing was found
pub step_none : (head point base : ℕ) (turned : List ℕ) (old new : Queue) → Within old → Gathers base turned old.seen.items new.seen.items old.facts.items new.facts.items → new.classes ≡ old.classes → length new.facts.items ≡ length old.facts.items → Steps head point base turned old new
step_none head point base turned old new within gathers classes as_long =
    let items : new.classes.items ≡ old.classes.items = ap (λ v. v.items) classes in
    let none : gathers.found ≡ [] = no_items gathers.found (omega (arith, as_long, ap length gathers.same, long_append old.facts.items gathers.found)) in
    let W : List Class → Type 0 = λ cs. (i : ℕ) (c : Class) → IsIn cs i c → (c.first ≤ c.end) × (c.end ≤ length old.facts.items) in
    let all = subst W (sym items) within in
    record {
      found = gathers.found;
      finds = gathers.finds;
      within = λ i c at. ((all i c at).0, omega (arith, (all i c at).1, as_long));
      longer = omega (arith, ap length gathers.same, long_append old.facts.items gathers.found);
      pushed = inl (none, ap (λ fs. map (group_of fs) new.classes.items) gathers.same ∙ groups_kept old.facts.items gathers.found new.classes.items (λ i c at. (all i c at).1) ∙ ap (λ cs. map (group_of old.facts.items) cs) items);
    }

-- some were
pub step_some : (head point base : ℕ) (turned : List ℕ) (old mid new : Queue) (d : Class) → Within old → Gathers base turned old.seen.items mid.seen.items old.facts.items mid.facts.items → mid.classes ≡ old.classes → d.point ≡ point → d.parent ≡ head → d.first ≡ length old.facts.items → d.end ≡ length mid.facts.items → length old.facts.items < length mid.facts.items → new.classes.items ≡ mid.classes.items ++ d ∷ [] → new.facts ≡ mid.facts → new.seen ≡ mid.seen → Steps head point base turned old new
step_some head point base turned old mid new d within gathers classes at_point at_head first end some pushed facts seen =
    let items : mid.classes.items ≡ old.classes.items = ap (λ v. v.items) classes in
    let all : new.classes.items ≡ old.classes.items ++ d ∷ [] = pushed ∙ ap (λ cs. cs ++ d ∷ []) items in
    let facts_are : new.facts.items ≡ old.facts.items ++ gathers.found = ap (λ v. v.items) facts ∙ gathers.same in
    let long = long_append old.facts.items gathers.found in
    let found_is : slice_range (old.facts.items ++ gathers.found) d.first d.end ≡ gathers.found = ap (λ a. slice_range (old.facts.items ++ gathers.found) a d.end) first ∙ last_range old.facts.items gathers.found d.end (end ∙ ap length gathers.same ∙ long) in
    let F : List ℕ → Type 0 = λ s. Finds base turned old.seen.items s gathers.found in
    let g = group_of new.facts.items d in
    record {
      found = gathers.found;
      finds = subst F (sym (ap (λ v. v.items) seen)) gathers.finds;
      within = λ i c at.
          let P : List Class → Type 0 = λ cs. IsIn cs i c in
          elim (in_push old.classes.items d i c (subst P all at)) [
            | inl o ↦ ((within i c o).0, omega (arith, (within i c o).1, ap length facts_are, long))
            | inr e ↦
                let Q : Class → Type 0 = λ x. (x.first ≤ x.end) × (x.end ≤ length new.facts.items) in
                subst Q e (omega (arith, first, end, some), omega (arith, end, ap length gathers.same, ap length facts_are))
          ];
      longer = omega (arith, ap length facts_are, long);
      pushed = inr (
        g,
        ap (λ cs. map (group_of new.facts.items) cs) all ∙ map-append (group_of new.facts.items) old.classes.items (d ∷ []) ∙ ap (λ gs. gs ++ g ∷ []) (ap (λ fs. map (group_of fs) old.classes.items) facts_are ∙ groups_kept old.facts.items gathers.found old.classes.items (λ i c at. (within i c at).1)),
        at_point,
        at_head,
        ap (λ fs. slice_range fs d.first d.end) facts_are ∙ found_is,
        omega (arith, some, ap length gathers.same, long),
      );
    }

-- the first class
pub first_is : (words : ℕ) (start : List ℕ) (old : List ℕ) (mid new : Queue) (d : Class) → length old ≡ words → ((k : ℕ) → Has old k → ⊥) → Gathers 0 start old mid.seen.items [] mid.facts.items → mid.classes.items ≡ [] → d.point ≡ 0 → d.first ≡ 0 → d.end ≡ length mid.facts.items → new.classes.items ≡ mid.classes.items ++ d ∷ [] → new.facts ≡ mid.facts → new.seen ≡ mid.seen → IsFirst words start new
first_is words start old mid new d room none gathers classes at_point first end pushed facts seen =
    let all : new.classes.items ≡ d ∷ [] = pushed ∙ ap (λ cs. cs ++ d ∷ []) classes in
    let facts_are : new.facts.items ≡ gathers.found = ap (λ v. v.items) facts ∙ gathers.same in
    let found_is : slice_range gathers.found d.first d.end ≡ gathers.found = ap (λ a. slice_range gathers.found a d.end) first ∙ last_range [] gathers.found d.end (omega (arith, end, ap length gathers.same)) in
    let g = group_of new.facts.items d in
    let g_facts : g.facts ≡ gathers.found = ap (λ fs. slice_range fs d.first d.end) facts_are ∙ found_is in
    let F : List ℕ → Type 0 = λ s. Finds 0 start old s gathers.found in
    let G : List ℕ → Type 0 = λ fs. Finds 0 start old new.seen.items fs in
    record {
      old = old;
      room = room;
      none = none;
      group = g;
      point = at_point;
      all = ap (λ cs. map (group_of new.facts.items) cs) all;
      finds = subst G (sym g_facts) (subst F (sym (ap (λ v. v.items) seen)) gathers.finds);
      within = λ i c at.
          let P : List Class → Type 0 = λ cs. IsIn cs i c in
          elim (in_push [] d i c (subst P all at)) [
            | inl o ↦ absurd (empty i c o)
            | inr e ↦
                let Q : Class → Type 0 = λ x. (x.first ≤ x.end) × (x.end ≤ length new.facts.items) in
                subst Q e (omega (arith, first), omega (arith, end, ap length gathers.same, ap length facts_are))
          ];
      longer = ap length facts_are ∙ sym (ap length g_facts);
    }
  where
    empty : (i : ℕ) (c : Class) → IsIn [] i c → ⊥
    empty i c at = cc

-- a class and its facts
pub group_read : (queue : Queue) (i : ℕ) (c : Class) → IsIn queue.classes.items i c → IsAt (groups queue) i (group_of queue.facts.items c)
group_read queue i c at = go queue.classes.items i at
  where
    go : (cs : List Class) (i : ℕ) → IsIn cs i c → IsAt (map (group_of queue.facts.items) cs) i (group_of queue.facts.items c)
    go [] i at = absurd cc
    go (x ∷ xs) zero at = let e : x ≡ c = cc in ap (λ z. Some (group_of queue.facts.items z)) e
    go (x ∷ xs) (suc i) at = go xs i at
