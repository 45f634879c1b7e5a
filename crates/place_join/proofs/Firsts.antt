-- Which of the further members are joined.
use Rattle.std.proofs.Common.{◌≡◌, ◌⊎◌, ◌↔◌, inl, inr, ℕ, ◌+◌, ◌<◌, ◌≤◌, List, [], ◌∷◌, ◌++◌, length, drop, get_or, sym, ap, ◌∙◌, subst, true, false}
use Rattle.std.specs.Borrow.{Bor}
use Rattle.std.specs.Prelude.{Option, None, Some, Result, Ok, Err, OnOk}
use Rattle.std.specs.Option.{option_copied, is_some}
use Rattle.std.specs.declared.cmp.Ordering.TheVariants.{Less, Greater}
use Rattle.std.specs.Ordering.{ordering_reverse}
use Rattle.std.proofs.lemmas.List.{drop_all}
use Rattle.meta_bind.proofs.Lookups.{opened}
use Rattle.node_match.specs.Sets.{Among, Adds}
use Rattle.node_match.proofs.Sets.{pushed, adds_as}
use Rattle.tree_match.specs.Members.{Member, member_cmp}
use Rattle.tree_match.proofs.MemberOrder.{member_order}
use Rattle.sorted_sets.specs.Sizes.{Any}
use Rattle.place_join.specs.Joined.{NoneAt, IsLeastAt, IsFirst, IsFirstAt, IsFirstThere}
use Rattle.place_join.proofs.Places.{same_flip, same_then, same_itself}

pub added : {X : Type 0} (old new : List X) (y z : X) → y ≡ z → new ≡ old ++ y ∷ [] → Adds old new (λ x. z ≡ x)
added {X} old new y z e is = let P : X → Type 0 = λ w. Adds old new (λ x. w ≡ x) in subst P e (pushed old new y is)

pub among_step : {X : Type 0} (xs : List X) (i : ℕ) (x y : X) → i < length xs → x ≡ get_or xs i x → Among (drop i xs) y ↔ ((x ≡ y) ⊎ Among (drop (i + 1) xs) y)
among_step {X} xs i x y lt is = let P : List X → Type 0 = λ zs. Among zs y ↔ ((x ≡ y) ⊎ Among (drop (i + 1) xs) y) in subst P (sym (opened xs i x lt is)) (λ h. h, λ h. h)

pub among_end : {X : Type 0} (xs : List X) (i : ℕ) (y : X) → length xs ≤ i → Among (drop i xs) y → ⊥
among_end {X} xs i y le h = let P : List X → Type 0 = λ zs. Among zs y in subst P (drop_all i xs le) h

module _ (plain further : List Member) (one : Member) where
  -- a plain member stands there
  pub taken : (p : Member) → IsLeastAt plain one p → (m : Member) → IsFirstThere plain further m one → ⊥
  taken p least m (same, first) = first.alone p least.among (same_then p one m least.same ∙ same_flip m one same)

  -- no further member stands there
  pub missing : NoneAt further one → (m : Member) → IsFirstThere plain further m one → ⊥
  missing none m (same, first) = none m first.among same

  -- the least of them does
  pub only : (f : Member) → NoneAt plain one → IsLeastAt further one f → (m : Member) → (f ≡ m) ↔ IsFirstThere plain further m one
  only f none least m = (to, from)
    where
      is_first : IsFirst plain further f
      is_first = record {
        among = least.among;
        alone = λ p h s. none p h (same_then p f one s ∙ least.same);
        least = λ o h s. least.least o h (same_then o f one s ∙ least.same);
      }

      to : f ≡ m → IsFirstThere plain further m one
      to e = let P : Member → Type 0 = λ x. IsFirstThere plain further x one in subst P e (least.same, is_first)

      clash : member_cmp f m ≡ Less → member_cmp m f ≡ Less → ⊥
      clash a b = let e : Less ≡ Greater = sym a ∙ member_order.flip f m ∙ ap ordering_reverse b in cc

      from : IsFirstThere plain further m one → f ≡ m
      from (same, first) = elim (least.least m first.among same) [
        | inl e ↦ sym e
        | inr a ↦ elim (first.least f least.among (same_then f one m least.same ∙ same_flip m one same)) [ inl e ↦ e | inr b ↦ absurd (clash a b) ]
      ]

-- a member was found there
pub found_none : (members : List Member) (one : Member) (r : Option (Bor Member)) → IsFirstAt members one (option_copied r) → is_some r ≡ false → NoneAt members one
found_none members one None h e = h
found_none members one (Some p) h e = absurd cc

pub found_taken : (plain further : List Member) (one : Member) (r : Option (Bor Member)) → IsFirstAt plain one (option_copied r) → is_some r ≡ true → (m : Member) → IsFirstThere plain further m one → ⊥
found_taken plain further one None h e = absurd cc
found_taken plain further one (Some p) h e = taken plain further one p.now h

pub adds_if : {A E X : Type 0} (old new : List X) (P Q : X → Type 0) (r : Result A E) → OnOk r (Adds old new P) → ((x : X) → P x ↔ Q x) → OnOk r (Adds old new Q)
adds_if old new P Q (Ok a) h same = adds_as old new P Q h same
adds_if old new P Q (Err e) h same = h

-- each that is joined is the first at its own place
pub anywhere : (plain further : List Member) (m : Member) → Any (IsFirstThere plain further m) further ↔ IsFirst plain further m
anywhere plain further m = (λ h. h.2.1, λ first. (m, first.among, (same_itself m, first)))
