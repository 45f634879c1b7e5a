-- The names of two bindings, joined by a walk along both.
use Rattle.std.proofs.Common.{◌≡◌, ℕ, suc, ◌+◌, ◌-◌, ◌<◌, ◌≤◌, ◌⊎◌, inl, inr, List, [], ◌∷◌, ◌++◌, length, take, drop, get_or, map, refl, sym, ap, ◌∙◌, subst, Bool, true, false, cond, append_assoc, length-drop, arith}
use Rattle.std.proofs.lemmas.List.{drop_all, take_all}
use Rattle.std.specs.declared.cmp.Ordering.{Ordering}
use Rattle.std.specs.declared.cmp.Ordering.TheVariants.{Less, Equal, Greater}
use Rattle.std.specs.Ordering.{is_lt, is_eq, nat_cmp, ordering_reverse}
use Rattle.std.proofs.lemmas.Cmp.{nat_list_cmp_total}
use Rattle.node_tree.proofs.Orders.{nat_order, lists_order}
use Rattle.meta_bind.specs.declared.bound.Bound.{Bound}
use Rattle.meta_bind.specs.declared.join.Keep.{Keep}
use Rattle.meta_bind.specs.declared.join.Keep.TheVariants.{Later, First}
use Rattle.meta_bind.specs.Bounds.{name_cmp, NamesAscend}
use Rattle.meta_bind.specs.Merges.{is_later, kept, with_kept, joined}
use Rattle.meta_bind.proofs.Lookups.{opened}
use Rattle.meta_bind.proofs.Names.{IsBelow, put_first, tail_ascends}

same_name : (a b : List ℕ) → name_cmp a b ≡ Equal → a ≡ b
same_name a b e = (lists_order nat_cmp nat_order).same a b e

turned : (a b : List ℕ) (o : Ordering) → name_cmp a b ≡ o → name_cmp b a ≡ ordering_reverse o
turned a b o e = nat_list_cmp_total.antisymm b a ∙ ap ordering_reverse e

-- what is below a name is below what follows it
below_rest : (n : List ℕ) (b : Bound) (bs : List Bound) → name_cmp n b.name ≡ Less → NamesAscend (b ∷ bs) → IsBelow n bs
below_rest n b [] e up = tt
below_rest n b (c ∷ cs) e up = nat_list_cmp_total.trans n b.name c.name e up.0

first_below : (b : Bound) (bs : List Bound) → NamesAscend (b ∷ bs) → IsBelow b.name bs
first_below b [] up = tt
first_below b (c ∷ cs) up = up.0

kept_name : (keep : Keep) (b c : Bound) → ((kept keep b c).name ≡ b.name) ⊎ ((kept keep b c).name ≡ c.name)
kept_name Later b c = at (is_later b.span c.span)
  where
    at : (t : Bool) → ((cond t b c).name ≡ b.name) ⊎ ((cond t b c).name ≡ c.name)
    at true = inl refl
    at false = inr refl
kept_name First b c = inl refl

-- what a name below both makes of it
kept_below : (keep : Keep) (n : List ℕ) (b c : Bound) → name_cmp n b.name ≡ Less → name_cmp n c.name ≡ Less → name_cmp n ((kept keep b c).name) ≡ Less
kept_below keep n b c e f = at (kept_name keep b c)
  where
    at : ((kept keep b c).name ≡ b.name) ⊎ ((kept keep b c).name ≡ c.name) → name_cmp n ((kept keep b c).name) ≡ Less
    at (inl h) = ap (name_cmp n) h ∙ e
    at (inr h) = ap (name_cmp n) h ∙ f

-- the name that is kept, of two that are one
kept_is : (keep : Keep) (b c : Bound) → b.name ≡ c.name → (kept keep b c).name ≡ c.name
kept_is keep b c e = at (kept_name keep b c)
  where
    at : ((kept keep b c).name ≡ b.name) ⊎ ((kept keep b c).name ≡ c.name) → (kept keep b c).name ≡ c.name
    at (inl h) = h ∙ e
    at (inr h) = h

pub slice_rest : {X : Type 0} (xs : List X) (n : ℕ) → take (length xs - n) (drop n xs) ≡ drop n xs
slice_rest xs n = take_all (length xs - n) (drop n xs) (omega (arith, length-drop n xs))

module _ (keep : Keep) where
  pub with_first : (b : Bound) (ds : List Bound) → IsBelow b.name ds → with_kept keep b ds ≡ b ∷ ds
  with_first b [] h = refl
  with_first b (d ∷ ds) h = ap (λ (o : Ordering). cond (is_lt o) (b ∷ d ∷ ds) (cond (is_eq o) (kept keep b d ∷ ds) (d ∷ with_kept keep b ds))) h

  with_same : (b d : Bound) (ds : List Bound) → name_cmp b.name d.name ≡ Equal → with_kept keep b (d ∷ ds) ≡ kept keep b d ∷ ds
  with_same b d ds h = ap (λ (o : Ordering). cond (is_lt o) (b ∷ d ∷ ds) (cond (is_eq o) (kept keep b d ∷ ds) (d ∷ with_kept keep b ds))) h

  with_above : (b d : Bound) (ds : List Bound) → name_cmp b.name d.name ≡ Greater → with_kept keep b (d ∷ ds) ≡ d ∷ with_kept keep b ds
  with_above b d ds h = ap (λ (o : Ordering). cond (is_lt o) (b ∷ d ∷ ds) (cond (is_eq o) (kept keep b d ∷ ds) (d ∷ with_kept keep b ds))) h

  below_with : (n : List ℕ) (b : Bound) (ds : List Bound) → name_cmp n b.name ≡ Less → IsBelow n ds → IsBelow n (with_kept keep b ds)
  below_with n b [] e h = e
  below_with n b (d ∷ ds) e h = at (name_cmp b.name d.name)
    where
      at : (o : Ordering) → IsBelow n (cond (is_lt o) (b ∷ d ∷ ds) (cond (is_eq o) (kept keep b d ∷ ds) (d ∷ with_kept keep b ds)))
      at Less = e
      at Equal = kept_below keep n b d e h
      at Greater = h

  below_joined : (n : List ℕ) (bs cs : List Bound) → NamesAscend bs → IsBelow n bs → IsBelow n cs → IsBelow n (joined keep bs cs)
  below_joined n [] cs up h k = k
  below_joined n (b ∷ bs) cs up h k = below_with n b (joined keep bs cs) h (below_joined n bs cs (tail_ascends b bs up) (below_rest n b bs h up) k)

  ascends_with : (b : Bound) (ds : List Bound) → NamesAscend ds → NamesAscend (with_kept keep b ds)
  ascends_with b [] up = tt
  ascends_with b (d ∷ ds) up = at (name_cmp b.name d.name) refl (ascends_with b ds (tail_ascends d ds up))
    where
      at : (o : Ordering) → name_cmp b.name d.name ≡ o → NamesAscend (with_kept keep b ds) → NamesAscend (cond (is_lt o) (b ∷ d ∷ ds) (cond (is_eq o) (kept keep b d ∷ ds) (d ∷ with_kept keep b ds)))
      at Less e later = (e, up)
      at Equal e later =
          let P : List ℕ → Type 0 = λ n. IsBelow n ds in
          put_first (kept keep b d) ds (subst P (sym (kept_is keep b d (same_name b.name d.name e))) (first_below d ds up)) (tail_ascends d ds up)
      at Greater e later = put_first d (with_kept keep b ds) (below_with d.name b ds (turned b.name d.name Greater e) (first_below d ds up)) later

  pub ascends_joined : (bs cs : List Bound) → NamesAscend bs → NamesAscend cs → NamesAscend (joined keep bs cs)
  ascends_joined [] cs up uq = uq
  ascends_joined (b ∷ bs) cs up uq = ascends_with b (joined keep bs cs) (ascends_joined bs cs (tail_ascends b bs up) uq)

  -- a bound below all of the first list passes over it
  pass : (bs : List Bound) (c : Bound) (cs : List Bound) → NamesAscend bs → IsBelow c.name bs → joined keep bs (c ∷ cs) ≡ c ∷ joined keep bs cs
  pass [] c cs up h = refl
  pass (b ∷ bs) c cs up h =
      ap (with_kept keep b) (pass bs c cs (tail_ascends b bs up) (below_rest c.name b bs h up)) ∙ with_above b c (joined keep bs cs) (turned c.name b.name Less h)

  pub joined_end : (bs : List Bound) → NamesAscend bs → joined keep bs [] ≡ bs
  joined_end [] up = refl
  joined_end (b ∷ bs) up = ap (with_kept keep b) (joined_end bs (tail_ascends b bs up)) ∙ with_first b bs (first_below b bs up)

  module _ (b c : Bound) (bs cs : List Bound) (up : NamesAscend (b ∷ bs)) (uq : NamesAscend (c ∷ cs)) where
    pub joined_less : name_cmp b.name c.name ≡ Less → joined keep (b ∷ bs) (c ∷ cs) ≡ b ∷ joined keep bs (c ∷ cs)
    joined_less e = with_first b (joined keep bs (c ∷ cs)) (below_joined b.name bs (c ∷ cs) (tail_ascends b bs up) (first_below b bs up) e)

    pub joined_same : name_cmp b.name c.name ≡ Equal → joined keep (b ∷ bs) (c ∷ cs) ≡ kept keep b c ∷ joined keep bs cs
    joined_same e =
        let P : List ℕ → Type 0 = λ n. IsBelow n bs in
        ap (with_kept keep b) (pass bs c cs (tail_ascends b bs up) (subst P (same_name b.name c.name e) (first_below b bs up))) ∙ with_same b c (joined keep bs cs) e

    pub joined_greater : name_cmp b.name c.name ≡ Greater → joined keep (b ∷ bs) (c ∷ cs) ≡ c ∷ joined keep (b ∷ bs) cs
    joined_greater e = pass (b ∷ bs) c cs up (turned b.name c.name Greater e)

  -- the same of what is left of two lists, with what is out already
  module _ {X : Type 0} (f : X → Bound) (xs ys : List X) (i j : ℕ) (x y : X) (lt : i < length xs) (lt' : j < length ys) (is : x ≡ get_or xs i x) (is' : y ≡ get_or ys j y) where
    first : map f (drop i xs) ≡ f x ∷ map f (drop (i + 1) xs)
    first = ap (map f) (opened xs i x lt is)

    second : map f (drop j ys) ≡ f y ∷ map f (drop (j + 1) ys)
    second = ap (map f) (opened ys j y lt' is')

    abbrev Ups : Type 0
    Ups = NamesAscend (map f (drop i xs)) × NamesAscend (map f (drop j ys))

    up_first : NamesAscend (map f (drop i xs)) → NamesAscend (f x ∷ map f (drop (i + 1) xs))
    up_first = let P : List Bound → Type 0 = NamesAscend in subst P first

    up_second : NamesAscend (map f (drop j ys)) → NamesAscend (f y ∷ map f (drop (j + 1) ys))
    up_second = let P : List Bound → Type 0 = NamesAscend in subst P second

    pub rest_first : NamesAscend (map f (drop i xs)) → NamesAscend (map f (drop (i + 1) xs))
    rest_first up = tail_ascends (f x) (map f (drop (i + 1) xs)) (up_first up)

    pub rest_second : NamesAscend (map f (drop j ys)) → NamesAscend (map f (drop (j + 1) ys))
    rest_second up = tail_ascends (f y) (map f (drop (j + 1) ys)) (up_second up)

    module _ (up : NamesAscend (map f (drop i xs))) (uq : NamesAscend (map f (drop j ys))) (out new : List X) where
      pushed : (z : X) → new ≡ out ++ z ∷ [] → (rest : List Bound) → map f new ++ rest ≡ map f out ++ f z ∷ rest
      pushed z e rest = ap (λ (zs : List X). map f zs ++ rest) e ∙ over out
        where
          over : (zs : List X) → map f (zs ++ z ∷ []) ++ rest ≡ map f zs ++ f z ∷ rest
          over [] = refl
          over (w ∷ ws) = ap (λ (vs : List Bound). f w ∷ vs) (over ws)

      both : joined keep (map f (drop i xs)) (map f (drop j ys)) ≡ joined keep (f x ∷ map f (drop (i + 1) xs)) (f y ∷ map f (drop (j + 1) ys))
      both = ap (λ (bs : List Bound). joined keep bs (map f (drop j ys))) first ∙ ap (joined keep (f x ∷ map f (drop (i + 1) xs))) second

      pub step_less : name_cmp ((f x).name) ((f y).name) ≡ Less → new ≡ out ++ x ∷ []
          → map f new ++ joined keep (map f (drop (i + 1) xs)) (map f (drop j ys)) ≡ map f out ++ joined keep (map f (drop i xs)) (map f (drop j ys))
      step_less o e =
          let rest = joined keep (map f (drop (i + 1) xs)) (map f (drop j ys)) in
          pushed x e rest ∙ ap (λ (bs : List Bound). map f out ++ bs)
          (ap (λ (bs : List Bound). f x ∷ joined keep (map f (drop (i + 1) xs)) bs) second ∙ sym (joined_less (f x) (f y) (map f (drop (i + 1) xs)) (map f (drop (j + 1) ys)) (up_first up) (up_second uq) o) ∙ sym both)

      pub step_greater : name_cmp ((f x).name) ((f y).name) ≡ Greater → new ≡ out ++ y ∷ []
          → map f new ++ joined keep (map f (drop i xs)) (map f (drop (j + 1) ys)) ≡ map f out ++ joined keep (map f (drop i xs)) (map f (drop j ys))
      step_greater o e =
          let rest = joined keep (map f (drop i xs)) (map f (drop (j + 1) ys)) in
          pushed y e rest ∙ ap (λ (bs : List Bound). map f out ++ bs)
          (ap (λ (bs : List Bound). f y ∷ joined keep bs (map f (drop (j + 1) ys))) first ∙ sym (joined_greater (f x) (f y) (map f (drop (i + 1) xs)) (map f (drop (j + 1) ys)) (up_first up) (up_second uq) o) ∙ sym both)

      pub step_same : (z : X) → f z ≡ kept keep (f x) (f y) → name_cmp ((f x).name) ((f y).name) ≡ Equal → new ≡ out ++ z ∷ []
          → map f new ++ joined keep (map f (drop (i + 1) xs)) (map f (drop (j + 1) ys)) ≡ map f out ++ joined keep (map f (drop i xs)) (map f (drop j ys))
      step_same z k o e =
          let rest = joined keep (map f (drop (i + 1) xs)) (map f (drop (j + 1) ys)) in
          pushed z e rest ∙ ap (λ (bs : List Bound). map f out ++ bs)
          (ap (λ (b : Bound). b ∷ rest) k ∙ sym (joined_same (f x) (f y) (map f (drop (i + 1) xs)) (map f (drop (j + 1) ys)) (up_first up) (up_second uq) o) ∙ sym both)

  -- one of the two lists is at its end
  pub all_done : {X : Type 0} (f : X → Bound) (xs ys out out' new : List X) (i j : ℕ) (all : List Bound) → (length xs ≤ i) ⊎ (length ys ≤ j) → NamesAscend (map f (drop i xs))
      → map f out ++ joined keep (map f (drop i xs)) (map f (drop j ys)) ≡ all → out' ≡ out ++ drop i xs → new ≡ out' ++ drop j ys → map f new ≡ all
  all_done {X} f xs ys out out' new i j all end up is e1 e2 =
      ap (map f) (e2 ∙ ap (λ (zs : List X). zs ++ drop j ys) e1 ∙ append_assoc out (drop i xs) (drop j ys)) ∙ over out ∙ ap (λ (bs : List Bound). map f out ++ bs) (sym (last end)) ∙ is
    where
      over : (zs : List X) → map f (zs ++ (drop i xs ++ drop j ys)) ≡ map f zs ++ map f (drop i xs ++ drop j ys)
      over [] = refl
      over (z ∷ zs) = ap (λ (ws : List Bound). f z ∷ ws) (over zs)

      plain : (zs : List X) → zs ++ [] ≡ zs
      plain [] = refl
      plain (z ∷ zs) = ap (λ (ws : List X). z ∷ ws) (plain zs)

      last : (length xs ≤ i) ⊎ (length ys ≤ j) → joined keep (map f (drop i xs)) (map f (drop j ys)) ≡ map f (drop i xs ++ drop j ys)
      last (inl le) =
          ap (λ (zs : List X). joined keep (map f zs) (map f (drop j ys))) (drop_all i xs le) ∙ ap (λ (zs : List X). map f (zs ++ drop j ys)) (sym (drop_all i xs le))
      last (inr le) =
          ap (λ (zs : List X). joined keep (map f (drop i xs)) (map f zs)) (drop_all j ys le) ∙ joined_end (map f (drop i xs)) up
          ∙ ap (map f) (sym (plain (drop i xs)) ∙ ap (λ (zs : List X). drop i xs ++ zs) (sym (drop_all j ys le)))
