-- Two lists in order, made one.
use Rattle.std.proofs.Common.{◌≡◌, ◌⊎◌, inl, inr, ◌↔◌, List, [], ◌∷◌, ◌++◌, refl, sym, ap, ◌∙◌, subst, arith}
use Rattle.std.specs.Prelude.{◌<◌, ◌+◌, length, reverse, Option, None, Some, IfSome, MatchOption}
use Rattle.std.specs.Cmp.{IsTotalOrder}
use Rattle.std.specs.Ordering.{ordering_reverse}
use Rattle.std.specs.declared.cmp.Ordering.{Ordering}
use Rattle.std.specs.declared.cmp.Ordering.TheVariants.{Less, Equal, Greater}
use Rattle.std.proofs.lemmas.List.{reverse-append, append_assoc, length_push}
use Rattle.node_match.specs.Sets.{Among}
use Rattle.tree_match.specs.Ascending.{IsAscending}
use Rattle.seen_files.specs.Merging.{ComesFirst, IsAfter, Merges, at_ends, of_first, of_second, AreMergeable, AreMerged}

module _ {X : Type 0} (R : X → X → Ordering) where
  -- ---- the lists have the items of both

  pub merges_exact : (xs ys zs : List X) → Merges R xs ys zs → (z : X) → Among zs z ↔ (Among xs z ⊎ Among ys z)
  merges_exact _ _ _ at_ends z = (λ h. absurd h, λ h. elim h [ inl a ↦ absurd a | inr b ↦ absurd b ])
  merges_exact _ _ _ (of_first {x = x} {xs = xs} {ys = ys} {zs = zs} c m) z =
      let rest = merges_exact xs ys zs m z in (
        λ h. elim h [ inl e ↦ inl (inl e) | inr a ↦ elim (rest.0 a) [ inl b ↦ inl (inr b) | inr b ↦ inr b ] ],
        λ h. elim h [ inl a ↦ elim a [ inl e ↦ inl e | inr b ↦ inr (rest.1 (inl b)) ] | inr b ↦ inr (rest.1 (inr b)) ],
      )
  merges_exact _ _ _ (of_second {y = y} {xs = xs} {ys = ys} {zs = zs} c m) z =
      let rest = merges_exact xs ys zs m z in (
        λ h. elim h [ inl e ↦ inr (inl e) | inr a ↦ elim (rest.0 a) [ inl b ↦ inl b | inr b ↦ inr (inr b) ] ],
        λ h. elim h [ inl a ↦ inr (rest.1 (inl a)) | inr a ↦ elim a [ inl e ↦ inl e | inr b ↦ inr (rest.1 (inr b)) ] ],
      )

  -- ---- they are in order

  -- what comes neither after nor ties comes before
  is_before : (a : Ordering) → (a ≡ Greater → ⊥) → (a ≡ Equal → ⊥) → a ≡ Less
  is_before Less later tied = refl
  is_before Equal later tied = absurd (tied refl)
  is_before Greater later tied = absurd (later refl)

  abbrev Untied : List X → List X → Type 0
  Untied xs ys = (x y : X) → Among xs x → Among ys y → R x y ≡ Equal → ⊥

  first_on : (x : X) (ys : List X) → ComesFirst R x ys → ((y : X) → Among ys y → R x y ≡ Equal → ⊥) → IsAscending R ys → IsAscending R (x ∷ ys)
  first_on x [] c untied up = tt
  first_on x (y ∷ ys) c untied up = (is_before (R x y) c (untied y (inl refl)), up)

  module _ (o : IsTotalOrder R) where
    second_on : (y : X) (xs : List X) → IsAfter R y xs → IsAscending R xs → IsAscending R (y ∷ xs)
    second_on y [] c up = tt
    second_on y (x ∷ xs) c up = (o.antisymm y x ∙ ap ordering_reverse c, up)

    -- an item before both lists is before what they are made
    stays_below : (xs ys zs : List X) → Merges R xs ys zs → Untied xs ys → (z : X) → IsAscending R (z ∷ xs) → IsAscending R (z ∷ ys) → IsAscending R (z ∷ zs)
    stays_below _ _ _ at_ends untied z a b = tt
    stays_below _ _ _ (of_first {x = x} {xs = xs} {ys = ys} {zs = zs} c m) untied z a b =
        (a.0, stays_below xs ys zs m (λ v w h k. untied v w (inr h) k) x a.1 (first_on x ys c (λ y k. untied x y (inl refl) k) (rest ys b)))
      where
        rest : (ws : List X) → IsAscending R (z ∷ ws) → IsAscending R ws
        rest [] up = tt
        rest (w ∷ ws) up = up.1
    stays_below _ _ _ (of_second {y = y} {xs = xs} {ys = ys} {zs = zs} c m) untied z a b =
        (b.0, stays_below xs ys zs m (λ v w h k. untied v w h (inr k)) y (second_on y xs c (rest xs a)) b.1)
      where
        rest : (ws : List X) → IsAscending R (z ∷ ws) → IsAscending R ws
        rest [] up = tt
        rest (w ∷ ws) up = up.1

    merges_ordered : (xs ys zs : List X) → Merges R xs ys zs → Untied xs ys → IsAscending R xs → IsAscending R ys → IsAscending R zs
    merges_ordered _ _ _ at_ends untied a b = tt
    merges_ordered _ _ _ (of_first {x = x} {xs = xs} {ys = ys} {zs = zs} c m) untied a b =
        stays_below xs ys zs m (λ v w h k. untied v w (inr h) k) x a (first_on x ys c (λ y k. untied x y (inl refl) k) b)
    merges_ordered _ _ _ (of_second {y = y} {xs = xs} {ys = ys} {zs = zs} c m) untied a b = stays_below xs ys zs m (λ v w h k. untied v w h (inr k)) y (second_on y xs c a) b

    pub all_merged : (xs ys zs : List X) → Merges R xs ys zs → AreMergeable R xs ys → AreMerged R xs ys zs
    all_merged xs ys zs m able = record { ordered = merges_ordered xs ys zs m able.untied able.first able.second; exact = merges_exact xs ys zs m }

  -- ---- one item is taken off

  last_first : (old new : List X) (x : X) → old ≡ new ++ x ∷ [] → reverse old ≡ x ∷ reverse new
  last_first old new x e = ap reverse e ∙ reverse-append new (x ∷ [])

  -- of the first list, where the second has none
  pub takes_alone : (first second first' second' : List X) (x : X) (rest : List X) → second ≡ [] → second' ≡ [] → first ≡ first' ++ x ∷ [] → Merges R (reverse first') (reverse second') rest → Merges R (reverse first) (reverse second) (x ∷ rest)
  takes_alone first second first' second' x rest none none' is m =
      let P : List X → Type 0 = λ xs. Merges R xs (reverse second) (x ∷ rest) in
      let Q : List X → Type 0 = λ ys. Merges R (x ∷ reverse first') ys (x ∷ rest) in
      let S : List X → Type 0 = λ ys. Merges R (reverse first') ys rest in
      subst P (sym (last_first first first' x is)) (subst Q (sym (ap reverse none)) (of_first tt (subst S (ap reverse none') m)))

  -- of the second, where the first has none
  pub takes_other : (first second first' second' : List X) (y : X) (rest : List X) → first ≡ [] → first' ≡ [] → second ≡ second' ++ y ∷ [] → Merges R (reverse first') (reverse second') rest → Merges R (reverse first) (reverse second) (y ∷ rest)
  takes_other first second first' second' y rest none none' is m =
      let P : List X → Type 0 = λ ys. Merges R (reverse first) ys (y ∷ rest) in
      let Q : List X → Type 0 = λ xs. Merges R xs (y ∷ reverse second') (y ∷ rest) in
      let S : List X → Type 0 = λ xs. Merges R xs (reverse second') rest in
      subst P (sym (last_first second second' y is)) (subst Q (sym (ap reverse none)) (of_second tt (subst S (ap reverse none') m)))

  -- of the first, whose last doesn't come after that of the second, which is put back
  pub takes_first : (first second first' less second' : List X) (x y : X) (rest : List X) → first ≡ first' ++ x ∷ [] → second ≡ less ++ y ∷ [] → second' ≡ less ++ y ∷ [] → (R x y ≡ Greater → ⊥) → Merges R (reverse first') (reverse second') rest
      → Merges R (reverse first) (reverse second) (x ∷ rest)
  takes_first first second first' less second' x y rest is there back before m =
      let P : List X → Type 0 = λ xs. Merges R xs (reverse second) (x ∷ rest) in
      let Q : List X → Type 0 = λ ys. Merges R (x ∷ reverse first') ys (x ∷ rest) in
      let S : List X → Type 0 = λ ys. Merges R (reverse first') ys rest in
      subst P (sym (last_first first first' x is)) (subst Q (sym (last_first second less y there)) (of_first before (subst S (last_first second' less y back) m)))

  -- of the second, before which the last of the first doesn't come, which is put back
  pub takes_second : (first second less first' second' : List X) (x y : X) (rest : List X) → first ≡ less ++ x ∷ [] → first' ≡ less ++ x ∷ [] → second ≡ second' ++ y ∷ [] → R x y ≡ Greater → Merges R (reverse first') (reverse second') rest
      → Merges R (reverse first) (reverse second) (y ∷ rest)
  takes_second first second less first' second' x y rest there back is after m =
      let P : List X → Type 0 = λ ys. Merges R (reverse first) ys (y ∷ rest) in
      let Q : List X → Type 0 = λ xs. Merges R xs (y ∷ reverse second') (y ∷ rest) in
      let S : List X → Type 0 = λ xs. Merges R xs (reverse second') rest in
      subst P (sym (last_first second second' y is)) (subst Q (sym (last_first first less x there)) (of_second after (subst S (last_first first' less x back) m)))

  -- the same of whatever was the last of the first list
  pub takes_any : (first second first' second' : List X) (o : Option X) → MatchOption o ((first ≡ []) × (first' ≡ [])) (λ x. first ≡ first' ++ x ∷ []) → second ≡ [] → second' ≡ []
      → MatchOption o ((first ≡ []) × (second ≡ [])) (λ x. (rest : List X) → Merges R (reverse first') (reverse second') rest → Merges R (reverse first) (reverse second) (x ∷ rest))
  takes_any first second first' second' None h none none' = (h.0, none)
  takes_any first second first' second' (Some x) h none none' = λ rest. takes_alone first second first' second' x rest none none' h

  -- ---- what is left gets shorter

  shorter_one : (old new : List X) (x : X) → old ≡ new ++ x ∷ [] → length new < length old
  shorter_one old new x e = let f = ap length e in let g = length_push new x in omega (arith, f, g)

  same_one : (old less new : List X) (x : X) → old ≡ less ++ x ∷ [] → new ≡ less ++ x ∷ [] → length new ≡ length old
  same_one old less new x e f = ap length (f ∙ sym e)

  pub shorter_any : (first second first' second' : List X) (o : Option X) → MatchOption o ((first ≡ []) × (first' ≡ [])) (λ x. first ≡ first' ++ x ∷ []) → second ≡ [] → second' ≡ []
      → IfSome o (λ x. length first' + length second' < length first + length second)
  shorter_any first second first' second' None h none none' = tt
  shorter_any first second first' second' (Some x) h none none' =
      let f = shorter_one first first' x h in
      let g = ap length (none' ∙ sym none) in
      omega (arith, f, g)

  pub shorter_other : (first second first' second' : List X) (y : X) → first ≡ [] → first' ≡ [] → second ≡ second' ++ y ∷ [] → length first' + length second' < length first + length second
  shorter_other first second first' second' y none none' is =
      let f = shorter_one second second' y is in
      let g = ap length (none' ∙ sym none) in
      omega (arith, f, g)

  pub shorter_first : (first second first' less second' : List X) (x y : X) → first ≡ first' ++ x ∷ [] → second ≡ less ++ y ∷ [] → second' ≡ less ++ y ∷ [] → length first' + length second' < length first + length second
  shorter_first first second first' less second' x y is there back =
      let f = shorter_one first first' x is in
      let g = same_one second less second' y there back in
      omega (arith, f, g)

  pub shorter_second : (first second less first' second' : List X) (x y : X) → first ≡ less ++ x ∷ [] → first' ≡ less ++ x ∷ [] → second ≡ second' ++ y ∷ [] → length first' + length second' < length first + length second
  shorter_second first second less first' second' x y there back is =
      let f = shorter_one second second' y is in
      let g = same_one first less first' x there back in
      omega (arith, f, g)

  -- ---- the walk to the end

  -- whatever the rest is made, what was taken stands before it
  abbrev pub Merging : List X → List X → List X → List X → List X → Type 0
  Merging xs ys all first second = (rest : List X) → Merges R (reverse first) (reverse second) rest → Merges R xs ys (all ++ rest)

  pub merging_on : (xs ys all first second first' second' all' : List X) (one : X) → Merging xs ys all first second → all' ≡ all ++ one ∷ []
      → ((rest : List X) → Merges R (reverse first') (reverse second') rest → Merges R (reverse first) (reverse second) (one ∷ rest)) → Merging xs ys all' first' second'
  merging_on xs ys all first second first' second' all' one so_far push step rest m =
      let P : List X → Type 0 = λ zs. Merges R xs ys zs in
      subst P (sym (ap (λ (zs : List X). zs ++ rest) push ∙ append_assoc all (one ∷ []) rest)) (so_far (one ∷ rest) (step rest m))

  pub merging_none : (xs ys all : List X) → all ≡ [] → Merging (reverse xs) (reverse ys) all xs ys
  merging_none xs ys all e rest m = let P : List X → Type 0 = λ zs. Merges R (reverse xs) (reverse ys) (zs ++ rest) in subst P (sym e) m

  pub merging_end : (xs ys all first second : List X) → Merging xs ys all first second → first ≡ [] → second ≡ [] → Merges R xs ys all
  merging_end xs ys all first second so_far none none' =
      let P : List X → Type 0 = λ zs. Merges R xs ys zs in
      let A : List X → Type 0 = λ l. Merges R (reverse l) (reverse second) [] in
      let B : List X → Type 0 = λ l. Merges R [] (reverse l) [] in
      subst P (nothing_more all) (so_far [] (subst A (sym none) (subst B (sym none') at_ends)))
    where
      nothing_more : (zs : List X) → zs ++ [] ≡ zs
      nothing_more [] = refl
      nothing_more (z ∷ zs) = ap (λ (ws : List X). z ∷ ws) (nothing_more zs)
