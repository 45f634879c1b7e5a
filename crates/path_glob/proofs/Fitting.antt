-- Patterns sign by sign. A sign that stands for any run may be met once: what follows it is looked for from there on.
use Rattle.std.proofs.Common.{◌≡◌, ◌↔◌, ◌≤◌, false, List, [], ◌∷◌, ◌++◌, length, refl, sym, ap, ◌∙◌, subst, arith, append_assoc}
use Rattle.std.specs.Prelude.{IsTrue}
use Rattle.path_glob.specs.Fitting.{Fits, FitsLater}
use Rattle.path_glob.specs.Fronts.{Meets}

-- the sign stands for any run
pub record StandsForAny {P X : Type 0} (Stands : P → List X → Type 0) (p : P) : Type 0 where
  pub any : (run : List X) → Stands p run

-- the sign stands for single items only
pub record StandsForOne {P X : Type 0} (Stands : P → List X → Type 0) (p : P) : Type 0 where
  pub one : (run : List X) → Stands p run → (x : X) × (run ≡ x ∷ [])

-- to fit these signs to these items it remains to fit those to those
pub record Remains {P X : Type 0} (Stands : P → List X → Type 0) (Ends : List X → Type 0) (signs : List P) (items : List X) (more : List P) (left : List X) : Type 0 where
  pub forth : Fits Stands Ends signs items → Fits Stands Ends more left
  pub back : Fits Stands Ends more left → Fits Stands Ends signs items
  pub later : FitsLater Stands Ends signs items → FitsLater Stands Ends more left
  pub fewer : length more ≤ length signs
  pub no_more : length left ≤ length items

module _ {P X : Type 0} (Stands : P → List X → Type 0) (Ends : List X → Type 0) where
  pub remains_first : (ps : List P) (xs : List X) → Remains Stands Ends ps xs ps xs
  remains_first ps xs = record { forth = λ f. f; back = λ f. f; later = λ f. f; fewer = omega arith; no_more = omega arith }

  one_forth : (p : P) (ps : List P) (x : X) (xs : List X) → StandsForOne Stands p → Fits Stands Ends (p ∷ ps) (x ∷ xs) → Fits Stands Ends ps xs
  one_forth p ps x xs one (run, rest, e, s, f) =
      let o = one.one run s in
      let y = o.0 in
      let r : run ≡ y ∷ [] = o.1 in
      let same : x ∷ xs ≡ y ∷ rest = e ∙ ap (λ (z : List X). z ++ rest) r in
      let same_rest : rest ≡ xs = cc in
      let F : List X → Type 0 = λ z. Fits Stands Ends ps z in
      subst F same_rest f

  one_back : (p : P) (ps : List P) (x : X) (xs : List X) → Stands p (x ∷ []) → Fits Stands Ends ps xs → Fits Stands Ends (p ∷ ps) (x ∷ xs)
  one_back p ps x xs s f = (x ∷ [], xs, refl, s, f)

  one_later : (p : P) (ps : List P) (x : X) (xs : List X) → StandsForOne Stands p → FitsLater Stands Ends (p ∷ ps) (x ∷ xs) → FitsLater Stands Ends ps xs
  one_later p ps x xs one ([], rest, e, f) =
      let F : List X → Type 0 = λ z. Fits Stands Ends (p ∷ ps) z in
      ([], xs, refl, one_forth p ps x xs one (subst F (sym e) f))
  one_later p ps x xs one (s ∷ ss, rest, e, (run, left, e2, st, f)) =
      let o = one.one run st in
      let y = o.0 in
      let r : run ≡ y ∷ [] = o.1 in
      let tail : xs ≡ ss ++ rest = cc in
      let split : rest ≡ (y ∷ []) ++ left = e2 ∙ ap (λ (z : List X). z ++ left) r in
      (ss ++ (y ∷ []), left, tail ∙ ap (λ (z : List X). ss ++ z) split ∙ sym (append_assoc ss (y ∷ []) left), f)

  remains_more : (signs : List P) (items : List X) (p : P) (ps : List P) (x : X) (xs : List X) → StandsForOne Stands p → Stands p (x ∷ []) → Remains Stands Ends signs items (p ∷ ps) (x ∷ xs) → Remains Stands Ends signs items ps xs
  remains_more signs items p ps x xs one s r = record {
    forth = λ f. one_forth p ps x xs one (r.forth f);
    back = λ f. r.back (one_back p ps x xs s f);
    later = λ f. one_later p ps x xs one (r.later f);
    fewer = omega (arith, r.fewer);
    no_more = omega (arith, r.no_more);
  }

  -- a sign for one item has no item, or not this one
  none_left : (p : P) (ps : List P) → StandsForOne Stands p → Fits Stands Ends (p ∷ ps) [] → ⊥
  none_left p ps one (run, rest, e, s, f) =
      let o = one.one run s in
      let r : run ≡ o.0 ∷ [] = o.1 in
      let same : [] ≡ o.0 ∷ rest = e ∙ ap (λ (z : List X). z ++ rest) r in
      absurd cc

  not_this : (p : P) (ps : List P) (x : X) (xs : List X) → StandsForOne Stands p → (Stands p (x ∷ []) → ⊥) → Fits Stands Ends (p ∷ ps) (x ∷ xs) → ⊥
  not_this p ps x xs one differs (run, rest, e, s, f) =
      let o = one.one run s in
      let y = o.0 in
      let r : run ≡ y ∷ [] = o.1 in
      let same : x ∷ xs ≡ y ∷ rest = e ∙ ap (λ (z : List X). z ++ rest) r in
      let same_run : run ≡ x ∷ [] = cc in
      let S : List X → Type 0 = λ z. Stands p z in
      differs (subst S same_run s)

  any_forth : (p : P) (ps : List P) (xs : List X) → FitsLater Stands Ends (p ∷ ps) xs → FitsLater Stands Ends ps xs
  any_forth p ps xs (skipped, rest, e, (run, left, e2, s, f)) =
      (skipped ++ run, left, e ∙ ap (λ (z : List X). skipped ++ z) e2 ∙ sym (append_assoc skipped run left), f)

  meets : (signs : List P) (items : List X) (p : P) (ps : List P) (xs : List X) → StandsForAny Stands p → Remains Stands Ends signs items (p ∷ ps) xs → Meets Stands Ends signs items ps xs
  meets signs items p ps xs any r = record {
    forth = λ f. any_forth p ps xs (r.later f);
    back = λ (skipped, rest, e, f). r.back (skipped, rest, e, any.any skipped, f);
    fewer = omega (arith, r.fewer);
    no_more = r.no_more;
  }

  -- where the signs don't fit here, they are looked for one item further
  one_further : (ps : List P) (x : X) (xs : List X) → (Fits Stands Ends ps (x ∷ xs) → ⊥) → FitsLater Stands Ends ps (x ∷ xs) → FitsLater Stands Ends ps xs
  one_further ps x xs misses ([], rest, e, f) = let F : List X → Type 0 = λ z. Fits Stands Ends ps z in absurd (misses (subst F (sym e) f))
  one_further ps x xs misses (s ∷ ss, rest, e, f) = let tail : xs ≡ ss ++ rest = cc in (ss, rest, tail, f)

  one_nearer : (ps : List P) (x : X) (xs : List X) → FitsLater Stands Ends ps xs → FitsLater Stands Ends ps (x ∷ xs)
  one_nearer ps x xs (skipped, rest, e, f) = (x ∷ skipped, rest, ap (λ (z : List X). x ∷ z) e, f)

  nowhere_left : (ps : List P) → (Fits Stands Ends ps [] → ⊥) → FitsLater Stands Ends ps [] → ⊥
  nowhere_left ps misses ([], rest, e, f) = let F : List X → Type 0 = λ z. Fits Stands Ends ps z in misses (subst F (sym e) f)
  nowhere_left ps misses (s ∷ ss, rest, e, f) = absurd cc

  pub fits_here : (ps : List P) (xs : List X) → Fits Stands Ends ps xs → FitsLater Stands Ends ps xs
  fits_here ps xs f = ([], xs, refl, f)

  -- the steps of a front, at a pattern and a list by their parts
  pub front_any : (signs : List P) (items : List X) (gs : List P) (xs : List X) (p : P) (ps : List P) → gs ≡ p ∷ ps → StandsForAny Stands p → Remains Stands Ends signs items gs xs → Meets Stands Ends signs items ps xs
  front_any signs items gs xs p ps e any r = let R : List P → Type 0 = λ z. Remains Stands Ends signs items z xs in meets signs items p ps xs any (subst R e r)

  pub front_more : (signs : List P) (items : List X) (gs : List P) (xs : List X) (p : P) (ps : List P) (y : X) (ys : List X) → gs ≡ p ∷ ps → xs ≡ y ∷ ys → StandsForOne Stands p → Stands p (y ∷ []) → Remains Stands Ends signs items gs xs → Remains Stands Ends signs items ps ys
  front_more signs items gs xs p ps y ys e d one s r =
      let R : List P → Type 0 = λ z. Remains Stands Ends signs items z xs in
      let Q : List X → Type 0 = λ z. Remains Stands Ends signs items (p ∷ ps) z in
      remains_more signs items p ps y ys one s (subst Q d (subst R e r))

  pub front_none : (signs : List P) (items : List X) (gs : List P) (xs : List X) (p : P) (ps : List P) → gs ≡ p ∷ ps → xs ≡ [] → StandsForOne Stands p → Remains Stands Ends signs items gs xs → Fits Stands Ends signs items → ⊥
  front_none signs items gs xs p ps e d one r f =
      let F : List P → Type 0 = λ z. Fits Stands Ends z xs in
      let G : List X → Type 0 = λ z. Fits Stands Ends (p ∷ ps) z in
      none_left p ps one (subst G d (subst F e (r.forth f)))

  pub front_not : (signs : List P) (items : List X) (gs : List P) (xs : List X) (p : P) (ps : List P) (y : X) (ys : List X) → gs ≡ p ∷ ps → xs ≡ y ∷ ys → StandsForOne Stands p → (Stands p (y ∷ []) → ⊥) → Remains Stands Ends signs items gs xs → Fits Stands Ends signs items → ⊥
  front_not signs items gs xs p ps y ys e d one differs r f =
      let F : List P → Type 0 = λ z. Fits Stands Ends z xs in
      let G : List X → Type 0 = λ z. Fits Stands Ends (p ∷ ps) z in
      not_this p ps y ys one differs (subst G d (subst F e (r.forth f)))

  pub front_whole : (signs : List P) (items : List X) (gs : List P) (xs : List X) → gs ≡ [] → Ends xs → Remains Stands Ends signs items gs xs → Fits Stands Ends signs items
  front_whole signs items gs xs e end r = let F : List P → Type 0 = λ z. Fits Stands Ends z xs in r.back (subst F (sym e) end)

  pub front_over : (signs : List P) (items : List X) (gs : List P) (xs : List X) → gs ≡ [] → (Ends xs → ⊥) → Remains Stands Ends signs items gs xs → Fits Stands Ends signs items → ⊥
  front_over signs items gs xs e over r f = let F : List P → Type 0 = λ z. Fits Stands Ends z xs in over (subst F e (r.forth f))

  -- the steps of a search from place to place
  pub search_ends : (signs : List P) (items : List X) (gs : List P) (xs : List X) → (FitsLater Stands Ends signs items ↔ FitsLater Stands Ends gs xs) → xs ≡ [] → (Fits Stands Ends gs xs → ⊥) → IsTrue false ↔ FitsLater Stands Ends signs items
  search_ends signs items gs xs same e misses =
      let L : List X → Type 0 = λ z. FitsLater Stands Ends gs z in
      let F : List X → Type 0 = λ z. Fits Stands Ends gs z in
      (λ f. absurd cc, λ f. absurd (nowhere_left gs (λ g. misses (subst F (sym e) g)) (subst L e (same.0 f))))

  pub search_goes : (signs : List P) (items : List X) (gs : List P) (xs : List X) (y : X) (ys : List X) → (FitsLater Stands Ends signs items ↔ FitsLater Stands Ends gs xs) → xs ≡ y ∷ ys → (Fits Stands Ends gs xs → ⊥) → FitsLater Stands Ends signs items ↔ FitsLater Stands Ends gs ys
  search_goes signs items gs xs y ys same e misses =
      let L : List X → Type 0 = λ z. FitsLater Stands Ends gs z in
      let F : List X → Type 0 = λ z. Fits Stands Ends gs z in
      (λ f. one_further gs y ys (λ g. misses (subst F (sym e) g)) (subst L e (same.0 f)), λ f. same.1 (subst L (sym e) (one_nearer gs y ys f)))
