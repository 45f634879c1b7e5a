-- Keys with numbers, one more.
use Rattle.std.proofs.Common.{◌≡◌, ◌⊎◌, inl, inr, ℕ, zero, suc, Bool, true, false, cond, List, [], ◌∷◌, ◌++◌, length, refl, sym, ap, ◌∙◌}
use Rattle.std.specs.Prelude.{Option, None, Some, is_some, slice_get}
use Rattle.std.specs.declared.cmp.Ordering.{Ordering}
use Rattle.std.specs.declared.cmp.Ordering.TheVariants.{Equal}
use Rattle.std.specs.Ordering.{is_eq}
use Rattle.std.specs.Cmp.{IsTotalOrder}
use Rattle.std.specs.Map.{lookup}
use Rattle.std.specs.BTreeMap.{BTreeMap, get, is_at}
use Rattle.std.proofs.lemmas.Cmp.{tied_itself, tied_back}
use Rattle.taint_form.specs.Tables.{AreNumbers}
use Rattle.taint_form.proofs.Maps.{is_equal}

module _ {K : Type 0} where
  at_end : (xs : List K) (x : K) → slice_get (xs ++ x ∷ []) (length xs) ≡ Some x
  at_end [] x = refl
  at_end (y ∷ ys) x = at_end ys x

  at_before : (xs : List K) (x y : K) (i : ℕ) → slice_get xs i ≡ Some y → slice_get (xs ++ x ∷ []) i ≡ Some y
  at_before [] x y i e = absurd cc
  at_before (z ∷ zs) x y zero e = e
  at_before (z ∷ zs) x y (suc i) e = at_before zs x y i e

  at_either : (xs : List K) (x y : K) (i : ℕ) → slice_get (xs ++ x ∷ []) i ≡ Some y → (slice_get xs i ≡ Some y) ⊎ ((i ≡ length xs) × (x ≡ y))
  at_either [] x y zero e = inr (refl, let q : Some x ≡ Some y = e in cc)
  at_either [] x y (suc i) e = absurd cc
  at_either (z ∷ zs) x y zero e = inl e
  at_either (z ∷ zs) x y (suc i) e = elim (at_either zs x y i e) [ inl a ↦ inl a | inr (p, q) ↦ inr (ap suc p, q) ]

pub none_of : {X : Type 0} (o : Option X) → is_some o ≡ false → o ≡ None
none_of None e = refl
none_of (Some x) e = absurd cc

module _ {K : Type 0} (cmp : K → K → Ordering) (total : IsTotalOrder cmp) where
  same_found : (p q : K) → cmp p q ≡ Equal → (es : List (K × ℕ)) → lookup (is_at (cmp p)) es ≡ lookup (is_at (cmp q)) es
  same_found p q e [] = refl
  same_found p q e (x ∷ xs) =
      ap (λ (o : Ordering). cond (is_eq o) (Some x.1) (lookup (is_at (cmp p)) xs)) (total.congr p q x.0 e) ∙ ap (λ (r : Option ℕ). cond (is_eq (cmp q x.0)) (Some x.1) r) (same_found p q e xs)

  module _ (old new : BTreeMap K ℕ) (keys : List K) (key : K) (absent : get cmp old key ≡ None) (updates : (q : K) → get cmp new q ≡ cond (is_eq (cmp key q)) (Some (length keys)) (get cmp old q)) (numbers : AreNumbers cmp old keys) where
    there_new : (q : K) (i : ℕ) → get cmp new q ≡ Some i → (b : Bool) → is_eq (cmp key q) ≡ b → (other : K) × (slice_get (keys ++ key ∷ []) i ≡ Some other) × (cmp q other ≡ Equal)
    there_new q i got true e =
        let n : Some (length keys) ≡ Some i = sym (updates q ∙ ap (λ b. cond b (Some (length keys)) (get cmp old q)) e) ∙ got in
        let same : length keys ≡ i = cc in
        (key, ap (slice_get (keys ++ key ∷ [])) (sym same) ∙ at_end keys key, tied_back total key q (is_equal (cmp key q) e))
    there_new q i got false e =
        let r = numbers.there q i (sym (updates q ∙ ap (λ b. cond b (Some (length keys)) (get cmp old q)) e) ∙ got) in
        (r.0, at_before keys key r.0 i r.1, r.2)

    found_old : (k : K) (i : ℕ) → get cmp old k ≡ Some i → (b : Bool) → is_eq (cmp key k) ≡ b → get cmp new k ≡ Some i
    found_old k i got true e = absurd (let n : None ≡ Some i = sym absent ∙ same_found key k (is_equal (cmp key k) e) old.entries ∙ got in cc)
    found_old k i got false e = updates k ∙ ap (λ b. cond b (Some (length keys)) (get cmp old k)) e ∙ got

    pub numbered_more : AreNumbers cmp new (keys ++ key ∷ [])
    numbered_more = record {
      there = λ q i got. there_new q i got (is_eq (cmp key q)) refl;
      found = λ i k at. elim (at_either keys key k i at) [
        | inl o ↦ found_old k i (numbers.found i k o) (is_eq (cmp key k)) refl
        | inr (e, is) ↦
            ap (get cmp new) (sym is) ∙ updates key ∙ ap (λ b. cond b (Some (length keys)) (get cmp old key)) (ap is_eq (tied_itself total key)) ∙ ap (λ n. Some n) (sym e)
      ];
    }
