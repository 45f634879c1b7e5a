-- A pattern sees no places: what it says of a tree it says of each copy of it, with the places of the copy.
use Rattle.std.proofs.Common.{◌≡◌, ℕ, suc, List, [], ◌∷◌, ◌++◌, inl, inr, length, map, refl, sym, ap, ◌∙◌, subst, Bool, true, false, cond}
use Rattle.std.specs.Prelude.{Option, None, Some}
use Rattle.std.specs.Ordering.{is_lt, is_eq}
use Rattle.std.specs.List.{flat_map}
use Rattle.std.proofs.lemmas.List.Concat.{flat_map-cons}
use Rattle.node_tree.specs.declared.node.Node.{Node}
use Rattle.node_tree.specs.declared.kind.Kind.{Kind}
use Rattle.node_tree.specs.Tree.{kind_of, text_of, kids_of, span_of, pre_of, content_of, content_kind}
use Rattle.node_tree.proofs.Trees.{pre_is, content_from_parts}
use Rattle.meta_bind.specs.declared.bound.Bound.{Bound}
use Rattle.meta_bind.specs.Bounds.{name_cmp, bound_at, with_bound}
use Rattle.node_match.specs.Free.{HasText}
use Rattle.node_match.specs.Relation.{end_of, run_span, bound_by, Binds, fresh, again, all_strings, IsString}
use Rattle.piece_match.proofs.Copies.{SpanAt, Copy, copied, Copies, none_copied, more_copied, BoundAt, BoundsAt}

module _ (At : ℕ → ℕ → Type 0) where
  -- ---- trees

  pub copy_kind : (n m : Node) → Copy At n m → kind_of n ≡ kind_of m
  copy_kind n m (copied k t s ks) = k

  pub copy_text : (n m : Node) → Copy At n m → text_of n ≡ text_of m
  copy_text n m (copied k t s ks) = t

  pub copy_span : (n m : Node) → Copy At n m → SpanAt At (span_of n) (span_of m)
  copy_span n m (copied k t s ks) = s

  pub copy_kids : (n m : Node) → Copy At n m → Copies At (kids_of n) (kids_of m)
  copy_kids n m (copied k t s ks) = ks

  pub copies_length : (ns ms : List Node) → Copies At ns ms → length ns ≡ length ms
  copies_length [] [] none_copied = refl
  copies_length [] (m ∷ ms) x = elim x [ ]
  copies_length (n ∷ ns) [] x = elim x [ ]
  copies_length (n ∷ ns) (m ∷ ms) (more_copied x xs) = ap suc (copies_length ns ms xs)

  copies_append : (ns ms ks ls : List Node) → Copies At ns ms → Copies At ks ls → Copies At (ns ++ ks) (ms ++ ls)
  copies_append [] [] ks ls none_copied y = y
  copies_append [] (m ∷ ms) ks ls x y = elim x [ ]
  copies_append (n ∷ ns) [] ks ls x y = elim x [ ]
  copies_append (n ∷ ns) (m ∷ ms) ks ls (more_copied x xs) y = more_copied x (copies_append ns ms ks ls xs y)

  mutual
    same_content : (n m : Node) → Copy At n m → content_of n ≡ content_of m
    same_content n m (copied k t s ks) = content_from_parts n m (record { kind = ap content_kind k; text = t; kids = same_contents (kids_of n) (kids_of m) ks })

    same_contents : (ns ms : List Node) → Copies At ns ms → map content_of ns ≡ map content_of ms
    same_contents [] [] none_copied = refl
    same_contents [] (m ∷ ms) x = elim x [ ]
    same_contents (n ∷ ns) [] x = elim x [ ]
    same_contents (n ∷ ns) (m ∷ ms) (more_copied x xs) =
        ap (λ (c : Node). c ∷ map content_of ns) (same_content n m x) ∙ ap (λ (cs : List Node). content_of m ∷ cs) (same_contents ns ms xs)

  mutual
    pub pre_copied : (n m : Node) → Copy At n m → Copies At (pre_of n) (pre_of m)
    pre_copied n m (copied k t s ks) =
        let P : List Node → Type 0 = λ x. Copies At x (pre_of m) in
        let Q : List Node → Type 0 = λ x. Copies At (n ∷ flat_map pre_of (kids_of n)) x in
        subst P (sym (pre_is n)) (subst Q (sym (pre_is m)) (more_copied (copied k t s ks) (pres_copied (kids_of n) (kids_of m) ks)))

    pub pres_copied : (ns ms : List Node) → Copies At ns ms → Copies At (flat_map pre_of ns) (flat_map pre_of ms)
    pres_copied [] [] none_copied = none_copied
    pres_copied [] (m ∷ ms) x = elim x [ ]
    pres_copied (n ∷ ns) [] x = elim x [ ]
    pres_copied (n ∷ ns) (m ∷ ms) (more_copied x xs) =
        let P : List Node → Type 0 = λ z. Copies At z (flat_map pre_of (m ∷ ms)) in
        let Q : List Node → Type 0 = λ z. Copies At (pre_of n ++ flat_map pre_of ns) z in
        subst P (sym (flat_map-cons pre_of n ns)) (subst Q (sym (flat_map-cons pre_of m ms)) (copies_append (pre_of n) (pre_of m) (flat_map pre_of ns) (flat_map pre_of ms) (pre_copied n m x) (pres_copied ns ms xs)))

  -- ---- runs

  ends_copied : (n m : Node) (ns ms : List Node) → Copy At n m → Copies At ns ms → At (end_of n ns) (end_of m ms)
  ends_copied n m [] [] x none_copied = (copy_span n m x).1
  ends_copied n m [] (l ∷ ms) x y = elim y [ ]
  ends_copied n m (k ∷ ns) [] x y = elim y [ ]
  ends_copied n m (k ∷ ns) (l ∷ ms) x (more_copied y ys) = ends_copied k l ns ms y ys

  pub run_copied : (h g : Node) (ns ms : List Node) → Copy At h g → Copies At ns ms → SpanAt At (run_span h ns) (run_span g ms)
  run_copied h g [] [] x none_copied = let s = copy_span h g x in (s.0, s.0)
  run_copied h g [] (m ∷ ms) x y = elim y [ ]
  run_copied h g (n ∷ ns) [] x y = elim y [ ]
  run_copied h g (n ∷ ns) (m ∷ ms) x (more_copied y ys) = ((copy_span n m y).0, ends_copied n m ns ms y ys)

  -- ---- bindings

  abbrev FoundAt : Option Bound → Option Bound → Type 0
  FoundAt None None = Unit {0}
  FoundAt (Some b) (Some c) = b.nodes ≡ c.nodes
  FoundAt None (Some c) = ⊥
  FoundAt (Some b) None = ⊥

  found_at : (name : List ℕ) (bs cs : List Bound) → BoundsAt At bs cs → FoundAt (bound_at name bs) (bound_at name cs)
  found_at name [] [] x = tt
  found_at name [] (c ∷ cs) x = absurd x
  found_at name (b ∷ bs) [] x = absurd x
  found_at name (b ∷ bs) (c ∷ cs) (x, rest) =
      let P : List ℕ → Type 0 = λ z. FoundAt (cond (is_eq (name_cmp b.name name)) (Some b) (bound_at name bs)) (cond (is_eq (name_cmp z name)) (Some c) (bound_at name cs)) in
      subst P x.0 (at (is_eq (name_cmp b.name name)) (found_at name bs cs rest))
    where
      at : (t : Bool) → FoundAt (bound_at name bs) (bound_at name cs) → FoundAt (cond t (Some b) (bound_at name bs)) (cond t (Some c) (bound_at name cs))
      at true later = x.2
      at false later = later

  none_found : (o q : Option Bound) → FoundAt o q → o ≡ None → q ≡ None
  none_found None None x e = refl
  none_found (Some b) None x e = refl
  none_found None (Some c) x e = absurd x
  none_found (Some b) (Some c) x e = absurd cc

  some_found : (o q : Option Bound) (b : Bound) → FoundAt o q → o ≡ Some b → (c : Bound) × (q ≡ Some c) × (c.nodes ≡ b.nodes)
  some_found None None b x e = absurd cc
  some_found None (Some c) b x e = absurd x
  some_found (Some a) None b x e = absurd x
  some_found (Some a) (Some c) b x e = let f : Option Bound → List Node = λ o. elim o [ None ↦ a.nodes | Some z ↦ z.nodes ] in (c, refl, sym x ∙ ap f e)

  one_more : (x y : Bound) (bs cs : List Bound) → BoundAt At x y → BoundsAt At bs cs → BoundsAt At (with_bound x bs) (with_bound y cs)
  one_more x y [] [] e rest = (e, tt)
  one_more x y [] (c ∷ cs) e rest = absurd rest
  one_more x y (b ∷ bs) [] e rest = absurd rest
  one_more x y (b ∷ bs) (c ∷ cs) e (f, rest) =
      let P : List ℕ → Type 0 = λ z. BoundsAt At (cond (is_lt (name_cmp x.name b.name)) (x ∷ b ∷ bs) (b ∷ with_bound x bs)) (cond (is_lt (name_cmp z c.name)) (y ∷ c ∷ cs) (c ∷ with_bound y cs)) in
      let Q : List ℕ → Type 0 = λ z. BoundsAt At (cond (is_lt (name_cmp x.name b.name)) (x ∷ b ∷ bs) (b ∷ with_bound x bs)) (cond (is_lt (name_cmp x.name z)) (y ∷ c ∷ cs) (c ∷ with_bound y cs)) in
      subst P e.0 (subst Q f.0 (at (is_lt (name_cmp x.name b.name)) (one_more x y bs cs e rest)))
    where
      at : (t : Bool) → BoundsAt At (with_bound x bs) (with_bound y cs) → BoundsAt At (cond t (x ∷ b ∷ bs) (b ∷ with_bound x bs)) (cond t (y ∷ c ∷ cs) (c ∷ with_bound y cs))
      at true later = (e, (f, rest))
      at false later = (f, later)

  pub binds_copied : (h g : Node) (name : List ℕ) (ns ms : List Node) (b c d : List Bound) → Copy At h g → Copies At ns ms → BoundsAt At b d → Binds h name ns b c
      → (e : List Bound) × BoundsAt At c e × Binds g name ms d e
  binds_copied h g name ns ms b _ d x xs y (fresh none) =
      let here = none_found (bound_at name b) (bound_at name d) (found_at name b d y) none in (
        with_bound (bound_by g name ms) d,
        one_more (bound_by h name ns) (bound_by g name ms) b d (refl, run_copied h g ns ms x xs, same_contents ns ms xs) y,
        fresh here,
      )
  binds_copied h g name ns ms b _ d x xs y (again old is same) =
      let (new, here, nodes) = some_found (bound_at name b) (bound_at name d) old (found_at name b d y) is in
      (d, y, again new here (nodes ∙ same ∙ same_contents ns ms xs))

  -- ---- matches

  strings_copied : (ns ms : List Node) → Copies At ns ms → all_strings ns → all_strings ms
  strings_copied [] [] none_copied s = tt
  strings_copied [] (m ∷ ms) x s = elim x [ ]
  strings_copied (n ∷ ns) [] x s = elim x [ ]
  strings_copied (n ∷ ns) (m ∷ ms) (more_copied x xs) (s, rest) = (sym (copy_kind n m x) ∙ s, strings_copied ns ms xs rest)

  pub string_copied : (n m : Node) → Copy At n m → IsString n → IsString m
  string_copied n m x (inl e) = inl (sym (copy_kind n m x) ∙ e)
  string_copied n m x (inr (e, all)) = inr (sym (copy_kind n m x) ∙ e, strings_copied (kids_of n) (kids_of m) (copy_kids n m x) all)

  pub text_copied : (p n m : Node) → Copy At n m → HasText p n → HasText p m
  text_copied p n m x (inl e) = inl (e ∙ copy_text n m x)
  text_copied p n m x (inr f) = inr f

  pub class_copied : (f : Kind → Bool) (n m : Node) → Copy At n m → f (kind_of n) ≡ true → f (kind_of m) ≡ true
  class_copied f n m x e = sym (ap f (copy_kind n m x)) ∙ e
