-- What the kids that are left have to match, by what stands first among the patterns.
use Rattle.std.proofs.Common.{◌≡◌, ◌⊎◌, inl, inr, ◌↔◌, ℕ, zero, suc, ◌+◌, ◌≤◌, List, [], ◌∷◌, length, drop, sym, ap, ◌∙◌, subst, arith, Bool, true, false}
use Rattle.std.proofs.lemmas.List.{drop_all, drop-drop}
use Rattle.node_tree.specs.declared.node.Node.{Node}
use Rattle.node_tree.specs.Tree.{kind_of}
use Rattle.meta_bind.specs.declared.bound.Bound.{Bound}
use Rattle.node_match.specs.declared.class.Role.{Role}
use Rattle.node_match.specs.declared.class.Role.TheVariants as roles
use Rattle.node_match.specs.Kinds.{role_of, IsOne}
use Rattle.std.specs.Prelude.{Some}
use Rattle.node_match.specs.Free.{Part}
use Rattle.node_match.specs.Fronts.{End, Leads, head_front, dots_front, named_dots_front}
use Rattle.node_search.specs.States.{Goes, Runs, Heads}
use Rattle.node_tree.specs.declared.known.Known.{Known}
use Rattle.node_tree.specs.Numbers.{Numbered}
use Rattle.node_match.proofs.Inversion.{no_dots, no_meta_dots}

-- ---- a list

module _ (C : List Known) where
  pub heads : (h : Numbered) (p : Node) (ps : List Part) (ns : List Numbered) (b : List Bound) (c : End) → IsOne (role_of (kind_of p)) → Heads C h p ps ns b c ↔ Leads C h (Some p ∷ ps) ns b c
  heads h p ps ns b c one = (λ x. from ns x, λ x. to ns c x)
    where
      from : (ns : List Numbered) → Heads C h p ps ns b c → Leads C h (Some p ∷ ps) ns b c
      from [] x = absurd x
      from (n ∷ ns) (d, x, y) = head_front x y

      to : (ns : List Numbered) (c : End) → Leads C h (Some p ∷ ps) ns b c → Heads C h p ps ns b c
      to (n ∷ ns) c (head_front {c = d} x y) = (d, x, y)
      to ns c (dots_front k r x) = let P : Role → Type 0 = IsOne in absurd (subst P r one)
      to ns c (named_dots_front k r x y) = let P : Role → Type 0 = IsOne in absurd (subst P r one)

  pub after_dots : (h : Numbered) (p : Node) (ps : List Part) (ns : List Numbered) (b : List Bound) (c : End) → role_of (kind_of p) ≡ roles.Dots → Goes C true h ps ns b c ↔ Leads C h (Some p ∷ ps) ns b c
  after_dots h p ps ns b c role = (λ (k, x). dots_front k role x, λ x. to ns c x)
    where
      to : (ns : List Numbered) (c : End) → Leads C h (Some p ∷ ps) ns b c → Goes C true h ps ns b c
      to (n ∷ ns) c (head_front x y) = absurd (no_dots C h p n b _ role x)
      to ns c (dots_front k _ x) = (k, x)
      to ns c (named_dots_front k r x y) = absurd (let e = sym role ∙ r in cc)

  pub after_run : (h : Numbered) (p : Node) (ps : List Part) (ns : List Numbered) (b : List Bound) (c : End) → role_of (kind_of p) ≡ roles.MetaDots → Runs C 0 h p ps ns b c ↔ Leads C h (Some p ∷ ps) ns b c
  after_run h p ps ns b c role = (λ (k, le, d, x, y). named_dots_front k role x y, λ x. to ns c x)
    where
      to : (ns : List Numbered) (c : End) → Leads C h (Some p ∷ ps) ns b c → Runs C 0 h p ps ns b c
      to (n ∷ ns) c (head_front x y) = absurd (no_meta_dots C h p n b _ role x)
      to ns c (dots_front k r x) = absurd (let e = sym role ∙ r in cc)
      to ns c (named_dots_front {c = d} k _ x y) = (k, omega arith, d, x, y)

-- ---- a floating state

module _ (C : List Known) where
  module _ (h : Numbered) (ps : List Part) (ns : List Numbered) (b : List Bound) (c : End) (i : ℕ) where
    pub goes_more : Goes C true h ps (drop i ns) b c ↔ (Leads C h ps (drop i ns) b c ⊎ Goes C true h ps (drop (i + 1) ns) b c)
    goes_more = (λ (k, x). to k x, λ a. elim a [ inl x ↦ (0, x) | inr (k, x) ↦ let P : List Numbered → Type 0 = λ ms. Leads C h ps ms b c in (suc k, subst P (shift k) x) ])
      where
        shift : (k : ℕ) → drop k (drop (i + 1) ns) ≡ drop (suc k) (drop i ns)
        shift k = let e : i + 1 + k ≡ i + suc k = omega arith in drop-drop k (i + 1) ns ∙ ap (λ j. drop j ns) e ∙ sym (drop-drop (suc k) i ns)

        to : (k : ℕ) → Leads C h ps (drop k (drop i ns)) b c → Leads C h ps (drop i ns) b c ⊎ Goes C true h ps (drop (i + 1) ns) b c
        to zero x = inl x
        to (suc k) x = let P : List Numbered → Type 0 = λ ms. Leads C h ps ms b c in inr (k, subst P (sym (shift k)) x)

    pub goes_last : length ns ≤ i → Leads C h ps (drop i ns) b c ↔ Goes C true h ps (drop i ns) b c
    goes_last le = (
      λ x. (0, x),
      λ (k, x). let P : List Numbered → Type 0 = λ ms. Leads C h ps ms b c in
          subst P (drop-drop k i ns ∙ drop_all (i + k) ns (omega arith) ∙ sym (drop_all i ns le)) x,
    )

  -- dots at a floating place float still
  pub dots_again : (h : Numbered) (p : Node) (ps : List Part) (ns : List Numbered) (b : List Bound) (c : End) (f : Bool) → role_of (kind_of p) ≡ roles.Dots → Goes C true h ps ns b c ↔ Goes C f h (Some p ∷ ps) ns b c
  dots_again h p ps ns b c false role = after_dots C h p ps ns b c role
  dots_again h p ps ns b c true role = (
    λ x. (0, (after_dots C h p ps ns b c role).0 x),
    λ (k, x). let (j, y) = (after_dots C h p ps (drop k ns) b c role).1 x in
        let P : List Numbered → Type 0 = λ ms. Leads C h ps ms b c in (k + j, subst P (drop-drop j k ns) y),
  )

  pub no_goes : (h : Numbered) (p : Node) (ps : List Part) (ns : List Numbered) (i : ℕ) (b : List Bound) (c : End) → IsOne (role_of (kind_of p)) → length ns ≤ i → Goes C true h (Some p ∷ ps) (drop i ns) b c → ⊥
  no_goes h p ps ns i b c one le (k, x) =
      let P : List Numbered → Type 0 = λ ms. Leads C h (Some p ∷ ps) ms b c in
      (heads C h p ps [] b c one).1 (subst P (drop-drop k i ns ∙ drop_all (i + k) ns (omega arith)) x)

module _ (C : List Known) where
  pub no_item : (h : Numbered) (p : Node) (ps : List Part) (ns : List Numbered) (i : ℕ) (b : List Bound) (c : End) → IsOne (role_of (kind_of p)) → length ns ≤ i → Leads C h (Some p ∷ ps) (drop i ns) b c → ⊥
  no_item h p ps ns i b c one le x = let P : List Numbered → Type 0 = λ ms. Leads C h (Some p ∷ ps) ms b c in (heads C h p ps [] b c one).1 (subst P (drop_all i ns le) x)
