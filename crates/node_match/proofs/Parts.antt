-- What a pattern node asks, kid by kid.
use Rattle.std.proofs.Common.{◌≡◌, inl, inr, ℕ, zero, suc, ◌+◌, ◌<◌, List, [], ◌∷◌, length, drop, get_or, refl, sym, ap, ◌∙◌, arith, add-one}
use Rattle.std.specs.Prelude.{Bool, cond, true, false, None, Some}
use Rattle.node_tree.specs.declared.node.Node.{Node}
use Rattle.node_tree.specs.declared.kind.Kind.{Kind}
use Rattle.node_tree.specs.Tree.{kind_of, kids_of}
use Rattle.node_match.specs.Sets.{Among}
use Rattle.node_match.specs.Free.{Part, is_free, parts_from, parts_of}

-- what is asked of the kid at a place, where the pattern has q
abbrev part_of : Kind → ℕ → Node → Part
part_of kind at q = cond (is_free kind at q) None (Some q)

parts_drop : (k : Kind) (j : ℕ) (qs : List Node) (i : ℕ) (q : Node) → i < length qs → q ≡ get_or qs i q → drop i (parts_from k j qs) ≡ part_of k (j + i) q ∷ drop (suc i) (parts_from k j qs)
parts_drop k j [] i q lt is = absurd (omega arith)
parts_drop k j (x ∷ qs) zero q lt is =
    let e : j ≡ j + 0 = omega arith in
    ap (λ (y : Node). part_of k j y ∷ parts_from k (j + 1) qs) (sym is) ∙ ap (λ (m : ℕ). part_of k m q ∷ parts_from k (j + 1) qs) e
parts_drop k j (x ∷ qs) (suc i) q lt is =
    let e : j + 1 + i ≡ j + suc i = omega arith in
    parts_drop k (j + 1) qs i q (omega arith) is ∙ ap (λ (m : ℕ). part_of k m q ∷ drop (suc i) (parts_from k (j + 1) qs)) e

part_here : (p : Node) (kids : List Node) (i : ℕ) (q : Node) → kids ≡ kids_of p → i < length (kids_of p) → q ≡ get_or kids i q
    → drop i (parts_of p) ≡ part_of (kind_of p) i q ∷ drop (i + 1) (parts_of p)
part_here p kids i q e lt is =
    let z : 0 + i ≡ i = omega arith in
    parts_drop (kind_of p) 0 (kids_of p) i q lt (is ∙ ap (λ (ks : List Node). get_or ks i q) e)
    ∙ ap (λ (j : ℕ). part_of (kind_of p) j q ∷ drop (suc i) (parts_of p)) z ∙ ap (λ (j : ℕ). part_of (kind_of p) i q ∷ drop j (parts_of p)) (sym (add-one i))

parts_length : (k : Kind) (j : ℕ) (qs : List Node) → length (parts_from k j qs) ≡ length qs
parts_length k j [] = refl
parts_length k j (q ∷ qs) = ap suc (parts_length k (j + 1) qs)

pub parts_as_many : (p : Node) → length (parts_of p) ≡ length (kids_of p)
parts_as_many p = parts_length (kind_of p) 0 (kids_of p)

-- the parts from a place on, whether the first is free or not
pub free_here : (p : Node) (kids : List Node) (i : ℕ) (q : Node) → kids ≡ kids_of p → i < length (kids_of p) → q ≡ get_or kids i q → is_free (kind_of p) i q ≡ true
    → drop i (parts_of p) ≡ None ∷ drop (i + 1) (parts_of p)
free_here p kids i q e lt is free = part_here p kids i q e lt is ∙ ap (λ b. cond b None (Some q) ∷ drop (i + 1) (parts_of p)) free

pub asked_here : (p : Node) (kids : List Node) (i : ℕ) (q : Node) → kids ≡ kids_of p → i < length (kids_of p) → q ≡ get_or kids i q → is_free (kind_of p) i q ≡ false
    → drop i (parts_of p) ≡ Some q ∷ drop (i + 1) (parts_of p)
asked_here p kids i q e lt is asked = part_here p kids i q e lt is ∙ ap (λ b. cond b None (Some q) ∷ drop (i + 1) (parts_of p)) asked

kid_asked : (k : Kind) (j : ℕ) (qs : List Node) (q : Node) → Among (parts_from k j qs) (Some q) → Among qs q
kid_asked k j [] q a = absurd a
kid_asked k j (x ∷ qs) q (inl e) = inl (at (is_free k j x) e)
  where
    at : (t : Bool) → cond t None (Some x) ≡ Some q → x ≡ q
    at true f = absurd cc
    at false f = cc
kid_asked k j (x ∷ qs) q (inr a) = inr (kid_asked k (j + 1) qs q a)

-- a pattern that is asked for is a kid
pub part_kid : (p q : Node) → Among (parts_of p) (Some q) → Among (kids_of p) q
part_kid p q = kid_asked (kind_of p) 0 (kids_of p) q
