-- What stands in trees and in the nodes of points.
use Rattle.std.proofs.Common.{◌≡◌, ◌↔◌, inl, inr, ℕ, zero, suc, ◌+◌, ◌≤◌, List, [], ◌∷◌, length, refl, sym, ap, ◌∙◌, subst, arith, length-append}
use Rattle.std.specs.List.{flat_map}
use Rattle.std.proofs.lemmas.List.Concat.{flat_map-cons}
use Rattle.node_tree.specs.declared.node.Node.{Node}
use Rattle.node_tree.specs.Numbers.{Numbered, count_of, siblings, numbered, pre_at}
use Rattle.node_tree.specs.Tree.{pre_of, pre_all, kids_of}
use Rattle.node_tree.proofs.Trees.{pre_is}
use Rattle.node_tree.proofs.Counts.{count_is}
use Rattle.graph_form.specs.Sets.{Among}
use Rattle.graph_form.proofs.Amongs.{among_app}

-- what some items give together
pub among_flat : {X Y : Type 0} (f : X → List Y) (xs : List X) (y : Y) → Among (flat_map f xs) y ↔ ((x : X) × Among xs x × Among (f x) y)
among_flat f [] y = (λ h. absurd h, λ h. absurd h.1)
among_flat {X} {Y} f (z ∷ zs) y =
    let r = among_flat f zs y in
    let a = among_app (f z) (flat_map f zs) y in
    let P : List Y → Type 0 = λ ys. Among ys y ↔ ((x : X) × Among (z ∷ zs) x × Among (f x) y) in
    subst P (sym (flat_map-cons f z zs)) (
      λ h. elim (a.0 h) [ inl b ↦ (z, inl refl, b) | inr b ↦ let (x, there, is) = r.0 b in (x, inr there, is) ],
      λ (x, there, is). a.1 (elim there [
        | inl e ↦ inl (let Q : X → Type 0 = λ w. Among (f w) y in subst Q (sym e) is)
        | inr more ↦ inr (r.1 (x, more, is))
      ]),
    )

-- ---- trees

among_less : (ks : List Node) (k : Node) → Among ks k → count_of k ≤ length (pre_all ks)
among_less [] k none = absurd none
among_less (x ∷ xs) k there =
    let e : length (pre_all (x ∷ xs)) ≡ count_of x + length (pre_all xs) = ap length (flat_map-cons pre_of x xs) ∙ length-append (pre_of x) (pre_all xs) in
    elim there [
      | inl q ↦ let c : count_of x ≡ count_of k = ap count_of q in omega (arith, e, c)
      | inr more ↦ omega (arith, e, among_less xs k more)
    ]

-- what holds of a node where it holds of its kids
pub by_kids : (P : Node → Type 0) → ((n : Node) → ((k : Node) → Among (kids_of n) k → P k) → P n) → (n : Node) → P n
by_kids P step n = sized (count_of n) n (omega arith)
  where
    sized : (size : ℕ) (m : Node) → count_of m ≤ size → P m
    sized zero m le = absurd (omega (arith, count_is m, le))
    sized (suc size) m le = step m (λ k among. sized size k (omega (arith, count_is m, among_less (kids_of m) k among, le)))

-- a node is in its own tree, and what is in a kid's tree is in it
pub pre_here : (n : Node) → Among (pre_of n) n
pre_here n = let P : List Node → Type 0 = λ ns. Among ns n in subst P (sym (pre_is n)) (inl refl)

pub pre_kid : (n k x : Node) → Among (kids_of n) k → Among (pre_of k) x → Among (pre_of n) x
pre_kid n k x kid there = let P : List Node → Type 0 = λ ns. Among ns x in subst P (sym (pre_is n)) (inr ((among_flat pre_of (kids_of n) x).1 (k, kid, there)))

pub pre_in : (n m x : Node) → Among (pre_of n) m → Among (pre_of m) x → Among (pre_of n) x
pre_in n m x there = by_kids (λ z. Among (pre_of z) m → Among (pre_of m) x → Among (pre_of z) x) (λ z ih is below.
    let P : List Node → Type 0 = λ ns. Among ns m in
    elim (subst P (pre_is z) is) [
      | inl e ↦ (let Q : Node → Type 0 = λ w. Among (pre_of w) x in subst Q (sym e) below)
      | inr more ↦ let (k, kid, deep) = (among_flat pre_of (kids_of z) m).0 more in pre_kid z k x kid (ih k kid deep below)
    ]) n there

-- ---- numbers

pub numbered_in : (at : ℕ) (ns : List Node) (s : Numbered) → Among (numbered at ns) s → Among ns s.node
numbered_in at [] s none = absurd none
numbered_in at (n ∷ ns) s (inl e) = inl (ap (λ (z : Numbered). z.node) e)
numbered_in at (n ∷ ns) s (inr more) = inr (numbered_in (at + 1) ns s more)

pub numbered_there : (at : ℕ) (ns : List Node) (n : Node) → Among ns n → (s : Numbered) × Among (numbered at ns) s × (s.node ≡ n)
numbered_there at [] n none = absurd none
numbered_there at (m ∷ ms) n (inl e) = (record { at = at; node = m }, inl refl, e)
numbered_there at (m ∷ ms) n (inr more) = let (s, there, is) = numbered_there (at + 1) ms n more in (s, inr there, is)

pub siblings_in : (at : ℕ) (ns : List Node) (s : Numbered) → Among (siblings at ns) s → Among ns s.node
siblings_in at [] s none = absurd none
siblings_in at (n ∷ ns) s (inl e) = inl (ap (λ (z : Numbered). z.node) e)
siblings_in at (n ∷ ns) s (inr more) = inr (siblings_in (at + count_of n) ns s more)

-- what is below these nodes
abbrev pub IsBelow : List Numbered → Node → Type 0
IsBelow tops n = (top : Numbered) × Among tops top × Among (pre_of top.node) n

pub below_top : (tops : List Numbered) (s : Numbered) → Among (flat_map pre_at tops) s → IsBelow tops s.node
below_top tops s there = let (top, among, is) = (among_flat pre_at tops s).0 there in (top, among, numbered_in top.at (pre_of top.node) s is)

pub stands_below : (tops : List Numbered) (n : Node) → IsBelow tops n → (s : Numbered) × Among (flat_map pre_at tops) s × (s.node ≡ n)
stands_below tops n (top, among, is) =
    let (s, there, same) = numbered_there top.at (pre_of top.node) n is in
    (s, (among_flat pre_at tops s).1 (top, among, there), same)

pub below_more : (tops : List Numbered) (m x : Node) → IsBelow tops m → Among (pre_of m) x → IsBelow tops x
below_more tops m x (top, among, is) there = (top, among, pre_in top.node m x is there)
