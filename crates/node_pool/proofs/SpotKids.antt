-- The kids of a place, one after the other.
use Rattle.std.proofs.Common.{◌≡◌, ℕ, suc, ◌+◌, ◌^◌, ◌<◌, ◌≤◌, List, [], ◌∷◌, ◌++◌, length, drop, get_or, refl, sym, ap, ◌∙◌, subst, append_assoc, add-one}
use Rattle.std.proofs.lemmas.List.{drop_all}
use Rattle.std.proofs.Math.Seq.{drop-cons}
use Rattle.node_tree.specs.declared.node.Node.{Node}
use Rattle.node_pool.specs.declared.spot.Spot.{Spot}
use Rattle.node_pool.specs.Preorder.{AreAt, Stands}
use Rattle.node_tree.specs.Numbers.{count_of, Numbered, siblings}
use Rattle.node_pool.specs.Spots.{seen, all_seen}
use Rattle.node_pool.proofs.Placing.{FirstKid, first_kid, kid_stands}

one_on : (ks : List Node) (i : ℕ) (n : Node) → i < length ks → n ≡ get_or ks i n → drop i ks ≡ n ∷ drop (i + 1) ks
one_on ks i n lt is = drop-cons ks i n lt ∙ ap (λ (y : Node). y ∷ drop (suc i) ks) (sym is) ∙ ap (λ (j : ℕ). n ∷ drop j ks) (sym (add-one i))

pub kid_here : (nodes : List Node) (at : ℕ) (ks : List Node) (i : ℕ) (n : Node) → AreAt nodes at (drop i ks) → i < length ks → n ≡ get_or ks i n → FirstKid nodes at n (drop (i + 1) ks)
kid_here nodes at ks i n are lt is = first_kid nodes at (drop i ks) n (drop (i + 1) ks) are (one_on ks i n lt is)

pub kid_stands_here : (nodes : List Node) (at : ℕ) (ks : List Node) (i : ℕ) (n : Node) → AreAt nodes at (drop i ks) → i < length ks → n ≡ get_or ks i n → length nodes < 2 ^ 32 → Stands nodes at n
kid_stands_here nodes at ks i n are lt is small = kid_stands nodes at (drop i ks) n (drop (i + 1) ks) are (one_on ks i n lt is) small

pub next_at : (nodes : List Node) (at : ℕ) (ks : List Node) (i size : ℕ) (n : Node) → AreAt nodes at (drop i ks) → i < length ks → n ≡ get_or ks i n → size ≡ count_of n → AreAt nodes (at + size) (drop (i + 1) ks)
next_at nodes at ks i size n are lt is e =
    let P : ℕ → Type 0 = λ k. AreAt nodes (at + k) (drop (i + 1) ks) in
    subst P (sym e) (kid_here nodes at ks i n are lt is).rest

seen_more : (old : List Spot) (s : Spot) → all_seen (old ++ s ∷ []) ≡ all_seen old ++ seen s ∷ []
seen_more [] s = refl
seen_more (o ∷ old) s = ap (λ (xs : List Numbered). seen o ∷ xs) (seen_more old s)

pub kids_more : (old new : List Spot) (s : Spot) (ks : List Node) (i size : ℕ) (at : ℕ) (n : Node) (all : List Numbered) → new ≡ old ++ s ∷ [] → seen s ≡ record { at = at; node = n } → size ≡ count_of n → i < length ks → n ≡ get_or ks i n
    → all_seen old ++ siblings at (drop i ks) ≡ all → all_seen new ++ siblings (at + size) (drop (i + 1) ks) ≡ all
kids_more old new s ks i size at n all new-is s-is e lt is inv =
    let rest = siblings (at + size) (drop (i + 1) ks) in
    let one : siblings at (drop i ks) ≡ seen s ∷ rest =
    ap (siblings at) (one_on ks i n lt is) ∙ ap (λ (k : ℕ). record { at = at; node = n } ∷ siblings (at + k) (drop (i + 1) ks)) (sym e) ∙ ap (λ (x : Numbered). x ∷ rest) (sym s-is) in
    ap (λ (xs : List Spot). all_seen xs ++ rest) new-is ∙ ap (λ (xs : List Numbered). xs ++ rest) (seen_more old s) ∙ append_assoc (all_seen old) (seen s ∷ []) rest
    ∙ ap (λ (xs : List Numbered). all_seen old ++ xs) (sym one) ∙ inv

pub kids_done : (old : List Spot) (ks : List Node) (i at : ℕ) (all : List Numbered) → length ks ≤ i → all_seen old ++ siblings at (drop i ks) ≡ all → all_seen old ≡ all
kids_done old ks i at all le inv =
    sym (nothing (all_seen old)) ∙ ap (λ (ns : List Node). all_seen old ++ siblings at ns) (sym (drop_all i ks le)) ∙ inv
  where
    nothing : (xs : List Numbered) → xs ++ [] ≡ xs
    nothing [] = refl
    nothing (x ∷ xs) = ap (λ (ys : List Numbered). x ∷ ys) (nothing xs)
