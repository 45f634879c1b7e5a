-- Hulls of nodes.
use Rattle.std.proofs.Common.{◌≡◌, ◌⊎◌, ◌↔◌, ◌<◌, ◌≤◌, ◌+◌, ◌++◌, ◌∷◌, [], inl, inr, ℕ, List, length, take, get_or, append-nil, refl, sym, ap, ◌∙◌, subst, arith}
use Rattle.std.specs.Prelude.{IsTrue}
use Rattle.std.specs.List.{flat_map}
use Rattle.std.proofs.lemmas.List.{take_all, take_more, map-append}
use Rattle.std.proofs.lemmas.List.Concat.{flat_map-cons, flat_map-append}
use Rattle.node_tree.specs.declared.node.Node.{Node}
use Rattle.node_tree.specs.Kinds.{is_expression}
use Rattle.node_tree.specs.Numbers.{Numbered, count_of, numbered, pre_at}
use Rattle.node_tree.specs.Tree.{kind_of, span_of, pre_of}
use Rattle.node_pool.specs.declared.spot.Spot.{Spot}
use Rattle.node_pool.specs.Spots.{seen, all_seen}
use Rattle.graph_form.specs.Sets.{Among}
use Rattle.graph_form.proofs.Amongs.{among_app, among_more}
use Rattle.taint_tables.specs.declared.hull.Hull.{Hull}
use Rattle.taint_tables.specs.Hulls.{GoesAsFar, Meets, MeetsAll}

-- a hull that goes further, and one node more
pub meets_more : (old new : Hull) (xs ys : List Numbered) (y : Numbered) → ((s : Numbered) → Among ys s ↔ (Among xs s ⊎ (y ≡ s))) → MeetsAll old xs → GoesAsFar new old → (IsTrue (is_expression (kind_of y.node)) → Meets new (span_of y.node)) → MeetsAll new ys
meets_more old new xs ys y split all further here s among is = elim ((split s).0 among) [
  | inl a ↦ let m = all s a is in (omega (arith, m.0, further.0), omega (arith, m.1, further.1))
  | inr e ↦
      let P : Numbered → Type 0 = λ z. IsTrue (is_expression (kind_of z.node)) → Meets new (span_of z.node) in
      subst P e here is
]

-- a hull that goes further still meets what the other did
pub meets_still : (old new : Hull) (xs : List Numbered) → MeetsAll old xs → GoesAsFar new old → MeetsAll new xs
meets_still old new xs all further s among is = let m = all s among is in (omega (arith, m.0, further.0), omega (arith, m.1, further.1))

-- and the nodes of one list more
pub meets_both : (old new : Hull) (xs ys : List Numbered) → MeetsAll old xs → GoesAsFar new old → MeetsAll new ys → MeetsAll new (xs ++ ys)
meets_both old new xs ys all further more s among is = elim ((among_app xs ys s).0 among) [ inl a ↦ meets_still old new xs all further s a is | inr b ↦ more s b is ]

numbered_many : (at : ℕ) (ns : List Node) → length (numbered at ns) ≡ length ns
numbered_many at [] = refl
numbered_many at (n ∷ ns) = omega (arith, numbered_many (at + 1) ns)

-- one tree more
pub tops_more : (xs : List Spot) (i : ℕ) (x : Spot) → i < length xs → x ≡ get_or xs i x → flat_map pre_at (all_seen (take (i + 1) xs)) ≡ flat_map pre_at (all_seen (take i xs)) ++ pre_at (seen x)
tops_more xs i x lt is =
    let one : all_seen (take (i + 1) xs) ≡ all_seen (take i xs) ++ seen x ∷ [] =
    ap all_seen (take_more xs i x lt ∙ ap (λ y. take i xs ++ y ∷ []) (sym is)) ∙ map-append seen (take i xs) (x ∷ []) in
    ap (flat_map pre_at) one ∙ flat_map-append pre_at (all_seen (take i xs)) (seen x ∷ []) ∙ ap (λ ys. flat_map pre_at (all_seen (take i xs)) ++ ys) (flat_map-cons pre_at (seen x) [] ∙ append-nil (pre_at (seen x)))

-- one node more of a tree
pub tree_split : (t : Numbered) (x : Numbered) (i : ℕ) → i < count_of t.node → x ≡ get_or (pre_at t) i x → (s : Numbered) → Among (take (i + 1) (pre_at t)) s ↔ (Among (take i (pre_at t)) s ⊎ (x ≡ s))
tree_split t x i lt is s =
    let inside : i < length (pre_at t) = omega (arith, lt, numbered_many t.at (pre_of t.node)) in
    let P : Numbered → Type 0 = λ y. Among (take (i + 1) (pre_at t)) s ↔ (Among (take i (pre_at t)) s ⊎ (y ≡ s)) in
    subst P (sym is) (among_more (pre_at t) i x inside s)

pub tree_whole : (t : Numbered) (i : ℕ) → count_of t.node ≤ i → take i (pre_at t) ≡ pre_at t
tree_whole t i le = take_all i (pre_at t) (omega (arith, le, numbered_many t.at (pre_of t.node)))
