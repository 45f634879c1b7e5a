-- The leaf of a file from those of its parts.
use Rattle.std.proofs.Common.{◌≡◌, ℕ, ◌+◌, List, [], ◌∷◌, ◌++◌, ◌⊎◌, inl, inr, ◌↔◌, map, refl, sym, ap, subst, arith, Bool, true, false}
use Rattle.std.specs.Prelude.{not, ◌&&◌, ◌||◌, if◌then◌else◌}
use Rattle.std.specs.List.{list_all}
use Rattle.node_tree.specs.declared.node.Node.{Node}
use Rattle.node_tree.specs.declared.kind.Kind.{Kind}
use Rattle.node_tree.specs.declared.kind.Kind.TheVariants as kinds
use Rattle.node_tree.specs.declared.view.FileView.{FileView}
use Rattle.node_tree.specs.declared.view.Pattern.{Pattern}
use Rattle.node_tree.specs.declared.view.Shape.{Shape}
use Rattle.node_tree.specs.declared.view.Shape.TheVariants.{Expr, Run}
use Rattle.node_tree.specs.Tree.{kind_of, kids_of}
use Rattle.node_tree.specs.Numbers.{Numbered, count_of, root_of, siblings, kids_at}
use Rattle.node_match.specs.Sets.{Among}
use Rattle.piece_form.specs.declared.piece.Placed.{Placed}
use Rattle.piece_form.specs.Cut.{piece_at, pieces_from, pieces_of}
use Rattle.tree_match.specs.declared.leaf.Leaf.{Leaf}
use Rattle.tree_match.specs.declared.leaf.Leaf.TheVariants.{Full}
use Rattle.tree_match.specs.Leaf.{IsLeaf}
use Rattle.tree_match.specs.Members.{Member, IsMember, known_tree}
use Rattle.piece_match.specs.declared.unite.PlacedLeaf.{PlacedLeaf}
use Rattle.piece_match.specs.Moved.{Moved, moved_leaf, moved_member}
use Rattle.piece_match.specs.Pieces.{is_root, stands_alone, falls_apart, is_cut, RootRun, MemberOfPiece, IsPieceMember, known_piece, IsMemberUnder}
use Rattle.piece_match.specs.Union.{IsUnion, InAny, AreLeaves, moved_part}
use Rattle.piece_match.proofs.Amongs.{among_first, among_second, among_either}
use Rattle.piece_match.proofs.Later.{leaf_moved}
use Rattle.piece_match.proofs.Splitting.{split, leaf_as, union_leaf}
use Rattle.piece_match.proofs.Standing.{stands, still, kid_placed, kid_node}
use Rattle.file_parts.specs.Parts.{whole_part, is_run}

-- the pattern is matched in the whole file: for its runs, or since it can't be matched statement by statement
abbrev pub needs_whole : Pattern → FileView → Bool
needs_whole pattern view = is_run pattern.shape || not (is_cut pattern view.tree)

-- the pieces of one view that a pattern is matched in, in order
abbrev pub parts_for : Pattern → FileView → List Placed
parts_for pattern view = (if is_cut pattern view.tree then pieces_of view else []) ++ (if needs_whole pattern view then whole_part view ∷ [] else [])

-- these are the leaves of a pattern in those pieces, each with where its piece starts; pieces without members may be left out
pub data AreLeavesIn (pattern : Pattern) : List Placed → List PlacedLeaf → Type 0 where
  no_piece : AreLeavesIn pattern [] []
  piece_less : {p : Placed} {ps : List Placed} {ls : List PlacedLeaf} → IsLeaf (IsPieceMember pattern (known_piece p.piece)) (Full []) → AreLeavesIn pattern ps ls → AreLeavesIn pattern (p ∷ ps) ls
  piece_more : {p : Placed} {l : PlacedLeaf} {ps : List Placed} {ls : List PlacedLeaf} → l.start ≡ p.start → IsLeaf (IsPieceMember pattern (known_piece p.piece)) l.leaf.now → AreLeavesIn pattern ps ls → AreLeavesIn pattern (p ∷ ps) (l ∷ ls)

-- the members of a part where it stands
abbrev PartSet : Pattern → Placed → Member → Type 0
PartSet pattern p m = Moved p.start (IsPieceMember pattern (known_piece p.piece)) m

-- ---- pieces are those of the kids

piece_of_kid : (view : FileView) (number : ℕ) (ns : List Node) (p : Placed) → Among (pieces_from view number ns) p → (n : Numbered) × Among (siblings number ns) n × (p ≡ piece_at view n.at n.node)
piece_of_kid view number [] p h = absurd h
piece_of_kid view number (n ∷ ns) p (inl e) = (record { at = number; node = n }, inl refl, sym e)
piece_of_kid view number (n ∷ ns) p (inr h) = let (m, a, e) = piece_of_kid view (number + count_of n) ns p h in (m, inr a, e)

kid_has_piece : (view : FileView) (number : ℕ) (ns : List Node) (n : Numbered) → Among (siblings number ns) n → Among (pieces_from view number ns) (piece_at view n.at n.node)
kid_has_piece view number [] n h = absurd h
kid_has_piece view number (m ∷ ns) n (inl e) = inl (ap (λ (z : Numbered). piece_at view z.at z.node) e)
kid_has_piece view number (m ∷ ns) n (inr h) = inr (kid_has_piece view (number + count_of m) ns n h)

-- ---- a file that is cut

both_first : (a b : Bool) → a && b ≡ true → a ≡ true
both_first true b e = refl
both_first false b e = absurd (let f : false ≡ true = e in cc)

both_second : (a b : Bool) → a && b ≡ true → b ≡ true
both_second true b e = e
both_second false b e = absurd (let f : false ≡ true = e in cc)

not_true : (b : Bool) → not b ≡ true → b ≡ false
not_true true e = absurd (let f : false ≡ true = e in cc)
not_true false e = refl

root_kind : (k : Kind) → is_root k ≡ true → k ≡ kinds.Root
root_kind kinds.Root e = refl
root_kind _ e = absurd (let f : false ≡ true = e in cc)

each_of : (f : Node → Bool) (ns : List Node) (n : Node) → list_all f ns ≡ true → Among ns n → f n ≡ true
each_of f [] n e h = absurd h
each_of f (k ∷ ns) n e (inl g) = let P : Node → Type 0 = λ z. f z ≡ true in subst P g (both_first (f k) (list_all f ns) e)
each_of f (k ∷ ns) n e (inr h) = each_of f ns n (both_second (f k) (list_all f ns) e) h

module _ (pattern : Pattern) (view : FileView) where
  -- the whole file as a part has the runs of its root, or all its members
  whole_runs : (m : Member) → is_cut pattern view.tree ≡ true → PartSet pattern (whole_part view) m ↔ RootRun pattern (known_tree view) m
  whole_runs m e =
      let quiet = still (IsPieceMember pattern (known_tree view)) m in
      let P : Bool → Type 0 = λ b. MemberOfPiece b pattern (known_tree view) m ↔ RootRun pattern (known_tree view) m in
      let same = subst P (sym e) (λ x. x, λ x. x) in
      (λ x. same.0 (quiet.0 x), λ y. quiet.1 (same.1 y))

  whole_all : (m : Member) → is_cut pattern view.tree ≡ false → PartSet pattern (whole_part view) m ↔ IsMember pattern (known_tree view) m
  whole_all m e =
      let quiet = still (IsPieceMember pattern (known_tree view)) m in
      let P : Bool → Type 0 = λ b. MemberOfPiece b pattern (known_tree view) m ↔ IsMember pattern (known_tree view) m in
      let same = subst P (sym e) (λ x. x, λ x. x) in
      (λ x. same.0 (quiet.0 x), λ y. quiet.1 (same.1 y))

  module _ (cut : is_cut pattern view.tree ≡ true) where
    apart : falls_apart view.tree ≡ true
    apart = both_second (not (is_root (kind_of pattern.tree))) (falls_apart view.tree) cut

    root : kind_of view.tree ≡ kinds.Root
    root = root_kind (kind_of view.tree) (both_first (is_root (kind_of view.tree)) (list_all stands_alone (kids_of view.tree)) apart)

    other : is_root (kind_of pattern.tree) ≡ false
    other = not_true (is_root (kind_of pattern.tree)) (both_first (not (is_root (kind_of pattern.tree))) (falls_apart view.tree) cut)

    alone : (n : Numbered) → Among (kids_at (root_of view.tree)) n → stands_alone n.node ≡ true
    alone n a = each_of stands_alone (kids_of view.tree) n.node (both_second (is_root (kind_of view.tree)) (list_all stands_alone (kids_of view.tree)) apart) (kid_node 1 (kids_of view.tree) n a)

    at_kid : (n : Numbered) (m : Member) → Among (kids_at (root_of view.tree)) n → PartSet pattern (piece_at view n.at n.node) m ↔ IsMemberUnder pattern view n m
    at_kid n m a = stands pattern view n m (kid_placed view n a) (alone n a)

    from_piece : (p : Placed) (m : Member) → Among (pieces_of view) p → PartSet pattern p m → IsMember pattern (known_tree view) m
    from_piece p m h x =
        let (n, a, e) = piece_of_kid view 1 (kids_of view.tree) p h in
        let P : Placed → Type 0 = λ q. PartSet pattern q m in
        (split pattern (known_tree view) m root other).1 (inr (n, a, (at_kid n m a).0 (subst P e x)))

    -- the statements, and for runs the root
    pub cut_set : (m : Member) → IsMember pattern (known_tree view) m ↔ (((pattern.shape ≡ Run) × PartSet pattern (whole_part view) m) ⊎ InAny (PartSet pattern) (pieces_of view) m)
    cut_set m = (
      λ x. elim ((split pattern (known_tree view) m root other).0 x) [
        | inl r ↦ inl (r.0, (whole_runs m cut).1 r)
        | inr (n, a, y) ↦ inr (piece_at view n.at n.node, kid_has_piece view 1 (kids_of view.tree) n a, (at_kid n m a).1 y)
      ],
      λ h. elim h [
        | inl (s, x) ↦ (split pattern (known_tree view) m root other).1 (inl ((whole_runs m cut).0 x))
        | inr (p, a, x) ↦ from_piece p m a x
      ],
    )

  -- ---- all parts

  one_part : (p : Placed) (m : Member) → InAny (PartSet pattern) (p ∷ []) m ↔ PartSet pattern p m
  one_part p m = (
    λ (k, a, x). elim a [ inl e ↦ (let P : Placed → Type 0 = λ q. PartSet pattern q m in subst P (sym e) x) | inr b ↦ absurd b ],
    λ x. (p, inl refl, x),
  )

  cut_parts : (s : Shape) (ps : List Placed) (whole : Placed) (m : Member) → (((s ≡ Run) × PartSet pattern whole m) ⊎ InAny (PartSet pattern) ps m) ↔ InAny (PartSet pattern) (ps ++ (if is_run s || not true then whole ∷ [] else [])) m
  cut_parts Run ps whole m = (
    λ h. elim h [ inl (s, x) ↦ (whole, among_second ps (whole ∷ []) whole (inl refl), x) | inr (p, a, x) ↦ (p, among_first ps (whole ∷ []) p a, x) ],
    λ (p, a, x). elim (among_either ps (whole ∷ []) p a) [ inl b ↦ inr (p, b, x) | inr c ↦ inl (refl, (one_part whole m).0 (p, c, x)) ],
  )
  cut_parts Expr ps whole m = (
    λ h. elim h [ inl (s, x) ↦ absurd cc | inr (p, a, x) ↦ (p, among_first ps [] p a, x) ],
    λ (p, a, x). elim (among_either ps [] p a) [ inl b ↦ inr (p, b, x) | inr c ↦ absurd c ],
  )

  always_whole : (s : Shape) (whole : Placed) → (if is_run s || not false then whole ∷ [] else []) ≡ whole ∷ []
  always_whole Run whole = refl
  always_whole Expr whole = refl

  -- the parts, where it is known whether the file is cut
  abbrev parts_by : Bool → List Placed
  parts_by b = (if b then pieces_of view else []) ++ (if is_run pattern.shape || not b then whole_part view ∷ [] else [])

  -- the members of the parts are those of the file
  whole_set : (m : Member) → InAny (PartSet pattern) (parts_for pattern view) m ↔ IsMember pattern (known_tree view) m
  whole_set m = by (is_cut pattern view.tree) refl
    where
      by : (b : Bool) → is_cut pattern view.tree ≡ b → InAny (PartSet pattern) (parts_by b) m ↔ IsMember pattern (known_tree view) m
      by true e =
          let parts = cut_parts pattern.shape (pieces_of view) (whole_part view) m in
          (λ x. (cut_set e m).1 (parts.1 x), λ y. parts.0 ((cut_set e m).0 y))
      by false e =
          let P : List Placed → Type 0 = λ ps. InAny (PartSet pattern) ps m ↔ IsMember pattern (known_tree view) m in
          subst P (sym (always_whole pattern.shape (whole_part view))) (
            λ x. (whole_all m e).0 ((one_part (whole_part view) m).0 x),
            λ y. (one_part (whole_part view) m).1 ((whole_all m e).1 y),
          )

  -- ---- leaves

  -- those of the pieces that are not left out: these are their leaves, and they have all members
  record NotLeftOut (ps : List Placed) (ls : List PlacedLeaf) : Type 0 where
    some : List Placed
    leaves : AreLeaves (PartSet pattern) some (map moved_part ls)
    all : (m : Member) → InAny (PartSet pattern) some m ↔ InAny (PartSet pattern) ps m

  -- a piece in front that has no member
  less_in : (p : Placed) (some ps : List Placed) (m : Member) → IsLeaf (IsPieceMember pattern (known_piece p.piece)) (Full [])
      → InAny (PartSet pattern) some m ↔ InAny (PartSet pattern) ps m → InAny (PartSet pattern) some m ↔ InAny (PartSet pattern) (p ∷ ps) m
  less_in p some ps m none same = (
    λ x. (let (k, a, y) = same.0 x in (k, inr a, y)),
    λ (k, a, y). elim a [ inl e ↦ absurd (let P : Placed → Type 0 = λ q. PartSet pattern q m in let (z, f, w) = subst P (sym e) y in (none.0.exact z).1 w) | inr b ↦ same.1 (k, b, y) ],
  )

  -- one that is not left out
  more_in : (p : Placed) (some ps : List Placed) (m : Member) → InAny (PartSet pattern) some m ↔ InAny (PartSet pattern) ps m → InAny (PartSet pattern) (p ∷ some) m ↔ InAny (PartSet pattern) (p ∷ ps) m
  more_in p some ps m same = (
    λ (k, a, y). elim a [ inl e ↦ (k, inl e, y) | inr b ↦ (let (l, c, z) = same.0 (k, b, y) in (l, inr c, z)) ],
    λ (k, a, y). elim a [ inl e ↦ (k, inl e, y) | inr b ↦ (let (l, c, z) = same.1 (k, b, y) in (l, inr c, z)) ],
  )

  not_left_out : (ps : List Placed) (ls : List PlacedLeaf) → AreLeavesIn pattern ps ls → NotLeftOut ps ls
  not_left_out _ _ no_piece = record { some = []; leaves = tt; all = λ m. (λ x. x, λ x. x) }
  not_left_out _ ls (piece_less {p = p} {ps = ps} none are) =
      let rest = not_left_out ps ls are in
      record { some = rest.some; leaves = rest.leaves; all = λ m. less_in p rest.some ps m none (rest.all m) }
  not_left_out _ _ (piece_more {p = p} {l = l} {ps = ps} {ls = ls} e x are) =
      let rest = not_left_out ps ls are in
      let P : ℕ → Type 0 = λ by. IsLeaf (PartSet pattern p) (moved_leaf by l.leaf.now) in
      record {
        some = p ∷ rest.some;
        leaves = (subst P (sym e) (leaf_moved p.start (IsPieceMember pattern (known_piece p.piece)) l.leaf.now x), rest.leaves);
        all = λ m. more_in p rest.some ps m (rest.all m);
      }

  -- the union of the leaves in the pieces is the leaf in the view
  pub union_is : (ls : List PlacedLeaf) (leaf : Leaf) → AreLeavesIn pattern (parts_for pattern view) ls → IsUnion (map moved_part ls) leaf → IsLeaf (IsMember pattern (known_tree view)) leaf
  union_is ls leaf are is =
      let rest = not_left_out (parts_for pattern view) ls are in
      leaf_as (InAny (PartSet pattern) rest.some) (IsMember pattern (known_tree view)) leaf (λ m. (λ x. (whole_set m).0 ((rest.all m).0 x), λ x. (rest.all m).1 ((whole_set m).1 x)))
      (union_leaf (PartSet pattern) rest.some (map moved_part ls) leaf rest.leaves is)

  -- where the pattern has no member in the view, it has none in a piece that it is matched in
  pub none_in_piece : ((m : Member) → IsMember pattern (known_tree view) m → ⊥) → (p : Placed) → Among (parts_for pattern view) p → IsLeaf (IsPieceMember pattern (known_piece p.piece)) (Full [])
  none_in_piece none p a = (
    record {
      exact = λ m. (λ h. absurd h, λ x. none (moved_member p.start m) ((whole_set (moved_member p.start m)).0 (p, a, (m, refl, x))));
      ordered = tt;
    },
    omega arith,
  )
