-- Equal pieces have the same members, and where a piece stands they are those of the file, moved.
use Rattle.std.proofs.Common.{◌≡◌, ℕ, ◌+◌, ◌<◌, List, [], ◌∷◌, ◌↔◌, map, refl, sym, ap, ◌∙◌, subst, arith, Bool, true, false, cond, length, inl, inr}
use Rattle.std.specs.Prelude.{Option, None, Some, Result, Ok, Err, IfOk, nat_eq, if◌then◌else◌, not, ◌&&◌}
use Rattle.std.specs.Option.{option_map}
use Rattle.node_tree.specs.declared.node.Node.{Node, Node-F, roll-Node, out-roll-Node, ind-Node}
use Rattle.node_tree.specs.declared.known.Known.{Known}
use Rattle.node_tree.specs.declared.shift.Shift.TheVariants.{Earlier}
use Rattle.node_tree.specs.declared.span.Span.{Span}
use Rattle.node_tree.specs.declared.view.FileView.{FileView}
use Rattle.node_tree.specs.declared.view.Pattern.{Pattern}
use Rattle.node_tree.specs.Numbers.{Numbered, count_of, root_of, kids_at, siblings}
use Rattle.node_tree.specs.Shifts.{shifted}
use Rattle.node_tree.specs.Spans.{SpansLieIn}
use Rattle.node_tree.specs.Tree.{kind_of, kids_of, span_of, pre_of, content_of}
use Rattle.meta_bind.specs.declared.bound.Bound.{Bound}
use Rattle.node_match.specs.Relation.{held_at}
use Rattle.node_match.specs.Sets.{Among}
use Rattle.piece_form.specs.declared.piece.Piece.{Piece}
use Rattle.piece_form.specs.Cut.{known_between, piece_at}
use Rattle.piece_form.specs.Identity.{Identity, identity_of, known_contents, known_content, IsSamePiece}
use Rattle.tree_match.specs.declared.leaf.Leaf.{Leaf}
use Rattle.tree_match.specs.declared.leaf.Leaf.TheVariants.{Full, Crowded}
use Rattle.tree_match.specs.Leaf.{IsLeaf}
use Rattle.tree_match.specs.Members.{Member, MemberOf, MemberRun, IsMember, KnownTree, known_to}
use Rattle.tree_match.proofs.Placed.{kids_lie, all_among}
use Rattle.piece_match.specs.Moved.{Later, Moved, moved_leaf, moved_span, moved_bound, moved_binding, moved_member, moved_members}
use Rattle.piece_match.specs.Pieces.{is_root, stands_alone, falls_apart, is_cut, RootRun, MemberOfPiece, IsPieceMember, known_piece, IsMemberUnder}
use Rattle.piece_match.proofs.Constants.{known_alike}
use Rattle.piece_match.proofs.Copies.{SpanAt, Copy, copied, Copies, none_copied, more_copied}
use Rattle.piece_match.proofs.Copied.{copies_length, pre_copied}
use Rattle.piece_match.proofs.Counted.{counted_kind, alone_copy, alone_plain}
use Rattle.piece_match.proofs.Later.{leaf_moved}
use Rattle.piece_match.proofs.Shift.{shift, shift_runs}
use Rattle.piece_match.proofs.Splitting.{leaf_as}

-- ---- a tree is a copy of itself

self_kids : (ns : List ((n : Node) × Copy (Later 0) n n)) → Copies (Later 0) (map (λ e. e.0) ns) (map (λ e. e.0) ns)
self_kids [] = none_copied
self_kids (n ∷ ns) = more_copied n.1 (self_kids ns)

self_copy : (n : Node) → Copy (Later 0) n n
self_copy = ind-Node (λ n. Copy (Later 0) n n) (λ x y is.
    let R : Node-F Node → Type 0 = λ z. Copies (Later 0) z.kids z.kids in
    let kids : R x = subst R is (self_kids y.kids) in
    copied refl refl (omega arith, omega arith) (subst R (sym (out-roll-Node x)) kids))

-- ---- moved by nothing

span_still : (s : Span) → moved_span 0 s ≡ s
span_still s =
    let f : ℕ → ℕ → Span = λ a b. record { from = a; to = b } in
    let e : s.from + 0 ≡ s.from = omega arith in
    let g : s.to + 0 ≡ s.to = omega arith in
    ap (λ (a : ℕ). f a (s.to + 0)) e ∙ ap (λ (b : ℕ). f s.from b) g

binding_still : (bs : List Bound) → moved_binding 0 bs ≡ bs
binding_still [] = refl
binding_still (b ∷ bs) =
    let f : Span → Bound = λ s. record { name = b.name; span = s; nodes = b.nodes } in
    ap (λ (c : Bound). c ∷ moved_binding 0 bs) (ap f (span_still b.span)) ∙ ap (λ (cs : List Bound). b ∷ cs) (binding_still bs)

pub member_still : (m : Member) → moved_member 0 m ≡ m
member_still m =
    let f : Span → Member = λ s. (s, moved_binding 0 m.1) in
    let g : List Bound → Member = λ b. (m.0, b) in
    ap f (span_still m.0) ∙ ap g (binding_still m.1)

members_still : (ms : List Member) → moved_members 0 ms ≡ ms
members_still [] = refl
members_still (m ∷ ms) = ap (λ (x : Member). x ∷ moved_members 0 ms) (member_still m) ∙ ap (λ (xs : List Member). m ∷ xs) (members_still ms)

pub leaf_still : (leaf : Leaf) → moved_leaf 0 leaf ≡ leaf
leaf_still (Full members) = ap (λ (ms : List Member). Full ms) (members_still members)
leaf_still Crowded = refl

pub still : (Set : Member → Type 0) (m : Member) → Moved 0 Set m ↔ Set m
still Set m = (λ (x, e, z). subst Set (sym (e ∙ member_still x)) z, λ z. (m, sym (member_still m), z))

-- ---- what is known by content

abbrev held_in : List (ℕ × Node) → ℕ → Option Node
held_in [] at = None
held_in (k ∷ ks) at = if nat_eq k.0 at then Some k.1 else held_in ks at

held_content : (ks : List Known) (at : ℕ) → option_map content_of (held_at ks at) ≡ held_in (known_contents ks) at
held_content [] at = refl
held_content (k ∷ ks) at = by (nat_eq k.at at) (held_content ks at)
  where
    by : (b : Bool) → option_map content_of (held_at ks at) ≡ held_in (known_contents ks) at
        → option_map content_of (if b then Some k.literal else held_at ks at) ≡ (if b then Some (content_of k.literal) else held_in (known_contents ks) at)
    by true rest = refl
    by false rest = rest

-- lists of the same contents tell a pattern the same of each number
known_same : (pattern : Pattern) (ks ls : List Known) → known_contents ks ≡ known_contents ls → (i j : ℕ) → i ≡ j → option_map content_of (held_at (known_to pattern ks) i) ≡ option_map content_of (held_at (known_to pattern ls) j)
known_same pattern ks ls e i j at = by pattern.constants
  where
    by : (b : Bool) → option_map content_of (held_at (if b then ks else []) i) ≡ option_map content_of (held_at (if b then ls else []) j)
    by true = held_content ks i ∙ ap (λ (cs : List (ℕ × Node)). held_in cs i) e ∙ ap (held_in (known_contents ls)) at ∙ sym (held_content ls j)
    by false = refl

-- ---- equal pieces

module _ (pattern : Pattern) (tree : Node) (ks ls : List Known) (e : known_contents ks ≡ known_contents ls) where
  alike : (i : ℕ) → i < count_of tree → option_map content_of (held_at (known_to pattern ks) i) ≡ option_map content_of (held_at (known_to pattern ls) (0 + i))
  alike i lt = known_same pattern ks ls e i (0 + i) (omega arith)

  same_members : (m : Member) → IsMember pattern (record { tree = tree; known = ks }) m ↔ IsMember pattern (record { tree = tree; known = ls }) m
  same_members m =
      let law = shift 0 (known_to pattern ks) (known_to pattern ls) tree (root_of tree) (self_copy tree) alike pattern.shape pattern.tree m in
      let quiet = still (MemberOf (known_to pattern ks) pattern.shape pattern.tree tree) m in
      (λ x. law.1 (quiet.1 x), λ y. quiet.0 (law.0 y))

  same_runs : (m : Member) → RootRun pattern (record { tree = tree; known = ks }) m ↔ RootRun pattern (record { tree = tree; known = ls }) m
  same_runs m =
      let law = shift_runs 0 (known_to pattern ks) (known_to pattern ls) tree (root_of tree) (self_copy tree) alike pattern.tree m in
      let quiet = still (MemberRun (known_to pattern ks) pattern.tree (root_of tree)) m in
      (λ (s, x). (s, law.1 (quiet.1 x)), λ (s, y). (s, quiet.0 (law.0 y)))

  same_either : (b : Bool) (m : Member) → MemberOfPiece b pattern (record { tree = tree; known = ks }) m ↔ MemberOfPiece b pattern (record { tree = tree; known = ls }) m
  same_either true m = same_runs m
  same_either false m = same_members m

pub same_piece : (pattern : Pattern) (p q : Piece) → IsSamePiece p q → (m : Member) → IsPieceMember pattern (known_piece p) m ↔ IsPieceMember pattern (known_piece q) m
same_piece pattern p q same m =
    let trees : p.tree ≡ q.tree = ap (λ (i : Identity). i.tree) same in
    let knowns : known_contents p.known ≡ known_contents q.known = ap (λ (i : Identity). i.known) same in
    let P : Node → Type 0 = λ n. IsPieceMember pattern (known_piece p) m ↔ IsPieceMember pattern (record { tree = n; known = q.known }) m in
    subst P trees (same_either pattern p.tree p.known q.known knowns (is_cut pattern p.tree) m)

-- ---- where a piece stands

-- a kid with its number is a kid
pub kid_node : (at : ℕ) (ns : List Node) (n : Numbered) → Among (siblings at ns) n → Among ns n.node
kid_node at [] n h = absurd h
kid_node at (m ∷ ns) n (inl e) = inl (ap (λ (z : Numbered). z.node) e)
kid_node at (m ∷ ns) n (inr h) = inr (kid_node (at + count_of m) ns n h)

pub kid_placed : (view : FileView) (n : Numbered) → Among (kids_at (root_of view.tree)) n → SpansLieIn view.bytes n.node
kid_placed view n a = all_among (λ k. SpansLieIn view.bytes k) (kids_of view.tree) n.node (kids_lie view.bytes view.tree view.placed) (kid_node 1 (kids_of view.tree) n a)

uncut : (pattern : Pattern) (tree : Node) → is_root (kind_of tree) ≡ false → is_cut pattern tree ≡ false
uncut pattern tree plain = by (not (is_root (kind_of pattern.tree))) (falls_apart tree) (whole (is_root (kind_of tree)) _ plain)
  where
    whole : (a b : Bool) → a ≡ false → a && b ≡ false
    whole true b e = absurd (let f : true ≡ false = e in cc)
    whole false b e = refl

    by : (a b : Bool) → b ≡ false → a && b ≡ false
    by true b e = e
    by false b e = refl

-- a piece that is no whole file has the members of its tree
uncut_members : (pattern : Pattern) (piece : KnownTree) (m : Member) → is_root (kind_of piece.tree) ≡ false → IsPieceMember pattern piece m ↔ IsMember pattern piece m
uncut_members pattern piece m plain = let P : Bool → Type 0 = λ b. MemberOfPiece b pattern piece m ↔ IsMember pattern piece m in subst P (sym (uncut pattern piece.tree plain)) (λ x. x, λ x. x)

-- where it stands a piece has the members of its statement
pub stands : (pattern : Pattern) (view : FileView) (n : Numbered) (m : Member) → SpansLieIn view.bytes n.node → stands_alone n.node ≡ true
    → Moved (span_of n.node).from (IsPieceMember pattern (known_piece (piece_at view n.at n.node).piece)) m ↔ IsMemberUnder pattern view n m
stands pattern view n m lies alone =
    let start = (span_of n.node).from in
    let tree = shifted (Earlier start) n.node in
    let known = known_between n.at (n.at + count_of n.node) view.known in
    let piece : KnownTree = record { tree = tree; known = known } in
    let plain = ap is_root (counted_kind start n.node) ∙ alone_plain n.node alone in
    let copy = alone_copy view.bytes n.node lies alone in
    let same = copies_length (Later start) (pre_of tree) (pre_of n.node) (pre_copied (Later start) tree n.node copy) in
    let law = shift start (known_to pattern known) (known_to pattern view.known) tree n copy (λ i lt. ap (option_map content_of) (sym (known_alike n.at (count_of n.node) i (omega (arith, lt, same)) pattern view.known))) pattern.shape pattern.tree m in (
      λ (x, e, y). law.1 (x, e, (uncut_members pattern piece x plain).0 y),
      λ y. (let (x, e, z) = law.0 y in (x, e, (uncut_members pattern piece x plain).1 z)),
    )

-- ---- leaves

module _ {E : Type 0} (pattern : Pattern) (piece : Piece) where
  pub alike_leaf : (q : Piece) (r : Result Leaf E) → IsSamePiece piece q → IfOk r (λ leaf. IsLeaf (IsPieceMember pattern (known_piece piece)) leaf) → IfOk r (λ leaf. IsLeaf (IsPieceMember pattern (known_piece q)) leaf)
  alike_leaf q (Ok leaf) same x = leaf_as (IsPieceMember pattern (known_piece piece)) (IsPieceMember pattern (known_piece q)) leaf (same_piece pattern piece q same) x
  alike_leaf q (Err e) same x = tt

  pub standing_leaf : (view : FileView) (n : Numbered) (r : Result Leaf E) → Among (kids_at (root_of view.tree)) n → stands_alone n.node ≡ true → IsSamePiece piece (piece_at view n.at n.node).piece
      → IfOk r (λ leaf. IsLeaf (IsPieceMember pattern (known_piece piece)) leaf) → IfOk r (λ leaf. IsLeaf (IsMemberUnder pattern view n) (moved_leaf (span_of n.node).from leaf))
  standing_leaf view n (Ok leaf) kid alone same x =
      let start = (span_of n.node).from in
      let q = (piece_at view n.at n.node).piece in
      let here = leaf_as (IsPieceMember pattern (known_piece piece)) (IsPieceMember pattern (known_piece q)) leaf (same_piece pattern piece q same) x in
      leaf_as (Moved start (IsPieceMember pattern (known_piece q))) (IsMemberUnder pattern view n) (moved_leaf start leaf) (λ m. stands pattern view n m (kid_placed view n kid) alone) (leaf_moved start (IsPieceMember pattern (known_piece q)) leaf here)
  standing_leaf view n (Err e) kid alone same x = tt
