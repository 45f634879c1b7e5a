-- The members in a tree that begins later, and has later numbers, are those in the tree, moved.
use Rattle.std.proofs.Common.{◌≡◌, ℕ, ◌+◌, ◌<◌, List, ◌↔◌, sym, ap, ◌∙◌, subst, arith}
use Rattle.node_tree.specs.declared.node.Node.{Node}
use Rattle.node_tree.specs.declared.known.Known.{Known}
use Rattle.node_tree.specs.declared.view.Shape.{Shape}
use Rattle.node_tree.specs.Tree.{pre_of, content_of}
use Rattle.std.specs.Option.{option_map}
use Rattle.node_tree.specs.Numbers.{Numbered, count_of, root_of}
use Rattle.node_match.specs.Relation.{held_at}
use Rattle.tree_match.specs.Members.{Member, MemberUnder, MemberOf, MemberRun}
use Rattle.piece_match.proofs.Copies.{Copy}
use Rattle.piece_match.specs.Moved.{Moved, Later, Earlier}
use Rattle.piece_match.proofs.Copied.{copies_length, pre_copied}
use Rattle.piece_match.proofs.Later.{turned, member_later, bounds_back}
use Rattle.piece_match.proofs.Twins.{Twin, member_twin, run_twin}

-- the piece n, whose numbers begin with 0, and its copy in the file, whose numbers begin with that of x; of each node the
-- same is known
module _ (by : ℕ) (C D : List Known) (n : Node) (x : Numbered) (copy : Copy (Later by) n x.node) (known : (i : ℕ) → i < count_of n → option_map content_of (held_at C i) ≡ option_map content_of (held_at D (x.at + i))) where
  -- numbers of the piece, and of the file
  abbrev Onto : ℕ → ℕ → Type 0
  Onto i j = j ≡ x.at + i

  abbrev From : ℕ → ℕ → Type 0
  From i j = i ≡ x.at + j

  onto : (i j k : ℕ) → Onto i j → Onto (i + k) (j + k)
  onto i j k e = omega (arith, e)

  from : (i j k : ℕ) → From i j → From (i + k) (j + k)
  from i j k e = omega (arith, e)

  known_onto : (i j : ℕ) → Onto i j → i < count_of n → option_map content_of (held_at C i) ≡ option_map content_of (held_at D j)
  known_onto i j e lt = known i lt ∙ ap (λ (k : ℕ). option_map content_of (held_at D k)) (sym e)

  known_from : (i j : ℕ) → From i j → i < x.at + count_of n → option_map content_of (held_at D i) ≡ option_map content_of (held_at C j)
  known_from i j e lt = ap (λ (k : ℕ). option_map content_of (held_at D k)) e ∙ sym (known j (omega (arith, e, lt)))

  to_file : Twin (Later by) C D Onto (count_of n) onto known_onto (root_of n) x
  to_file = record { number = omega arith; within = omega arith; copy = copy }

  to_piece : Twin (Earlier by) D C From (x.at + count_of n) from known_from x (root_of n)
  to_piece =
      let same = copies_length (Later by) (pre_of n) (pre_of x.node) (pre_copied (Later by) n x.node copy) in
      record { number = omega arith; within = omega (arith, same); copy = turned by n x.node copy }

  -- the members in the later tree are those in the piece, moved
  pub shift : (s : Shape) (p : Node) (y : Member) → MemberUnder D s p x y ↔ Moved by (MemberOf C s p n) y
  shift s p y = (to, back)
    where
      to : MemberUnder D s p x y → Moved by (MemberOf C s p n) y
      to z =
          let (w, e, v) = member_twin (Earlier by) D C From (x.at + count_of n) from known_from s p x (root_of n) y to_piece z in
          (w, member_later by w y (e.0, bounds_back by y.1 w.1 e.1), v)

      back : Moved by (MemberOf C s p n) y → MemberUnder D s p x y
      back (m, is, z) =
          let (w, e, v) = member_twin (Later by) C D Onto (count_of n) onto known_onto s p (root_of n) x m to_file z in
          let P : Member → Type 0 = λ k. MemberUnder D s p x k in
          subst P (member_later by m w e ∙ sym is) v

  -- and so are the runs of its own kids
  pub shift_runs : (p : Node) (y : Member) → MemberRun D p x y ↔ Moved by (MemberRun C p (root_of n)) y
  shift_runs p y = (to, back)
    where
      to : MemberRun D p x y → Moved by (MemberRun C p (root_of n)) y
      to z =
          let (w, e, v) = run_twin (Earlier by) D C From (x.at + count_of n) from known_from p x (root_of n) y to_piece z in
          (w, member_later by w y (e.0, bounds_back by y.1 w.1 e.1), v)

      back : Moved by (MemberRun C p (root_of n)) y → MemberRun D p x y
      back (m, is, z) =
          let (w, e, v) = run_twin (Later by) C D Onto (count_of n) onto known_onto p (root_of n) x m to_file z in
          let P : Member → Type 0 = λ k. MemberRun D p x k in
          subst P (member_later by m w e ∙ sym is) v
