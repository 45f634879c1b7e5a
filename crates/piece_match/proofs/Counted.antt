-- A tree whose places are counted from its start is a copy of the tree.
use Rattle.std.proofs.Common.{◌≡◌, ℕ, ◌≤◌, Bool, true, false, refl, List, [], ◌∷◌, ◌++◌, length, map, sym, ap, ◌∙◌, subst, arith}
use Rattle.std.specs.Prelude.{All, nat_le, not, ◌&&◌}
use Rattle.std.specs.List.{flat_map, list_all}
use Rattle.std.proofs.lemmas.Bool.Decides.{nat_tests}
use Rattle.piece_match.specs.Pieces.{is_root, begins_first, stands_alone}
use Rattle.std.proofs.lemmas.List.Concat.{flat_map-cons}
use Rattle.std.proofs.lemmas.List.Elements.{All-nil, All-cons, All-head, All-tail}
use Rattle.node_tree.specs.declared.node.Node.{Node, Node-F, roll-Node, out-roll-Node, ind-Node}
use Rattle.node_tree.specs.declared.span.Span.{Span}
use Rattle.node_tree.specs.Span.{LiesIn}
use Rattle.node_tree.specs.Spans.{SpansLieIn}
use Rattle.node_tree.specs.Tree.{kind_of, text_of, kids_of, span_of, pre_of}
use Rattle.node_tree.proofs.Trees.{pre_is}
use Rattle.node_tree.proofs.Nodes.{made_kind, made_text, made_kids, made_span}
use Rattle.node_tree.specs.declared.shift.Shift.TheVariants.{Earlier}
use Rattle.node_tree.specs.Shifts.{shifted, shifted_is, shifted_span}
use Rattle.piece_match.proofs.Copies.{SpanAt, Copy, copied, Copies, none_copied, more_copied}
use Rattle.piece_match.specs.Moved.{Later}

both_first : (a b : Bool) → a && b ≡ true → a ≡ true
both_first true b e = refl
both_first false b e = absurd (let f : false ≡ true = e in cc)

both_second : (a b : Bool) → a && b ≡ true → b ≡ true
both_second true b e = e
both_second false b e = absurd (let f : false ≡ true = e in cc)

not_true : (b : Bool) → not b ≡ true → b ≡ false
not_true true e = absurd (let f : false ≡ true = e in cc)
not_true false e = refl

module _ {X : Type 0} (P : X → Type 0) where
  all_front : (xs ys : List X) → All P (xs ++ ys) → All P xs
  all_front [] ys all = All-nil P
  all_front (x ∷ xs) ys all = All-cons P x xs (All-head P x (xs ++ ys) all) (all_front xs ys (All-tail P x (xs ++ ys) all))

module _ (s : ℕ) where
  abbrev Above : Node → Type 0
  Above n = (s ≤ (span_of n).from) × (s ≤ (span_of n).to)

  here : (n : Node) → Above n → Copies (Later s) (map (shifted (Earlier s)) (kids_of n)) (kids_of n) → Copy (Later s) (shifted (Earlier s) n) n
  here n (le, le') kids =
      let is = shifted_is (Earlier s) n in
      let P : List Node → Type 0 = λ ks. Copies (Later s) ks (kids_of n) in
      let Q : Span → Type 0 = λ t. SpanAt (Later s) t (span_of n) in
      let whole : SpanAt (Later s) (shifted_span (Earlier s) (span_of n)) (span_of n) = (omega (arith, le), omega (arith, le')) in
      copied (ap kind_of is ∙ made_kind _ _ _ _) (ap text_of is ∙ made_text _ _ _ _)
      (subst Q (sym (ap span_of is ∙ made_span _ _ _ _)) whole) (subst P (sym (ap kids_of is ∙ made_kids _ _ _ _)) kids)

  abbrev Fits : Node → Type 0
  Fits n = All Above (pre_of n) → Copy (Later s) (shifted (Earlier s) n) n

  fits_kids : (ns : List ((n : Node) × Fits n)) → All Above (flat_map pre_of (map (λ e. e.0) ns)) → Copies (Later s) (map (shifted (Earlier s)) (map (λ e. e.0) ns)) (map (λ e. e.0) ns)
  fits_kids [] all = none_copied
  fits_kids (n ∷ ns) all =
      let ms : List Node = map (λ e. e.0) ns in
      let P : List Node → Type 0 = All Above in
      let both = subst P (flat_map-cons pre_of n.0 ms) all in
      more_copied (n.1 (front (pre_of n.0) (flat_map pre_of ms) both)) (fits_kids ns (rest (pre_of n.0) (flat_map pre_of ms) both))
    where
      front : (xs ys : List Node) → All Above (xs ++ ys) → All Above xs
      front xs ys all = all_front Above xs ys all

      rest : (xs ys : List Node) → All Above (xs ++ ys) → All Above ys
      rest [] ys all = all
      rest (x ∷ xs) ys all = rest xs ys (All-tail Above x (xs ++ ys) all)

  pub copy_counted : (n : Node) → All Above (pre_of n) → Copy (Later s) (shifted (Earlier s) n) n
  copy_counted = ind-Node Fits (λ x y is all.
      let n = roll-Node x in
      let P : List Node → Type 0 = All Above in
      let R : Node-F Node → Type 0 = λ z. All Above (flat_map pre_of z.kids) → Copies (Later s) (map (shifted (Earlier s)) z.kids) z.kids in
      let kids : R (record { kind = x.kind; text = x.text; kids = kids_of n; span = x.span }) = subst R (sym (out-roll-Node x)) (subst R is (fits_kids y.kids)) in
      let opened = subst P (pre_is n) all in
      here n (All-head Above n (flat_map pre_of (kids_of n)) opened) (kids (All-tail Above n (flat_map pre_of (kids_of n)) opened)))

-- the kind of a node is not touched
pub counted_kind : (s : ℕ) (n : Node) → kind_of (shifted (Earlier s) n) ≡ kind_of n
counted_kind s n = ap kind_of (shifted_is (Earlier s) n) ∙ made_kind _ _ _ _

-- ---- where no node begins before the tree

starts_after : (s : ℕ) (ns : List Node) → list_all (λ (m : Node). nat_le s (span_of m).from) ns ≡ true → All (λ (m : Node). s ≤ (span_of m).from) ns
starts_after s [] e = All-nil (λ (m : Node). s ≤ (span_of m).from)
starts_after s (n ∷ ns) e =
    let here : s ≤ (span_of n).from = grind (arith, nat_tests, both_first (nat_le s (span_of n).from) (list_all (λ (m : Node). nat_le s (span_of m).from) ns) e) in
    All-cons (λ (m : Node). s ≤ (span_of m).from) n ns here (starts_after s ns (both_second (nat_le s (span_of n).from) (list_all (λ (m : Node). nat_le s (span_of m).from) ns) e))

All-both : (P Q R : Node → Type 0) → ((n : Node) → P n → Q n → R n) → (ns : List Node) → All P ns → All Q ns → All R ns
All-both P Q R f [] ps qs = All-nil R
All-both P Q R f (n ∷ ns) ps qs = All-cons R n ns (f n (All-head P n ns ps) (All-head Q n ns qs)) (All-both P Q R f ns (All-tail P n ns ps) (All-tail Q n ns qs))

-- a tree that can be a piece is a copy of itself, counted from where it starts
pub alone_copy : (text : List ℕ) (n : Node) → SpansLieIn text n → stands_alone n ≡ true → Copy (Later (span_of n).from) (shifted (Earlier (span_of n).from) n) n
alone_copy text n lies alone =
    let s = (span_of n).from in
    let first = starts_after s (pre_of n) (both_second (not (is_root (kind_of n))) (begins_first n) alone) in
    copy_counted s n (All-both (λ (m : Node). s ≤ (span_of m).from) (λ (m : Node). LiesIn text (span_of m)) (Above s) (λ m le l. (le, up m le l.ordered)) (pre_of n) first lies)
  where
    up : (m : Node) → (span_of n).from ≤ (span_of m).from → (span_of m).from ≤ (span_of m).to → (span_of n).from ≤ (span_of m).to
    up m a b = omega (arith, a, b)

-- it is no whole file, also when it is counted from its start
pub alone_plain : (n : Node) → stands_alone n ≡ true → is_root (kind_of n) ≡ false
alone_plain n alone = not_true (is_root (kind_of n)) (both_first (not (is_root (kind_of n))) (begins_first n) alone)
