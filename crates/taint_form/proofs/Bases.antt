-- Bases of expressions, kid by kid.
use Rattle.std.proofs.Common.{◌≡◌, ◌<◌, ◌+◌, ℕ, zero, suc, true, false, List, [], ◌∷◌, map, refl, sym, ap, ◌∙◌, subst}
use Rattle.std.specs.Prelude.{Option, Some, None, slice_get}
use Rattle.std.specs.Option.{option_copied}
use Rattle.std.specs.List.{flat_map}
use Rattle.std.specs.Borrow.{Bor}
use Rattle.std.proofs.lemmas.List.{append-nil}
use Rattle.std.proofs.lemmas.List.Concat.{flat_map-cons}
use Rattle.node_tree.specs.declared.node.Node.{Node}
use Rattle.node_tree.specs.declared.kind.Kind.{Kind}
use Rattle.node_tree.specs.declared.kind.Kind.TheVariants as kinds
use Rattle.node_tree.specs.Numbers.{Numbered, count_of, siblings, kids_at}
use Rattle.node_tree.specs.Tree.{kind_of, text_of, kids_of}
use Rattle.point_nodes.specs.Tops.{part}
use Rattle.assignments.specs.declared.assignment.Reach.TheVariants.{Base}
use Rattle.assignments.specs.Seen.{Named}
use Rattle.assignments.specs.Targets.{is_name, leading, below, targets}
use Rattle.assignments.proofs.Kids.{Smaller, kids_smaller}
use Rattle.assignments.proofs.Targets.{leading_seen, smaller_leading, targets_name, targets_other}
use Rattle.taint_form.specs.Bases.{node_in, text_in, IsBase}

pub part_is : (kids : List Node) (k : ℕ) (o : Option (Bor Node)) → option_copied o ≡ slice_get kids k → node_in o ≡ part k kids
part_is [] zero None e = refl
part_is [] (suc k) None e = refl
part_is [] zero (Some n) e = absurd cc
part_is [] (suc k) (Some n) e = absurd cc
part_is (x ∷ xs) zero None e = absurd cc
part_is (x ∷ xs) zero (Some n) e = let q : n.now ≡ x = cc in ap (λ (y : Node). y ∷ []) q
part_is (x ∷ xs) (suc k) o e = part_is xs k o e

abbrev node_of : Numbered → Node
node_of s = s.node

nodes_of : (at : ℕ) (ns : List Node) → map node_of (siblings at ns) ≡ ns
nodes_of at [] = refl
nodes_of at (n ∷ ns) = ap (λ ms. n ∷ ms) (nodes_of (at + count_of n) ns)

-- what is below an object is one
below_base : (kind : Kind) (text : List ℕ) (xs : List Numbered) (x : Numbered) (more : List Numbered) → leading Base kind text xs ≡ x ∷ more → below kind ≡ Base
below_base kinds.Tuple text xs x more e = absurd cc
below_base kinds.ListLit text xs x more e = absurd cc
below_base kinds.Star text xs x more e = absurd cc
below_base _ text xs x more e = refl

module _ (s : Numbered) (other : is_name (kind_of s.node) ≡ false) where
  abbrev lead : List Numbered
  lead = leading Base (kind_of s.node) (text_of s.node) (kids_at s)

  lead_is : map node_of lead ≡ leading Base (kind_of s.node) (text_of s.node) (kids_of s.node)
  lead_is = leading_seen node_of Base (kind_of s.node) (text_of s.node) (kids_at s) ∙ ap (leading Base (kind_of s.node) (text_of s.node)) (nodes_of (s.at + 1) (kids_of s.node))

  abbrev names : List Named → List (List ℕ)
  names = map (λ (t : Named). t.name)

  base_none : (xs : List Numbered) → lead ≡ xs → map node_of xs ≡ [] → [] ≡ names (targets Base s)
  base_none [] e q = sym (ap names (targets_other Base s other ∙ ap (flat_map (targets (below (kind_of s.node)))) e))
  base_none (x ∷ xs) e q = absurd cc

  base_some : (xs : List Numbered) (n : Node) (ns : List Node) (name : Option (Bor (List ℕ))) → lead ≡ xs → map node_of xs ≡ n ∷ [] → IsBase name n → text_in name ≡ names (targets Base s)
  base_some [] n ns name e q is = absurd cc
  base_some (x ∷ []) n ns name e q is =
      let same : x.node ≡ n = cc in
      let P : Node → Type 0 = λ m. IsBase name m in
      subst P (sym same) is x.at
      ∙ ap (λ r. names (targets r x)) (sym (below_base (kind_of s.node) (text_of s.node) (kids_at s) x [] e))
      ∙ sym (ap names (targets_other Base s other ∙ ap (flat_map (targets (below (kind_of s.node)))) e ∙ flat_map-cons (targets (below (kind_of s.node))) x [] ∙ append-nil (targets (below (kind_of s.node)) x)))
  base_some (x ∷ y ∷ ys) n ns name e q is = absurd cc

  smaller_some : (xs : List Numbered) (n : Node) → lead ≡ xs → map node_of xs ≡ n ∷ [] → count_of n < count_of s.node
  smaller_some [] n e q = absurd cc
  smaller_some (x ∷ xs) n e q =
      let same : x.node ≡ n = cc in
      let P : List Numbered → Type 0 = Smaller (count_of s.node) in
      let Q : Node → Type 0 = λ m. count_of m < count_of s.node in
      subst Q same (subst P e (smaller_leading (count_of s.node) Base (kind_of s.node) (text_of s.node) (kids_at s) (kids_smaller s))).0

abbrev here : Node → Numbered
here n = record { at = 0; node = n }

-- the name of a node that is none is that of the kid that leads to it
pub base_by : (n : Node) → is_name (kind_of n) ≡ false → (kid : Node) (name : Option (Bor (List ℕ))) → (kid ∷ []) ≡ leading Base (kind_of n) (text_of n) (kids_of n) → IsBase name kid → IsBase name n
base_by n other kid name e is at = let s : Numbered = record { at = at; node = n } in base_some s other (lead s other) kid [] name refl (lead_is s other ∙ sym e) is

pub base_out : (n : Node) → is_name (kind_of n) ≡ false → [] ≡ leading Base (kind_of n) (text_of n) (kids_of n) → IsBase None n
base_out n other e at = let s : Numbered = record { at = at; node = n } in base_none s other (lead s other) refl (lead_is s other ∙ sym e)

pub base_name : (n : Node) (text : Bor (List ℕ)) → is_name (kind_of n) ≡ true → text.now ≡ text_of n → IsBase (Some text) n
base_name n text is e at = ap (λ x. x ∷ []) e ∙ ap (map (λ (t : Named). t.name)) (sym (targets_name Base (record { at = at; node = n }) is))

pub kid_smaller : (n : Node) → is_name (kind_of n) ≡ false → (kid : Node) → (kid ∷ []) ≡ leading Base (kind_of n) (text_of n) (kids_of n) → count_of kid < count_of n
kid_smaller n other kid e = smaller_some (here n) other (lead (here n) other) kid refl (lead_is (here n) other ∙ sym e)
