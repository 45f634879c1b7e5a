-- No unit has more points than the nodes of its file by their kinds, beside its entry and its exit.
use Rattle.std.proofs.Common.{◌≡◌, ℕ, zero, suc, ◌+◌, ◌-◌, ◌≤◌, Bool, true, false, List, [], ◌∷◌, length, take, drop, map, Some, refl, sym, ap, ◌∙◌, subst, arith, length-append}
use Rattle.std.specs.Prelude.{Option, None, if◌then◌else◌, slice_get}
use Rattle.std.specs.List.{flat_map, sum_by}
use Rattle.std.proofs.lemmas.List.{take_all}
use Rattle.std.proofs.lemmas.List.Concat.{flat_map-cons}
use Rattle.std.proofs.lemmas.List.Sums.{sum_by-cons, sum_by-append, sum_by-take-le, sum_by-take-drop}
use Rattle.std.proofs.lemmas.Option.{slice_get_within, get_or_from_slice_get}
use Rattle.node_tree.specs.declared.kind.Kind.{Kind}
use Rattle.node_tree.specs.declared.kind.Kind.TheVariants as kinds
use Rattle.node_tree.specs.declared.node.Node.{Node}
use Rattle.node_tree.specs.Kinds.{is_function}
use Rattle.node_tree.specs.Numbers.{Numbered, count_of, siblings, kids_at}
use Rattle.node_tree.specs.Tree.{pre_of, pre_all, kind_of, kids_of}
use Rattle.node_tree.proofs.Trees.{pre_is}
use Rattle.node_pool.proofs.Placing.{below_at, tree_preorder}
use Rattle.graph_form.specs.declared.graph.Point.{Point}
use Rattle.flow_edges.specs.declared.statement.Form.TheVariants as forms
use Rattle.flow_edges.specs.declared.statement.Statement.{Statement, Statement-F, roll-Statement, out-roll-Statement}
use Rattle.flow_edges.specs.Flow.{points, points_by}
use Rattle.flow_graph.specs.declared.labels.Label.{Label}
use Rattle.flow_graph.specs.Outline.{is_row, first_part, part_count, parts_of, target_by, form_by, labels_in, outlined}
use Rattle.flow_graph.specs.Units.{body_at, body_of, exit_of, points_of}
use Rattle.taint_flow.specs.Bounds.{own_points, points_at}

-- what all nodes of a tree have together is what the node has, and what those of its kids' trees have
pub tree_sum : (f : Node → ℕ) (n : Node) → sum_by f (pre_of n) ≡ f n + sum_by f (pre_all (kids_of n))
tree_sum f n = ap (sum_by f) (pre_is n) ∙ sum_by-cons f n (pre_all (kids_of n))

pub tree_summed : (f : Node → ℕ) (n : Node) (ks : List Node) (i sum : ℕ) → ks ≡ kids_of n → length ks ≤ i → sum ≡ f n + sum_by f (pre_all (take i ks)) → sum ≡ sum_by f (pre_of n)
tree_summed f n ks i sum kids end is = is ∙ ap (λ (xs : List Node). f n + sum_by f (pre_all xs)) (take_all i ks end ∙ kids) ∙ sym (tree_sum f n)

-- how many points a tree has, and how many these have together
abbrev tree_count : Node → ℕ
tree_count n = sum_by points_at (pre_of n)

abbrev count_all : List Numbered → ℕ
count_all [] = 0
count_all (s ∷ ss) = tree_count s.node + count_all ss

siblings_count : (at : ℕ) (ns : List Node) → count_all (siblings at ns) ≡ sum_by points_at (pre_all ns)
siblings_count at [] = refl
siblings_count at (n ∷ ns) = omega (arith, siblings_count (at + count_of n) ns, ap (sum_by points_at) (flat_map-cons pre_of n ns), sum_by-append points_at (pre_of n) (pre_all ns))

take_count : (k : ℕ) (xs : List Numbered) → count_all (take k xs) ≤ count_all xs
take_count zero xs = omega arith
take_count (suc k) [] = omega arith
take_count (suc k) (x ∷ xs) = omega (arith, take_count k xs)

drop_count : (k : ℕ) (xs : List Numbered) → count_all (drop k xs) ≤ count_all xs
drop_count zero xs = omega arith
drop_count (suc k) [] = omega arith
drop_count (suc k) (x ∷ xs) = omega (arith, drop_count k xs)

kids_count : (s : Numbered) → count_all (kids_at s) + points_at s.node ≡ tree_count s.node
kids_count s = omega (arith, siblings_count (s.at + 1) (kids_of s.node), tree_sum points_at s.node)

parts_count : (s : Numbered) → count_all (parts_of s) + points_at s.node ≤ tree_count s.node
parts_count s = omega (arith, by (is_row (kind_of s.node)), kids_count s)
  where
    by : (b : Bool) → count_all (if b then kids_at s else take (part_count (kind_of s.node)) (drop (first_part (kind_of s.node)) (kids_at s))) ≤ count_all (kids_at s)
    by true = omega arith
    by false = omega (arith, take_count (part_count (kind_of s.node)) (drop (first_part (kind_of s.node)) (kids_at s)), drop_count (first_part (kind_of s.node)) (kids_at s))

-- a statement has its own points and those below it
own_few : (s : Statement) (below : List Point) (kind : Kind) → length (points_by below s (form_by kind)) ≤ own_points kind + length below
own_few s below kinds.ForC = omega arith
own_few s below kinds.Handler = omega arith
own_few s below _ = omega arith

module _ (labels : List Label) (exit : Point) where
  rows_few : (d e : ℕ) → ((t : Numbered) → length (points d (outlined labels exit e t)) ≤ tree_count t.node) → (xs : List Numbered) → length (flat_map (points d) (map (outlined labels exit e) xs)) ≤ count_all xs
  rows_few d e own [] = omega arith
  rows_few d e own (x ∷ xs) =
      let rest = flat_map (points d) (map (outlined labels exit e) xs) in
      let cut : length (flat_map (points d) (map (outlined labels exit e) (x ∷ xs))) ≡ length (points d (outlined labels exit e x)) + length rest = ap length (flat_map-cons (points d) (outlined labels exit e x) (map (outlined labels exit e) xs)) ∙ length-append (points d (outlined labels exit e x)) rest in
      omega (arith, cut, own x, rows_few d e own xs)

  points_few : (d e : ℕ) (s : Numbered) → length (points d (outlined labels exit e s)) ≤ tree_count s.node
  points_few zero e s = omega arith
  points_few (suc d) zero s =
      let made : Statement-F Statement = record { number = s.at; form = forms.Absent; target = exit; kids = [] } in
      let P : Statement-F Statement → Type 0 = λ x. length (points_by (flat_map (points d) x.kids) (roll-Statement made) x.form) ≤ tree_count s.node in
      subst P (sym (out-roll-Statement made)) (omega arith)
  points_few (suc d) (suc e) s =
      let made : Statement-F Statement = record {
        number = s.at;
        form = form_by (kind_of s.node);
        target = target_by labels exit s.node (kind_of s.node);
        kids = map (outlined labels exit e) (parts_of s);
      } in
      let P : Statement-F Statement → Type 0 = λ x. length (points_by (flat_map (points d) x.kids) (roll-Statement made) x.form) ≤ tree_count s.node in
      let below = flat_map (points d) (map (outlined labels exit e) (parts_of s)) in
      subst P (sym (out-roll-Statement made)) (omega (arith, own_few (roll-Statement made) below (kind_of s.node), rows_few d e (λ t. points_few d e t) (parts_of s), parts_count s))

-- a body is a part of the file
body_count : (root : Node) (unit : ℕ) → count_all (body_of root unit) ≤ tree_count root
body_count root zero = omega arith
body_count root (suc k) = by (slice_get (pre_of root) (suc k)) refl
  where
    in_function : (n : Node) (b : Bool) → tree_count n ≤ tree_count root → count_all (if b then drop (length (kids_of n) - 1) (kids_at (record { at = suc k; node = n })) else []) ≤ tree_count root
    in_function n true less = omega (arith, less, drop_count (length (kids_of n) - 1) (kids_at (record { at = suc k; node = n })), kids_count (record { at = suc k; node = n }))
    in_function n false less = omega arith

    by : (o : Option Node) → slice_get (pre_of root) (suc k) ≡ o → count_all (body_at (suc k) o) ≤ tree_count root
    by None at = omega arith
    by (Some n) at =
        let rest = drop (suc k) (pre_of root) in
        let cut = below_at (pre_of root) (suc k) n (tree_preorder root) (slice_get_within (pre_of root) (suc k) n at) (sym (get_or_from_slice_get (pre_of root) (suc k) n n at)) in
        in_function n (is_function (kind_of n)) (omega (arith, ap (sum_by points_at) cut, sum_by-take-le points_at rest (count_of n), sum_by-take-drop points_at (pre_of root) (suc k)))

pub unit_few : (root : Node) (unit : ℕ) → length (points_of root unit) ≤ sum_by points_at (pre_of root) + 2
unit_few root unit =
    let labels = flat_map (labels_in (count_of root)) (body_of root unit) in
    omega (arith, rows_few labels (exit_of unit) (count_of root) (count_of root) (points_few labels (exit_of unit) (count_of root) (count_of root)) (body_of root unit), body_count root unit)
