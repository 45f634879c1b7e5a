-- How many points and names the units of a tree have at most, by the kinds of its nodes.
use Rattle.std.specs.Prelude.{◌≡◌, ◌≤◌, ◌+◌, ℕ, if◌then◌else◌, List, [], ◌∷◌}
use Rattle.std.specs.List.{sum_by}
use Rattle.std.specs.Set.{distinct_count}
use Rattle.std.specs.Str.{bytes_eq}
use Rattle.node_tree.specs.declared.kind.Kind.{Kind}
use Rattle.node_tree.specs.declared.kind.Kind.TheVariants as kinds
use Rattle.node_tree.specs.declared.node.Node.{Node}
use Rattle.node_tree.specs.Kinds.{is_statement}
use Rattle.node_tree.specs.Tree.{kind_of, text_of}
use Rattle.unit_names.specs.Words.{Word, name_word}
use Rattle.flow_graph.specs.Units.{points_of}
use Rattle.taint_flow.specs.declared.sizes.Bounds.{Bounds}
use Rattle.taint_flow.specs.Sizes.{same_point, names_of}

-- how many points a node of that kind has
abbrev pub own_points : Kind → ℕ
own_points kinds.ForC = 3
own_points kinds.Handler = 1
own_points kind = if is_statement kind then 1 else 0

-- how many names it is
abbrev pub own_names : Kind → ℕ
own_names kinds.Name = 1
own_names kinds.Id = 1
own_names _ = 0

abbrev pub points_at : Node → ℕ
points_at n = own_points (kind_of n)

abbrev pub names_at : Node → ℕ
names_at n = own_names (kind_of n)

-- the name that a node of that kind and text is, if it is one
abbrev pub words_by : Kind → List ℕ → List Word
words_by kinds.Name text = name_word text ∷ []
words_by kinds.Id text = name_word text ∷ []
words_by _ text = []

abbrev pub words_at : Node → List Word
words_at n = words_by (kind_of n) (text_of n)

-- how many points these nodes have, and how many of them are names
pub record AreCounted (nodes : List Node) (bounds : Bounds) : Type 0 where
  pub points : bounds.points ≡ sum_by points_at nodes
  pub names : bounds.names ≡ sum_by names_at nodes

-- no unit of the tree has more names, or more points beside its entry and its exit
pub record AreBounds (root : Node) (bounds : Bounds) : Type 0 where
  pub points : (unit : ℕ) → distinct_count same_point (points_of root unit) ≤ bounds.points + 2
  pub names : (unit : ℕ) → distinct_count bytes_eq (names_of root unit) ≤ bounds.names
