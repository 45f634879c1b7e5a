-- The fixed names of a module.
use Rattle.std.specs.Prelude.{ℕ, ◌+◌, if◌then◌else◌, List, [], ◌∷◌, ◌++◌, filter, take, Option, Some, None}
use Rattle.std.specs.List.{flat_map}
use Rattle.std.specs.Str.{bytes_eq}
use Rattle.node_tree.specs.declared.node.Node.{Node}
use Rattle.node_tree.specs.declared.kind.Kind.{Kind}
use Rattle.node_tree.specs.declared.kind.Kind.TheVariants as kinds
use Rattle.node_tree.specs.Kinds.{is_literal}
use Rattle.node_tree.specs.Numbers.{Numbered, count_of}
use Rattle.node_tree.specs.Tree.{kind_of}
use Rattle.graph_form.specs.declared.graph.Point.{Point}
use Rattle.point_nodes.specs.Tops.{node_at}
use Rattle.assignments.specs.declared.assignment.Manner.{Manner}
use Rattle.assignments.specs.declared.assignment.Manner.TheVariants as manners
use Rattle.assignments.specs.declared.assignment.Reach.{Reach}
use Rattle.assignments.specs.declared.assignment.Reach.TheVariants as reaches
use Rattle.assignments.specs.Assignments.{assigned_of}
use Rattle.assignments.specs.Seen.{Named, Assigned}
use Rattle.unit_names.specs.declared.scope.Scope.{Scope}
use Rattle.unit_names.specs.Names.{is_assigned, own_words, shared_in, referred_in}
use Rattle.unit_names.specs.Words.{Word, word_of, name_word, is_one_of}

-- what is known of a name: the literal that it holds, or nothing
abbrev pub Value : Type 0
Value = Option Word

-- what is known of each name
abbrev pub State : Type 0
State = List ℕ → Value

-- the literal that a statement gives to the whole of a target
abbrev pub settled : Manner → Reach → Option Node → Value
settled manners.Statement reaches.Whole (Some n) = if is_literal (kind_of n) then Some (word_of n) else None
settled _ _ _ = None

-- each name that an assignment assigns, with the literal that it gets as a constant does
abbrev pub occurrence : Manner → Option Node → Named → List (List ℕ × Value)
occurrence manner value t = if is_assigned t.reach then (t.name, settled manner t.reach value) ∷ [] else []

abbrev pub occurrences : Assigned → List (List ℕ × Value)
occurrences a = flat_map (occurrence a.manner a.value) a.targets

abbrev pub occurrences_at : List Node → Point → List (List ℕ × Value)
occurrences_at nodes p = flat_map occurrences (assigned_of nodes p)

abbrev pub occurrences_of : List Node → Scope → List (List ℕ × Value)
occurrences_of nodes s = flat_map (occurrences_at nodes) s.graph.points

-- what is said of a name that is assigned just once
abbrev pub only_one : List (List ℕ × Value) → Value
only_one (o ∷ []) = o.1
only_one _ = None

-- what a function of C assigns
abbrev pub in_c : Kind → List Word → List Word
in_c kinds.FuncDef words = words
in_c _ words = []

abbrev pub in_c_at : List Node → Scope → Option Numbered → List Word
in_c_at nodes s None = []
in_c_at nodes s (Some n) = in_c (kind_of n.node) (own_words nodes s)

abbrev pub c_words : List Node → Scope → List Word
c_words nodes s = in_c_at nodes s (node_at nodes s.unit)

-- the names that aren't fixed, however often they are assigned: those that are `global` or `nonlocal` or behind a `&` anywhere in
-- the file, and those that a function of C assigns or has as a parameter
abbrev pub barred : List Node → List Scope → List Word
barred nodes scopes = (flat_map shared_in nodes ++ flat_map referred_in nodes) ++ flat_map (c_words nodes) scopes

-- the literal to which a name is fixed: the points of the top level, which is the first unit, assign it once, and that as a constant
abbrev pub fixed : List Node → List Scope → List ℕ → Value
fixed nodes scopes name =
    if is_one_of (barred nodes scopes) (name_word name) then None else only_one (filter (λ o. bytes_eq o.0 name) (flat_map (occurrences_of nodes) (take 1 scopes)))

-- the number behind the last node of a function
abbrev pub end_of : Option Numbered → ℕ
end_of None = 0
end_of (Some n) = n.at + count_of n.node
