-- The statements of a tree as the flow sees them.
use Rattle.std.specs.Prelude.{ℕ, zero, suc, Bool, true, false, if◌then◌else◌, ◌&&◌, List, [], ◌∷◌, ◌++◌, take, drop, map}
use Rattle.std.specs.Bool.{◌==◌}
use Rattle.std.specs.List.{flat_map}
use Rattle.node_tree.specs.declared.node.Node.{Node}
use Rattle.node_tree.specs.declared.kind.Kind.{Kind}
use Rattle.node_tree.specs.declared.kind.Kind.TheVariants as kinds
use Rattle.node_tree.specs.Kinds.{is_statement}
use Rattle.node_tree.specs.Numbers.{Numbered, kids_at}
use Rattle.node_tree.specs.Tree.{kind_of, text_of, kids_of}
use Rattle.graph_form.specs.declared.graph.Point.{Point}
use Rattle.graph_form.specs.declared.graph.Role.TheVariants as roles
use Rattle.flow_edges.specs.declared.statement.Form.{Form}
use Rattle.flow_edges.specs.declared.statement.Form.TheVariants as forms
use Rattle.flow_edges.specs.declared.statement.Statement.{Statement, roll-Statement}
use Rattle.flow_graph.specs.declared.labels.Label.{Label}

-- a statement that holds no statements and is no jump has one point, and what is no statement has none
abbrev pub simple_by : Kind → Form
simple_by kind = if is_statement kind then forms.Plain else forms.Absent

-- how the flow goes through a node
abbrev pub form_by : Kind → Form
form_by kinds.Root = forms.Row
form_by kinds.Block = forms.Row
form_by kinds.List = forms.Row
form_by kinds.If = forms.If
form_by kinds.While = forms.Loop
form_by kinds.For = forms.Loop
form_by kinds.DoWhile = forms.DoWhile
form_by kinds.ForC = forms.ForC
form_by kinds.With = forms.With
form_by kinds.ClassDef = forms.With
form_by kinds.Try = forms.Try
form_by kinds.Handler = forms.Handler
form_by kinds.Switch = forms.Switch
form_by kinds.Case = forms.Case
form_by kinds.Default = forms.Default
form_by kinds.Return = forms.Return
form_by kinds.Raise = forms.Raise
form_by kinds.Break = forms.Break
form_by kinds.Continue = forms.Continue
form_by kinds.Goto = forms.Goto
form_by kind = simple_by kind

-- all kids are parts
abbrev pub is_row : Kind → Bool
is_row kinds.Root = true
is_row kinds.Block = true
is_row kinds.List = true
is_row _ = false

-- the place of the first kid that is a part: a body, an else part, handlers, a finally part
abbrev pub first_part : Kind → ℕ
first_part kinds.If = 1
first_part kinds.While = 1
first_part kinds.For = 2
first_part kinds.With = 1
first_part kinds.ClassDef = 3
first_part kinds.ForC = 3
first_part kinds.Handler = 2
first_part kinds.Switch = 1
first_part _ = 0

-- how many kids are parts
abbrev pub part_count : Kind → ℕ
part_count kinds.If = 2
part_count kinds.While = 2
part_count kinds.For = 2
part_count kinds.Try = 4
part_count kinds.With = 1
part_count kinds.ClassDef = 1
part_count kinds.DoWhile = 1
part_count kinds.ForC = 1
part_count kinds.Handler = 1
part_count kinds.Switch = 1
part_count _ = 0

abbrev pub parts_among : {X : Type 0} → Kind → List X → List X
parts_among {X} kind kids = if is_row kind then kids else take (part_count kind) (drop (first_part kind) kids)

-- the parts of a node, with their numbers
abbrev pub parts_of : Numbered → List Numbered
parts_of s = parts_among (kind_of s.node) (kids_at s)

-- the text of the first kid, which is the name of a label and of a goto
abbrev pub name_among : List Node → List ℕ
name_among [] = []
name_among (kid ∷ kids) = text_of kid

-- a statement that is a label
abbrev pub labels_here : Numbered → Kind → List Label
labels_here s kinds.Label = record { name = name_among (kids_of s.node); at = s.at } ∷ []
labels_here s _ = []

-- the labels among statements in preorder, down to a depth
abbrev pub labels_in : ℕ → Numbered → List Label
labels_in zero s = []
labels_in (suc d) s = labels_here s (kind_of s.node) ++ flat_map (labels_in d) (parts_of s)

abbrev pub same_text : List ℕ → List ℕ → Bool
same_text [] [] = true
same_text (x ∷ xs) (y ∷ ys) = (x == y) && same_text xs ys
same_text _ _ = false

-- where a jump to a name goes: to the first label of that name, or to the exit
abbrev pub target_among : List Label → Point → List ℕ → Point
target_among [] exit name = exit
target_among (l ∷ ls) exit name = if same_text l.name name then record { node = l.at; role = roles.Head } else target_among ls exit name

abbrev pub target_by : List Label → Point → Node → Kind → Point
target_by labels exit n kinds.Goto = target_among labels exit (name_among (kids_of n))
target_by labels exit n _ = exit

-- a statement with its parts, down to a depth
abbrev pub outlined : List Label → Point → ℕ → Numbered → Statement
outlined labels exit zero s = roll-Statement (record { number = s.at; form = forms.Absent; target = exit; kids = [] })
outlined labels exit (suc d) s =
    roll-Statement (record {
      number = s.at;
      form = form_by (kind_of s.node);
      target = target_by labels exit s.node (kind_of s.node);
      kids = map (outlined labels exit d) (parts_of s);
    })
