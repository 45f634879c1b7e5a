-- In which order the kids of a pattern take those of a node.
use Rattle.std.specs.Prelude.{List, [], ◌∷◌, map, filter, Bool, true, false, not, ◌||◌, ◌&&◌, if◌then◌else◌, Some}
use Rattle.node_tree.specs.declared.node.Node.{Node}
use Rattle.node_tree.specs.declared.kind.Kind.{Kind}
use Rattle.node_tree.specs.declared.kind.Kind.TheVariants as kinds
use Rattle.node_tree.specs.Tree.{kind_of, kids_of}
use Rattle.node_tree.specs.Numbers.{Numbered}
use Rattle.node_match.specs.declared.class.Role.{Role}
use Rattle.node_match.specs.declared.class.Role.TheVariants as roles
use Rattle.node_match.specs.declared.order.Order.{Order}
use Rattle.node_match.specs.declared.order.Order.TheVariants.{Fixed, Any}
use Rattle.node_match.specs.Kinds.{role_of}
use Rattle.node_match.specs.Free.{Part}

abbrev pub is_dots_role : Role → Bool
is_dots_role roles.Dots = true
is_dots_role _ = false

abbrev pub is_run_role : Role → Bool
is_run_role roles.MetaDots = true
is_run_role _ = false

-- `...`
abbrev pub is_dots : Node → Bool
is_dots p = is_dots_role (role_of (kind_of p))

-- `$...X`
abbrev pub is_run : Node → Bool
is_run p = is_run_role (role_of (kind_of p))

-- one of the patterns is so
abbrev pub some_is : (Node → Bool) → List Node → Bool
some_is f [] = false
some_is f (p ∷ ps) = f p || some_is f ps

abbrev pub has_dots : List Node → Bool
has_dots = some_is is_dots

abbrev pub has_runs : List Node → Bool
has_runs = some_is is_run

-- the patterns other than `...`
abbrev pub asked_of : List Node → List Node
asked_of [] = []
asked_of (p ∷ ps) = if is_dots p then asked_of ps else p ∷ asked_of ps

-- members stand in any order, unless some are bound as a run
abbrev pub members_by : List Node → Order
members_by ps = if has_runs ps then Fixed else Any

abbrev pub order_by : Kind → List Node → Order
order_by kinds.Object ps = members_by ps
order_by _ ps = Fixed

-- in which order the kids of a pattern take those of a node
abbrev pub order_of : Node → Order
order_of p = order_by (kind_of p) (kids_of p)

-- ---- the arguments of a call

abbrev pub is_list : Kind → Bool
is_list kinds.List = true
is_list _ = false

abbrev pub is_call : Kind → Bool
is_call kinds.Call = true
is_call _ = false

-- the pattern is the list of the arguments of a call, and binds none of them as a run; such arguments may stand in another order
abbrev pub is_arguments : Kind → Node → Bool
is_arguments holder p = is_call holder && (is_list (kind_of p) && not (has_runs (kids_of p)))

abbrev pub is_keyword : Kind → Bool
is_keyword kinds.Keyword = true
is_keyword _ = false

-- an argument with a name, as `k=1`
abbrev pub is_named : Node → Bool
is_named n = is_keyword (kind_of n)

-- the patterns with a name, and those without
abbrev pub named_of : List Node → List Node
named_of = filter is_named

abbrev pub unnamed_of : List Node → List Node
unnamed_of = filter (λ (p : Node). not (is_named p))

-- the nodes with a name, and those without
abbrev pub named_at : List Numbered → List Numbered
named_at = filter (λ (n : Numbered). is_named n.node)

abbrev pub unnamed_at : List Numbered → List Numbered
unnamed_at = filter (λ (n : Numbered). not (is_named n.node))

-- a node with a name is in the first part, one without in the second
abbrev pub is_in : Bool → Node → Bool
is_in true n = is_named n
is_in false n = not (is_named n)

-- the one part or the other
abbrev pub parted_at : Bool → List Numbered → List Numbered
parted_at named = filter (λ (n : Numbered). is_in named n.node)

-- each is asked for
abbrev pub all_asked : List Node → List Part
all_asked = map Some

-- whether the pattern chooses: of arguments those with a name do, of members all but `...`
abbrev pub chooses : Bool → Node → Bool
chooses true p = is_named p
chooses false p = not (is_dots p)

-- the patterns that choose
abbrev pub choosers : Bool → List Node → List Node
choosers true ps = named_of ps
choosers false ps = asked_of ps
