-- Where `...` and `$...X` may stand.
use Rattle.std.specs.Prelude.{◌≡◌, Bool, true, false, ◌&&◌, ◌||◌, if◌then◌else◌, List, [], ◌∷◌, All}
use Rattle.node_tree.specs.declared.kind.Kind.{Kind}
use Rattle.node_tree.specs.declared.kind.Kind.TheVariants as kinds
use Rattle.node_tree.specs.declared.node.Node.{Node}
use Rattle.node_tree.specs.Tree.{kind_of, kids_of, pre_of}

-- `...` or `$...X`
abbrev pub is_dots : Kind → Bool
is_dots kinds.Dots = true
is_dots kinds.MetaDots = true
is_dots _ = false

-- `$...X`
abbrev pub is_named_dots : Kind → Bool
is_named_dots kinds.MetaDots = true
is_named_dots _ = false

-- all of them are `...` or `$...X`
abbrev pub are_all_dots : List Node → Bool
are_all_dots [] = true
are_all_dots (n ∷ ns) = is_dots (kind_of n) && are_all_dots ns

-- a node that holds any number of items: its kids stand in a list
abbrev pub holds_items : Kind → Bool
holds_items kinds.List = true
holds_items kinds.Block = true
holds_items kinds.Root = true
holds_items kinds.Tuple = true
holds_items kinds.ListLit = true
holds_items kinds.SetLit = true
holds_items kinds.DictLit = true
holds_items kinds.Array = true
holds_items kinds.Object = true
holds_items kinds.InitList = true
holds_items _ = false

abbrev pub has_named_dots : List Node → Bool
has_named_dots [] = false
has_named_dots (n ∷ ns) = is_named_dots (kind_of n) || has_named_dots ns

-- a kid is a `$...X`, though the node holds no list of items
abbrev pub misplaces_dots : Node → Bool
misplaces_dots n = if holds_items (kind_of n) then false else has_named_dots (kids_of n)

-- each `$...X` below the node stands in a list of items
abbrev pub DotsArePlaced : Node → Type 0
DotsArePlaced tree = All (λ n. misplaces_dots n ≡ false) (pre_of tree)
