-- What is assigned in nodes, by what is assigned in their kids.
use Rattle.std.proofs.Common.{◌≡◌, Bool, List, ◌++◌, ap, ◌∙◌}
use Rattle.std.specs.Prelude.{◌||◌}
use Rattle.std.specs.List.{flat_map}
use Rattle.node_tree.specs.Numbers.{Numbered, kids_at}
use Rattle.node_tree.specs.Tree.{kind_of}
use Rattle.assignments.specs.Seen.{Assigned}
use Rattle.assignments.specs.Assignments.{assigned_at, assigned_in, is_fields, postorder}
use Rattle.assignments.specs.Trees.{from_kids}
use Rattle.assignments.proofs.Trees.{from_kids_is, flat_map-map}

-- first what is assigned in the kids, then what the node itself assigns
pub assigned_in_is : (field : Bool) (s : Numbered) → assigned_in field s ≡ flat_map (assigned_in (field || is_fields (kind_of s.node))) (kids_at s) ++ assigned_at field s
assigned_in_is field s =
    let has : Numbered → Bool → List Assigned = from_kids postorder in
    let below = field || is_fields (kind_of s.node) in
    ap (λ (h : Bool → List Assigned). h field) (from_kids_is postorder s)
    ∙ ap (λ xs. xs ++ assigned_at field s) (flat_map-map (λ (kid : Numbered × (Bool → List Assigned)). kid.1 below) (λ kid. (kid, has kid)) (kids_at s))
