use Rattle.std.proofs.Common.{◌++◌, false, ap, ◌∙◌}
use Rattle.node_pool.specs.Spots.{seen}
use Rattle.assignments.specs.Assignments.{assigned_in}
use Rattle.assignments.specs.Seen.{all_assignments}
use Rattle.import_names.proofs.Roots.{root_is, root_there}
use Rattle.import_names.proofs.say.assigned.Goals as goal

pub returns-in-Some : goal.returns-in-Some
returns-in-Some c =
    c.in_ok-add_assignments.ensures ∙ ap (λ xs. all_assignments xs ++ assigned_in false (seen c.in-Some.root)) c.new-list.ensures
    ∙ ap (assigned_in false) (root_is c.args.tree.now _ (seen c.in-Some.root) c.in_ok-indexed.ensures c.in-Some.ensures)

pub returns : goal.returns
returns c = absurd (root_there c.args.tree.now _ c.in_ok-indexed.ensures c.in_default.ensures)
