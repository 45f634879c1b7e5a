use Rattle.std.proofs.Common.{◌++◌, sym, ap, ◌∙◌}
use Rattle.std.proofs.lemmas.List.{append-nil}
use Rattle.node_tree.specs.Numbers.{kids_at}
use Rattle.node_tree.specs.Tree.{kind_of, text_of}
use Rattle.node_pool.specs.Spots.{seen, all_seen}
use Rattle.assignments.specs.Seen.{all_assignments}
use Rattle.assignments.specs.Assignments.{assigned_by}
use Rattle.assignments.proofs.QuietBelow.{own_nothing}
use Rattle.assignments.proofs.point_assignments.add_itself.Goals as goal

pub returns-then-not-may_assign : goal.returns-then-not-may_assign
returns-then-not-may_assign c =
    let s = seen c.args.node in
    let old = all_assignments c.args.into.now in
    sym (append-nil old) ∙ ap (λ xs. old ++ xs) (sym (own_nothing c.args.field (kind_of s.node) (text_of s.node) (kids_at s) (sym c.may_assign.ensures ∙ c.if-not-may_assign.true)))
