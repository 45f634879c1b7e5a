use Rattle.std.proofs.Common.{◌∙◌}
use denote.Enum.Bare.{tag_one}
use Rattle.node_tree.specs.contracts.kind.Kind.{the_type}
use Rattle.node_tree.specs.Order.{kind_place}
use Rattle.tree_code.proofs.front.Front.kind.Goals as goal

pub returns-in-Some-clause-read : goal.returns-in-Some-clause-read
returns-in-Some-clause-read c = λ kind left e.
    let there = c.in_ok-place.ensures.read (kind_place kind) left e in
    (tag_one the_type tt c.in-Some.kind kind (c.in-Some.ensures ∙ there.0), there.1)
