use Rattle.std.proofs.Common.{◌≡◌, drop}
use Rattle.node_tree.specs.declared.kind.Kind.TheVariants.{Name}
use Rattle.import_names.specs.Resolved as spec
use Rattle.import_names.proofs.replace.dotted.Given as goal

abbrev pub invariant-loop-name : goal.invariant-loop-name
invariant-loop-name l = spec.attributes (spec.leaf Name l.first l.span) l.others l.span ≡ spec.attributes l.node (drop l.name-index l.others) l.span
