use Rattle.std.proofs.Common.{◌≡◌, take}
use Rattle.node_pool.specs.Spots.{all_seen}
use Rattle.assignments.specs.Declarators.{python_names}
use Rattle.assignments.proofs.parameter_names.python_parameters.Given as goal

abbrev pub invariant-loop-parameter : goal.invariant-loop-parameter
invariant-loop-parameter l = all_seen l.names ≡ python_names (all_seen (take l.parameter-index l.parameters))
