use Rattle.std.proofs.Common.{◌≡◌, ◌++◌, length}
use Rattle.std.specs.Option.{option_map}
use Rattle.yaml_cells.specs.Flow.{flow_lines, flow_text}
use Rattle.yaml_cells.proofs.flow.flow_text.Given as goal

abbrev pub invariant-lines : goal.invariant-lines
invariant-lines l = flow_text l.first l.comment l.body ≡ option_map (λ more. l.text ++ more) (flow_lines l.scan l.rest)

abbrev pub decreases-lines : goal.decreases-lines
decreases-lines l = length l.rest
