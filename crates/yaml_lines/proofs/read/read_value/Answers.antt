use Rattle.yaml_lines.specs.Heading.{headed}
use Rattle.yaml_lines.proofs.Reading.{value_is}
use Rattle.yaml_lines.proofs.read.read_value.Goals as goal

pub returns-clause-value : goal.returns-clause-value
returns-clause-value c =
    value_is c.args.number c.args.above c.args.line.now (headed c.in_ok-head.head) c.args.below.now c.holder_of-holder.result c.body_len-len.result c.in_ok-line.line
    c.in_ok-head.ensures.head c.in_default.ensures c.holder_of-holder.ensures c.body_len-len.ensures.len c.in_ok-line.ensures
