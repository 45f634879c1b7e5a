use Rattle.yaml_read.proofs.Whole.{gives_value, gives_only, gives_none, gives_not_utf8, gives_outside, gives_refused}
use Rattle.yaml_read.proofs.read.read_yaml.Goals as goal

pub returns : goal.returns
returns c = record {
  value = gives_value c.args.bytes.now c.value_in.result c.value_in.ensures;
  only = gives_only c.args.bytes.now c.value_in.result c.value_in.ensures;
  no_value = gives_none c.args.bytes.now c.value_in.result c.value_in.ensures;
  not_utf8 = gives_not_utf8 c.args.bytes.now c.value_in.result c.value_in.ensures;
  outside = gives_outside c.args.bytes.now c.value_in.result c.value_in.ensures;
  refused = gives_refused c.args.bytes.now c.value_in.result c.value_in.ensures;
}
