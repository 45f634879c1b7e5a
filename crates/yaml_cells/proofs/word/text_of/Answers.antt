use Rattle.std.proofs.Common.{◌∙◌}
use Rattle.yaml_cells.proofs.Utf8.{utf8_some, utf8_none}
use Rattle.yaml_cells.proofs.word.text_of.Goals as goal

pub returns-in_ok-from_str-in-Ok : goal.returns-in_ok-from_str-in-Ok
returns-in_ok-from_str-in-Ok c = utf8_some c.args.bytes.now c.in_ok-from_str-in-Ok.field-0 c.in-Ok.ensures.cases.1 (c.in_ok-from_str-in-Ok.ensures ∙ c.in-Ok.ensures.cases.0)

pub returns-in-Err : goal.returns-in-Err
returns-in-Err c = utf8_none c.args.bytes.now c.in-Err.ensures.cases.0
