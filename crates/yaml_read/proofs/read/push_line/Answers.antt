use Rattle.std.proofs.Common.{◌++◌, List, ap, ◌∙◌, append_assoc}
use Rattle.yaml_read.specs.Value.{mark_cells, dash_cells, key_cells}
use Rattle.yaml_cells.specs.declared.cell.Cell.{Cell}
use Rattle.yaml_read.proofs.Readings.{adds_behind, length-texts}
use Rattle.yaml_read.proofs.read.push_line.Goals as goal

pub returns : goal.returns
returns c =
    let line = c.args.line.now in
    let dashes = c.in_ok-push_dashes.ensures ∙ ap (λ x. c.args.cells.now ++ dash_cells x) c.as_slice.ensures in
    let marks = c.in_ok-push_key.ensures ∙ ap (λ (x : List Cell). x ++ key_cells line.column line.key) dashes ∙ append_assoc c.args.cells.now (dash_cells line.dashes) (key_cells line.column line.key) in
    let told = rw (c.value_column.ensures, c.line_at.ensures.line, c.is_ended.ensures) at c.push_leaf.ensures in
    rw (length-texts c.args.all.now) (adds_behind c.args.cells.now c.push_key.new.cells c.push_leaf.new.cells (mark_cells line) _ c.push_leaf.result marks told)
