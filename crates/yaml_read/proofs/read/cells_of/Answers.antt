use Rattle.std.proofs.Common.{List, ap, ◌∙◌}
use Rattle.yaml_lines.specs.Body.{texts}
use Rattle.yaml_lines.specs.declared.line.YLine.{YLine}
use Rattle.yaml_read.specs.Value.{cells_of, line_cells}
use Rattle.yaml_cells.proofs.Cells.{behind, behind-before}
use Rattle.yaml_read.proofs.read.cells_of.Goals as goal

pub lines-preserved : goal.lines-preserved
lines-preserved c =
    let all = texts c.args.all.now in
    c.lines.invariant ∙ ap (λ (x : List YLine). behind c.lines.cells (cells_of all c.args.closed x)) c.in-Some.ensures.cases.0
    ∙ behind-before c.lines.cells c.push_line.new.cells (line_cells all c.args.closed c.in-Some.line.now) (cells_of all c.args.closed c.in-Some.more.now) c.in_ok-push_line.ensures
