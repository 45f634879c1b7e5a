use Rattle.std.proofs.Common.{◌∙◌, sym, ap}
use Rattle.node_tree.specs.declared.view.Pattern.{Pattern}
use Rattle.file_match.proofs.tree.has_no_run.Goals as goal

pub returns-in-Run : goal.returns-in-Run
returns-in-Run c out = c.is_ruled_out.ensures.own_run out (sym (ap (λ (p : Pattern). p.shape) c.pattern.ensures) ∙ c.in-Run.is)
