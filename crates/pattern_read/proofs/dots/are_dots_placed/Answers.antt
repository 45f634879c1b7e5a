use Rattle.std.proofs.Common.{◌≡◌, ◌∙◌, sym, false}
use Rattle.pattern_read.specs.Dots.{misplaces_dots}
use Rattle.pattern_read.proofs.Walked.{taken}
use Rattle.pattern_read.proofs.dots.are_dots_placed.Goals as goal

pub loop-node-preserved : goal.loop-node-preserved
loop-node-preserved c =
    taken (λ n. misplaces_dots n ≡ false) _ _ _ c.in-Some.node.now c.in-Some.ensures.steps (sym c.misplaces_dots.ensures ∙ c.if-misplaces_dots.false) c.loop-node.invariant
