use Rattle.std.proofs.Common.{List, length, refl, subst}
use Rattle.flow_reach.specs.Reached.{Tells}
use Rattle.taint_plan.specs.declared.goal.Goal.{Goal}
use Rattle.taint_flow.specs.Lowest.{Lowers}
use Rattle.taint_flow.specs.Still.{BySources}
use Rattle.taint_flow.proofs.Reaching.{still_done}
use Rattle.taint_flow.proofs.still.search_still.Goals as goal

pub returns : goal.returns
returns c =
    let sources = c.args.sources.now in
    let reached = c.in_ok-reached.reached in
    let old = c.args.least.now.sources.items in
    let new = c.note_reached.new.least.sources.items in
    let G : List Goal → Type 0 = λ gs. Lowers (BySources (λ point. Tells reached point 0) sources gs) old new in
    still_done c.args.graph.now c.args.plan.now (length sources) c.requires.keeps reached c.in_ok-reached.ensures sources refl c.requires.goals old new (subst G c.as_slice.ensures c.note_reached.ensures)
