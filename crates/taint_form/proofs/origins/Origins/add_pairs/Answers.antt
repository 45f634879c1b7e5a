use Rattle.std.proofs.Common.{sym, ◌∙◌, ◌+◌, take, get_or}
use Rattle.std.proofs.lemmas.List.{take_all}
use Rattle.graph_form.proofs.Amongs.{among_more}
use Rattle.taint_form.proofs.Maps.{pairs_more, adds_some}
use Rattle.taint_form.proofs.origins.Origins.add_pairs.Goals as goal

pub loop-origin-preserved : goal.loop-origin-preserved
loop-origin-preserved c =
    let items = c.deref-origin-items.result.now in
    pairs_more c.args.adds.now c.loop-origin.adds c.push.new.self (take c.loop-origin.origin-index items) (take (c.loop-origin.origin-index + 1) items) (get_or items c.loop-origin.origin-index 0) c.args.fact
    (among_more items c.loop-origin.origin-index 0 c.loop-origin-test.true) c.loop-origin.invariant c.in_ok-push.ensures.ok

pub returns-after-loop-origin : goal.returns-after-loop-origin
returns-after-loop-origin c =
    let items = c.deref-origin-items.result.now in
    let whole = take_all c.loop-origin.origin-index items c.loop-origin-test.false ∙ c.deref-origin-items.ensures.value in
    adds_some c.args.self.now c.args.fact c.in-Some.origins.now _ c.args.adds.now c.loop-origin.adds (sym c.in-Some.ensures.value) whole c.loop-origin.invariant
