use Rattle.std.proofs.Common.{◌++◌, map, ap, ◌∙◌}
use Rattle.std.proofs.lemmas.List.{take_all}
use Rattle.node_tree.specs.Numbers.{Numbered}
use Rattle.node_tree.specs.Tree.{span_of}
use Rattle.node_pool.specs.Spots.{seen, all_seen}
use Rattle.taint_tables.proofs.CensusLoops.{map_more}
use Rattle.taint_trace.proofs.standing.add_spans.Goals as goal

pub loop-spot-preserved : goal.loop-spot-preserved
loop-spot-preserved c =
    map_more seen (λ (s : Numbered). span_of s.node) c.args.spots.now c.loop-spot.spot-index c.spot-item.result c.args.into.now c.loop-spot.into _ c.loop-spot-test.true c.spot-item.is c.loop-spot.invariant c.in_ok-push.ensures.ok

pub returns : goal.returns
returns c = c.loop-spot.invariant ∙ ap (λ xs. c.args.into.now ++ map (λ (s : Numbered). span_of s.node) (all_seen xs)) (take_all c.loop-spot.spot-index c.args.spots.now c.loop-spot-test.false)
