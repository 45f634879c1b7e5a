use Rattle.std.proofs.Common.{◌++◌, ◌∷◌, [], map, ap, ◌∙◌}
use Rattle.std.proofs.lemmas.List.{take_all}
use Rattle.node_tree.specs.Numbers.{Numbered}
use Rattle.node_tree.specs.Tree.{text_of, span_of}
use Rattle.node_pool.specs.Spots.{seen, all_seen}
use Rattle.taint_tables.specs.Censuses.{texts}
use Rattle.taint_tables.proofs.CensusLoops.{map_more, text_pushed}
use Rattle.taint_tables.proofs.counting.add_all.Goals as goal

pub loop-spot-preserved : goal.loop-spot-preserved
loop-spot-preserved c =
    let spots = c.args.spots.now in
    let i = c.loop-spot.spot-index in
    let x = c.spot-item.result in
    record {
      names = map_more seen (λ (s : Numbered). text_of s.node) spots i x (texts c.args.names.now) (texts c.loop-spot.names) _ c.loop-spot-test.true c.spot-item.is c.loop-spot.invariant.names (text_pushed c.loop-spot.names c.push.new.self c.as_str.result c.in_ok-push.ensures.ok ∙ ap (λ t. texts c.loop-spot.names ++ t ∷ []) c.as_str.ensures);
      spans = map_more seen (λ (s : Numbered). span_of s.node) spots i x c.args.spans.now c.loop-spot.spans _ c.loop-spot-test.true c.spot-item.is c.loop-spot.invariant.spans c.in_ok-push-2.ensures.ok;
    }

pub returns-clause-names : goal.returns-clause-names
returns-clause-names c = c.loop-spot.invariant.names ∙ ap (λ xs. texts c.args.names.now ++ map (λ (s : Numbered). text_of s.node) (all_seen xs)) (take_all c.loop-spot.spot-index c.args.spots.now c.loop-spot-test.false)

pub returns-clause-spans : goal.returns-clause-spans
returns-clause-spans c = c.loop-spot.invariant.spans ∙ ap (λ xs. c.args.spans.now ++ map (λ (s : Numbered). span_of s.node) (all_seen xs)) (take_all c.loop-spot.spot-index c.args.spots.now c.loop-spot-test.false)
