use Rattle.std.proofs.Common.{drop, length-drop, arith}
use Rattle.node_match.specs.Free.{parts_of}
use Rattle.node_match.proofs.Parts.{parts_as_many}
use Rattle.tree_match.proofs.Lasts.{found_whole}
use Rattle.tree_match.proofs.last_states.last_states.Goals as goal

pub returns : goal.returns
returns c m =
    let search = c.args.search in
    let ps = drop c.args.at (parts_of search.pattern.now) in
    found_whole search c.args.at c.args.states _ m (c.reach_last.ensures.whole c.if-not-reach_last.false) (c.reach_last.ensures.all c.if-not-reach_last.false)
    (λ e all. c.in_ok-last.ensures search.known.names.now ps e (c.reach_last.ensures.single c.if-not-reach_last.false) (omega (arith, parts_as_many search.pattern.now, length-drop c.args.at (parts_of search.pattern.now), c.len.ensures)) all)
