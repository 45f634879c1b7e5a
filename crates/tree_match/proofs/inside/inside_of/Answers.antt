use Rattle.std.proofs.Common.{arith}
use Rattle.node_pool.specs.Spots.{seen, all_seen}
use Rattle.node_match.proofs.Numbering.{one_further}
use Rattle.node_match.proofs.Choosing.{seen_many, seen_at}
use Rattle.tree_match.proofs.inside.inside_of.Goals as goal

pub returns : goal.returns
returns c =
    let nodes = c.args.search.holder.kids.now in
    let at = c.args.state.now.at in
    let kid = c.index-nodes-state.result in
    record {
      stays = c.if-state.false;
      next_part = c.in-Some.ensures;
      next_kid = one_further (all_seen nodes) at (seen kid) (omega (arith, seen_many nodes, c.if-nodes-state.false)) (seen_at nodes at kid (omega (arith, c.if-nodes-state.false)) c.index-nodes-state.is);
      within = omega (arith, c.len.ensures, c.if-len-from.false);
      way = c.in-Some-way_into.ensures;
    }
