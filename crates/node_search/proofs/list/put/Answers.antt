use Rattle.node_match.proofs.Sets.{pushed}
use Rattle.node_search.proofs.list.put.Goals as goal

pub returns : goal.returns
returns c = pushed _ _ _ c.in_ok-push.ensures.ok
