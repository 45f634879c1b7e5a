use Rattle.std.proofs.Common.{◌∙◌, sym}
use Rattle.node_pool.specs.Spots.{seen}
use Rattle.node_match.proofs.Numbering.{kids_many}
use Rattle.node_search.proofs.list.count_kids.Goals as goal

pub returns : goal.returns
returns c = c.len.ensures ∙ sym (kids_many (seen c.args.holder))
