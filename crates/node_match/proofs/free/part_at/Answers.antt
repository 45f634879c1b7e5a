use Rattle.std.proofs.Common.{◌∙◌, sym}
use Rattle.node_match.proofs.Parts.{free_here, asked_here}
use Rattle.node_match.proofs.free.part_at.Goals as goal

pub returns-then-is_free : goal.returns-then-is_free
returns-then-is_free c = free_here c.args.pattern.now _ c.args.at c.index-as_slice-at.result c.as_slice.ensures c.requires c.index-as_slice-at.is (sym c.is_free.ensures ∙ c.if-is_free.true)

pub returns : goal.returns
returns c = asked_here c.args.pattern.now _ c.args.at c.index-as_slice-at.result c.as_slice.ensures c.requires c.index-as_slice-at.is (sym c.is_free.ensures ∙ c.if-is_free.false)
