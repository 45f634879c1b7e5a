use Rattle.std.proofs.Common.{◌∙◌, sym}
use Rattle.node_pool.specs.Spots.{seen}
use Rattle.tree_match.specs.Members.{MemberRun}
use Rattle.node_match.proofs.Sets.{adds_none, adds_up, adds_up_as}
use Rattle.tree_match.proofs.MemberOrder.{one_block, no_block}
use Rattle.tree_match.proofs.leaf.add_run_at.Goals as goal

pub returns-then-not-holds_statements-clause-added : goal.returns-then-not-holds_statements-clause-added
returns-then-not-holds_statements-clause-added c =
    adds_up _ _ _ _ (adds_none _ _ (no_block (MemberRun c.args.known.names.now c.args.pattern.now) (seen c.args.spot) (sym c.holds_statements.ensures ∙ c.if-not-holds_statements.true)))

pub returns-clause-added : goal.returns-clause-added
returns-clause-added c =
    adds_up_as _ _ _ _ _ c.in_ok-add_block.ensures.added (one_block (MemberRun c.args.known.names.now c.args.pattern.now) (seen c.args.spot) (sym c.holds_statements.ensures ∙ c.if-not-holds_statements.false))
