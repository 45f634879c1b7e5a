use Rattle.std.proofs.Common.{sym, ◌∙◌}
use Rattle.unit_effects.specs.Numbering.{entry_value}
use Rattle.const_prop.specs.Idle.{is_given_at}
use Rattle.const_prop.proofs.Idling.{none_next, any_next, none_left}
use Rattle.const_prop.proofs.idle.is_given.Goals as goal

pub loop-point-preserved : goal.loop-point-preserved
loop-point-preserved c =
    none_next (is_given_at c.args.tree.now (entry_value c.args.entry.now)) c.as_slice-point-items.result.now c.loop-point.point-index _ c.loop-point-test.true c.loop-point.invariant (sym c.in_ok-is_given_at.ensures ∙ c.if-branch.false)

pub returns-then-branch : goal.returns-then-branch
returns-then-branch c =
    any_next (is_given_at c.args.tree.now (entry_value c.args.entry.now)) c.as_slice-point-items.result.now _ c.loop-point.point-index _ c.loop-point-test.true c.as_slice-point-items.ensures (sym c.in_ok-is_given_at.ensures ∙ c.if-branch.true)

pub returns : goal.returns
returns c = none_left (is_given_at c.args.tree.now (entry_value c.args.entry.now)) c.as_slice-point-items.result.now c.loop-point.point-index _ c.loop-point-test.false c.as_slice-point-items.ensures c.loop-point.invariant
