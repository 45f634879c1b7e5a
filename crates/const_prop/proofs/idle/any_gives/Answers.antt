use Rattle.std.proofs.Common.{sym, refl, ◌∙◌}
use Rattle.assignments.specs.declared.assignment.Assignment.{Assignment}
use Rattle.assignments.specs.Seen.{seen_assignment}
use Rattle.unit_effects.proofs.Lists.{none_more}
use Rattle.unit_effects.specs.Numbering.{entry_value}
use Rattle.const_prop.specs.Idle.{gives}
use Rattle.const_prop.proofs.Idling.{any_found, any_none}
use Rattle.const_prop.proofs.idle.any_gives.Goals as goal

pub loop-one-preserved : goal.loop-one-preserved
loop-one-preserved c =
    none_more (λ (a : Assignment). gives (entry_value c.args.entry.now) (seen_assignment a)) c.args.list.now c.loop-one.one-index c.one-item.result c.loop-one-test.true c.one-item.is c.loop-one.invariant (sym c.gives.ensures ∙ c.if-gives.false)

pub returns-then-gives : goal.returns-then-gives
returns-then-gives c =
    any_found seen_assignment (gives (entry_value c.args.entry.now)) c.args.list.now _ c.loop-one.one-index c.one-item.result c.loop-one-test.true c.one-item.is refl (sym c.gives.ensures ∙ c.if-gives.true)

pub returns : goal.returns
returns c = any_none seen_assignment (gives (entry_value c.args.entry.now)) c.args.list.now _ c.loop-one.one-index c.loop-one-test.false refl c.loop-one.invariant
