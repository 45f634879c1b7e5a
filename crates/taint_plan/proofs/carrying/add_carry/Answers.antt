use Rattle.node_pool.specs.Spots.{all_seen}
use Rattle.taint_tables.specs.Numbers.{numbers_of}
use Rattle.taint_plan.specs.RowFacts.{TaintsOne, HasBaseFact}
use Rattle.taint_plan.proofs.CarryLists.{only_added, carry_added}
use Rattle.taint_plan.proofs.carrying.add_carry.Goals as goal

pub returns : goal.returns
returns c spans holds =
    let numbers = numbers_of c.args.look.census.now in
    let nodes = all_seen c.args.spots.now in
    let sources = c.add_sources.new.into.items in
    let targets = c.add_targets.new.into.items in
    carry_added spans numbers nodes c.args.carry sources c.deref.result.now targets c.deref-2.result.now c.args.into.now.items c.add_pairs.new.into.items c.deref.ensures.value c.deref-2.ensures.value
    (only_added (TaintsOne spans numbers nodes c.args.carry.source) c.new-sources.result.items sources c.new-sources.ensures.items (c.in_ok-add_sources.ensures spans holds))
    (only_added (HasBaseFact numbers nodes c.args.carry.target) c.new-targets.result.items targets c.new-targets.ensures.items c.in_ok-add_targets.ensures) c.in_ok-add_pairs.ensures
