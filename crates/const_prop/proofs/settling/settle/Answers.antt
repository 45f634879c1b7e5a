use Rattle.std.proofs.Common.{◌≡◌, ◌<◌, length, ap, ◌∙◌, subst, arith}
use Rattle.std.specs.Prelude.{None}
use Rattle.std.proofs.lemmas.List.{get_or_default}
use Rattle.const_prop.specs.Settled.{seen_slot, all_sightings, AreSettled}
use Rattle.const_prop.proofs.Agreeing.{settled_none, settled_more}
use Rattle.const_prop.proofs.settling.settle.Goals as goal

pub loop-at-init : goal.loop-at-init
loop-at-init c = settled_none c.args.tree.now (all_sightings c.args.sightings.now) c.new-known.result c.new-known.ensures

pub loop-at-preserved : goal.loop-at-preserved
loop-at-preserved c =
    let items = c.in_ok-slots.slots.items in
    let lt : c.loop-at.at < length items = omega (arith, c.in_ok-slots.ensures.size, c.loop-at-test.true) in
    settled_more c.args.tree.now (all_sightings c.args.sightings.now) c.loop-at.at c.loop-at.known c.loop-at.invariant (seen_slot c.index.result.now)
    (ap seen_slot (c.index.ensures ∙ get_or_default items c.loop-at.at c.index.result.now None lt) ∙ c.in_ok-slots.ensures.each c.loop-at.at c.loop-at-test.true)
    c.add_known.new.known c.in_ok-add_known.ensures

pub returns : goal.returns
returns c =
    let end : c.loop-at.at ≡ c.args.count = omega (arith, c.loop-at-test.false, c.loop-at.auto.at-end) in
    subst (λ to. AreSettled c.args.tree.now (all_sightings c.args.sightings.now) to c.loop-at.known) end c.loop-at.invariant
