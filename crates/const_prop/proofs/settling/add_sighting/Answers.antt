use Rattle.std.proofs.Common.{◌<◌, ◌≤◌, length, refl, ap, ◌∙◌, arith}
use Rattle.std.specs.Prelude.{None, option_map}
use Rattle.std.proofs.lemmas.List.{get_or_default}
use Rattle.unit_names.specs.Seen.{seen_word}
use Rattle.const_prop.specs.Settled.{seen_sighting, seen_slot, seen_more}
use Rattle.const_prop.proofs.Agreeing.{gathered_more, gathered_out}
use Rattle.const_prop.proofs.settling.add_sighting.Goals as goal

pub returns-then-at-len : goal.returns-then-at-len
returns-then-at-len c = λ gs count h.
    let past : length c.args.slots.now.items ≤ c.args.sighting.at = omega (arith, c.args.slots.now.ok, c.len.ensures, c.if-at-len.true) in
    gathered_out gs (seen_sighting c.args.sighting) count c.args.slots.now.items h past

pub returns : goal.returns
returns c = λ gs count h.
    let items = c.args.slots.now.items in
    let at = c.args.sighting.at in
    let lt : at < length items = omega (arith, c.args.slots.now.ok, c.len.ensures, c.if-at-len.false) in
    gathered_more gs (seen_sighting c.args.sighting) count items h c.with_sighting-slot.result _ lt refl
    (c.with_sighting-slot.ensures ∙ ap (λ s. seen_more (seen_slot s) (option_map seen_word c.args.sighting.literal)) (c.index.ensures ∙ get_or_default items at c.index.result.now None lt))
