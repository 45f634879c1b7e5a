use Rattle.std.proofs.Common.{◌≡◌, true, ap, ◌∙◌, subst}
use Rattle.std.specs.Prelude.{IfOk}
use Rattle.node_pool.specs.Spots.{all_seen}
use Rattle.unit_effects.specs.Numbering.{entry_value}
use Rattle.const_prop.specs.Idle.{AddsSilent}
use Rattle.const_prop.specs.Settled.{all_sightings}
use Rattle.const_prop.proofs.idle.add_silent_at.Goals as goal

pub returns : goal.returns
returns c =
    subst (λ ns. IfOk c.add_silent_nodes.result (λ silent. silent ≡ true → AddsSilent (entry_value c.args.entry.now) ns (all_sightings c.args.into.now.items) (all_sightings c.add_silent_nodes.new.into.items)))
    (ap all_seen c.as_slice.ensures ∙ c.in_ok-spots.ensures) c.add_silent_nodes.ensures
