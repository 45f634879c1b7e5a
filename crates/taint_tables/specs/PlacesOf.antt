-- Where the sinks and the carries of a rule stand.
use Rattle.std.specs.Prelude.{◌↔◌}
use Rattle.graph_form.specs.Sets.{Among}
use Rattle.taint_tables.specs.declared.places.Places.{Places}
use Rattle.taint_tables.specs.declared.sets.Carry.{Carry}
use Rattle.taint_tables.specs.declared.sets.TaintSets.{TaintSets}
use Rattle.taint_tables.specs.declared.sink.Sink.{Sink}
use Rattle.taint_tables.specs.Sinks.{IsSinkOf}

-- the places are those of the sinks and the carries of these sets
pub record ArePlacesOf (sets : TaintSets) (places : Places) : Type 0 where
  pub sinks : (s : Sink) → Among places.sinks s ↔ IsSinkOf sets.sinks s
  pub carries : (c : Carry) → Among places.carries c ↔ Among sets.carries c
