use Rattle.std.proofs.Common.{sym, ◌∙◌, ap, arith, length-set}
use Rattle.std.proofs.lemmas.List.{at_drop_more, drop_all}
use Rattle.graph_form.proofs.Amongs.{among_at}
use Rattle.held_values.specs.declared.assign.Assign.{Assign}
use Rattle.held_values.specs.declared.assign.Source.TheVariants.{Sets}
use Rattle.held_values.specs.Merged.{put_all}
use Rattle.held_values.proofs.merging.put.Goals as goal

abbrev none : Assign
none = record { name = 0; source = Sets 0 }

pub index_mut-requires : goal.index_mut-requires
index_mut-requires c = omega (arith, c.requires _ (among_at c.args.taken.now c.loop-assign.assign-index none c.loop-assign-test.true), c.loop-assign.invariant.size)

pub loop-assign-preserved : goal.loop-assign-preserved
loop-assign-preserved c =
    let i = c.loop-assign.invariant in
    record {
      size = length-set _ _ _ ∙ i.size;
      rest = sym (at_drop_more (put_all c.loop-assign.sources.items) c.args.taken.now c.loop-assign.assign-index none c.loop-assign-test.true) ∙ i.rest;
    }

pub returns : goal.returns
returns c = sym (ap (put_all c.loop-assign.sources.items) (drop_all c.loop-assign.assign-index c.args.taken.now c.loop-assign-test.false)) ∙ c.loop-assign.invariant.rest
