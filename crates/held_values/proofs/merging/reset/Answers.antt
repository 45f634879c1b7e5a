use Rattle.std.proofs.Common.{ℕ, List, sym, ◌∙◌, subst, arith, length-set, refl}
use Rattle.std.proofs.lemmas.List.{take_all}
use Rattle.graph_form.specs.Sets.{Among}
use Rattle.graph_form.proofs.Amongs.{among_at, among_more}
use Rattle.held_values.proofs.Nodes.{reset_more}
use Rattle.held_values.proofs.merging.reset.Goals as goal

pub index_mut-requires : goal.index_mut-requires
index_mut-requires c = omega (arith, c.requires.inside _ (among_at c.args.names.now c.loop-name.name-index 0 c.loop-name-test.true), c.loop-name.invariant.size)

pub loop-name-init : goal.loop-name-init
loop-name-init c = record { size = refl; reset = λ name lt none. c.requires.others name lt none }

pub loop-name-preserved : goal.loop-name-preserved
loop-name-preserved c = record {
  size = length-set _ _ _ ∙ c.loop-name.invariant.size;
  reset = reset_more c.loop-name.sources.items c.args.names.now _ _ _ (among_more c.args.names.now c.loop-name.name-index 0 c.loop-name-test.true) c.loop-name.invariant.reset;
}

pub returns-clause-own : goal.returns-clause-own
returns-clause-own c name lt =
    let P : List ℕ → Type 0 = λ ns. Among c.args.names.now name → Among ns name in
    c.loop-name.invariant.reset name lt (subst P (sym (take_all c.loop-name.name-index c.args.names.now c.loop-name-test.false)) (λ h. h))
