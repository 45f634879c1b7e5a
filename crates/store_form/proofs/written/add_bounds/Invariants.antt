use Rattle.meta_bind.specs.Bounds.{seen}
use Rattle.store_form.specs.Form.{bound_bytes, IsBound}
use Rattle.store_form.proofs.Adding.{Added}
use Rattle.store_form.proofs.written.add_bounds.Given as goal

abbrev pub invariant-loop-bound : goal.invariant-loop-bound
invariant-loop-bound l = Added IsBound bound_bytes seen l.initial.out l.bounds l.bound-index l.out
