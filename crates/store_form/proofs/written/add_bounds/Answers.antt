use Rattle.std.proofs.Common.{map, rules}
use Rattle.meta_bind.specs.Bounds.{seen}
use Rattle.store_form.specs.Form.{bound_bytes, IsBound, IsListOf}
use Rattle.store_form.proofs.Adding.{added_more, one_of}
use Rattle.store_form.proofs.written.add_bounds.Goals as goal

pub loop-bound-preserved : goal.loop-bound-preserved
loop-bound-preserved c =
    added_more IsBound bound_bytes seen c.add_length.new.out c.args.bounds.now c.loop-bound.bound-index c.loop-bound.out c.add_bound.new.out c.bound-item.result c.loop-bound.invariant c.loop-bound-test.true c.bound-item.is c.in_ok-add_bound.ensures.0 c.in_ok-add_bound.ensures.1

pub returns-in_err-add_bound : goal.returns-in_err-add_bound
returns-in_err-add_bound c =
    let part : IsListOf IsBound (map seen c.args.bounds.now) → IsBound (seen c.bound-item.result) = λ is.
    one_of IsBound bound_bytes seen c.add_length.new.out c.args.bounds.now c.loop-bound.bound-index c.bound-item.result c.loop-bound-test.true c.bound-item.is is.1 in
    search rules
