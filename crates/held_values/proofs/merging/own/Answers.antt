use Rattle.std.proofs.Common.{List, sym, subst, arith}
use Rattle.held_values.specs.declared.assign.Source.{Source}
use Rattle.held_values.specs.Merged.{AreOwn}
use Rattle.held_values.proofs.Nodes.{own_push}
use Rattle.held_values.proofs.merging.own.Goals as goal

pub loop-name-preserved : goal.loop-name-preserved
loop-name-preserved c =
    let i = c.loop-name.invariant in
    let P : List Source → Type 0 = λ s. AreOwn s in
    record {
      size = omega (arith, c.in_ok-push.ensures.len, i.size);
      own = subst P (sym c.in_ok-push.ensures.items) (own_push c.loop-name.sources.items c.loop-name.name i.own (sym i.size));
    }
