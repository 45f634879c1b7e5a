use Rattle.std.proofs.Common.{List, sym, subst}
use Rattle.taint_flow.specs.declared.hit.TaintHit.{TaintHit}
use Rattle.taint_flow.specs.Taint.{AreHits}
use Rattle.taint_flow.proofs.Hits.{one_list}
use Rattle.taint_flow.proofs.find.taint.Goals as goal

pub returns-then-is_idle-clause-hits : goal.returns-then-is_idle-clause-hits
returns-then-is_idle-clause-hits c =
    let P : List TaintHit → Type 0 = λ hits. AreHits c.args.root.now c.args.sets.now hits in
    subst P (sym c.new.ensures) (c.is_idle.ensures.hits c.args.root.now c.if-is_idle.true)

pub returns-then-is_idle-clause-only : goal.returns-then-is_idle-clause-only
returns-then-is_idle-clause-only c hits is = one_list c.args.root.now c.args.sets.now hits c.new.result is (returns-then-is_idle-clause-hits c)

pub returns-then-is_idle-clause-fits : goal.returns-then-is_idle-clause-fits
returns-then-is_idle-clause-fits c = c.is_idle.ensures.fits c.args.root.now c.of.ensures c.if-is_idle.true
