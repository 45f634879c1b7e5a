use Rattle.std.proofs.Common.{◌≡◌, ◌-◌, true, false, arith, rules}
use Rattle.store_form.proofs.NameOrder.{some_ascend, all_ascend, to_next, from_next, next_more}
use Rattle.store_form.proofs.bound.is_in_order.Goals as goal

pub returns-then-not-is_below : goal.returns-then-not-is_below
returns-then-not-is_below c =
    let bs = c.args.bounds.now in
    let i = c.loop-i.i in (
      λ h. absurd (let no : false ≡ true = h in cc),
      λ h. c.if-not-is_below.ensures.1 (from_next bs (i - 1) i _ _ (omega arith) (omega arith) c.index-bounds-i.is c.index-bounds-i-in-loop-i.is (some_ascend bs h i (omega arith) (omega arith))),
    )

pub loop-i-preserved : goal.loop-i-preserved
loop-i-preserved c =
    let bs = c.args.bounds.now in
    let i = c.loop-i.i in
    next_more bs i c.loop-i.invariant (to_next bs (i - 1) i _ _ (omega arith) (omega arith) c.index-bounds-i.is c.index-bounds-i-in-loop-i.is (c.is_below.ensures.0 (search rules)))

pub returns : goal.returns
returns c = (λ h. all_ascend c.args.bounds.now (λ j p lt. c.loop-i.invariant j p (omega arith)), λ h. search rules)
