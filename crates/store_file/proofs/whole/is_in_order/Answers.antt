use Rattle.std.proofs.Common.{◌≡◌, ◌-◌, true, false, arith, rules}
use Rattle.store_file.specs.StoreText.{entry_cmp}
use Rattle.store_file.proofs.Order.{some_ascend, all_ascend, to_next, from_next, next_more}
use Rattle.store_file.proofs.whole.is_in_order.Goals as goal

pub returns-then-not-is_below : goal.returns-then-not-is_below
returns-then-not-is_below c =
    let xs = c.args.entries.now in
    let i = c.loop-i.i in (
      λ h. absurd (let no : false ≡ true = h in cc),
      λ h. c.if-not-is_below.ensures.1 (from_next entry_cmp xs (i - 1) i _ _ (omega arith) (omega arith) c.index-entries-i.is c.index-entries-i-in-loop-i.is (some_ascend entry_cmp xs h i (omega arith) (omega arith))),
    )

pub loop-i-preserved : goal.loop-i-preserved
loop-i-preserved c =
    let xs = c.args.entries.now in
    let i = c.loop-i.i in
    next_more entry_cmp xs i c.loop-i.invariant (to_next entry_cmp xs (i - 1) i _ _ (omega arith) (omega arith) c.index-entries-i.is c.index-entries-i-in-loop-i.is (c.is_below.ensures.0 (search rules)))

pub returns : goal.returns
returns c = (λ h. all_ascend entry_cmp c.args.entries.now (λ j p lt. c.loop-i.invariant j p (omega arith)), λ h. search rules)
