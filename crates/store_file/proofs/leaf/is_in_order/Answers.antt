use Rattle.std.proofs.Common.{◌≡◌, ◌-◌, true, false, sym, ◌∙◌, arith, rules}
use Rattle.tree_match.specs.Members.{member_cmp}
use Rattle.store_file.proofs.Order.{some_ascend, all_ascend, to_next, from_next, next_more}
use Rattle.store_file.proofs.leaf.is_in_order.Goals as goal

pub returns-then-not-ascends : goal.returns-then-not-ascends
returns-then-not-ascends c =
    let xs = c.args.members.now in
    let i = c.loop-i.i in (
      λ h. absurd (let no : false ≡ true = h in cc),
      λ h. sym c.if-not-ascends.true ∙ c.in_ok-ascends.ensures.1 (from_next member_cmp xs (i - 1) i _ _ (omega arith) (omega arith) c.index-members-i.is c.index-members-i-in-loop-i.is (some_ascend member_cmp xs h i (omega arith) (omega arith))),
    )

pub loop-i-preserved : goal.loop-i-preserved
loop-i-preserved c =
    let xs = c.args.members.now in
    let i = c.loop-i.i in
    next_more member_cmp xs i c.loop-i.invariant (to_next member_cmp xs (i - 1) i _ _ (omega arith) (omega arith) c.index-members-i.is c.index-members-i-in-loop-i.is (c.in_ok-ascends.ensures.0 (search rules)))

pub returns : goal.returns
returns c = (λ h. all_ascend member_cmp c.args.members.now (λ j p lt. c.loop-i.invariant j p (omega arith)), λ h. search rules)
