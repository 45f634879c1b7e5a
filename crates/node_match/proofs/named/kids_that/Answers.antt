use Rattle.std.proofs.Common.{◌≡◌, ◌++◌, ◌+◌, ◌∷◌, ◌∙◌, [], List, sym, ap, drop, subst}
use Rattle.node_pool.specs.declared.spot.Spot.{Spot}
use Rattle.node_pool.specs.Spots.{all_seen}
use Rattle.node_tree.specs.Numbers.{Numbered}
use Rattle.node_match.specs.Orders.{parted_at}
use Rattle.node_match.proofs.Arguments.{part_taken, part_passed, part_whole}
use Rattle.node_match.proofs.named.kids_that.Goals.{then-is_in+in_ok-push, else-is_in}
use Rattle.node_match.proofs.named.kids_that.Goals as goal

pub loop-kid-init : goal.loop-kid-init
loop-kid-init c = ap (λ (xs : List Spot). all_seen xs ++ parted_at c.args.named (all_seen c.as_slice-kid-items.result.now)) c.new-some.ensures

pub loop-kid-preserved : goal.loop-kid-preserved
loop-kid-preserved c = elim c.if-is_in.branch [
  | then-is_in+in_ok-push w ↦ part_taken c.args.named _ _ _ _ c.kid-item.result _ c.loop-kid-test.true c.kid-item.is (sym c.is_in.ensures ∙ w.if-is_in.true) (w.some-is ∙ w.in_ok-push.ensures.ok) c.loop-kid.invariant
  | else-is_in w ↦ let P : List Spot → Type 0 = λ xs. all_seen xs ++ parted_at c.args.named (all_seen (drop (c.loop-kid.kid-index + 1) c.as_slice-kid-items.result.now)) ≡ parted_at c.args.named (all_seen c.as_slice-kid-items.result.now) in
      subst P (sym w.some-is) (part_passed c.args.named _ _ _ c.kid-item.result _ c.loop-kid-test.true c.kid-item.is (sym c.is_in.ensures ∙ w.if-is_in.false) c.loop-kid.invariant)
]

pub returns : goal.returns
returns c = part_whole c.args.named _ _ _ _ c.loop-kid-test.false c.loop-kid.invariant ∙ ap (λ (xs : List Spot). parted_at c.args.named (all_seen xs)) c.as_slice-kid-items.ensures ∙ ap (λ (xs : List Numbered). parted_at c.args.named xs) c.in_ok-kids.ensures
