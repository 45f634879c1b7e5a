use Rattle.std.proofs.Common.{◌≡◌, ◌↔◌, ◌+◌, ℕ, List, Some, take, subst}
use Rattle.std.specs.Prelude.{None}
use Rattle.node_tree.specs.Tree.{span_of}
use Rattle.std.proofs.lemmas.List.{take_all}
use Rattle.node_pool.specs.declared.spot.Spot.{Spot}
use Rattle.node_pool.specs.Spots.{seen, all_seen}
use Rattle.graph_form.specs.Sets.{Among}
use Rattle.flow_reach.proofs.Steps.{both_ways, either_way}
use Rattle.taint_tables.specs.Numbers.{numbers_of}
use Rattle.taint_plan.specs.RowFacts.{Stands, CarriesWithin}
use Rattle.taint_tables.proofs.FactLists.{seen_more}
use Rattle.taint_plan.proofs.CarryLists.{within_more, within_same, within_all, stands_here, stands_still}
use Rattle.taint_plan.proofs.carrying.carried.Goals as goal

pub loop-spot-init : goal.loop-spot-init
loop-spot-init c = record {
  last = λ span e. absurd (let q : None ≡ Some span = e in cc);
  pairs = λ spans holds from to. (
    λ h. (let P : List (ℕ × ℕ) → Type 0 = λ ps. Among ps (from, to) in absurd (subst P c.new-pairs.ensures.items h)),
    λ (k, among, (s, none, e), over). absurd none,
  );
}

pub loop-spot-preserved : goal.loop-spot-preserved
loop-spot-preserved c =
    let spots = c.args.spots.now in
    let i = c.loop-spot.spot-index in
    let x = c.spot-item.result in
    let xs = all_seen (take i spots) in
    let ys = all_seen (take (i + 1) spots) in
    let split = seen_more spots i x c.loop-spot-test.true c.spot-item.is in
    record {
      last = λ span e. (let q : span_of x.node.now ≡ span = (let p : Some (span_of x.node.now) ≡ Some span = e in cc) in subst (Stands ys) q (stands_here xs ys (seen x) split));
      pairs = λ spans holds from to. either_way _ _ _ _ _ _ (c.in_ok-add_all.ensures spans holds from to) (c.loop-spot.invariant.pairs spans holds from to) (λ h. h, λ h. h)
          (within_more spans (numbers_of c.args.look.census.now) (all_seen spots) c.args.carries.now c.beginning-begun.result.now xs ys (seen x) split c.beginning-begun.ensures from to);
    }

pub loop-spot-preserved-then-is_last : goal.loop-spot-preserved-then-is_last
loop-spot-preserved-then-is_last c =
    let spots = c.args.spots.now in
    let i = c.loop-spot.spot-index in
    let x = c.spot-item.result in
    let xs = all_seen (take i spots) in
    let ys = all_seen (take (i + 1) spots) in
    let split = seen_more spots i x c.loop-spot-test.true c.spot-item.is in
    let there = c.loop-spot.invariant.last (span_of x.node.now) (c.is_last.ensures c.if-is_last.true) in
    record {
      last = λ span e. stands_still xs ys (seen x) span split (c.loop-spot.invariant.last span e);
      pairs = λ spans holds from to. (
          let same = within_same spans (numbers_of c.args.look.census.now) (all_seen spots) c.args.carries.now xs ys (seen x) split there from to in
          both_ways _ _ _ (c.loop-spot.invariant.pairs spans holds from to) (same.1, same.0)
          );
    }

pub returns : goal.returns
returns c spans holds from to =
    let nodes = all_seen c.args.spots.now in
    let numbers = numbers_of c.args.look.census.now in
    let P : List Spot → Type 0 = λ xs. Among c.loop-spot.pairs.items (from, to) ↔ CarriesWithin spans numbers nodes c.args.carries.now (all_seen xs) from to in
    both_ways _ _ _ (subst P (take_all c.loop-spot.spot-index c.args.spots.now c.loop-spot-test.false) (c.loop-spot.invariant.pairs spans holds from to)) (within_all spans numbers nodes c.args.carries.now from to)
