use Rattle.std.proofs.Common.{◌≡◌, ◌↔◌, ◌⊎◌, ◌+◌, ◌*◌, List, [], ◌∷◌, length, drop, get_or, true}
use Rattle.node_tree.specs.declared.node.Node.{Node}
use Rattle.node_tree.specs.Tree.{pre_all}
use Rattle.node_tree.specs.Numbers.{count_of, kids_at, pre_at}
use Rattle.node_pool.specs.Spots.{seen, all_seen}
use Rattle.meta_bind.specs.declared.bound.Bound.{Bound}
use Rattle.std.specs.Prelude.{Some}
use Rattle.node_match.specs.Sets.{Among}
use Rattle.node_match.specs.Free.{Part, parts_of}
use Rattle.node_match.specs.Fronts.{End, Leads}
use Rattle.node_search.specs.States.{line_of, AnyFrom, Goes}
use Rattle.node_search.specs.Kids.{line}
use Rattle.node_match.specs.Orders.{unnamed_of, all_asked}
use Rattle.node_match.proofs.Inversion.{Somewhere}
use Rattle.node_match.specs.Choices.{untaken, TakesFrom, Picked}
use Rattle.node_search.proofs.search.+search.Given as goal

abbrev pub invariant-deep-loop-further : goal.invariant-deep-loop-further
invariant-deep-loop-further l =
    (q : Node) (c : List Bound) → l.inner ≡ q ∷ [] → (Among l.out c ⊎ Somewhere l.known.names.now q (drop l.further (pre_at (seen l.spot))) l.trail c) ↔ (Among l.initial.out c ⊎ Somewhere l.known.names.now q (pre_at (seen l.spot)) l.trail c)

abbrev pub invariant-items-loop-at : goal.invariant-items-loop-at
invariant-items-loop-at l =
    (ps : List Part) (c : End) → (AnyFrom l.known.names.now (line l.holder) ps l.next c ⊎ Goes l.known.names.now true (seen l.holder.spot) (Some l.pattern ∷ ps) (drop l.at (all_seen l.holder.kids.now)) l.state.trail c)
    ↔ (AnyFrom l.known.names.now (line l.holder) ps l.initial.next c ⊎ Goes l.known.names.now true (seen l.holder.spot) (Some l.pattern ∷ ps) (drop l.state.at (all_seen l.holder.kids.now)) l.state.trail c)

abbrev pub invariant-kids-loop-at : goal.invariant-kids-loop-at
invariant-kids-loop-at l = (c : End) → AnyFrom l.known.names.now (line_of (seen l.spot)) (drop l.at (parts_of l.pattern)) l.states c ↔ Leads l.known.names.now (seen l.spot) (parts_of l.pattern) (kids_at (seen l.spot)) l.trail c

abbrev pub invariant-step-loop-state : goal.invariant-step-loop-state
invariant-step-loop-state l =
    (ps : List Part) (c : End) → (AnyFrom l.known.names.now (line l.holder) ps l.next c ⊎ AnyFrom l.known.names.now (line l.holder) (Some l.pattern ∷ ps) (drop l.state-index l.state-items) c) ↔ AnyFrom l.known.names.now (line l.holder) (Some l.pattern ∷ ps) l.state-items c

abbrev pub invariant-arguments-loop-kid : goal.invariant-arguments-loop-kid
invariant-arguments-loop-kid l =
    (c : End) → AnyFrom l.known.names.now (line l.holder) (all_asked (unnamed_of (drop l.kid-index l.kid-items))) l.states c ↔ Leads l.known.names.now (seen l.holder.spot) (all_asked (unnamed_of l.kid-items)) (all_seen l.holder.kids.now) l.trail c

abbrev pub invariant-choose-loop-at : goal.invariant-choose-loop-at
invariant-choose-loop-at l = record {
  kept : l.taken.items ≡ l.initial.taken.items;
  gathers : (p : Node) (c : List Bound) → p ≡ get_or l.choice.patterns.now l.from p → (Among l.out c ⊎ TakesFrom l.choice.known.names.now l.choice.named l.choice.loose l.at p (drop (l.from + 1) l.choice.patterns.now) l.initial.taken.items (all_seen l.choice.nodes.now) l.trail c)
      ↔ (Among l.initial.out c ⊎ TakesFrom l.choice.known.names.now l.choice.named l.choice.loose 0 p (drop (l.from + 1) l.choice.patterns.now) l.initial.taken.items (all_seen l.choice.nodes.now) l.trail c);
}

abbrev pub decreases-go_on-loop-trail : goal.decreases-go_on-loop-trail
decreases-go_on-loop-trail l = length l.found

abbrev pub invariant-go_on-loop-trail : goal.invariant-go_on-loop-trail
invariant-go_on-loop-trail l = record {
  kept : l.taken.items ≡ l.initial.taken.items;
  gathers : (c : List Bound) → (Among l.out c ⊎ Picked l.choice.known.names.now l.choice.named l.choice.loose (drop l.from l.choice.patterns.now) (untaken l.initial.taken.items (all_seen l.choice.nodes.now)) l.found c)
      ↔ (Among l.initial.out c ⊎ Picked l.choice.known.names.now l.choice.named l.choice.loose (drop l.from l.choice.patterns.now) (untaken l.initial.taken.items (all_seen l.choice.nodes.now)) l.initial.found c);
}

-- ---- the search goes down the pattern

abbrev pub decreases-relate : goal.decreases-relate
decreases-relate l = 16 * count_of l.pattern.now + 9

abbrev pub decreases-same : goal.decreases-same
decreases-same l = 16 * count_of l.pattern.now + 8

abbrev pub decreases-deep : goal.decreases-deep
decreases-deep l = 16 * count_of l.pattern.now + 8

abbrev pub decreases-kids : goal.decreases-kids
decreases-kids l = 16 * count_of l.pattern.now + 7

abbrev pub decreases-choose_kids : goal.decreases-choose_kids
decreases-choose_kids l = 16 * count_of l.pattern.now + 7

abbrev pub decreases-step_at : goal.decreases-step_at
decreases-step_at l = 16 * count_of l.pattern.now + 6

abbrev pub decreases-arguments : goal.decreases-arguments
decreases-arguments l = 16 * count_of l.pattern.now + 8

abbrev pub decreases-name : goal.decreases-name
decreases-name l = 16 * count_of l.pattern.now + 7

abbrev pub decreases-relate_kid : goal.decreases-relate_kid
decreases-relate_kid l = 16 * count_of l.pattern.now + 10

abbrev pub decreases-item_at : goal.decreases-item_at
decreases-item_at l = 16 * count_of l.pattern.now + 11

abbrev pub decreases-items : goal.decreases-items
decreases-items l = 16 * count_of l.pattern.now + 12

abbrev pub decreases-advance : goal.decreases-advance
decreases-advance l = 16 * count_of l.pattern.now + 13

abbrev pub decreases-step : goal.decreases-step
decreases-step l = 16 * count_of l.pattern.now + 14

abbrev pub decreases-step_unnamed : goal.decreases-step_unnamed
decreases-step_unnamed l = 16 * count_of l.pattern.now + 15

abbrev pub decreases-choose : goal.decreases-choose
decreases-choose l = 16 * length (pre_all (drop l.from l.choice.patterns.now)) + 12

abbrev pub decreases-take : goal.decreases-take
decreases-take l = 16 * length (pre_all (drop l.from l.choice.patterns.now)) + 11

abbrev pub decreases-go_on : goal.decreases-go_on
decreases-go_on l = 16 * length (pre_all (drop l.from l.choice.patterns.now)) + 13
