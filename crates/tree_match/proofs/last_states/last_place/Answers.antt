use Rattle.std.proofs.Common.{arith, refl}
use Rattle.node_pool.specs.Spots.{seen}
use Rattle.node_match.proofs.Sets.{chain}
use Rattle.node_search.specs.States.{line_of}
use Rattle.node_search.proofs.Steps.{floating_from}
use Rattle.tree_match.proofs.Lasts.{at_last, past_last}
use Rattle.tree_match.proofs.last_states.last_place.Goals as goal

pub returns-then-end-left : goal.returns-then-end-left
returns-then-end-left c k ps e single many all x =
    let h = seen c.args.holder in
    let s = c.args.state.now in
    past_last k h ps single s.trail e all s.at (omega (arith, many, c.requires)) (omega (arith, many, c.if-end-left.true, c.count_kids-end.ensures)) ((floating_from k (line_of h) ps s s.at e c.if-not-state.false refl).1 x)

pub returns-then-last-state : goal.returns-then-last-state
returns-then-last-state c k ps e single many all x =
    let h = seen c.args.holder in
    let s = c.args.state.now in
    past_last k h ps single s.trail e all s.at (omega (arith, many, c.requires)) (omega (arith, many, c.if-end-left.false, c.if-last-state.true, c.count_kids-end.ensures)) ((floating_from k (line_of h) ps s s.at e c.if-not-state.false refl).1 x)

pub returns : goal.returns
returns c k ps e single many all =
    let h = seen c.args.holder in
    let s = c.args.state.now in
    chain _ _ _ (at_last k h ps single s.trail e all s.at _ (omega (arith, c.if-last-state.false)) (omega (arith, many, c.if-end-left.false, c.count_kids-end.ensures))) (floating_from k (line_of h) ps s s.at e c.if-not-state.false refl)
