use Rattle.std.proofs.Common.{◌≡◌, ◌↔◌, ◌⊎◌, ◌∷◌, List, drop, get_or, refl, subst, arith}
use Rattle.std.specs.Prelude.{Some}
use Rattle.meta_bind.specs.declared.bound.Bound.{Bound}
use Rattle.node_tree.specs.Numbers.{kids_at}
use Rattle.node_pool.specs.declared.spot.Spot.{Spot}
use Rattle.node_pool.specs.Spots.{seen}
use Rattle.node_match.specs.Fronts.{Leads}
use Rattle.node_match.proofs.Sets.{plus_as, plus_none, chain}
use Rattle.node_search.specs.States.{line_of, AnyFrom, From}
use Rattle.node_search.specs.Steady.{IsMatched}
use Rattle.node_search.specs.declared.state.State.{State}
use Rattle.node_search.proofs.Steps.{put_from, floating_from}
use Rattle.tree_match.proofs.Landing.{passed, ruled_further, first_enough, lands_nowhere, kid_here, kids_as_many}
use Rattle.tree_match.proofs.next_states.land_first.Goals as goal

pub loop-at-init : goal.loop-at-init
loop-at-init c =
    let h = seen c.args.holder.spot in
    let state = c.args.state.now in
    record {
      states = refl;
      goes = λ ps e. (let f = passed c.args.known.names.now h c.args.part.now ps c.requires.one state.trail e state.at c.next_place-at.result c.next_place-at.ensures.on c.next_place-at.ensures.out in (f.1, f.0));
    }

pub returns-then-met : goal.returns-then-met
returns-then-met c q ps e dots =
    let C = c.args.known.names.now in
    let h = seen c.args.holder.spot in
    let p = c.args.part.now in
    let state = c.args.state.now in
    let at = c.loop-at.at in
    let P : List Bound → Type 0 = λ t. AnyFrom C (line_of h) (Some p ∷ Some q ∷ ps) c.put.new.states e ↔ (AnyFrom C (line_of h) (Some p ∷ Some q ∷ ps) c.loop-at.states e ⊎ Leads C h (Some p ∷ Some q ∷ ps) (drop at (kids_at h)) t e) in
    let put = subst P c.in_ok-copy.ensures (put_from C (line_of h) _ _ _ c.in_ok-put.ensures (Some p ∷ Some q ∷ ps) e) in
    let kids = c.args.holder.kids.now in
    let spot = get_or kids at c.index-holder-at.result in
    let R : Spot → Type 0 = λ x. x ≡ get_or kids at x in
    let kid = kid_here h kids at spot c.requires.kin (omega (arith, c.loop-at-test.true)) (subst R c.index-holder-at.is c.index-holder-at.is) in
    let met = (c.in_ok-met.ensures h refl).0 c.if-met.true in
    let S : List State → Type 0 = λ ss. AnyFrom C (line_of h) (Some p ∷ Some q ∷ ps) c.put.new.states e ↔ (AnyFrom C (line_of h) (Some p ∷ Some q ∷ ps) ss e ⊎ Leads C h (Some p ∷ Some q ∷ ps) (drop at (kids_at h)) state.trail e) in
    plus_as _ _ _ _ (subst S c.loop-at.invariant.states put)
    (chain _ _ _ (first_enough C h p q ps c.requires.one dots state.trail e at (seen spot) c.requires.steady kid met)
    (chain _ _ _ (c.loop-at.invariant.goes (Some q ∷ ps) e) (floating_from C (line_of h) (Some p ∷ Some q ∷ ps) state state.at e c.requires.floating refl)))

pub loop-at-preserved : goal.loop-at-preserved
loop-at-preserved c =
    let C = c.args.known.names.now in
    let h = seen c.args.holder.spot in
    let p = c.args.part.now in
    let state = c.args.state.now in
    let at = c.loop-at.at in
    let kids = c.args.holder.kids.now in
    let spot = get_or kids at c.index-holder-at.result in
    let R : Spot → Type 0 = λ x. x ≡ get_or kids at x in
    let kid = kid_here h kids at spot c.requires.kin (omega (arith, c.loop-at-test.true)) (subst R c.index-holder-at.is c.index-holder-at.is) in
    let none : IsMatched C h p (seen spot) state.trail → ⊥ = λ m. (let yes = (c.in_ok-met.ensures h refl).1 m in let no = c.if-met.false in cc) in
    let there = c.next_place-at-in-loop-at in
    record {
      states = c.loop-at.invariant.states;
      goes = λ ps e. chain _ _ _ (ruled_further C h p ps c.requires.one state.trail e at (seen spot) there.result kid none there.ensures.on there.ensures.out) (c.loop-at.invariant.goes ps e);
    }

pub returns : goal.returns
returns c q ps e dots =
    let C = c.args.known.names.now in
    let h = seen c.args.holder.spot in
    let p = c.args.part.now in
    let state = c.args.state.now in
    let none = lands_nowhere C h p (Some q ∷ ps) c.requires.one state.trail e c.loop-at.at (omega (arith, c.loop-at-test.false, kids_as_many h c.args.holder.kids.now c.requires.kin)) in
    let S : List State → Type 0 = λ ss. AnyFrom C (line_of h) (Some p ∷ Some q ∷ ps) c.loop-at.states e ↔ (AnyFrom C (line_of h) (Some p ∷ Some q ∷ ps) ss e ⊎ From C (line_of h) (Some p ∷ Some q ∷ ps) state e) in
    subst S c.loop-at.invariant.states (plus_none _ _ (λ x. none ((c.loop-at.invariant.goes (Some q ∷ ps) e).1 ((floating_from C (line_of h) (Some p ∷ Some q ∷ ps) state state.at e c.requires.floating refl).1 x))))
