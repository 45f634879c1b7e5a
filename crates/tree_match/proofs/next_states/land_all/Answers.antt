use Rattle.std.proofs.Common.{◌↔◌, ◌⊎◌, inl, inr, ◌∷◌, List, drop, refl, subst, arith}
use Rattle.std.specs.Prelude.{Some}
use Rattle.meta_bind.specs.declared.bound.Bound.{Bound}
use Rattle.node_tree.specs.Numbers.{kids_at}
use Rattle.node_pool.specs.Spots.{seen}
use Rattle.node_match.specs.Fronts.{Leads}
use Rattle.node_match.proofs.Sets.{gathered, gathered_all, plus_as}
use Rattle.node_search.specs.States.{line_of, AnyFrom}
use Rattle.node_search.proofs.Steps.{put_from, floating_from}
use Rattle.tree_match.proofs.Landing.{passed, lands, lands_nowhere}
use Rattle.tree_match.proofs.next_states.land_all.Goals as goal

pub loop-at-init : goal.loop-at-init
loop-at-init c k ps e =
    let h = seen c.args.holder in
    let state = c.args.state.now in
    let p = passed k h c.args.part.now ps c.requires.one state.trail e state.at c.next_place-at.result c.next_place-at.ensures.on c.next_place-at.ensures.out in (
      λ x. elim x [ inl a ↦ inl a | inr y ↦ inr (p.1 y) ],
      λ x. elim x [ inl a ↦ inl a | inr y ↦ inr (p.0 y) ],
    )

pub loop-at-preserved : goal.loop-at-preserved
loop-at-preserved c k ps e =
    let h = seen c.args.holder in
    let p = c.args.part.now in
    let state = c.args.state.now in
    let at = c.loop-at.at in
    let P : List Bound → Type 0 = λ t. AnyFrom k (line_of h) (Some p ∷ ps) c.put.new.states e ↔ (AnyFrom k (line_of h) (Some p ∷ ps) c.loop-at.states e ⊎ Leads k h (Some p ∷ ps) (drop at (kids_at h)) t e) in
    let put = subst P c.in_ok-copy.ensures (put_from k (line_of h) _ _ _ c.in_ok-put.ensures (Some p ∷ ps) e) in
    gathered _ _ _ _ _ _ put (lands k h p ps c.requires.one state.trail e at c.next_place-at-in-loop-at.result c.next_place-at-in-loop-at.ensures.on c.next_place-at-in-loop-at.ensures.out) (c.loop-at.invariant k ps e)

pub returns : goal.returns
returns c k ps e =
    let h = seen c.args.holder in
    let p = c.args.part.now in
    let state = c.args.state.now in
    let none = lands_nowhere k h p ps c.requires.one state.trail e c.loop-at.at (omega (arith, c.loop-at-test.false)) in
    plus_as _ _ _ _ (gathered_all _ _ _ none (c.loop-at.invariant k ps e)) (floating_from k (line_of h) (Some p ∷ ps) state state.at e c.requires.floating refl)
