use Rattle.std.proofs.Common.{◌↔◌, ◌⊎◌, ℕ, List, ◌++◌, ◌∷◌, [], ◌+◌, take, get_or, subst, sym, ap, ◌∙◌, append_assoc}
use Rattle.std.proofs.lemmas.List.{take_more, take_all}
use Rattle.graph_form.specs.Sets.{Among}
use Rattle.graph_form.proofs.Amongs.{among_more, among_app}
use Rattle.taint_form.specs.Origins.{AddsBy}
use Rattle.taint_form.proofs.Maps.{row_more, row_turns}
use Rattle.taint_form.proofs.origins.Origins.row.Goals as goal

pub loop-fact-preserved : goal.loop-fact-preserved
loop-fact-preserved c =
    let items = c.deref-fact-items.result.now in
    let i = c.loop-fact.fact-index in
    record {
      drops = c.in_ok-push.ensures.ok ∙ ap (λ xs. xs ++ get_or items i 0 ∷ []) c.loop-fact.invariant.drops ∙ sym (take_more items i 0 c.loop-fact-test.true);
      adds = row_more c.args.self.now c.loop-fact.adds c.add_pairs.new.adds (take i items) (take (i + 1) items) (get_or items i 0) (among_more items i 0 c.loop-fact-test.true) c.loop-fact.invariant.adds c.in_ok-add_pairs.ensures;
    }

pub loop-pair-preserved : goal.loop-pair-preserved
loop-pair-preserved c =
    let items = c.args.carried.now in
    let i = c.loop-pair.pair-index in
    let own = c.loop-fact.adds in
    c.in_ok-push-2.ensures.ok ∙ ap (λ xs. xs ++ get_or items i (0, 0) ∷ []) c.loop-pair.invariant ∙ append_assoc own (take i items) (get_or items i (0, 0) ∷ [])
    ∙ ap (λ xs. own ++ xs) (sym (take_more items i (0, 0) c.loop-pair-test.true))

pub returns : goal.returns
returns c =
    let o = c.args.self.now in
    let own = c.loop-fact.adds in
    let carried = c.args.carried.now in
    let listed = take_all c.loop-fact.fact-index c.deref-fact-items.result.now c.loop-fact-test.false ∙ c.deref-fact-items.ensures.value in
    let all = c.loop-pair.invariant ∙ ap (λ xs. own ++ xs) (take_all c.loop-pair.pair-index carried c.loop-pair-test.false) in
    let D : List ℕ → Type 0 = λ xs. (f : ℕ) → Among xs f ↔ Among o.touched.items f in
    let P : List ℕ → Type 0 = λ xs. (from to : ℕ) → Among own (from, to) ↔ ((fact : ℕ) × Among xs fact × AddsBy o fact from to) in
    let A : List (ℕ × ℕ) → Type 0 = λ xs. (from to : ℕ) → Among xs (from, to) ↔ (Among own (from, to) ⊎ Among carried (from, to)) in
    row_turns o c.requires (record { drops = c.loop-fact.drops; adds = c.loop-pair.adds }) own carried (subst D (sym (c.loop-fact.invariant.drops ∙ listed)) (λ f. (λ h. h, λ h. h)))
    (subst P listed c.loop-fact.invariant.adds) (subst A (sym all) (λ from to. among_app own carried (from, to)))
