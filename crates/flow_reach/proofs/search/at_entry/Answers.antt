use Rattle.std.proofs.Common.{sym, subst, ◌∙◌, ◌≡◌, ◌↔◌, ◌⊎◌, inl, inr, List, ℕ, take, get_or}
use Rattle.std.proofs.lemmas.List.{take_all}
use Rattle.graph_form.specs.Sets.{Among}
use Rattle.graph_form.proofs.Amongs.{among_more, among_push}
use Rattle.flow_reach.specs.Carried.{Pairs}
use Rattle.flow_reach.proofs.Steps.{pair_is}
use Rattle.flow_reach.proofs.search.at_entry.Goals as goal

pub loop-fact-init : goal.loop-fact-init
loop-fact-init c point fact =
    let P : List (ℕ × ℕ) → Type 0 = λ xs. Among xs (point, fact) in
    (λ h. absurd (subst P c.new-pairs.ensures.items h), λ h. absurd h.1)

pub loop-fact-preserved : goal.loop-fact-preserved
loop-fact-preserved c point fact =
    let y = get_or c.as_slice-fact-items.result.now c.loop-fact.fact-index 0 in
    let P : List (ℕ × ℕ) → Type 0 = λ xs. Among xs (point, fact) ↔ (Among c.loop-fact.pairs.items (point, fact) ⊎ ((0, y) ≡ (point, fact))) in
    let step = subst P (sym c.in_ok-push.ensures.items) (among_push c.loop-fact.pairs.items (0, y) (point, fact)) in
    let all = c.loop-fact.invariant point fact in
    let more = among_more c.as_slice-fact-items.result.now c.loop-fact.fact-index 0 c.loop-fact-test.true fact in
    let is = pair_is (0, y) point fact in (
      λ h. elim (step.0 h) [
        | inl o ↦ let q = all.0 o in (q.0, more.1 (inl q.1))
        | inr e ↦ let q = is.0 e in (sym q.0, more.1 (inr q.1))
      ],
      λ h. elim (more.0 h.1) [
        | inl a ↦ step.1 (inl (all.1 (h.0, a)))
        | inr e ↦ step.1 (inr (is.1 (sym h.0, e)))
      ],
    )

pub returns : goal.returns
returns c point fact =
    let whole : take c.loop-fact.fact-index c.as_slice-fact-items.result.now ≡ c.args.moves.now.start = take_all c.loop-fact.fact-index c.as_slice-fact-items.result.now c.loop-fact-test.false ∙ c.as_slice-fact-items.ensures in
    let P : List ℕ → Type 0 = λ fs. Pairs c.loop-fact.pairs.items point fact ↔ ((point ≡ 0) × Among fs fact) in
    subst P whole (c.loop-fact.invariant point fact)
