use Rattle.std.proofs.Common.{◌≡◌, ◌↔◌, inl, inr, ◌+◌, ℕ, List, subst}
use Rattle.std.proofs.lemmas.List.{take_all}
use Rattle.graph_form.specs.Sets.{Among}
use Rattle.graph_form.proofs.Amongs.{among_more}
use Rattle.flow_reach.proofs.Steps.{either_way}
use Rattle.taint_flow.proofs.search.at_entry.Goals as goal

pub loop-fact-init : goal.loop-fact-init
loop-fact-init c point name =
    let P : List (ℕ × ℕ) → Type 0 = λ xs. Among xs (point, name) in
    (λ h. absurd (subst P c.new-starts.ensures.items h), λ h. absurd h.1)

pub loop-fact-preserved : goal.loop-fact-preserved
loop-fact-preserved c point name =
    let m = among_more c.args.begins.now c.loop-fact.fact-index 0 c.loop-fact-test.true (c.args.sources + name) in
    either_way _ _ _ _ _ _ (c.in_ok-add_begin.ensures point name) (c.loop-fact.invariant point name) (λ h. h, λ h. h) (
      λ (e, among). elim (m.0 among) [ inl before ↦ inl (e, before) | inr q ↦ inr (e, q) ],
      λ h. elim h [ inl (e, before) ↦ (e, m.1 (inl before)) | inr (e, q) ↦ (e, m.1 (inr q)) ],
    )

pub returns : goal.returns
returns c point name =
    let P : List ℕ → Type 0 = λ fs. Among c.loop-fact.starts.items (point, name) ↔ ((0 ≡ point) × Among fs (c.args.sources + name)) in
    subst P (take_all c.loop-fact.fact-index c.args.begins.now c.loop-fact-test.false) (c.loop-fact.invariant point name)
