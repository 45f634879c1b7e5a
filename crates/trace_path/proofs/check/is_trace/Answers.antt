use Rattle.std.proofs.Common.{refl, subst, sym, ◌∙◌, List, ℕ, ◌↔◌, ◌≡◌, arith, get_or, take}
use Rattle.std.proofs.lemmas.List.{take_all}
use Rattle.graph_form.specs.Sets.{Among}
use Rattle.trace_path.specs.Along.{Follows, Ends}
use Rattle.trace_path.specs.Trace.{IsTrace}
use Rattle.trace_path.proofs.Follow.{so_far_first, so_far_more, trace_is}
use Rattle.trace_path.proofs.check.is_trace.Goals as goal

pub loop-k-init : goal.loop-k-init
loop-k-init c = record {
  so_far = so_far_first c.args.graph.now c.args.moves.now c.as_slice-points.result.now _ c.in_ok-facts.facts.items (omega (arith, c.if-points-eq0.false)) refl c.in_ok-facts.ensures.same;
  ascends = c.in_ok-facts.ensures.ascends;
}

pub loop-k-preserved : goal.loop-k-preserved
loop-k-preserved c =
    let next = get_or c.as_slice-points.result.now c.loop-k.k 0 in
    let P : List ℕ → Type 0 = λ xs. (g : ℕ) → Among c.in_ok-facts-2.facts.items g ↔ Follows c.args.graph.now c.args.moves.now c.loop-k.last next xs g in
    record {
      so_far = so_far_more c.args.graph.now c.args.moves.now c.as_slice-points.result.now c.loop-k.k c.loop-k.last next c.loop-k.facts.items c.in_ok-facts-2.facts.items c.loop-k.invariant.so_far c.loop-k-test.true refl (subst P c.deref-in-loop-k-2.ensures.value c.in_ok-facts-2.ensures.same);
      ascends = c.in_ok-facts-2.ensures.ascends;
    }

pub returns : goal.returns
returns c =
    let whole : take c.loop-k.k c.as_slice-points.result.now ≡ c.as_slice-points.result.now = take_all c.loop-k.k c.as_slice-points.result.now c.loop-k-test.false in
    let t = trace_is c.args.graph.now c.args.moves.now c.args.goals.now c.as_slice-points.result.now c.loop-k.k c.loop-k.last c.loop-k.facts.items c.loop-k.invariant.so_far whole in
    let G : List (ℕ × ℕ) → Type 0 = λ gs. Ends gs c.loop-k.last c.deref-2.result.now in
    let F : List ℕ → Type 0 = λ fs. Ends c.args.goals.now c.loop-k.last fs in
    let P : List ℕ → Type 0 = λ ps. IsTrace c.args.graph.now c.args.moves.now c.args.goals.now ps in (
      λ b. subst P c.as_slice-points.ensures (t.0 (subst F c.deref-2.ensures.value (subst G c.as_slice.ensures (c.ends.ensures.0 b)))),
      λ h. c.ends.ensures.1 (subst G (sym c.as_slice.ensures) (subst F (sym c.deref-2.ensures.value) (t.1 (subst P (sym c.as_slice-points.ensures) h)))),
    )
