use Rattle.std.proofs.Common.{subst, sym, List, ℕ, ◌↔◌, ◌≡◌, take, get_or}
use Rattle.std.proofs.lemmas.List.{take_all}
use Rattle.graph_form.specs.Sets.{Among}
use Rattle.graph_form.proofs.Amongs.{among_at, among_more}
use Rattle.trace_path.specs.Queue.{Turned}
use Rattle.trace_path.proofs.Members.{turned_more}
use Rattle.trace_path.proofs.turning.turn_all.Goals as goal

pub loop-fact-init : goal.loop-fact-init
loop-fact-init c after =
    let P : List ℕ → Type 0 = λ xs. Among xs after → ⊥ in
    (λ h. absurd (subst P (sym c.clear.ensures.items) (λ n. n) h), λ h. absurd h.1)

pub turn-requires-clause-fact : goal.turn-requires-clause-fact
turn-requires-clause-fact c = c.requires.facts _ (among_at c.args.facts.now c.loop-fact.fact-index 0 c.loop-fact-test.true)

pub loop-fact-preserved : goal.loop-fact-preserved
loop-fact-preserved c after =
    turned_more c.args.moves.now c.args.point _ _ (get_or c.args.facts.now c.loop-fact.fact-index 0) after _ _ (among_more c.args.facts.now c.loop-fact.fact-index 0 c.loop-fact-test.true) (c.loop-fact.invariant after) (c.in_ok-turn.ensures after)

pub returns : goal.returns
returns c after =
    let whole : take c.loop-fact.fact-index c.args.facts.now ≡ c.args.facts.now = take_all c.loop-fact.fact-index c.args.facts.now c.loop-fact-test.false in
    let P : List ℕ → Type 0 = λ fs. Among c.loop-fact.into.items after ↔ Turned c.args.moves.now c.args.point fs after in
    subst P whole (c.loop-fact.invariant after)
