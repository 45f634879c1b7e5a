use Rattle.std.proofs.Common.{sym, subst, ap, ◌∙◌, ◌++◌, ◌∷◌, [], List, ℕ, ◌↔◌, ◌≡◌, take, get_or}
use Rattle.std.proofs.lemmas.List.{take_all, take_more}
use Rattle.std.proofs.lemmas.List.Sorted.{IsNonDecreasingBy-from_sort}
use Rattle.graph_form.specs.Sets.{Among}
use Rattle.graph_form.proofs.Amongs.{same_items}
use Rattle.trace_path.proofs.turning.ordered.Goals as goal

pub loop-number-preserved : goal.loop-number-preserved
loop-number-preserved c =
    c.in_ok-push.ensures.items ∙ ap (λ xs. xs ++ get_or c.args.numbers.now c.loop-number.number-index 0 ∷ []) c.loop-number.invariant ∙ sym (take_more c.args.numbers.now c.loop-number.number-index 0 c.loop-number-test.true)

pub returns-clause-same : goal.returns-clause-same
returns-clause-same c x =
    let whole : c.loop-number.sorted.items ≡ c.args.numbers.now = c.loop-number.invariant ∙ take_all c.loop-number.number-index c.args.numbers.now c.loop-number-test.false in
    let P : List ℕ → Type 0 = λ xs. Among c.sort.new.self.items x ↔ Among xs x in
    subst P whole (same_items _ _ c.in_ok-sort.ensures.permutation x)

pub returns-clause-ascends : goal.returns-clause-ascends
returns-clause-ascends c i j le lt = IsNonDecreasingBy-from_sort (λ x. x) c.sort.new.self.items c.in_ok-sort.ensures.sorted i j 0 le lt
