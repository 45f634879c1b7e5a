use Rattle.std.proofs.Common.{ℕ, List, ◌∙◌, subst}
use Rattle.std.specs.Prelude.{None}
use Rattle.std.proofs.lemmas.Result.{err_from_is_err_and}
use Rattle.taint_judge.specs.declared.list.RuleList.TheVariants.{Sources, Sinks, Sanitizers, Propagators}
use Rattle.taint_judge.specs.Lists.{formulas_in, RuleSearch, AndThen, IsCrowdedBy, OverFormulas, OverList, OverRule}
use Rattle.taint_judge.proofs.Gathering.{crowded_out, crowded_next, crowded_first}
use Rattle.taint_judge.proofs.sets.gather.Goals as goal

pub returns-in_err-members_in-2-clause-crowded : goal.returns-in_err-members_in-2-clause-crowded
returns-in_err-members_in-2-clause-crowded c =
    let L : List (List ℕ) → RuleSearch = λ t. OverList c.args.leaves.now t c.args.view.now.bytes c.args.rule.now Sinks in
    let one = c.in_ok-members_in.ensures in
    let rx = c.args.rx.now in
    let O = OverList c.args.leaves.now rx c.args.view.now.bytes c.args.rule.now in
    let P : List (List ℕ) → Type 0 = λ t. IsCrowdedBy (L t) c.in_err-members_in-2.field-0.0 in
    let p = err_from_is_err_and c.from_residual-in_err-members_in-2.result c.from_residual-in_err-members_in-2.ensures.1 in
    crowded_out (OverRule c.args.leaves.now rx c.args.view.now.bytes c.args.rule.now) _ _ _ p.1 p.2
    (crowded_next (O Sources) (AndThen (O Sinks) (AndThen (O Sanitizers) (O Propagators))) _ one.few (crowded_first (O Sinks) (AndThen (O Sanitizers) (O Propagators)) _ (subst P one.same c.in_err-members_in-2.ensures.crowded)))

pub returns-in_err-members_in-3-clause-crowded : goal.returns-in_err-members_in-3-clause-crowded
returns-in_err-members_in-3-clause-crowded c =
    let one = c.in_ok-members_in.ensures in
    let two = c.in_ok-members_in-2.ensures in
    let rx = c.args.rx.now in
    let O = OverList c.args.leaves.now rx c.args.view.now.bytes c.args.rule.now in
    let F : List (List ℕ) → Type 0 = λ t. OverFormulas c.args.leaves.now t c.args.view.now.bytes (formulas_in Sinks c.args.rule.now) None in
    let P : List (List ℕ) → Type 0 = λ t. IsCrowdedBy (OverList c.args.leaves.now t c.args.view.now.bytes c.args.rule.now Sanitizers) c.in_err-members_in-3.field-0.0 in
    let p = err_from_is_err_and c.from_residual-in_err-members_in-3.result c.from_residual-in_err-members_in-3.ensures.1 in
    crowded_out (OverRule c.args.leaves.now rx c.args.view.now.bytes c.args.rule.now) _ _ _ p.1 p.2
    (crowded_next (O Sources) (AndThen (O Sinks) (AndThen (O Sanitizers) (O Propagators))) _ one.few (crowded_next (O Sinks) (AndThen (O Sanitizers) (O Propagators)) _ (subst F one.same two.few)
    (crowded_first (O Sanitizers) (O Propagators) _ (subst P (two.same ∙ one.same) c.in_err-members_in-3.ensures.crowded))))

pub returns-in_err-members_in-4-clause-crowded : goal.returns-in_err-members_in-4-clause-crowded
returns-in_err-members_in-4-clause-crowded c =
    let one = c.in_ok-members_in.ensures in
    let two = c.in_ok-members_in-2.ensures in
    let three = c.in_ok-members_in-3.ensures in
    let rx = c.args.rx.now in
    let O = OverList c.args.leaves.now rx c.args.view.now.bytes c.args.rule.now in
    let F : List (List ℕ) → Type 0 = λ t. OverFormulas c.args.leaves.now t c.args.view.now.bytes (formulas_in Sinks c.args.rule.now) None in
    let G : List (List ℕ) → Type 0 = λ t. OverFormulas c.args.leaves.now t c.args.view.now.bytes (formulas_in Sanitizers c.args.rule.now) None in
    let P : List (List ℕ) → Type 0 = λ t. IsCrowdedBy (OverList c.args.leaves.now t c.args.view.now.bytes c.args.rule.now Propagators) c.in_err-members_in-4.field-0.0 in
    let p = err_from_is_err_and c.from_residual-in_err-members_in-4.result c.from_residual-in_err-members_in-4.ensures.1 in
    crowded_out (OverRule c.args.leaves.now rx c.args.view.now.bytes c.args.rule.now) _ _ _ p.1 p.2
    (crowded_next (O Sources) (AndThen (O Sinks) (AndThen (O Sanitizers) (O Propagators))) _ one.few (crowded_next (O Sinks) (AndThen (O Sanitizers) (O Propagators)) _ (subst F one.same two.few)
    (crowded_next (O Sanitizers) (O Propagators) _ (subst G (two.same ∙ one.same) three.few) (subst P (three.same ∙ two.same ∙ one.same) c.in_err-members_in-4.ensures.crowded))))

pub returns-clause-few : goal.returns-clause-few
returns-clause-few c =
    let one = c.in_ok-members_in.ensures in
    let two = c.in_ok-members_in-2.ensures in
    let three = c.in_ok-members_in-3.ensures in
    let four = c.in_ok-members_in-4.ensures in
    let F : List (List ℕ) → Type 0 = λ t. OverFormulas c.args.leaves.now t c.args.view.now.bytes (formulas_in Sinks c.args.rule.now) None in
    let G : List (List ℕ) → Type 0 = λ t. OverFormulas c.args.leaves.now t c.args.view.now.bytes (formulas_in Sanitizers c.args.rule.now) None in
    let H : List (List ℕ) → Type 0 = λ t. OverFormulas c.args.leaves.now t c.args.view.now.bytes (formulas_in Propagators c.args.rule.now) None in
    (one.few, (subst F one.same two.few, (subst G (two.same ∙ one.same) three.few, subst H (three.same ∙ two.same ∙ one.same) four.few)))
