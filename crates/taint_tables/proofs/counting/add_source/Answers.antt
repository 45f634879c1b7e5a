use Rattle.std.proofs.Common.{◌≡◌, inl, inr, false, true, sym, ◌∙◌}
use Rattle.flow_reach.proofs.Steps.{as_right}
use Rattle.taint_form.specs.Expressions.{has_span}
use Rattle.taint_tables.proofs.CensusLists.{spans_more}
use Rattle.taint_tables.proofs.CensusLoops.{one_passed, none_passed}
use Rattle.taint_tables.proofs.counting.add_source.Goals as goal

pub returns-then-has-clause-same : goal.returns-then-has-clause-same
returns-then-has-clause-same c spans holds s =
    let passed : has_span spans c.args.span ≡ true = sym (holds c.args.span) ∙ sym c.has.ensures ∙ c.if-has.true in
    let p = one_passed (has_span spans) c.args.span passed s in
    as_right _ _ _ _ (spans_more c.args.into.now.numbers c.args.into.now.keys.items c.add.new.self.keys.items c.args.span c.requires c.in_ok-add.ensures.keys s) (p.1, p.0)

pub returns-clause-same : goal.returns-clause-same
returns-clause-same c spans holds s =
    let failed : has_span spans c.args.span ≡ false = sym (holds c.args.span) ∙ sym c.has.ensures ∙ c.if-has.false in
    (λ h. inl h, λ h. elim h [ inl a ↦ a | inr b ↦ absurd (none_passed (has_span spans) c.args.span failed s b) ])
