use Rattle.std.proofs.Common.{◌<◌, ◌-◌, arith, refl, get_or, subst}
use Rattle.py_lex.specs.declared.token.FPart.{FPart}
use Rattle.py_expr.specs.Items.{AreItems}
use Rattle.py_expr.specs.Insides.{Finds, IsValue, IsPart, AreParts, HasNodes}
use Rattle.py_expr.proofs.Tokens.{all_made, only_made, goes_on, goes_nowhere, nodes_of_parts, parts_of_nodes, by_part, finds_none, finds_some, field_parts, found_field}
use Rattle.py_expr.proofs.inside.+inside.Goals as goal

pub items-returns-clause-found : goal.items-returns-clause-found
items-returns-clause-found n c = all_made (AreItems (HasNodes c.args.levels c.args.mode) c.args.mode) c.args.tokens.now c.loop-at.all c.loop-at.at (omega (arith, c.loop-at-test.false)) refl c.loop-at.invariant

pub nodes-returns : goal.nodes-returns
nodes-returns n c =
    let some : 0 < c.args.levels = grind (arith, c.if-levels-eq0.false) in (
      parts_of_nodes c.args.levels c.args.mode c.args.parts.now c.loop-at.all some (all_made (AreParts (HasNodes (c.args.levels - 1) c.args.mode) c.args.mode) c.args.parts.now c.loop-at.all c.loop-at.at c.loop-at-test.false refl c.loop-at.invariant),
      λ ys h. only_made (AreParts (HasNodes (c.args.levels - 1) c.args.mode) c.args.mode) c.args.parts.now c.loop-at.all c.loop-at.at c.loop-at-test.false (λ zs e. e) c.loop-at.invariant ys (nodes_of_parts c.args.levels c.args.mode c.args.parts.now ys some h),
    )

pub nodes-loop-at-preserved : goal.nodes-loop-at-preserved
nodes-loop-at-preserved n c =
    let I : _ = HasNodes (c.args.levels - 1) c.args.mode in
    let found : Finds (IsPart I c.args.mode (get_or c.args.parts.now c.loop-at.at c.index-parts-at.result)) c.in_ok-node.field-0 = subst (λ (p : FPart). Finds (IsPart I c.args.mode p) c.in_ok-node.field-0) c.index-parts-at.is c.in_ok-node.ensures in
    rw c.in_ok-push-in-Some.ensures.ok (goes_on (λ p ps n. IsPart I c.args.mode p n) (AreParts I c.args.mode) (by_part I c.args.mode) c.args.parts.now c.loop-at.all c.loop-at.at c.index-parts-at.result c.in_ok-node.field-0 c.in-Some.node c.loop-at-test.true c.in-Some.is found c.loop-at.invariant)

pub nodes-returns-in-None : goal.nodes-returns-in-None
nodes-returns-in-None n c = λ ys h.
    let I : _ = HasNodes (c.args.levels - 1) c.args.mode in
    let some : 0 < c.args.levels = grind (arith, c.if-levels-eq0.false) in
    let found : Finds (IsPart I c.args.mode (get_or c.args.parts.now c.loop-at.at c.index-parts-at.result)) c.in_ok-node.field-0 = subst (λ (p : FPart). Finds (IsPart I c.args.mode p) c.in_ok-node.field-0) c.index-parts-at.is c.in_ok-node.ensures in
    goes_nowhere (λ p ps n. IsPart I c.args.mode p n) (AreParts I c.args.mode) (by_part I c.args.mode) c.args.parts.now c.loop-at.all c.loop-at.at c.index-parts-at.result c.in_ok-node.field-0 c.loop-at-test.true c.in-None.is found c.loop-at.invariant ys (nodes_of_parts c.args.levels c.args.mode c.args.parts.now ys some h)

pub part-returns-in_default : goal.part-returns-in_default
part-returns-in_default n c = λ x h.
    let I : _ = HasNodes c.args.levels c.args.mode in
    let q : _ = field_parts I c.args.mode c.args.part.now c.in-Field.tokens c.in-Field.conversion c.in-Field.format c.in-Field.span c.in-Field.is x h in
    finds_none (IsValue I c.args.mode c.in-Field.tokens) c.in_ok-value-in-Field.field-0 c.in_default.not-Some (rw c.as_slice.ensures at c.in_ok-value-in-Field.ensures) q.0 q.2

pub part-returns-in_default-2 : goal.part-returns-in_default-2
part-returns-in_default-2 n c = λ x h.
    let I : _ = HasNodes c.args.levels c.args.mode in
    let q : _ = field_parts I c.args.mode c.args.part.now c.in-Field.tokens c.in-Field.conversion c.in-Field.format c.in-Field.span c.in-Field.is x h in
    finds_none (I c.in-Field.format) c.in_ok-nodes-in-Field.field-0 c.in_default-2.not-Some (rw c.as_slice-in-Field.ensures at c.in_ok-nodes-in-Field.ensures) q.1 q.3

pub part-returns-in_ok-field-in-Field : goal.part-returns-in_ok-field-in-Field
part-returns-in_ok-field-in-Field n c =
    let I : _ = HasNodes c.args.levels c.args.mode in
    found_field I c.args.mode c.args.part.now c.in-Field.tokens c.in-Field.conversion c.in-Field.format c.in-Field.span c.in-Field.is c.in-Some.value c.in-Some-2.nodes c.in_ok-field-in-Field.field-0
    (finds_some (IsValue I c.args.mode c.in-Field.tokens) c.in_ok-value-in-Field.field-0 c.in-Some.value c.in-Some.is (rw c.as_slice.ensures at c.in_ok-value-in-Field.ensures))
    (finds_some (I c.in-Field.format) c.in_ok-nodes-in-Field.field-0 c.in-Some-2.nodes c.in-Some-2.is (rw c.as_slice-in-Field.ensures at c.in_ok-nodes-in-Field.ensures))
    c.in_ok-field-in-Field.ensures
