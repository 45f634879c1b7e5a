use Rattle.std.proofs.Common.{◌≡◌, ◌∙◌, map, ap, subst, List, Some}
use Rattle.std.proofs.lemmas.Result.{err_from_is_err_and}
use Rattle.node_tree.specs.declared.node.Node.{Node}
use Rattle.node_tree.specs.declared.view.Mode.TheVariants.{Pattern}
use Rattle.node_tree.specs.declared.view.Shape.{Shape}
use Rattle.node_tree.specs.declared.view.Shape.TheVariants.{Expr, Run}
use Rattle.c_lex.specs.declared.token.CToken.{CToken}
use Rattle.c_expr.specs.declared.word.Token.{Token}
use Rattle.c_expr.specs.Words.{token_of}
use Rattle.c_items.specs.Table.{Items, File}
use Rattle.c_unit.specs.Units.{AreWords, IsExpression, IsRun, IsPattern, IsPatternOf, expression, items, file_items}
use Rattle.c_unit.proofs.Patterns.{same_classed, fault_still, nothing_there, the_expression, the_items, only_file, the_file}
use Rattle.c_unit.proofs.Placing.{pattern_lies}
use Rattle.c_unit.proofs.pattern.read_c_pattern.Goals as goal

pub returns-in_err-all-clause-only : goal.returns-in_err-all-clause-only
returns-in_err-all-clause-only c = λ s n p.
    let r = err_from_is_err_and c.from_residual.result c.from_residual.ensures.1 in
    rw (r.1, r.2) (fault_still (λ (ts : List CToken). ts) c.in_err-all.field-0.0 p.words.tokens (s, n) (c.in_err-all.ensures.only p.words.tokens p.words.lexes))

-- ---- an expression

pub returns-in-Ok-clause-found : goal.returns-in-Ok-clause-found
returns-in-Ok-clause-found c = record {
  tokens = c.as_slice-tokens.result.now;
  words = record { tokens = c.in_ok-all.all; lexes = c.in_ok-all.ensures.given; words = c.as_slice-tokens.ensures ∙ c.in_ok-classed.ensures };
  is_pattern = expression c.in-Ok.ensures.found;
}

pub returns-in-Ok-clause-placed : goal.returns-in-Ok-clause-placed
returns-in-Ok-clause-placed c = pattern_lies c.args.text.now c.in_ok-all.all Pattern c.as_slice-tokens.result.now Expr c.in-Ok.tree c.utf8.text c.in_ok-all.ensures.placed (c.as_slice-tokens.ensures ∙ c.in_ok-classed.ensures) (expression c.in-Ok.ensures.found)

pub returns-in-Ok-clause-only : goal.returns-in-Ok-clause-only
returns-in-Ok-clause-only c = λ s n p.
    let classed : c.as_slice-tokens.result.now ≡ map (token_of Pattern) c.in_ok-all.all = c.as_slice-tokens.ensures ∙ c.in_ok-classed.ensures in
    let same : p.tokens ≡ c.as_slice-tokens.result.now = same_classed Pattern c.args.text.now c.in_ok-all.all c.as_slice-tokens.result.now p.tokens p.words (c.in_ok-all.ensures.only p.words.tokens p.words.lexes) classed in
    the_expression c.as_slice-tokens.result.now c.in-Ok.tree (subst (λ (ts : List Token). IsPatternOf ts s n) same p.is_pattern) c.in-Ok.ensures.found c.in-Ok.ensures.only

-- ---- items of a block

pub returns-in-Ok-read_run-clause-found : goal.returns-in-Ok-read_run-clause-found
returns-in-Ok-read_run-clause-found c = record {
  tokens = c.as_slice-tokens.result.now;
  words = record { tokens = c.in_ok-all.all; lexes = c.in_ok-all.ensures.given; words = c.as_slice-tokens.ensures ∙ c.in_ok-classed.ensures };
  is_pattern = items (nothing_there c.in-Err-NoTree.field-0 (IsExpression c.as_slice-tokens.result.now) c.in-Err-NoTree.field-0-is c.in-Err-NoTree.ensures.only) c.in-Ok-read_run.ensures.found;
}

pub returns-in-Ok-read_run-clause-placed : goal.returns-in-Ok-read_run-clause-placed
unfolding returns-in-Ok-read_run-clause-found
returns-in-Ok-read_run-clause-placed c = pattern_lies c.args.text.now c.in_ok-all.all Pattern c.as_slice-tokens.result.now Run c.in-Ok-read_run.block c.utf8.text c.in_ok-all.ensures.placed (c.as_slice-tokens.ensures ∙ c.in_ok-classed.ensures) (returns-in-Ok-read_run-clause-found c).is_pattern

pub returns-in-Ok-read_run-clause-only : goal.returns-in-Ok-read_run-clause-only
returns-in-Ok-read_run-clause-only c = λ s n p.
    let classed : c.as_slice-tokens.result.now ≡ map (token_of Pattern) c.in_ok-all.all = c.as_slice-tokens.ensures ∙ c.in_ok-classed.ensures in
    let same : p.tokens ≡ c.as_slice-tokens.result.now = same_classed Pattern c.args.text.now c.in_ok-all.all c.as_slice-tokens.result.now p.tokens p.words (c.in_ok-all.ensures.only p.words.tokens p.words.lexes) classed in
    the_items c.as_slice-tokens.result.now c.in-Ok-read_run.block (subst (λ (ts : List Token). IsPatternOf ts s n) same p.is_pattern) (nothing_there c.in-Err-NoTree.field-0 (IsExpression c.as_slice-tokens.result.now) c.in-Err-NoTree.field-0-is c.in-Err-NoTree.ensures.only) c.in-Ok-read_run.ensures.found c.in-Ok-read_run.ensures.only

-- ---- items of a file

pub returns-in_err-block-clause-only : goal.returns-in_err-block-clause-only
returns-in_err-block-clause-only c = λ s n p.
    let classed : c.as_slice-tokens.result.now ≡ map (token_of Pattern) c.in_ok-all.all = c.as_slice-tokens.ensures ∙ c.in_ok-classed.ensures in
    let same : p.tokens ≡ c.as_slice-tokens.result.now = same_classed Pattern c.args.text.now c.in_ok-all.all c.as_slice-tokens.result.now p.tokens p.words (c.in_ok-all.ensures.only p.words.tokens p.words.lexes) classed in
    let no_expression : (k : Node) → IsExpression c.as_slice-tokens.result.now k → ⊥ = nothing_there c.in-Err-NoTree.field-0 (IsExpression c.as_slice-tokens.result.now) c.in-Err-NoTree.field-0-is c.in-Err-NoTree.ensures.only in
    let no_items : (k : Node) → IsRun Items c.as_slice-tokens.result.now k → ⊥ = nothing_there c.in-Err-NoTree-read_run.field-0 (IsRun Items c.as_slice-tokens.result.now) c.in-Err-NoTree-read_run.field-0-is c.in-Err-NoTree-read_run.ensures.only in
    let file = only_file c.as_slice-tokens.result.now (subst (λ (ts : List Token). IsPatternOf ts s n) same p.is_pattern) no_expression no_items in
    let r = err_from_is_err_and c.from_residual-in_err-block.result c.from_residual-in_err-block.ensures.1 in
    rw (r.1, r.2) (fault_still (λ (m : Node). m) c.in_err-block.field-0.0 n (s, n) (c.in_err-block.ensures.only n file.1))

pub returns-clause-found : goal.returns-clause-found
returns-clause-found c = record {
  tokens = c.as_slice-tokens.result.now;
  words = record { tokens = c.in_ok-all.all; lexes = c.in_ok-all.ensures.given; words = c.as_slice-tokens.ensures ∙ c.in_ok-classed.ensures };
  is_pattern = file_items (nothing_there c.in-Err-NoTree.field-0 (IsExpression c.as_slice-tokens.result.now) c.in-Err-NoTree.field-0-is c.in-Err-NoTree.ensures.only)
      (nothing_there c.in-Err-NoTree-read_run.field-0 (IsRun Items c.as_slice-tokens.result.now) c.in-Err-NoTree-read_run.field-0-is c.in-Err-NoTree-read_run.ensures.only) c.in_ok-block.ensures.found;
}

pub returns-clause-placed : goal.returns-clause-placed
unfolding returns-clause-found
returns-clause-placed c = pattern_lies c.args.text.now c.in_ok-all.all Pattern c.as_slice-tokens.result.now Run c.in_ok-block.block c.utf8.text c.in_ok-all.ensures.placed (c.as_slice-tokens.ensures ∙ c.in_ok-classed.ensures) (returns-clause-found c).is_pattern

pub returns-clause-only : goal.returns-clause-only
returns-clause-only c = λ s n p.
    let classed : c.as_slice-tokens.result.now ≡ map (token_of Pattern) c.in_ok-all.all = c.as_slice-tokens.ensures ∙ c.in_ok-classed.ensures in
    let same : p.tokens ≡ c.as_slice-tokens.result.now = same_classed Pattern c.args.text.now c.in_ok-all.all c.as_slice-tokens.result.now p.tokens p.words (c.in_ok-all.ensures.only p.words.tokens p.words.lexes) classed in
    let no_expression : (k : Node) → IsExpression c.as_slice-tokens.result.now k → ⊥ = nothing_there c.in-Err-NoTree.field-0 (IsExpression c.as_slice-tokens.result.now) c.in-Err-NoTree.field-0-is c.in-Err-NoTree.ensures.only in
    let no_items : (k : Node) → IsRun Items c.as_slice-tokens.result.now k → ⊥ = nothing_there c.in-Err-NoTree-read_run.field-0 (IsRun Items c.as_slice-tokens.result.now) c.in-Err-NoTree-read_run.field-0-is c.in-Err-NoTree-read_run.ensures.only in
    the_file c.as_slice-tokens.result.now c.in_ok-block.block (subst (λ (ts : List Token). IsPatternOf ts s n) same p.is_pattern) no_expression no_items c.in_ok-block.ensures.only
