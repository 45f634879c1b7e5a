use Rattle.std.proofs.Common.{rules, ◌≡◌, ◌≤◌, ◌∙◌, List, map, subst, arith}
use Rattle.node_tree.specs.declared.view.Mode.TheVariants.{Text}
use Rattle.c_lex.specs.declared.token.CToken.{CToken}
use Rattle.c_expr.specs.declared.word.Token.{Token}
use Rattle.c_expr.specs.Words.{token_of}
use Rattle.c_expr.specs.reader.Reading.{parts}
use Rattle.c_items.specs.Table.{File}
use Rattle.c_unit.specs.Units.{IsAll}
use Rattle.c_unit.proofs.Patterns.{same_classed, fault_still, same_root}
use Rattle.c_unit.proofs.Placing.{unit_lies}
use Rattle.c_unit.proofs.unit.read_unit.Goals as goal

pub returns-in_err-all-clause-only : goal.returns-in_err-all-clause-only
returns-in_err-all-clause-only c = λ n u. let h : _ = fault_still (λ (ts : List CToken). ts) c.in_err-all.field-0.0 u.words.tokens n (c.in_err-all.ensures.only u.words.tokens u.words.lexes) in search (rules, h)

pub returns-in_err-parts-clause-only : goal.returns-in_err-parts-clause-only
returns-in_err-parts-clause-only c = λ n u.
    let classed : c.as_slice.result.now ≡ map (token_of Text) c.in_ok-all.all = c.as_slice.ensures ∙ c.in_ok-classed.ensures in
    let same : u.tokens ≡ c.as_slice.result.now = same_classed Text c.args.text.now c.in_ok-all.all c.as_slice.result.now u.tokens u.words (c.in_ok-all.ensures.only u.words.tokens u.words.lexes) classed in
    let all : IsAll File c.as_slice.result.now u.items u.end = subst (λ (ts : List Token). IsAll File ts u.items u.end) same u.all in
    let h : _ = fault_still parts c.in_err-parts.field-0.0 (u.items, u.end) n (c.in_err-parts.ensures.only u.items u.end all (omega (arith, u.shallow))) in
    search (rules, h)

pub returns-clause-placed : goal.returns-clause-placed
returns-clause-placed c = unit_lies c.args.text.now c.in_ok-all.all Text c.as_slice.result.now c.in_ok-parts.parts.items c.in_ok-parts.end c.new.result c.in_ok-nodes_of.field-0 c.utf8.text c.in_ok-all.ensures.placed (c.as_slice.ensures ∙ c.in_ok-classed.ensures) c.in_ok-parts.ensures.found c.new.ensures c.in_ok-nodes_of.ensures

pub returns-clause-only : goal.returns-clause-only
returns-clause-only c = λ n u.
    let classed : c.as_slice.result.now ≡ map (token_of Text) c.in_ok-all.all = c.as_slice.ensures ∙ c.in_ok-classed.ensures in
    let same : u.tokens ≡ c.as_slice.result.now = same_classed Text c.args.text.now c.in_ok-all.all c.as_slice.result.now u.tokens u.words (c.in_ok-all.ensures.only u.words.tokens u.words.lexes) classed in
    let all : IsAll File c.as_slice.result.now u.items u.end = subst (λ (ts : List Token). IsAll File ts u.items u.end) same u.all in
    same_root n c.new.result c.in_ok-nodes_of.field-0 u.items c.in_ok-parts.parts.items u.end c.in_ok-parts.end _ u.is_root (c.in_ok-parts.ensures.only u.items u.end all (omega (arith, u.shallow))) c.new.ensures c.in_ok-nodes_of.ensures
