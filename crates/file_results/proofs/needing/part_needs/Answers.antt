use Rattle.std.proofs.Common.{◌≡◌, ◌↔◌, false, true, Bool, IsTrue, List, sym, subst}
use Rattle.node_tree.specs.declared.view.Pattern.{Pattern}
use Rattle.file_results.specs.Needing.{PatternsUse, PartUses}
use Rattle.file_results.proofs.Named.{if_ok_map}
use Rattle.file_results.proofs.needing.part_needs.Goals as goal

pub returns-then-not-looks_at : goal.returns-then-not-looks_at
returns-then-not-looks_at g c = (
  λ e. absurd (let f : false ≡ true = e in cc),
  λ uses. let e = c.looks_at.ensures.1 uses.0 in let f = c.if-not-looks_at.true in absurd cc,
)

pub returns : goal.returns
returns g c =
    let May = g.F.MayHave.may c.args.file.now in
    let L : List Pattern → Type 0 = PatternsUse May in
    let A : Bool → Type 0 = λ need. IsTrue need ↔ L c.as_slice.result.now in
    let B : Bool → Type 0 = λ needs. IsTrue needs ↔ PartUses May c.args.lang c.args.part.now in
    let looks = c.looks_at.ensures.0 c.if-not-looks_at.false in
    if_ok_map A B c.patterns_need.result (λ need exact. (λ e. (looks, subst L c.as_slice.ensures (exact.0 e)), λ uses. exact.1 (subst L (sym c.as_slice.ensures) uses.1))) c.patterns_need.ensures
