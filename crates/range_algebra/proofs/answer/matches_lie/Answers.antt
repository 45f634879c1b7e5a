use Rattle.std.proofs.Common.{ℕ, List, All, subst}
use Rattle.std.proofs.lemmas.List.Elements.{All-nil}
use Rattle.node_tree.specs.Span.{LiesIn}
use Rattle.range_algebra.specs.Regexes.{matches_of}
use Rattle.range_algebra.proofs.Firsts.{first_more, first_all}
use Rattle.range_algebra.proofs.Regexes.{LieAll}
use Rattle.range_algebra.proofs.answer.matches_lie.Goals as goal

pub loop-one-preserved : goal.loop-one-preserved
loop-one-preserved c = first_more (LieAll c.args.text.now) _ _ _ c.loop-one-test.true c.one-item.is c.keeps_characters.ensures c.loop-one.invariant

pub returns : goal.returns
returns c =
    let P : List (List ℕ) → Type 0 = λ texts. (k : ℕ) → All (LiesIn c.args.text.now) (matches_of texts c.args.text.now k) in
    subst P c.as_slice-one-items.ensures (first_all (LieAll c.args.text.now) _ _ c.loop-one-test.false (All-nil (LiesIn c.args.text.now)) c.loop-one.invariant)
