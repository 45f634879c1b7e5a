use Rattle.std.proofs.Common.{ℕ, List, All, sym, subst, ◌∙◌, IsUtf8}
use Rattle.std.specs.Prelude.{None}
use Rattle.std.proofs.lemmas.List.Elements.{All-weaker}
use Rattle.node_tree.specs.Span.{LiesIn}
use Rattle.meta_bind.specs.Places.{EndsLieIn}
use Rattle.tree_match.specs.Members.{Member}
use Rattle.tree_match.specs.Placed.{IsPlaced}
use Rattle.tree_match.proofs.Placed.{among_all}
use Rattle.range_algebra.specs.Trees.{tree_of}
use Rattle.range_algebra.specs.Regexes.{matches_of}
use Rattle.range_algebra.proofs.Placed.{meets_placed}
use Rattle.range_algebra.proofs.answer.eval.Goals as goal

pub matches_lie-requires : goal.matches_lie-requires
matches_lie-requires c = let P : List ℕ → Type 0 = λ b. ∥ IsUtf8 b ∥₁ in subst P (sym c.as_slice.ensures) c.args.view.now.utf8

pub returns-in_ok-keep_all-in-Ok-clause-placed : goal.returns-in_ok-keep_all-in-Ok-clause-placed
returns-in_ok-keep_all-in-Ok-clause-placed c =
    let bytes = c.args.view.now.bytes in
    let P : List ℕ → Type 0 = λ b. (k : ℕ) → All (LiesIn b) (matches_of c.args.rx.now b k) in
    let lie = subst P c.as_slice.ensures c.matches_lie.ensures in
    let matches : (k : ℕ) → All (EndsLieIn bytes) (matches_of c.args.rx.now bytes k) = λ k. All-weaker (LiesIn bytes) (EndsLieIn bytes) (λ s l. (l.begins, l.ends)) _ (lie k) in
    let Q : List Member → Type 0 = All (IsPlaced bytes) in
    let set = c.in-Ok.ensures.exact in
    let each = among_all (IsPlaced bytes) c.in-Ok.members.items (λ m h. meets_placed c.args.leaves.now c.args.rx.now bytes c.requires.placed matches (tree_of c.args.formula.now) None m tt ((set.exact m).0 h)) in
    subst Q (sym (c.in_ok-keep_all-in-Ok.ensures ∙ c.as_slice-in-Ok.ensures.value)) each
