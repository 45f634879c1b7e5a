use Rattle.std.proofs.Common.{◌≡◌, ℕ, ◌+◌, List, [], ◌∷◌, sym, ◌∙◌, subst, get_or, drop}
use Rattle.std.proofs.lemmas.List.{drop_all}
use Rattle.node_match.specs.Sets.{Among}
use Rattle.file_match.proofs.Marked.{lacks_one, marks_on, unmarked_one, marks_end, among_here, left_here}
use Rattle.file_match.proofs.words.may_match.Goals as goal

pub loop-place-init : goal.loop-place-init
loop-place-init c all = all

pub loop-place-preserved : goal.loop-place-preserved
loop-place-preserved c =
    let places = c.args.wanted.now.places in
    let xs = c.as_slice-place-items.result.now in
    let i = c.loop-place.place-index in
    let at = get_or xs i 0 in
    let P : List ℕ → Type 0 = λ ys. drop i ys ≡ at ∷ drop (i + 1) ys in
    marks_on c.args.words.now.count c.args.words.now.marks.items places (drop i places) (drop (i + 1) places) at c.loop-place.invariant (subst P c.as_slice-place-items.ensures (left_here xs i 0 c.loop-place-test.true))
    (sym c.is_marked.ensures ∙ c.if-not-is_marked.false)

pub returns-then-not-is_marked-clause-exact : goal.returns-then-not-is_marked-clause-exact
returns-then-not-is_marked-clause-exact c =
    let xs = c.as_slice-place-items.result.now in
    let at = get_or xs c.loop-place.place-index 0 in
    let P : List ℕ → Type 0 = λ ys. Among ys at in
    unmarked_one c.args.words.now.count c.args.words.now.marks.items c.args.wanted.now.places at (subst P c.as_slice-place-items.ensures (among_here xs c.loop-place.place-index 0 c.loop-place-test.true)) (sym c.is_marked.ensures ∙ c.if-not-is_marked.true)

pub returns-then-not-is_marked-clause-lacks : goal.returns-then-not-is_marked-clause-lacks
returns-then-not-is_marked-clause-lacks c _ fixed shape p tree covers are =
    let xs = c.as_slice-place-items.result.now in
    let at = get_or xs c.loop-place.place-index 0 in
    let P : List ℕ → Type 0 = λ ys. Among ys at in
    lacks_one c.args.words.now.count c.args.words.now.marks.items c.args.wanted.now.places at (subst P c.as_slice-place-items.ensures (among_here xs c.loop-place.place-index 0 c.loop-place-test.true)) (sym c.is_marked.ensures ∙ c.if-not-is_marked.true) fixed shape p tree covers are

pub returns-clause-exact : goal.returns-clause-exact
returns-clause-exact c =
    let places = c.args.wanted.now.places in
    let i = c.loop-place.place-index in
    let P : List ℕ → Type 0 = λ ys. drop i ys ≡ [] in
    marks_end c.args.words.now.count c.args.words.now.marks.items places (drop i places) c.loop-place.invariant (subst P c.as_slice-place-items.ensures (drop_all i c.as_slice-place-items.result.now c.loop-place-test.false))
