use Rattle.std.proofs.lemmas.Bool.Decides.{nat_tests}
use Rattle.std.proofs.Common.{◌≡◌, ◌≤◌, List, ℕ, length, get_or, ap, subst, arith}
use Rattle.tree_match.specs.declared.next_places.NextPlaces.{NextPlaces}
use Rattle.tree_match.specs.Landing.{IsNext}
use Rattle.tree_match.proofs.Landing.{leaps_out}
use Rattle.tree_match.proofs.run.rule_out.Goals as goal

pub returns-in-Some : goal.returns-in-Some
returns-in-Some c past kind p ns leaps few b k n below within lt is =
    let there = c.in-Some.there.now in
    let lookup = c.in-Some.ensures.lookup in
    let items = c.deref.ensures.value in
    let P : NextPlaces → Type 0 = λ x. IsNext kind p ns x in
    let Q : List ℕ → Type 0 = λ next. there ≡ get_or next c.args.from there in
    let end : c.args.end ≤ there = grind (arith, nat_tests, past) in
    leaps_out kind p ns _ b c.args.from there (subst P c.in-Looked.is leaps) (omega (arith, lookup.3.0, ap length items)) (subst Q items lookup.1) k n below (omega (arith, within, few, end)) lt is
