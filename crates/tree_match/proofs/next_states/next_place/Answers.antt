use Rattle.std.proofs.Common.{List, ℕ, subst}
use Rattle.node_tree.specs.Tree.{kind_of, kids_of, content_of}
use Rattle.tree_match.specs.declared.next_places.NextPlaces.{NextPlaces}
use Rattle.tree_match.specs.Landing.{IsNext}
use Rattle.tree_match.specs.Same.{StandsFor}
use Rattle.tree_match.proofs.Landing.{named_out}
use Rattle.tree_match.proofs.next_states.next_place.Goals as goal

pub returns-in-Some-held_by-clause-out : goal.returns-in-Some-held_by-clause-out
returns-in-Some-held_by-clause-out c =
    let kind = kind_of c.args.holder.now in
    let p = c.args.part.now in
    let ns = kids_of c.args.holder.now in
    let node = c.in-Some-held_by.node.now in
    let P : NextPlaces → Type 0 = λ x. IsNext kind p ns x in
    let Q : List ℕ → Type 0 = λ name. StandsFor name c.args.trail.now (content_of node) in
    named_out kind p ns c.args.trail.now node c.in-Named.same c.args.from c.next_place.result (subst P c.in-Named.is c.requires) (subst Q c.as_str.ensures c.in-Some-held_by.ensures) c.next_place.ensures.none
