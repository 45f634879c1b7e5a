use Rattle.std.proofs.Common.{◌↔◌, ◌⊎◌, ◌∷◌, ◌+◌, List, drop, sym, ap, ◌∙◌, subst}
use Rattle.std.specs.Prelude.{Some}
use Rattle.node_pool.specs.Spots.{seen}
use Rattle.node_match.specs.Free.{Part, parts_of}
use Rattle.node_search.specs.States.{line_of, AnyFrom, From}
use Rattle.tree_match.proofs.next_states.land.Goals as goal

pub returns-then-branch : goal.returns-then-branch
returns-then-branch c e =
    let C = c.args.search.known.names.now in
    let l = line_of (seen c.args.search.holder.spot) in
    let follows = c.dots_follow.ensures c.if-dots_follow.true in
    let P : List Part → Type 0 = λ ps. AnyFrom C l ps c.land_first.new.states e ↔ (AnyFrom C l ps c.args.states.now e ⊎ From C l ps c.args.state.now e) in
    let cut = c.requires.part ∙ ap (λ (ps : List Part). Some c.args.part.now ∷ ps) follows.next in
    subst P (sym cut) (c.in_ok-land_first.ensures follows.dots (drop (c.args.at + 2) (parts_of c.args.search.pattern.now)) e follows.role)

pub returns : goal.returns
returns c e =
    let C = c.args.search.known.names.now in
    let l = line_of (seen c.args.search.holder.spot) in
    let P : List Part → Type 0 = λ ps. AnyFrom C l ps c.land_all.new.states e ↔ (AnyFrom C l ps c.args.states.now e ⊎ From C l ps c.args.state.now e) in
    subst P (sym c.requires.part) (c.in_ok-land_all.ensures C (drop (c.args.at + 1) (parts_of c.args.search.pattern.now)) e)
