use Rattle.std.proofs.Common.{◌∙◌, sym, ap, ℕ, true}
use Rattle.std.specs.Prelude.{Option, Bool}
use Rattle.std.specs.BTreeMap.{get}
use Rattle.piece_store.specs.Kept.{answer_of, by_number, kept, put_pair}
use Rattle.piece_store.specs.Slots.{marked}
use Rattle.piece_store.specs.Views.{at, put_there}
use Rattle.piece_store.proofs.ByNumber.{by_numbers, pair_put, met_answer}
use Rattle.piece_store.proofs.store.Store.mark.Goals as goal

pub returns-in-Some-clause-met : goal.returns-in-Some-clause-met
returns-in-Some-clause-met g c o p q =
    let R = g.P.Ord.cmp in
    let S = g.Q.Ord.cmp in
    let s = c.args.self.now in
    let n = c.in-Some.number.now in
    let path = c.args.path.now in
    let piece = c.args.piece.now in
    let pattern = c.args.pattern.now in
    let here = c.in-Some.ensures.value in
    let was : Option (Option g.row.V.Denot × Bool) = at R s.shelf path piece n in
    by_numbers (λ j. answer_of s.empty (at R c.mark.new.self o p j)) (λ j. answer_of s.empty (put_there R path piece n (marked was) (at R s.shelf) o p j)) (λ j. ap (answer_of s.empty) (c.mark.ensures.marked o p j)) (get S s.numbers q)
    ∙ pair_put S g.met.Q.Ord.total s.numbers c.requires.apart pattern n (sym here) R s.empty path piece (marked was) (at R s.shelf) o p q
    ∙ ap (λ (y : Option (g.row.V.Denot × Bool)). put_pair R S path piece pattern y (kept R S s) o p q)
    (met_answer s.empty true was ∙ ap (λ (r : Option ℕ). marked (by_number (λ j. answer_of s.empty (at R s.shelf path piece j)) r)) here)
