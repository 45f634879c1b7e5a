use Rattle.std.proofs.Common.{sym, ap, arith}
use Rattle.piece_store.specs.Kept.{answer_of}
use Rattle.piece_store.specs.Slots.{slot}
use Rattle.piece_store.specs.Views.{at}
use Rattle.piece_store.proofs.ByNumber.{number_kept}
use Rattle.piece_store.proofs.store.Store.number.Goals as goal

pub returns-clause-same : goal.returns-clause-same
returns-clause-same g c o p q =
    let s = c.args.self.now in
    number_kept g.Q.Ord.cmp g.met.Q.Ord.total s.numbers c.insert.new.self c.args.pattern s.next (λ i. answer_of s.empty (at g.P.Ord.cmp s.shelf o p i)) c.in_ok-insert.ensures.updates.0 (sym c.in_default.ensures.value)
    (ap (answer_of s.empty) (c.requires.unused o p s.next (omega arith))) q

pub returns-clause-rows : goal.returns-clause-rows
returns-clause-rows g c row fits q =
    let s = c.args.self.now in
    number_kept g.Q.Ord.cmp g.met.Q.Ord.total s.numbers c.insert.new.self c.args.pattern s.next (λ i. answer_of s.empty (slot row i)) c.in_ok-insert.ensures.updates.0 (sym c.in_default.ensures.value)
    (ap (answer_of s.empty) (fits s.next (omega arith))) q
