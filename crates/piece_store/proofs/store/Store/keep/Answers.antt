use Rattle.std.proofs.Common.{◌≡◌, ◌∙◌, ap, true, cond}
use Rattle.std.specs.Prelude.{Option, Some, Bool, ◌&&◌, unwrap_or}
use Rattle.std.specs.Ordering.{is_eq}
use Rattle.std.specs.Str.{bytes_eq}
use Rattle.std.specs.BTreeMap.{get}
use Rattle.piece_store.specs.Kept.{answer_of, kept, put_pair}
use Rattle.piece_store.specs.Views.{at, put_there}
use Rattle.piece_store.proofs.Outcomes.{on_ok}
use Rattle.piece_store.proofs.ByNumber.{by_numbers, pair_put}
use Rattle.piece_store.proofs.store.Store.keep.Goals as goal

pub returns-clause-ok : goal.returns-clause-ok
returns-clause-ok g c =
    let R = g.P.Ord.cmp in
    let S = g.Q.Ord.cmp in
    let mid = c.number.new.self in
    let n = c.in_ok-number.ensures in
    let i = c.in_ok-number.number in
    let path = c.args.path.now in
    let piece = c.args.piece in
    let pattern = c.args.pattern in
    let x : Option (Option g.row.V.Denot × Bool) = Some (c.unless_empty.result, true) in
    let put : Option (g.row.V.Denot × Bool) = Some (c.args.answer, true) in
    let is : answer_of mid.empty x ≡ put =
    ap (λ (e : g.row.V.Denot). let y : Option (g.row.V.Denot × Bool) = Some (unwrap_or c.unless_empty.result e, true) in y) n.sound.empty ∙ ap (λ (v : g.row.V.Denot). let y : Option (g.row.V.Denot × Bool) = Some (v, true) in y) c.unless_empty.ensures in
    on_ok _ _ c.keep.result (λ slots o p q.
    by_numbers (λ j. answer_of mid.empty (at R c.keep.new.self o p j)) (λ j. answer_of mid.empty (put_there R path piece i x (at R mid.shelf) o p j)) (λ j. ap (answer_of mid.empty) (slots o p j)) (get S mid.numbers q)
    ∙ pair_put S g.met.Q.Ord.total mid.numbers n.sound.apart pattern i n.number R mid.empty path piece x (at R mid.shelf) o p q
    ∙ ap (λ (y : Option (g.row.V.Denot × Bool)). put_pair R S path piece pattern y (kept R S mid) o p q) is
    ∙ ap (λ (z : Option (g.row.V.Denot × Bool)). cond (bytes_eq path o && (is_eq (R piece p) && is_eq (S pattern q))) put z) (n.same o p q)) c.keep.ensures.ok
