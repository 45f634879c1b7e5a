use Rattle.std.proofs.Common.{ℕ, List, ◌+◌, ◌++◌, length, ap, ◌∙◌, sym}
use Rattle.node_tree.specs.declared.mark.Mark.{Mark}
use Rattle.node_tree.proofs.LineEnds.{mark_is, lines_more, bytes_on, bytes_after}
use Rattle.node_tree.proofs.places.after.Goals as goal

pub returns-in-Some : goal.returns-in-Some
returns-in-Some c = λ front e.
    let found = c.count.ensures ∙ ap (λ (xs : List ℕ). length xs) c.memchr_iter.ensures.value in
    mark_is _ _ (front ++ c.args.piece.now) (lines_more front c.args.piece.now _ _ (ap (λ (m : Mark). m.lines) e) found)
    (sym (bytes_after front c.args.piece.now c.memrchr.result c.in-Some.last c.memrchr.ensures c.in-Some.is))

pub returns-in-None : goal.returns-in-None
returns-in-None c = λ front e.
    let found = c.count.ensures ∙ ap (λ (xs : List ℕ). length xs) c.memchr_iter.ensures.value in
    mark_is _ _ (front ++ c.args.piece.now) (lines_more front c.args.piece.now _ _ (ap (λ (m : Mark). m.lines) e) found)
    (ap (λ (m : Mark). m.bytes + length c.args.piece.now) e ∙ sym (bytes_on front c.args.piece.now c.memrchr.result c.memrchr.ensures c.in-None.is))
