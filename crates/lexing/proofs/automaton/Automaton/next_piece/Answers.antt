use Rattle.std.proofs.Common.{sym, ◌∙◌}
use Rattle.std.proofs.lemmas.List.{take-append-drop}
use Rattle.lexing.proofs.Pieces.{boundary, takes_some}
use Rattle.lexing.proofs.automaton.Automaton.next_piece.Goals as goal

pub split_at-requires : goal.split_at-requires
split_at-requires c = boundary c.args.self.now.table c.args.self.now.start c.args.text.now c.longest-best.result c.utf8.text c.longest-best.ensures.best

pub returns-clause-takes : goal.returns-clause-takes
returns-clause-takes c = λ rs acc.
    takes_some c.args.self.now.table c.args.self.now.start rs c.args.text.now c.longest-best.result _ _ c.utf8.text acc c.longest-best.ensures.begins.nothing c.longest-best.ensures.best c.if-best-eq0.false
    c.split_at.ensures.front c.split_at.ensures.back
    (sym (take-append-drop c.longest-best.result.len c.args.text.now) ∙ cc)
