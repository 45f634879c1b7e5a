use Rattle.std.proofs.Common.{◌≡◌, ◌<◌, ◌++◌, drop, take}
use Rattle.std.specs.Prelude.{All}
use Rattle.node_tree.specs.declared.known.Known.{Known}
use Rattle.piece_form.specs.Cut.{pieces_from, pieces_of}
use Rattle.piece_match.proofs.cut.pieces.Given as goal

abbrev pub invariant-loop-kid : goal.invariant-loop-kid
invariant-loop-kid l = record {
  cut : l.placed ++ pieces_from l.view l.number (drop l.kid-index l.kid-items) ≡ pieces_of l.view;
  behind : All (λ (k : Known). k.at < l.number) (take l.next l.view.known);
}
