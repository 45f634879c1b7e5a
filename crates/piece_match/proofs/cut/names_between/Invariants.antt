use Rattle.std.proofs.Common.{◌≡◌, ◌<◌, take}
use Rattle.std.specs.Prelude.{All}
use Rattle.node_tree.specs.declared.known.Known.{Known}
use Rattle.piece_form.specs.Cut.{known_between}
use Rattle.piece_match.proofs.cut.names_between.Given as goal

abbrev pub invariant-loop-i : goal.invariant-loop-i
invariant-loop-i l = record {
  kept : l.kept ≡ known_between l.first l.end (take l.i l.known);
  behind : All (λ (k : Known). k.at < l.end) (take l.i l.known);
}
