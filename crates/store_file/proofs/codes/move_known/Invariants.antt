use Rattle.std.proofs.Common.{◌≡◌, ℕ, List, ◌++◌, length}
use Rattle.node_tree.specs.declared.node.Node.{Node}
use Rattle.piece_form.specs.Code.{known_code}
use Rattle.store_file.proofs.Forests.{NamesLeft}
use Rattle.store_file.proofs.codes.move_known.Given as goal

abbrev pub invariant-loop-i : goal.invariant-loop-i
invariant-loop-i l =
    (ks : List (ℕ × Node)) (r : List ℕ) → length ks ≡ l.count → l.initial.code.rest.now ≡ known_code ks ++ r → NamesLeft l.initial.out l._i l.count l.code.rest.now l.out ks r
