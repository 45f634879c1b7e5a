use Rattle.std.proofs.Common.{◌≤◌, ◌∙◌, List, length, sym, ap, subst, arith}
use Rattle.node_tree.specs.declared.known.Known.{Known}
use Rattle.node_tree.specs.declared.view.Pattern.{Pattern}
use Rattle.node_tree.specs.Numbers.{root_of}
use Rattle.tree_match.specs.Members.{Member, MemberRun, known_to}
use Rattle.tree_match.specs.Leaf.{IsWhole}
use Rattle.tree_match.proofs.Pres.{some_nodes}
use Rattle.file_match.proofs.tree.match_own_runs.Goals as goal

pub returns-then-has_no_run : goal.returns-then-has_no_run
returns-then-has_no_run c =
    let p = c.args.pattern.now in
    let root = root_of c.args.tree.now in
    let P : List Member → Type 0 = λ ms. IsWhole (MemberRun (known_to p c.args.known.names.now) p.tree root) ms × (length ms ≤ 10000) in
    let Q : List Known → Type 0 = λ ks. (m : Member) → MemberRun ks p.tree root m → ⊥ in
    let known = c.known_to-known.ensures ∙ ap (λ (q : Pattern). known_to q c.args.known.names.now) c.pattern-2.ensures in
    let none = subst Q known (c.has_no_run.ensures c.if-has_no_run.true) in
    subst P (sym c.empty.ensures) (record { exact = λ m. (λ h. absurd h, λ x. absurd (none m x)); ordered = tt }, omega arith)

pub root_in-requires : goal.root_in-requires
root_in-requires c = some_nodes _ c.tree.inside.tree.now c.tree.invariant.placed
