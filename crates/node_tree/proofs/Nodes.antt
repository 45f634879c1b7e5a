-- What a node that is made of its parts has.
use Rattle.std.proofs.Common.{◌≡◌, ℕ, List, sym, ap, ◌∙◌}
use Rattle.node_tree.specs.declared.node.Node.{Node, Node-F, roll-Node, out-roll-Node, roll-out-Node}
use Rattle.node_tree.specs.declared.kind.Kind.{Kind}
use Rattle.node_tree.specs.declared.span.Span.{Span}
use Rattle.node_tree.specs.Tree.{kind_of, text_of, kids_of, span_of}

abbrev pub made : Kind → List ℕ → List Node → Span → Node-F Node
made k text kids span = record { kind = k; text = text; kids = kids; span = span }

pub made_kind : (k : Kind) (text : List ℕ) (kids : List Node) (span : Span) → kind_of (roll-Node (made k text kids span)) ≡ k
made_kind k text kids span = ap (λ (x : Node-F Node). x.kind) (out-roll-Node (made k text kids span))

pub made_text : (k : Kind) (text : List ℕ) (kids : List Node) (span : Span) → text_of (roll-Node (made k text kids span)) ≡ text
made_text k text kids span = ap (λ (x : Node-F Node). x.text) (out-roll-Node (made k text kids span))

pub made_kids : (k : Kind) (text : List ℕ) (kids : List Node) (span : Span) → kids_of (roll-Node (made k text kids span)) ≡ kids
made_kids k text kids span = ap (λ (x : Node-F Node). x.kids) (out-roll-Node (made k text kids span))

pub made_span : (k : Kind) (text : List ℕ) (kids : List Node) (span : Span) → span_of (roll-Node (made k text kids span)) ≡ span
made_span k text kids span = ap (λ (x : Node-F Node). x.span) (out-roll-Node (made k text kids span))

-- a node is made of its parts
pub node_is : (n : Node) (k : Kind) (text : List ℕ) (kids : List Node) (span : Span) → kind_of n ≡ k → text_of n ≡ text → kids_of n ≡ kids → span_of n ≡ span → roll-Node (made k text kids span) ≡ n
node_is n k text kids span ek et ekids es =
    ap (λ (x : Kind). roll-Node (made x text kids span)) (sym ek) ∙ ap (λ (x : List ℕ). roll-Node (made (kind_of n) x kids span)) (sym et)
    ∙ ap (λ (x : List Node). roll-Node (made (kind_of n) (text_of n) x span)) (sym ekids) ∙ ap (λ (x : Span). roll-Node (made (kind_of n) (text_of n) (kids_of n) x)) (sym es)
    ∙ roll-out-Node n
