-- Trees that stand elsewhere.
use Rattle.std.specs.Prelude.{◌≡◌, ◌+◌, ◌-◌, map}
use Rattle.node_tree.specs.declared.node.Node.{Node, roll-Node, fold-Node, fold_out-Node}
use Rattle.node_tree.specs.declared.span.Span.{Span}
use Rattle.node_tree.specs.declared.shift.Shift.{Shift}
use Rattle.node_tree.specs.declared.shift.Shift.TheVariants.{Earlier, Later}
use Rattle.node_tree.specs.Tree.{kind_of, text_of, kids_of, span_of}

-- so many bytes earlier, but not before 0, or so many bytes later
abbrev pub shifted_span : Shift → Span → Span
shifted_span (Earlier by) s = record { from = s.from - by; to = s.to - by }
shifted_span (Later by) s = record { from = s.from + by; to = s.to + by }

-- a tree with each range elsewhere
unfoldable pub shifted : Shift → Node → Node
shifted by = fold-Node Node (λ x. roll-Node (record { kind = x.kind; text = x.text; kids = x.kids; span = shifted_span by x.span }))

pub shifted_is : (by : Shift) (n : Node) → shifted by n ≡ roll-Node (record { kind = kind_of n; text = text_of n; kids = map (shifted by) (kids_of n); span = shifted_span by (span_of n) })
unfolding shifted
shifted_is by n = fold_out-Node Node (λ x. roll-Node (record { kind = x.kind; text = x.text; kids = x.kids; span = shifted_span by x.span })) n
