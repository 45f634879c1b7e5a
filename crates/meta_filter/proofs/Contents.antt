-- Contents of nodes keep what strings write.
use Rattle.std.proofs.Common.{◌≡◌, ◌<◌, ℕ, List, [], ◌∷◌, map, length, refl, ap, ◌∙◌, arith}
use Rattle.std.specs.Prelude.{None, drop, slice_index}
use Rattle.node_tree.specs.declared.node.Node.{Node, out-roll-Node}
use Rattle.node_tree.specs.declared.kind.Kind.{Kind}
use Rattle.node_tree.specs.declared.kind.Kind.TheVariants.{Id, Str}
use Rattle.node_tree.specs.Tree.{kind_of, text_of, kids_of, no_span, content_kind, content_of, content_is}
use Rattle.meta_filter.specs.Numerals.{written}
use Rattle.meta_filter.specs.Values.{string_number, number_inside}

kept : (k : Kind) (text : List ℕ) → string_number (content_kind k) text ≡ string_number k text
kept Id text = refl
kept k text = refl

kind_is : (n : Node) → kind_of (content_of n) ≡ content_kind (kind_of n)
kind_is n = ap kind_of (content_is n) ∙ ap (λ x. x.kind) (out-roll-Node (record { kind = content_kind (kind_of n); text = text_of n; kids = map content_of (kids_of n); span = no_span }))

text_is : (n : Node) → text_of (content_of n) ≡ text_of n
text_is n = ap text_of (content_is n) ∙ ap (λ x. x.text) (out-roll-Node (record { kind = content_kind (kind_of n); text = text_of n; kids = map content_of (kids_of n); span = no_span }))

pub one_node : (n : Node) (ns : List Node) → length ns ≡ 0 → number_inside (map content_of (n ∷ ns)) ≡ string_number (kind_of n) (text_of n)
one_node n [] h = rw (kind_is n, text_is n) (kept (kind_of n) (text_of n))
one_node n (m ∷ ns) h = absurd (omega (arith, h))

pub more_nodes : (n : Node) (ns : List Node) → 0 < length ns → number_inside (map content_of (n ∷ ns)) ≡ None
more_nodes n [] h = absurd (omega (arith, h))
more_nodes n (m ∷ ns) h = refl

pub quoted : (k : Kind) (text content : List ℕ) → k ≡ Str → slice_index text 0 ≡ 34 → content ≡ drop 1 text → written content ≡ string_number k text
quoted k text content is quote behind = rw (is, quote, behind) refl
