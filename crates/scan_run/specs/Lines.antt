-- What is printed of a member.
use Rattle.std.specs.Prelude.{ℕ, List, [], ◌∷◌, ◌++◌, map, codes}
use Rattle.std.specs.Fmt.{decimal}
use Rattle.std.specs.List.{concat}
use Rattle.node_tree.specs.declared.span.Span.{Span}
use Rattle.meta_bind.specs.declared.bound.Bound.{Bound}
use Rattle.tree_match.specs.Members.{Member}

-- FROM..TO
abbrev pub span_text : Span → List ℕ
span_text s = decimal s.from ++ (codes ".." ++ decimal s.to)

-- a blank, and then NAME=FROM..TO
abbrev pub bound_text : Bound → List ℕ
bound_text b = codes " " ++ (b.name ++ (codes "=" ++ span_text b.span))

-- the range of a member, what each name stands for in order of name, and a line feed
abbrev pub line_of : Member → List ℕ
line_of m = span_text m.0 ++ (concat (map bound_text m.1) ++ 10 ∷ [])
