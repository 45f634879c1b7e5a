-- Parts that match a front of a list of kids, and leave a rest.
use Rattle.std.specs.Prelude.{◌≡◌, ℕ, List, [], ◌∷◌, take, drop, None, Some}
use Rattle.node_tree.specs.declared.node.Node.{Node}
use Rattle.node_tree.specs.Tree.{kind_of, text_of}
use Rattle.node_tree.specs.declared.known.Known.{Known}
use Rattle.node_tree.specs.Numbers.{Numbered}
use Rattle.meta_bind.specs.declared.bound.Bound.{Bound}
use Rattle.node_match.specs.declared.class.Role.TheVariants as roles
use Rattle.node_match.specs.Kinds.{role_of}
use Rattle.node_match.specs.Free.{Part}
use Rattle.node_match.specs.Relation.{MatchesKid, Binds, nodes_of}

-- what is left of the kids, and what is bound
abbrev pub End : Type 0
End = List Numbered × List Bound

-- MatchesList with a rest that no part has to match
pub data MatchesFront (C : List Known) : Numbered → List Part → List Numbered → List Numbered → List Bound → List Bound → Type 0 where
  no_part_front : {h : Numbered} {ns : List Numbered} {b : List Bound} → MatchesFront C h [] ns ns b b
  head_front : {h : Numbered} {p : Node} {n : Numbered} {ps : List Part} {ns rest : List Numbered} {b c d : List Bound} → MatchesKid C h p n b c → MatchesFront C h ps ns rest c d → MatchesFront C h (Some p ∷ ps) (n ∷ ns) rest b d
  free_front : {h n : Numbered} {ps : List Part} {ns rest : List Numbered} {b c : List Bound} → MatchesFront C h ps ns rest b c → MatchesFront C h (None ∷ ps) (n ∷ ns) rest b c
  dots_front : {h : Numbered} {p : Node} {ps : List Part} {ns rest : List Numbered} {b c : List Bound} (k : ℕ) → role_of (kind_of p) ≡ roles.Dots → MatchesFront C h ps (drop k ns) rest b c → MatchesFront C h (Some p ∷ ps) ns rest b c
  named_dots_front : {h : Numbered} {p : Node} {ps : List Part} {ns rest : List Numbered} {b c d : List Bound} (k : ℕ) → role_of (kind_of p) ≡ roles.MetaDots → Binds h.node (text_of p) (nodes_of (take k ns)) b c → MatchesFront C h ps (drop k ns) rest c d → MatchesFront C h (Some p ∷ ps) ns rest b d

-- the parts match a front of ns and lead to that end
abbrev pub Leads : List Known → Numbered → List Part → List Numbered → List Bound → End → Type 0
Leads C h ps ns b e = MatchesFront C h ps ns e.0 b e.1
