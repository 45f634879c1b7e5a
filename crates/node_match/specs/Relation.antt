-- When a pattern matches a node, and what its metavariables stand for then.
use Rattle.std.specs.Prelude.{◌≡◌, ◌≢◌, ◌⊎◌, ℕ, ◌<◌, List, [], ◌∷◌, length, map, take, drop, remove, slice_index_or, Option, None, Some, true, false, nat_eq, if◌then◌else◌}
use Rattle.node_tree.specs.declared.node.Node.{Node}
use Rattle.node_tree.specs.declared.kind.Kind.TheVariants as kinds
use Rattle.node_tree.specs.declared.span.Span.{Span}
use Rattle.node_tree.specs.Tree.{kind_of, text_of, kids_of, span_of, content_of}
use Rattle.node_tree.specs.declared.known.Known.{Known}
use Rattle.node_tree.specs.Numbers.{Numbered, kids_at, pre_at}
use Rattle.meta_bind.specs.declared.bound.Bound.{Bound}
use Rattle.meta_bind.specs.Bounds.{bound_at, with_bound}
use Rattle.node_match.specs.declared.class.Role.TheVariants as roles
use Rattle.node_match.specs.Sets.{Among}
use Rattle.node_tree.specs.Kinds.{is_expression, is_term, is_literal}
use Rattle.node_match.specs.Kinds.{role_of}
use Rattle.node_match.specs.Free.{Part, parts_of, HasText}
use Rattle.node_match.specs.declared.order.Order.TheVariants.{Fixed, Any}
use Rattle.node_match.specs.Orders.{order_of, has_dots, asked_of, is_arguments, named_of, unnamed_of, named_at, unnamed_at, all_asked}

-- the end of the last of these nodes
abbrev pub end_of : Node → List Node → ℕ
end_of n [] = (span_of n).to
end_of n (m ∷ ms) = end_of m ms

-- the range of a run of kids of the holder; an empty run stands at the holder's start
abbrev pub run_span : Node → List Node → Span
run_span holder [] = record { from = (span_of holder).from; to = (span_of holder).from }
run_span holder (n ∷ ns) = record { from = (span_of n).from; to = end_of n ns }

-- what a name is bound to by a run
abbrev pub bound_by : Node → List ℕ → List Node → Bound
bound_by holder name run = record { name = name; span = run_span holder run; nodes = map content_of run }

-- the name takes the run: it is unbound, and then bound to the run, or it is bound to a run of equal contents
pub data Binds (holder : Node) (name : List ℕ) (run : List Node) (b : List Bound) : List Bound → Type 0 where
  fresh : bound_at name b ≡ None → Binds holder name run b (with_bound (bound_by holder name run) b)
  again : (old : Bound) → bound_at name b ≡ Some old → old.nodes ≡ map content_of run → Binds holder name run b b

-- each node is a string
abbrev pub all_strings : List Node → Type 0
all_strings [] = Unit {0}
all_strings (n ∷ ns) = (kind_of n ≡ kinds.Str) × all_strings ns

-- a string, or joined strings
abbrev pub IsString : Node → Type 0
IsString n = (kind_of n ≡ kinds.Str) ⊎ ((kind_of n ≡ kinds.StrJoin) × all_strings (kids_of n))

-- `$_`
abbrev pub wild : List ℕ
wild = 36 ∷ 95 ∷ []

-- the literal of the first of these names that has this number
abbrev pub held_at : List Known → ℕ → Option Node
held_at [] at = None
held_at (k ∷ ks) at = if nat_eq k.at at then Some k.literal else held_at ks at

-- the file's constants say that the node is a name that holds the literal
abbrev pub Holds : List Known → Numbered → Node → Type 0
Holds C n literal = (kind_of n.node ≡ kinds.Name) × (held_at C n.at ≡ Some literal)

-- the nodes themselves
abbrev pub nodes_of : List Numbered → List Node
nodes_of = map (λ (s : Numbered). s.node)

mutual
  -- in a file with these constants pattern p matches node n, and takes the binding b to c
  pub data Matches (C : List Known) : Node → Numbered → List Bound → List Bound → Type 0 where
    -- the same kind, the text that is asked for, and kids that match
    same_node : {p : Node} {n : Numbered} {b c : List Bound} → role_of (kind_of p) ≡ roles.Plain → kind_of p ≡ kind_of n.node → HasText p n.node → MatchesKids C p n b c → Matches C p n b c
    -- a literal takes a name that is known to hold it
    known_literal : {p : Node} {n : Numbered} {b : List Bound} (literal : Node) → role_of (kind_of p) ≡ roles.Plain → is_literal (kind_of p) ≡ true → Holds C n literal → content_of literal ≡ content_of p → Matches C p n b b
    -- `$_` takes any expression, name or type, and binds nothing
    wildcard : {p : Node} {n : Numbered} {b : List Bound} → role_of (kind_of p) ≡ roles.Meta → text_of p ≡ wild → is_term (kind_of n.node) ≡ true → Matches C p n b b
    -- `$X` takes an expression, name or type
    metavariable : {p : Node} {n : Numbered} {b c : List Bound} → role_of (kind_of p) ≡ roles.Meta → text_of p ≢ wild → is_term (kind_of n.node) ≡ true → Binds n.node (text_of p) (n.node ∷ []) b c → Matches C p n b c
    -- `"..."` takes a string or joined strings
    some_string : {p : Node} {n : Numbered} {b : List Bound} → role_of (kind_of p) ≡ roles.StrAny → IsString n.node → Matches C p n b b
    -- and a name that is known to hold a string
    known_string : {p : Node} {n : Numbered} {b : List Bound} (literal : Node) → role_of (kind_of p) ≡ roles.StrAny → Holds C n literal → kind_of literal ≡ kinds.Str → Matches C p n b b
    -- `<... q ...>` takes an expression of which q matches some node
    deep : {p : Node} {n : Numbered} {b c : List Bound} (q : Node) (m : Numbered) → role_of (kind_of p) ≡ roles.Deep → kids_of p ≡ q ∷ [] → is_expression (kind_of n.node) ≡ true → Among (pre_at n) m → Matches C q m b c → Matches C p n b c

  -- the kids of the pattern match those of the node
  pub data MatchesKids (C : List Known) : Node → Numbered → List Bound → List Bound → Type 0 where
    in_order : {p : Node} {n : Numbered} {b c : List Bound} → order_of p ≡ Fixed → MatchesList C n (parts_of p) (kids_at n) b c → MatchesKids C p n b c
    -- by choosing; without `...` no kid is left over
    choosing : {p : Node} {n : Numbered} {rest : List Numbered} {b c : List Bound} → order_of p ≡ Any → (has_dots (kids_of p) ≡ false → rest ≡ []) → MatchesChoice C (asked_of (kids_of p)) (kids_at n) rest b c → MatchesKids C p n b c

  -- in written order each pattern matches a node that none before it took; those that aren't taken are the rest
  pub data MatchesChoice (C : List Known) : List Node → List Numbered → List Numbered → List Bound → List Bound → Type 0 where
    no_choice : {ns : List Numbered} {b : List Bound} → MatchesChoice C [] ns ns b b
    choice : {p : Node} {ps : List Node} {ns rest : List Numbered} {b c d : List Bound} (k : ℕ) (n : Numbered) → k < length ns → n ≡ slice_index_or ns k n → Matches C p n b c → MatchesChoice C ps (remove ns k) rest c d → MatchesChoice C (p ∷ ps) ns rest b d

  -- the arguments of a call: first those without a name match in order, and then those with one by choosing; without `...` no
  -- argument with a name is left over
  pub data MatchesArguments (C : List Known) : Node → Numbered → List Bound → List Bound → Type 0 where
    arguments : {p : Node} {n : Numbered} {rest : List Numbered} {b c d : List Bound} → kind_of p ≡ kind_of n.node → HasText p n.node → MatchesList C n (all_asked (unnamed_of (kids_of p))) (unnamed_at (kids_at n)) b c
        → (has_dots (kids_of p) ≡ false → rest ≡ []) → MatchesChoice C (named_of (kids_of p)) (named_at (kids_at n)) rest c d → MatchesArguments C p n b d

  -- a pattern matches a kid of the holder
  pub data MatchesKid (C : List Known) : Numbered → Node → Numbered → List Bound → List Bound → Type 0 where
    by_itself : {h : Numbered} {p : Node} {n : Numbered} {b c : List Bound} → is_arguments (kind_of h.node) p ≡ false → Matches C p n b c → MatchesKid C h p n b c
    as_arguments : {h : Numbered} {p : Node} {n : Numbered} {b c : List Bound} → is_arguments (kind_of h.node) p ≡ true → MatchesArguments C p n b c → MatchesKid C h p n b c

  -- parts match the nodes ns, all of them and in order, where ns are kids of the holder
  pub data MatchesList (C : List Known) : Numbered → List Part → List Numbered → List Bound → List Bound → Type 0 where
    both_empty : {h : Numbered} {b : List Bound} → MatchesList C h [] [] b b
    -- the first matches the first, and the rest the rest
    head_and_rest : {h : Numbered} {p : Node} {n : Numbered} {ps : List Part} {ns : List Numbered} {b c d : List Bound} → MatchesKid C h p n b c → MatchesList C h ps ns c d → MatchesList C h (Some p ∷ ps) (n ∷ ns) b d
    -- a free part takes any node
    free_and_rest : {h n : Numbered} {ps : List Part} {ns : List Numbered} {b c : List Bound} → MatchesList C h ps ns b c → MatchesList C h (None ∷ ps) (n ∷ ns) b c
    -- `...` takes any nodes at the front
    dots : {h : Numbered} {p : Node} {ps : List Part} {ns : List Numbered} {b c : List Bound} (k : ℕ) → role_of (kind_of p) ≡ roles.Dots → MatchesList C h ps (drop k ns) b c → MatchesList C h (Some p ∷ ps) ns b c
    -- `$...X` takes any nodes at the front as a run
    named_dots : {h : Numbered} {p : Node} {ps : List Part} {ns : List Numbered} {b c d : List Bound} (k : ℕ) → role_of (kind_of p) ≡ roles.MetaDots → Binds h.node (text_of p) (nodes_of (take k ns)) b c → MatchesList C h ps (drop k ns) c d → MatchesList C h (Some p ∷ ps) ns b d
