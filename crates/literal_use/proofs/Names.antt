-- A pattern without literals and `"..."` has the same members whatever is known of names.
use Rattle.std.proofs.Common.{◌≡◌, inl, inr, ◌↔◌, List, [], ◌∷◌, drop, refl, sym, ap, ◌∙◌, subst, cond, Bool, true, false, not}
use Rattle.std.specs.Prelude.{None, Some, remove, filter, ◌&&◌, if◌then◌else◌}
use Rattle.std.proofs.lemmas.Bool.{or_parts}
use Rattle.node_tree.specs.declared.node.Node.{Node}
use Rattle.node_tree.specs.declared.kind.Kind.{Kind}
use Rattle.node_tree.specs.declared.kind.Kind.TheVariants as kinds
use Rattle.node_tree.specs.declared.known.Known.{Known}
use Rattle.node_tree.specs.declared.view.Pattern.{Pattern}
use Rattle.node_tree.specs.declared.view.Shape.{Shape}
use Rattle.node_tree.specs.declared.view.Shape.TheVariants.{Expr, Run}
use Rattle.node_tree.specs.Kinds.{is_literal}
use Rattle.node_tree.specs.Tree.{kind_of, kids_of, pre_of}
use Rattle.node_tree.specs.Numbers.{Numbered, kids_at}
use Rattle.node_tree.proofs.Trees.{pre_is}
use Rattle.meta_bind.specs.declared.bound.Bound.{Bound}
use Rattle.node_match.specs.declared.class.Role.TheVariants as roles
use Rattle.node_match.specs.Sets.{Among}
use Rattle.node_match.specs.Kinds.{role_of}
use Rattle.node_match.specs.Free.{Part, parts_of}
use Rattle.node_match.specs.Orders.{some_is, is_dots, is_named, asked_of, named_of, unnamed_of, named_at, unnamed_at, all_asked}
use Rattle.node_match.specs.Relation.{Matches, same_node, known_literal, known_string, wildcard, metavariable, some_string, deep, MatchesKids, in_order, choosing, MatchesChoice, no_choice, choice, MatchesArguments, arguments, MatchesKid, by_itself, as_arguments, MatchesList, both_empty, head_and_rest, free_and_rest, dots, named_dots}
use Rattle.node_match.proofs.Parts.{part_kid}
use Rattle.tree_match.specs.declared.leaf.Leaf.{Leaf}
use Rattle.tree_match.specs.declared.leaf.Leaf.TheVariants.{Full, Crowded}
use Rattle.tree_match.specs.Leaf.{IsLeaf}
use Rattle.tree_match.specs.Members.{Member, MemberUnder, MemberOf, IsMember, kids_between}
use Rattle.file_match.proofs.Needed.{in_kid}
use Rattle.literal_use.specs.Literals.{takes_names, has_literal, uses_literals, MembersNeedNoNames, LeavesNeedNoNames}

-- ---- patterns without literals and `"..."`

-- no node of the pattern is a literal or `"..."`
abbrev TakesNoNames : Node → Type 0
TakesNoNames p = (n : Node) → Among (pre_of p) n → takes_names (kind_of n) ≡ false

none_among : (f : Node → Bool) (ns : List Node) → some_is f ns ≡ false → (n : Node) → Among ns n → f n ≡ false
none_among f [] e n a = absurd a
none_among f (m ∷ ns) e n (inl is) = ap f (sym is) ∙ (or_parts (f m) (some_is f ns) e).0
none_among f (m ∷ ns) e n (inr a) = none_among f ns (or_parts (f m) (some_is f ns) e).1 n a

takes_none : (p : Node) → has_literal p ≡ false → TakesNoNames p
takes_none p = none_among (λ (n : Node). takes_names (kind_of n)) (pre_of p)

none_here : (p : Node) → TakesNoNames p → takes_names (kind_of p) ≡ false
none_here p none = let P : List Node → Type 0 = λ ns. Among ns p in none p (subst P (sym (pre_is p)) (inl refl))

none_below : (p : Node) → TakesNoNames p → (q : Node) → Among (kids_of p) q → TakesNoNames q
none_below p none q a n among = none n (in_kid p q n a among)

literal_takes : (k : Kind) → is_literal k ≡ true → takes_names k ≡ true
literal_takes kinds.StrAny e = refl
literal_takes _ e = e

string_takes : (k : Kind) → role_of k ≡ roles.StrAny → takes_names k ≡ true
string_takes kinds.StrAny e = refl
string_takes kinds.Meta e = absurd cc
string_takes kinds.MetaDots e = absurd cc
string_takes kinds.Dots e = absurd cc
string_takes kinds.Deep e = absurd cc
string_takes _ e = absurd (let f : roles.Plain ≡ roles.StrAny = e in cc)

not_both : (p : Node) → TakesNoNames p → takes_names (kind_of p) ≡ true → ⊥
not_both p none e = absurd (let f : true ≡ false = sym e ∙ none_here p none in cc)

-- ---- those that are asked for are among the kids

of_filter : (f : Node → Bool) (ps : List Node) (q : Node) → Among (filter f ps) q → Among ps q
of_filter f [] q a = a
of_filter f (p ∷ ps) q a = by (f p) (of_filter f ps q) a
  where
    by : (t : Bool) → (Among (filter f ps) q → Among ps q) → Among (cond t (p ∷ filter f ps) (filter f ps)) q → Among (p ∷ ps) q
    by true rest (inl e) = inl e
    by true rest (inr x) = inr (rest x)
    by false rest x = inr (rest x)

of_asked : (ps : List Node) (q : Node) → Among (asked_of ps) q → Among ps q
of_asked [] q a = a
of_asked (p ∷ ps) q a = by (is_dots p) (of_asked ps q) a
  where
    by : (t : Bool) → (Among (asked_of ps) q → Among ps q) → Among (cond t (asked_of ps) (p ∷ asked_of ps)) q → Among (p ∷ ps) q
    by true rest x = inr (rest x)
    by false rest (inl e) = inl e
    by false rest (inr x) = inr (rest x)

of_all : (ps : List Node) (q : Node) → Among (all_asked ps) (Some q) → Among ps q
of_all [] q a = absurd a
of_all (p ∷ ps) q (inl e) = let f : p ≡ q = cc in inl f
of_all (p ∷ ps) q (inr a) = inr (of_all ps q a)

-- ---- matches

-- what matches where C is known matches where D is
module _ (C D : List Known) where
  mutual
    node_alike : (p : Node) (n : Numbered) (b c : List Bound) → TakesNoNames p → Matches C p n b c → Matches D p n b c
    node_alike p n b c none (same_node r k t x) = same_node r k t (kids_alike p n b c (none_below p none) x)
    node_alike p n b _ none (known_literal l r is h e) = absurd (not_both p none (literal_takes (kind_of p) is))
    node_alike p n b _ none (wildcard r w t) = wildcard r w t
    node_alike p n b c none (metavariable r w t x) = metavariable r w t x
    node_alike p n b _ none (some_string r is) = some_string r is
    node_alike p n b _ none (known_string l r h k) = absurd (not_both p none (string_takes (kind_of p) r))
    node_alike p n b c none (deep q m r one e a x) =
        let P : List Node → Type 0 = λ ks. Among ks q in
        deep q m r one e a (node_alike q m b c (none_below p none q (subst P (sym one) (inl refl))) x)

    kids_alike : (p : Node) (n : Numbered) (b c : List Bound) → ((q : Node) → Among (kids_of p) q → TakesNoNames q) → MatchesKids C p n b c → MatchesKids D p n b c
    kids_alike p n b c each (in_order still x) = in_order still (list_alike n (parts_of p) (kids_at n) b c (λ q a. each q (part_kid p q a)) x)
    kids_alike p n b c each (choosing {rest = rest} float ends x) =
        choosing float ends (choice_alike (asked_of (kids_of p)) (kids_at n) rest b c (λ q a. each q (of_asked (kids_of p) q a)) x)

    choice_alike : (ps : List Node) (ns rest : List Numbered) (b c : List Bound) → ((q : Node) → Among ps q → TakesNoNames q) → MatchesChoice C ps ns rest b c → MatchesChoice D ps ns rest b c
    choice_alike _ ns _ b _ each no_choice = no_choice
    choice_alike (p ∷ ps) ns rest b d each (choice {c = c} k n lt is x y) =
        choice k n lt is (node_alike p n b c (each p (inl refl)) x) (choice_alike ps (remove ns k) rest c d (λ q a. each q (inr a)) y)

    arguments_alike : (p : Node) (n : Numbered) (b d : List Bound) → ((q : Node) → Among (kids_of p) q → TakesNoNames q) → MatchesArguments C p n b d → MatchesArguments D p n b d
    arguments_alike p n b d each (arguments {rest = rest} {c = c} k t x ends y) =
        let first = list_alike n (all_asked (unnamed_of (kids_of p))) (unnamed_at (kids_at n)) b c (λ q a. each q (of_filter (λ (z : Node). not (is_named z)) (kids_of p) q (of_all (unnamed_of (kids_of p)) q a))) x in
        arguments k t first ends (choice_alike (named_of (kids_of p)) (named_at (kids_at n)) rest c d (λ q a. each q (of_filter is_named (kids_of p) q a)) y)

    kid_alike : (h : Numbered) (p : Node) (n : Numbered) (b c : List Bound) → TakesNoNames p → MatchesKid C h p n b c → MatchesKid D h p n b c
    kid_alike h p n b c none (by_itself other x) = by_itself other (node_alike p n b c none x)
    kid_alike h p n b c none (as_arguments are x) = as_arguments are (arguments_alike p n b c (none_below p none) x)

    list_alike : (h : Numbered) (ps : List Part) (ns : List Numbered) (b c : List Bound) → ((q : Node) → Among ps (Some q) → TakesNoNames q) → MatchesList C h ps ns b c → MatchesList D h ps ns b c
    list_alike h _ _ b _ each both_empty = both_empty
    list_alike h (Some p ∷ ps) (n ∷ ns) b d each (head_and_rest {c = c} x y) =
        head_and_rest (kid_alike h p n b c (each p (inl refl)) x) (list_alike h ps ns c d (λ q a. each q (inr a)) y)
    list_alike h (None ∷ ps) (n ∷ ns) b c each (free_and_rest y) = free_and_rest (list_alike h ps ns b c (λ q a. each q (inr a)) y)
    list_alike h (Some p ∷ ps) ns b c each (dots k r y) = dots k r (list_alike h ps (drop k ns) b c (λ q a. each q (inr a)) y)
    list_alike h (Some p ∷ ps) ns b d each (named_dots {c = c} k r x y) = named_dots k r x (list_alike h ps (drop k ns) c d (λ q a. each q (inr a)) y)

  -- ---- members

  member_alike : (shape : Shape) (p : Node) (s : Numbered) (m : Member) → TakesNoNames p → MemberUnder C shape p s m → MemberUnder D shape p s m
  member_alike Expr p s m none (n, among, (may, is, x)) = (n, among, (may, is, node_alike p n [] m.1 none x))
  member_alike Run p s m none (h, among, r) = (
    h,
    among,
    record {
      from = r.from;
      end = r.end;
      some = r.some;
      within = r.within;
      range = r.range;
      matches = list_alike h (parts_of p) (kids_between h r.from r.end) [] m.1 (λ q a. none_below p none q (part_kid p q a)) r.matches;
      begins = r.begins;
      ends = r.ends;
    },
  )

-- whether the pattern knows of constants or not
member_over : (pattern : Pattern) (tree : Node) (ks ls : List Known) (m : Member) → uses_literals pattern ≡ false → IsMember pattern (record { tree = tree; known = ks }) m → IsMember pattern (record { tree = tree; known = ls }) m
member_over pattern tree ks ls m e x = by pattern.constants e x
  where
    by : (b : Bool) → (b && has_literal pattern.tree) ≡ false → MemberOf (if b then ks else []) pattern.shape pattern.tree tree m → MemberOf (if b then ls else []) pattern.shape pattern.tree tree m
    by true none y = member_alike ks ls pattern.shape pattern.tree (record { at = 0; node = tree }) m (takes_none pattern.tree none) y
    by false none y = y

pub members_alike : (pattern : Pattern) → uses_literals pattern ≡ false → MembersNeedNoNames pattern
members_alike pattern e file other same m =
    let P : Node → Type 0 = λ t. IsMember pattern file m ↔ IsMember pattern (record { tree = t; known = other.known }) m in
    subst P same (member_over pattern file.tree file.known other.known m e, member_over pattern file.tree other.known file.known m e)

-- ---- leaves

pub leaf_over : (Set Other : Member → Type 0) (leaf : Leaf) → ((m : Member) → Set m ↔ Other m) → IsLeaf Set leaf → IsLeaf Other leaf
leaf_over Set Other (Full members) same (whole, few) = (record { exact = λ m. (λ h. (same m).0 ((whole.exact m).0 h), λ x. (whole.exact m).1 ((same m).1 x)); ordered = whole.ordered }, few)
leaf_over Set Other Crowded same more = record { some = more.some; members = λ m h. (same m).0 (more.members m h); ordered = more.ordered; more = more.more }

pub leaves_alike : (pattern : Pattern) → uses_literals pattern ≡ false → LeavesNeedNoNames pattern
leaves_alike pattern e file other same leaf = leaf_over (IsMember pattern file) (IsMember pattern other) leaf (members_alike pattern e file other same)
