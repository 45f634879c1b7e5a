-- What is reached inside a kid of a list.
use Rattle.std.proofs.Common.{◌≡◌, ◌↔◌, ℕ, List, [], ◌∷◌, drop, refl, sym, ap, ◌∙◌, subst, Bool, true, false, cond}
use Rattle.std.specs.Prelude.{Some, ◌||◌}
use Rattle.node_tree.specs.declared.node.Node.{Node}
use Rattle.node_tree.specs.declared.kind.Kind.{Kind}
use Rattle.node_tree.specs.declared.kind.Kind.TheVariants as kinds
use Rattle.node_tree.specs.declared.known.Known.{Known}
use Rattle.node_tree.specs.Tree.{kind_of, kids_of}
use Rattle.node_tree.specs.Kinds.{is_literal}
use Rattle.node_tree.specs.Numbers.{Numbered, kids_at}
use Rattle.node_pool.specs.Spots.{seen, all_seen}
use Rattle.node_search.specs.Kids.{line}
use Rattle.meta_bind.specs.declared.bound.Bound.{Bound}
use Rattle.node_match.specs.declared.class.Role.{Role}
use Rattle.node_match.specs.declared.class.Role.TheVariants as roles
use Rattle.node_match.specs.declared.order.Order.TheVariants.{Fixed}
use Rattle.node_search.specs.declared.state.State.{State}
use Rattle.node_match.specs.Kinds.{role_of, IsOne}
use Rattle.node_match.specs.Free.{Part, parts_of, HasText}
use Rattle.node_match.specs.Orders.{order_of, order_by, some_is, has_dots, is_list, is_named, is_arguments, named_of, unnamed_of, named_at, unnamed_at, all_asked}
use Rattle.node_match.specs.Relation.{MatchesKid, MatchesChoice, MatchesList, no_choice, nodes_of}
use Rattle.node_match.specs.Fronts.{End, Leads}
use Rattle.node_match.specs.Choices.{Chosen}
use Rattle.node_match.proofs.Sets.{chain}
use Rattle.node_match.proofs.Numbering.{kids_nodes}
use Rattle.node_match.proofs.Arguments.{kid_itself, kid_arguments, arguments_listed, arguments_one, arguments_unrun, list_parts, all_unnamed, all_unnamed_at, Parted, parted_arguments}
use Rattle.node_match.proofs.Inversion.{no_literal, ordered_kids}
use Rattle.node_search.proofs.Going.{heads}
use Rattle.tree_match.specs.declared.place.Inside.{Inside}
use Rattle.tree_match.specs.declared.aim.Search.{Search}
use Rattle.tree_match.specs.Aims.{Onward, left_of}
use Rattle.tree_match.specs.Insides.{MatchesBy, IsInOrder, IsByKids, IsKidBy, IsWay, Opens}
use Rattle.tree_match.proofs.Spreads.{Reached, ReachedAt, state_after}

-- ---- no argument has a name

or_first : (a b : Bool) → (a || b) ≡ false → a ≡ false
or_first true b e = absurd cc
or_first false b e = refl

or_second : (a b : Bool) → (a || b) ≡ false → b ≡ false
or_second true b e = absurd cc
or_second false b e = e

none_named : (ps : List Node) → some_is is_named ps ≡ false → named_of ps ≡ []
none_named [] e = refl
none_named (p ∷ ps) e =
    ap (λ (t : Bool). cond t (p ∷ named_of ps) (named_of ps)) (or_first (is_named p) (some_is is_named ps) e) ∙ none_named ps (or_second (is_named p) (some_is is_named ps) e)

none_named_at : (ns : List Numbered) → some_is is_named (nodes_of ns) ≡ false → named_at ns ≡ []
none_named_at [] e = refl
none_named_at (n ∷ ns) e =
    ap (λ (t : Bool). cond t (n ∷ named_at ns) (named_at ns)) (or_first (is_named n.node) (some_is is_named (nodes_of ns)) e) ∙ none_named_at ns (or_second (is_named n.node) (some_is is_named (nodes_of ns)) e)

module _ (C : List Known) where
  -- nothing chooses among nothing
  nothing_chosen : (f : Bool) (qs : List Node) (ns : List Numbered) (b c : List Bound) → qs ≡ [] → ns ≡ [] → ((rest : List Numbered) × (f ≡ false → rest ≡ []) × MatchesChoice C qs ns rest b c) ↔ (b ≡ c)
  nothing_chosen f qs ns b c none left =
      let P : List Node → Type 0 = λ xs. ((rest : List Numbered) × (f ≡ false → rest ≡ []) × MatchesChoice C xs ns rest b c) ↔ (b ≡ c) in
      let Q : List Numbered → Type 0 = λ xs. ((rest : List Numbered) × (f ≡ false → rest ≡ []) × MatchesChoice C [] xs rest b c) ↔ (b ≡ c) in
      subst P (sym none) (subst Q (sym left) (
        λ (rest, ends, x). to [] rest c x,
        λ e. let R : List Bound → Type 0 = λ d. MatchesChoice C [] [] [] b d in ([], λ _. refl, subst R e no_choice),
      ))
    where
      to : (ns rest : List Numbered) (d : List Bound) → MatchesChoice C [] ns rest b d → b ≡ d
      to ns _ _ no_choice = refl

  module _ (p : Node) (n : Numbered) (b c : List Bound) (listed : is_list (kind_of p) ≡ true) (none : some_is is_named (kids_of p) ≡ false) (none_there : some_is is_named (nodes_of (kids_at n)) ≡ false) where
    -- arguments without names match in order
    unnamed_parted : MatchesList C n (parts_of p) (kids_at n) b c ↔ Parted C p n b c
    unnamed_parted =
        let parts : parts_of p ≡ all_asked (unnamed_of (kids_of p)) = list_parts p listed ∙ ap all_asked (sym (all_unnamed (kids_of p) none)) in
        let kids : kids_at n ≡ unnamed_at (kids_at n) = sym (all_unnamed_at (kids_at n) none_there) in
        let P : List Part → Type 0 = λ ps. (d : List Bound) → MatchesList C n (parts_of p) (kids_at n) b d ↔ MatchesList C n ps (kids_at n) b d in
        let Q : List Numbered → Type 0 = λ ns. (d : List Bound) → MatchesList C n (parts_of p) (kids_at n) b d ↔ MatchesList C n (all_asked (unnamed_of (kids_of p))) ns b d in
        let same : (d : List Bound) → MatchesList C n (parts_of p) (kids_at n) b d ↔ MatchesList C n (all_asked (unnamed_of (kids_of p))) (unnamed_at (kids_at n)) b d = subst Q kids (subst P parts (λ d. (λ x. x, λ x. x))) in
        let chosen : (d : List Bound) → Chosen C true (has_dots (kids_of p)) (kids_of p) (named_at (kids_at n)) d c ↔ (d ≡ c) = λ d. nothing_chosen (has_dots (kids_of p)) (named_of (kids_of p)) (named_at (kids_at n)) d c (none_named (kids_of p) none) (none_named_at (kids_at n) none_there) in (
          λ x. (c, (same c).0 x, (chosen c).1 refl),
          λ (d, x, y). let R : List Bound → Type 0 = λ e. MatchesList C n (parts_of p) (kids_at n) b e in subst R ((chosen d).0 y) ((same d).1 x),
        )

-- ---- a kid by its kids in order

plain_one : (q : Node) → role_of (kind_of q) ≡ roles.Plain → IsOne (role_of (kind_of q))
plain_one q role = let P : Role → Type 0 = IsOne in subst P (sym role) tt

module _ (holder : Kind) (q n : Node) (role : role_of (kind_of q) ≡ roles.Plain) (unheld : is_literal (kind_of q) ≡ false) (fixed : order_of q ≡ Fixed) (alike : (kind_of q ≡ kind_of n) × HasText q n) where
  alike_at : (s : Numbered) → s.node ≡ n → (kind_of q ≡ kind_of s.node) × HasText q s.node
  alike_at s same = let P : Node → Type 0 = λ m. (kind_of q ≡ kind_of m) × HasText q m in subst P (sym same) alike

  pub itself_in_order : is_arguments holder q ≡ false → IsInOrder holder q n
  itself_in_order other = record {
    one = plain_one q role;
    same = λ C h s held same b c.
        let (k, t) = alike_at s same in
        chain _ _ _ (ordered_kids C q s b c fixed)
        (chain _ _ _ (λ x. (no_literal C q s b role unheld c).0 (k, t, x), λ x. let y = (no_literal C q s b role unheld c).1 x in y.2)
        (kid_itself C h q s b c (ap (λ (j : Kind). is_arguments j q) held ∙ other)));
  }

  pub arguments_in_order : is_arguments holder q ≡ true → some_is is_named (kids_of q) ≡ false → some_is is_named (kids_of n) ≡ false → IsInOrder holder q n
  arguments_in_order are none none_there = record {
    one = plain_one q role;
    same = λ C h s held same b c.
        let (k, t) = alike_at s same in
        let nodes : some_is is_named (nodes_of (kids_at s)) ≡ false = ap (some_is is_named) (kids_nodes s ∙ ap kids_of same) ∙ none_there in
        chain _ _ _ (unnamed_parted C q s b c (arguments_listed holder q are) none nodes)
        (chain _ _ _ (parted_arguments C q s b c k t) (kid_arguments C h q s b c (ap (λ (j : Kind). is_arguments j q) held ∙ are)));
  }

-- ---- a kid by its kids in either order

module _ (q n : Node) (role : role_of (kind_of q) ≡ roles.Plain) (unheld : is_literal (kind_of q) ≡ false) (alike : (kind_of q ≡ kind_of n) × HasText q n) where
  pub by_kids : IsByKids q n
  by_kids = record {
    one = plain_one q role;
    same = λ C s same b c.
        let P : Node → Type 0 = λ m. (kind_of q ≡ kind_of m) × HasText q m in
        let (k, t) = subst P (sym same) alike in
        (λ x. (no_literal C q s b role unheld c).0 (k, t, x), λ x. let y = (no_literal C q s b role unheld c).1 x in y.2);
  }

pub kid_by_kids : (holder : Kind) (q n : Node) → is_arguments holder q ≡ false → IsByKids q n → IsKidBy false holder q n
kid_by_kids holder q n other by = record {
  one = by.one;
  same = λ C h s held same b c. chain _ _ _ (by.same C s same b c) (kid_itself C h q s b c (ap (λ (j : Kind). is_arguments j q) held ∙ other));
}

listed_fixed : (k : Kind) (ps : List Node) → is_list k ≡ true → order_by k ps ≡ Fixed
listed_fixed kinds.List ps e = refl
listed_fixed _ ps e = absurd (let f : false ≡ true = e in cc)

pub arguments_by_kids : (holder : Kind) (q n : Node) → is_arguments holder q ≡ true → IsInOrder holder q n → IsKidBy false holder q n
arguments_by_kids holder q n are in_order = record {
  one = in_order.one;
  same = λ C h s held same b c.
      let listed = ordered_kids C q s b c (listed_fixed (kind_of q) (kids_of q) (arguments_listed holder q are)) in
      chain _ _ _ (listed.1, listed.0) (in_order.same C h s held same b c);
}

-- ---- as arguments

pub by_arguments : (holder : Kind) (q n : Node) → is_arguments holder q ≡ true → IsKidBy true holder q n
by_arguments holder q n are = record {
  one = arguments_one holder q are;
  same = λ C h s held same b c. kid_arguments C h q s b c (ap (λ (j : Kind). is_arguments j q) held ∙ are);
}

pub way_by_kids : (holder : Kind) (q n : Node) → IsKidBy false holder q n → IsWay false holder q n
way_by_kids holder q n by = record { by_kids = by; are = λ e. absurd (let f : false ≡ true = e in cc) }

pub way_by_arguments : (holder : Kind) (q n : Node) → is_arguments holder q ≡ true → (kind_of q ≡ kind_of n) × HasText q n → IsWay true holder q n
way_by_arguments holder q n are (k, t) = record { by_kids = by_arguments holder q n are; are = λ _. (k, t, arguments_unrun holder q are) }

-- ---- members

module _ (C : List Known) where
  -- a part that matches a kid in that way leads as its kids do, and then the other parts
  inside_leads : (way : Bool) (h : Numbered) (q : Node) (kid : Numbered) (ps : List Part) (ns : List Numbered) (b : List Bound) (f : End) → IsKidBy way (kind_of h.node) q kid.node
      → ((d : List Bound) × MatchesBy way C q kid b d × Leads C h ps ns d f) ↔ Leads C h (Some q ∷ ps) (kid ∷ ns) b f
  inside_leads way h q kid ps ns b f by =
      let each : (d : List Bound) → MatchesBy way C q kid b d ↔ MatchesKid C h q kid b d = λ d. by.same C h kid refl refl b d in
      chain _ _ _ (λ (d, x, y). (d, (each d).0 x, y), λ (d, x, y). (d, (each d).1 x, y)) (heads C h q ps (kid ∷ ns) b f by.one)

  -- what is reached inside the next kid, and on after it, is what the state leads to
  pub inside_reached : (G : End → Type 0) (s : Search) (from : ℕ) (state : State) (inside : Inside) → Opens s from state inside
      → ((c : List Bound) × Onward C G (line s.holder) (left_of s inside.from) inside.at ([], c) × MatchesBy inside.arguments C inside.part.now (seen inside.kid) state.trail c) ↔ Reached C G (line s.holder) (left_of s from) (state ∷ [])
  inside_reached G s from state inside opens =
      let h = seen s.holder.spot in
      let kids = all_seen s.holder.kids.now in
      let way = inside.arguments in
      let q = inside.part.now in
      let kid = seen inside.kid in
      let ps = left_of s inside.from in
      let ns = drop inside.at kids in
      let M : List Part → List Numbered → Type 0 = λ xs ys. (f : End) → ((d : List Bound) × MatchesBy way C q kid state.trail d × Leads C h ps ns d f) ↔ Leads C h xs ys state.trail f in
      let N : List Numbered → Type 0 = λ ys. M (left_of s from) ys in
      let K : List Part → Type 0 = λ xs. M xs (kid ∷ ns) in
      let all : M (left_of s from) (drop state.at kids) = subst N (sym opens.next_kid) (subst K (sym opens.next_part) (λ f. inside_leads way h q kid ps ns state.trail f opens.way.by_kids)) in
      let after : ((c : List Bound) × Onward C G (line s.holder) ps inside.at ([], c) × MatchesBy way C q kid state.trail c) ↔ ReachedAt C G false (line s.holder) (left_of s from) state.at state.trail = (
        λ (c, (_, (f, gives, y)), x). (f, gives, (all f).0 (c, x, y)),
        λ (f, gives, x). let (d, y, z) = (all f).1 x in (d, (refl, (f, gives, z)), y),
      ) in
      chain _ _ _ after (state_after C G (line s.holder) (left_of s from) state false state.at state.trail opens.stays refl refl)
