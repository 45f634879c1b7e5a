-- What rules a match of a node out.
use Rattle.std.proofs.Common.{◌≡◌, ◌⊎◌, inl, inr, ℕ, suc, ◌+◌, ◌<◌, ◌≤◌, List, ◌∷◌, length, drop, get_or, refl, sym, ap, ◌∙◌, subst, arith, add-one, true, false}
use Rattle.std.proofs.lemmas.List.{drop_all, length-map}
use Rattle.std.proofs.Math.Seq.{drop-cons}
use Rattle.node_tree.specs.declared.node.Node.{Node}
use Rattle.node_tree.specs.declared.kind.Kind.{Kind}
use Rattle.node_tree.specs.declared.kind.Kind.TheVariants as kinds
use Rattle.node_tree.specs.Tree.{kind_of, kids_of}
use Rattle.node_tree.specs.Numbers.{Numbered, kids_at}
use Rattle.node_match.specs.declared.class.Role.TheVariants as roles
use Rattle.node_tree.specs.Kinds.{is_literal}
use Rattle.node_match.specs.Kinds.{role_of}
use Rattle.node_match.specs.Free.{Part, parts_of, HasText}
use Rattle.node_match.specs.Sets.{Among}
use Rattle.node_match.specs.declared.order.Order.TheVariants.{Fixed, Any}
use Rattle.node_match.specs.Orders.{order_of, is_dots, has_dots, asked_of, some_is, is_arguments, is_list, is_named, named_of, named_at, unnamed_at, all_asked}
use Rattle.node_match.specs.Relation.{IsString, MatchesList}
use Rattle.node_match.specs.Refused.{IsRefused, IsRefusedBy, IsKidRefused, AreRefused, AreKidsRefused, AreArgumentsRefused, AreNamesRefused, IsChoiceRefused}
use Rattle.node_match.proofs.Numbering.{kids_nodes, among_nodes}
use Rattle.node_match.proofs.Inversion.{plain_cases, any_strings, ordered_kids}
use Rattle.node_match.proofs.Arguments.{kid_arguments, kid_itself, arguments_alike, arguments_parted, among_named, among_part, all_unnamed, all_unnamed_at, list_parts}
use Rattle.node_match.proofs.Choosing.{chosen_kids, choice_many, choice_meets, asked_all, asked_among}

-- the pattern is a literal, and the node a name
abbrev pub MayHold : Node → Node → Type 0
MayHold p n = (is_literal (kind_of p) ≡ true) × (kind_of n ≡ kinds.Name)

pub other_refused : (p n : Node) → role_of (kind_of p) ≡ roles.Plain → (MayHold p n → ⊥) → ((kind_of p ≡ kind_of n) × HasText p n → ⊥) → IsRefused p n
other_refused p n role unheld other C s same b d x =
    let K : Node → Type 0 = λ m. (kind_of p ≡ kind_of m) × HasText p m in
    elim (plain_cases C p s b role d x) [ inl (k, t, y) ↦ other (subst K same (k, t)) | inr ((l, is, h, e), _) ↦ unheld (is, sym (ap kind_of same) ∙ h.0) ]

pub kids_refused : (p n : Node) → role_of (kind_of p) ≡ roles.Plain → (MayHold p n → ⊥) → AreKidsRefused p n → IsRefused p n
kids_refused p n role unheld refused C s same b d x =
    elim (plain_cases C p s b role d x) [
      | inl (k, t, y) ↦ refused C s same b d y
      | inr ((l, is, h, e), _) ↦ unheld (is, sym (ap kind_of same) ∙ h.0)
    ]

-- kids in order
pub list_refused : (p n : Node) (ns : List Node) → order_of p ≡ Fixed → ns ≡ kids_of n → AreRefused (kind_of n) (parts_of p) ns → AreKidsRefused p n
list_refused p n ns fixed are refused C s same b c x = refused C (kids_at s) (kids_nodes s ∙ ap kids_of same ∙ sym are) s (ap kind_of same) b c ((ordered_kids C p s b c fixed).1 x)

-- kids by choice
pub choice_refused : (p n : Node) (ns : List Node) → order_of p ≡ Any → ns ≡ kids_of n → IsChoiceRefused (kids_of p) ns → AreKidsRefused p n
choice_refused p n ns any are refused C s same b c x = refused C (kids_at s) (kids_nodes s ∙ ap kids_of same ∙ sym are) b c ((chosen_kids C p s b c any).1 x)

-- as many patterns as nodes, where none may be left over
pub number_refused : (ps ns : List Node) → has_dots ps ≡ false → (length ns ≡ length ps → ⊥) → IsChoiceRefused ps ns
number_refused ps ns none other C ss same b c (rest, ends, x) =
    let many : length ss ≡ length ns = sym (length-map ss (λ (s : Numbered). s.node)) ∙ ap length same in
    let asked = ap length (asked_all ps none) in
    let over = ap length (ends none) in
    other (omega (arith, many, asked, over, choice_many C (asked_of ps) ss rest b c x))

-- a pattern that matches none of them
pub asked_refused : (ps ns : List Node) (p : Node) → Among ps p → is_dots p ≡ false → IsRefusedBy ns p → IsChoiceRefused ps ns
asked_refused ps ns p among not refused C ss same b c (rest, ends, x) =
    let (s, a, d, e, y) = choice_meets C p (asked_of ps) ss rest b c (asked_among ps p not among) x in
    let P : List Node → Type 0 = λ ms. Among ms s.node in
    refused s.node (subst P same (among_nodes ss s a)) C s refl d e y

-- ---- kids of a holder

pub kid_arguments_refused : (kind : Kind) (p n : Node) → is_arguments kind p ≡ true → AreArgumentsRefused p n → IsKidRefused kind p n
kid_arguments_refused kind p n are refused C h s held same b c x = refused C s same b c ((kid_arguments C h p s b c (ap (λ (k : Kind). is_arguments k p) held ∙ are)).1 x)

pub kid_itself_refused : (kind : Kind) (p n : Node) → is_arguments kind p ≡ false → IsRefused p n → IsKidRefused kind p n
kid_itself_refused kind p n other refused C h s held same b c x = refused C s same b c ((kid_itself C h p s b c (ap (λ (k : Kind). is_arguments k p) held ∙ other)).1 x)

pub unlike_refused : (p n : Node) → ((kind_of p ≡ kind_of n) × HasText p n → ⊥) → AreArgumentsRefused p n
unlike_refused p n other C s same b c x =
    let K : Node → Type 0 = λ m. (kind_of p ≡ kind_of m) × HasText p m in
    other (subst K same (arguments_alike C p s b c x))

-- an argument with a name that none matches
pub named_refused : (p n : Node) (ns : List Node) → ns ≡ kids_of n → AreNamesRefused (kids_of p) ns → AreArgumentsRefused p n
named_refused p n ns are (q, among, named, refused) C s same b c x =
    let (d, y, (rest, ends, z)) = arguments_parted C p s b c x in
    let (m, a, e, g, w) = choice_meets C q (named_of (kids_of p)) (named_at (kids_at s)) rest d c (among_named (kids_of p) q named among) z in
    let P : List Node → Type 0 = λ ms. Among ms m.node in
    refused m.node (subst P (kids_nodes s ∙ ap kids_of same ∙ sym are) (among_nodes (kids_at s) m (among_part (λ (k : Numbered). is_named k.node) (kids_at s) m a))) C m refl e g w

-- arguments without names match in order
pub unnamed_refused : (p n : Node) (ns : List Node) → is_list (kind_of p) ≡ true → some_is is_named (kids_of p) ≡ false → some_is is_named ns ≡ false → ns ≡ kids_of n → AreRefused (kind_of n) (parts_of p) ns → AreArgumentsRefused p n
unnamed_refused p n ns listed none none' are refused C s same b c x =
    let (d, y, z) = arguments_parted C p s b c x in
    let nodes = kids_nodes s ∙ ap kids_of same ∙ sym are in
    let P : List Part → Type 0 = λ ps. MatchesList C s ps (unnamed_at (kids_at s)) b d in
    let Q : List Numbered → Type 0 = λ ms. MatchesList C s (parts_of p) ms b d in
    refused C (kids_at s) nodes s (ap kind_of same) b d
    (subst Q (all_unnamed_at (kids_at s) (ap (some_is is_named) nodes ∙ none')) (subst P (ap all_asked (all_unnamed (kids_of p) none) ∙ sym (list_parts p listed)) y))

-- the nodes that are left to look at
pub refused_next : (p : Node) (ns : List Node) (i : ℕ) (n : Node) → i < length ns → n ≡ get_or ns i n → IsRefused p n → ((m : Node) → Among ns m → IsRefused p m ⊎ Among (drop i ns) m)
    → (m : Node) → Among ns m → IsRefused p m ⊎ Among (drop (i + 1) ns) m
refused_next p ns i n lt is refused inv m a =
    let cut : drop i ns ≡ n ∷ drop (i + 1) ns = drop-cons ns i n lt ∙ ap (λ (y : Node). y ∷ drop (suc i) ns) (sym is) ∙ ap (λ (j : ℕ). n ∷ drop j ns) (sym (add-one i)) in
    let P : List Node → Type 0 = λ ms. Among ms m in
    let Q : Node → Type 0 = λ k. IsRefused p k in
    elim (inv m a) [ inl done ↦ inl done | inr left ↦ elim (subst P cut left) [ inl e ↦ inl (subst Q e refused) | inr rest ↦ inr rest ] ]

pub refused_all : (p : Node) (ns : List Node) (i : ℕ) → length ns ≤ i → ((m : Node) → Among ns m → IsRefused p m ⊎ Among (drop i ns) m) → IsRefusedBy ns p
refused_all p ns i le inv m a =
    let P : List Node → Type 0 = λ ms. Among ms m in
    elim (inv m a) [ inl done ↦ done | inr left ↦ absurd (subst P (drop_all i ns le) left) ]

pub string_refused : (p n : Node) → role_of (kind_of p) ≡ roles.StrAny → (kind_of n ≡ kinds.Name → ⊥) → (IsString n → ⊥) → IsRefused p n
string_refused p n role unnamed other C s same b d x =
    let S : Node → Type 0 = IsString in
    elim (any_strings C p s b role d x) [ inl is ↦ other (subst S same is) | inr (l, h, k) ↦ unnamed (sym (ap kind_of same) ∙ h.0) ]
