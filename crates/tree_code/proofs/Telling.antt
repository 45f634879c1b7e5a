-- Bytes tell trees apart.
use Rattle.std.proofs.Common.{◌≡◌, ℕ, List, [], ◌∷◌, ◌++◌, length, map, refl, sym, ap, ◌∙◌, subst, arith, append_assoc}
use Rattle.std.specs.List.{flat_map}
use denote.Enum.Bare.{tag_one}
use Rattle.node_tree.specs.declared.node.Node.{Node, Node-F, roll-Node, out-roll-Node, ind-Node}
use Rattle.node_tree.specs.contracts.kind.Kind.{the_type}
use Rattle.node_tree.specs.declared.span.Span.{Span}
use Rattle.node_tree.specs.Tree.{kind_of, text_of, kids_of, span_of}
use Rattle.node_tree.specs.Order.{kind_place}
use Rattle.node_tree.proofs.Trees.{to_equal}
use Rattle.tree_code.specs.declared.look.Look.TheVariants.{Whole}
use Rattle.tree_code.specs.Code.{number_code, text_code, span_code, tree_code}
use Rattle.tree_code.proofs.Numbers.{number_tells}
use Rattle.tree_code.proofs.Parts.{tree_parts}

-- fronts of one length are equal where the whole lists are, and so is what stands behind them
pub fronts_same : (xs ys us vs : List ℕ) → length xs ≡ length ys → xs ++ us ≡ ys ++ vs → (xs ≡ ys) × (us ≡ vs)
fronts_same [] [] us vs l e = (refl, e)
fronts_same [] (y ∷ ys) us vs l e = absurd (omega arith)
fronts_same (x ∷ xs) [] us vs l e = absurd (omega arith)
fronts_same (x ∷ xs) (y ∷ ys) us vs l e =
    let first : x ≡ y = cc in
    let rest : xs ++ us ≡ ys ++ vs = cc in
    let r = fronts_same xs ys us vs (omega arith) rest in
    (ap (λ (z : ℕ). z ∷ xs) first ∙ ap (λ (zs : List ℕ). y ∷ zs) r.0, r.1)

pub text_tells : (xs ys us vs : List ℕ) → text_code xs ++ us ≡ text_code ys ++ vs → (xs ≡ ys) × (us ≡ vs)
text_tells xs ys us vs e =
    let n = number_tells (length xs) (length ys) (xs ++ us) (ys ++ vs) (sym (append_assoc (number_code (length xs)) xs us) ∙ e ∙ append_assoc (number_code (length ys)) ys vs) in
    fronts_same xs ys us vs n.0 n.1

spans_one : (a b : Span) → a.from ≡ b.from → a.to ≡ b.to → a ≡ b
spans_one a b e f = let g : ℕ → ℕ → Span = λ x y. record { from = x; to = y } in ap (λ (x : ℕ). g x a.to) e ∙ ap (λ (y : ℕ). g b.from y) f

pub span_tells : (a b : Span) (us vs : List ℕ) → span_code a ++ us ≡ span_code b ++ vs → (a ≡ b) × (us ≡ vs)
span_tells a b us vs e =
    let from = number_tells a.from b.from (number_code a.to ++ us) (number_code b.to ++ vs) (sym (append_assoc (number_code a.from) (number_code a.to) us) ∙ e ∙ append_assoc (number_code b.from) (number_code b.to) vs) in
    let to = number_tells a.to b.to us vs from.1 in
    (spans_one a b from.0 to.0, to.1)

-- a tree's bytes, with what follows them
abbrev laid : Node → List ℕ → List ℕ
laid n r = kind_place (kind_of n) ∷ (span_code (span_of n) ++ (text_code (text_of n) ++ (number_code (length (kids_of n)) ++ (flat_map tree_code (kids_of n) ++ r))))

regrouped : (kind : ℕ) (span text count kids r : List ℕ) → ((kind ∷ span) ++ (text ++ (count ++ kids))) ++ r ≡ kind ∷ (span ++ (text ++ (count ++ (kids ++ r))))
regrouped kind span text count kids r = simp append_assoc

pub laid_is : (n : Node) (r : List ℕ) → tree_code n ++ r ≡ laid n r
laid_is n r =
    ap (λ (c : List ℕ). c ++ r) (tree_parts Whole n)
    ∙ regrouped (kind_place (kind_of n)) (span_code (span_of n)) (text_code (text_of n)) (number_code (length (kids_of n))) (flat_map tree_code (kids_of n)) r

abbrev Tells : Node → Type 0
Tells n = (m : Node) (r s : List ℕ) → tree_code n ++ r ≡ tree_code m ++ s → (n ≡ m) × (r ≡ s)

abbrev TellKids : List Node → Type 0
TellKids ns = (ms : List Node) (r s : List ℕ) → length ns ≡ length ms → flat_map tree_code ns ++ r ≡ flat_map tree_code ms ++ s → (ns ≡ ms) × (r ≡ s)

tell_kids : (ns : List ((n : Node) × Tells n)) → TellKids (map (λ e. e.0) ns)
tell_kids [] [] r s l e = (refl, e)
tell_kids [] (m ∷ ms) r s l e = absurd (omega arith)
tell_kids (n ∷ ns) [] r s l e = absurd (omega arith)
tell_kids (n ∷ ns) (m ∷ ms) r s l e =
    let rest : List Node = map (λ (e : (n : Node) × Tells n). e.0) ns in
    let one = n.1 m (flat_map tree_code rest ++ r) (flat_map tree_code ms ++ s) (sym (append_assoc (tree_code n.0) (flat_map tree_code rest) r) ∙ e ∙ append_assoc (tree_code m) (flat_map tree_code ms) s) in
    let more = tell_kids ns ms r s (omega arith) one.1 in
    (ap (λ (z : Node). z ∷ rest) one.0 ∙ ap (λ (zs : List Node). m ∷ zs) more.0, more.1)

told : (n : Node) → TellKids (kids_of n) → Tells n
told n kids m r s e =
    let all : laid n r ≡ laid m s = sym (laid_is n r) ∙ e ∙ laid_is m s in
    let kind : kind_place (kind_of n) ≡ kind_place (kind_of m) = cc in
    let behind : span_code (span_of n) ++ (text_code (text_of n) ++ (number_code (length (kids_of n)) ++ (flat_map tree_code (kids_of n) ++ r))) ≡ span_code (span_of m) ++ (text_code (text_of m) ++ (number_code (length (kids_of m)) ++ (flat_map tree_code (kids_of m) ++ s))) = cc in
    let span = span_tells (span_of n) (span_of m) _ _ behind in
    let text = text_tells (text_of n) (text_of m) _ _ span.1 in
    let many = number_tells (length (kids_of n)) (length (kids_of m)) _ _ text.1 in
    let ks = kids (kids_of m) r s many.0 many.1 in
    (to_equal n m (record { kind = tag_one the_type tt (kind_of n) (kind_of m) kind; span = span.0; text = text.0; kids = ks.0 }), ks.1)

-- two trees of which the same bytes stand there, with the same behind them, are equal
pub tree_tells : (n : Node) → Tells n
tree_tells = ind-Node Tells (λ x y is.
    let kids = subst (λ (z : Node-F Node). TellKids z.kids) is (tell_kids y.kids) in
    told (roll-Node x) (subst TellKids (ap (λ (z : Node-F Node). z.kids) (sym (out-roll-Node x))) kids))
