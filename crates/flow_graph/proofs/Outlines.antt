-- Parts of nodes with their numbers, and the loops over them.
use Rattle.std.proofs.Common.{◌≡◌, ◌⊎◌, ◌↔◌, inl, inr, ℕ, zero, suc, ◌+◌, ◌-◌, ◌<◌, ◌≤◌, ◌&&◌, min, Bool, true, false, IsTrue, if◌then◌else◌, List, [], ◌∷◌, ◌++◌, length, take, drop, map, get_or, append_assoc, sym, ◌∙◌, ap, subst, refl, arith}
use Rattle.std.specs.Bool.{◌==◌}
use Rattle.std.specs.List.{flat_map}
use Rattle.std.proofs.lemmas.Bool.{eqb-true, eq-eqb}
use Rattle.std.proofs.lemmas.List.{take_more, drop_all, take_all, append-nil, map-append}
use Rattle.std.proofs.lemmas.List.Concat.{flat_map-cons, flat_map-append}
use Rattle.node_tree.specs.declared.node.Node.{Node}
use Rattle.node_tree.specs.declared.kind.Kind.{Kind}
use Rattle.node_tree.specs.Numbers.{Numbered, count_of, siblings, kids_at}
use Rattle.node_tree.specs.Tree.{pre_of, pre_all, kids_of, kind_of}
use Rattle.node_tree.proofs.Counts.{trees_more}
use Rattle.graph_form.specs.declared.graph.Point.{Point}
use Rattle.graph_form.specs.declared.graph.Role.TheVariants as roles
use Rattle.flow_edges.specs.declared.statement.Form.{Form}
use Rattle.flow_edges.specs.declared.statement.Statement.{Statement, roll-Statement}
use Rattle.flow_graph.specs.declared.labels.Label.{Label}
use Rattle.flow_graph.specs.Outline.{is_row, first_part, part_count, parts_among, parts_of, same_text, target_among, target_by, form_by, labels_here, labels_in, outlined}
use Rattle.flow_graph.specs.Ranges.{IsRange}

-- siblings, cut
pub siblings_take : (at : ℕ) (ns : List Node) (k : ℕ) → take k (siblings at ns) ≡ siblings at (take k ns)
siblings_take at ns zero = refl
siblings_take at [] (suc k) = refl
siblings_take at (n ∷ ns) (suc k) = ap (λ xs. record { at = at; node = n } ∷ xs) (siblings_take (at + count_of n) ns k)

pub pre_cons : (n : Node) (ns : List Node) → length (pre_all (n ∷ ns)) ≡ count_of n + length (pre_all ns)
pre_cons n ns = ap length (flat_map-cons pre_of n ns) ∙ length_app (pre_of n) (pre_all ns)
  where
    length_app : (xs ys : List Node) → length (xs ++ ys) ≡ length xs + length ys
    length_app [] ys = omega arith
    length_app (x ∷ xs) ys = omega (arith, length_app xs ys)

pub siblings_drop : (at : ℕ) (ns : List Node) (k : ℕ) → drop k (siblings at ns) ≡ siblings (at + length (pre_all (take k ns))) (drop k ns)
siblings_drop at ns zero = ap (λ a. siblings a ns) (omega arith)
siblings_drop at [] (suc k) = refl
siblings_drop at (n ∷ ns) (suc k) =
    let e : at + length (pre_all (n ∷ take k ns)) ≡ (at + count_of n) + length (pre_all (take k ns)) = omega (arith, pre_cons n (take k ns)) in
    siblings_drop (at + count_of n) ns k ∙ ap (λ a. siblings a (drop k ns)) (sym e)

-- a cut that may pass the end
upto : {X : Type 0} (b : ℕ) (xs : List X) → take (min b (length xs)) xs ≡ take b xs
upto zero xs = let z : min zero (length xs) ≡ 0 = omega arith in ap (λ m. take m xs) z
upto (suc b) [] = let z : min (suc b) 0 ≡ 0 = omega arith in ap (λ m. take m []) z
upto (suc b) (x ∷ xs) = let s : min (suc b) (suc (length xs)) ≡ suc (min b (length xs)) = omega arith in ap (λ m. take m (x ∷ xs)) s ∙ ap (λ ys. x ∷ ys) (upto b xs)

none_of : {X : Type 0} (b : ℕ) (xs : List X) → xs ≡ [] → take 0 xs ≡ take b xs
none_of b xs e = none_by b
  where
    none_by : (b : ℕ) → take 0 xs ≡ take b xs
    none_by zero = refl
    none_by (suc b) = sym (ap (take (suc b)) e)

cut : {X : Type 0} (a b : ℕ) (xs : List X) → take (min (a + b) (length xs) - min a (length xs)) (drop (min a (length xs)) xs) ≡ take b (drop a xs)
cut zero b xs =
    let z : min zero (length xs) ≡ 0 = omega arith in
    let n : min (zero + b) (length xs) - min zero (length xs) ≡ min b (length xs) = omega arith in
    ap (λ m. take (min (zero + b) (length xs) - min zero (length xs)) (drop m xs)) z ∙ ap (λ m. take m xs) n ∙ upto b xs
cut (suc a) b [] =
    let z : min (suc a) 0 ≡ 0 = omega arith in
    let y : min (suc a + b) 0 - min (suc a) 0 ≡ 0 = omega arith in
    ap (λ m. take (min (suc a + b) 0 - min (suc a) 0) (drop m [])) z ∙ ap (λ m. take m []) y ∙ none_of b [] refl
cut (suc a) b (x ∷ xs) =
    let p : min (suc a) (suc (length xs)) ≡ suc (min a (length xs)) = omega arith in
    let q : min (suc a + b) (suc (length xs)) - min (suc a) (suc (length xs)) ≡ min (a + b) (length xs) - min a (length xs) = omega arith in
    ap (λ m. take m (drop (min (suc a) (suc (length xs))) (x ∷ xs))) q ∙ ap (λ m. take (min (a + b) (length xs) - min a (length xs)) (drop m (x ∷ xs))) p ∙ cut a b xs

-- the kids in a range are the parts
pub range_is : {X : Type 0} (kind : Kind) (kids : List X) (from to : ℕ) → IsRange kind (length kids) from to → take (to - from) (drop from kids) ≡ parts_among kind kids
range_is {X} kind kids from to is = by (is_row kind) refl
  where
    by : (b : Bool) → is_row kind ≡ b → take (to - from) (drop from kids) ≡ parts_among kind kids
    by true e =
        let f : from ≡ 0 = is.first ∙ ap (λ r. if r then 0 else min (first_part kind) (length kids)) e in
        let t : to - from ≡ length kids = let u : to ≡ length kids = is.last ∙ ap (λ r. if r then length kids else min (first_part kind + part_count kind) (length kids)) e in omega arith in
        let le : length kids ≤ length kids = omega arith in
        ap (λ m. take (to - from) (drop m kids)) f ∙ ap (λ m. take m kids) t ∙ take_all (length kids) kids le ∙ sym (ap (λ r. if r then kids else take (part_count kind) (drop (first_part kind) kids)) e)
    by false e =
        let f : from ≡ min (first_part kind) (length kids) = is.first ∙ ap (λ r. if r then 0 else min (first_part kind) (length kids)) e in
        let t : to ≡ min (first_part kind + part_count kind) (length kids) = is.last ∙ ap (λ r. if r then length kids else min (first_part kind + part_count kind) (length kids)) e in
        ap (λ m. take (to - m) (drop m kids)) f ∙ ap (λ m. take (m - min (first_part kind) (length kids)) (drop (min (first_part kind) (length kids)) kids)) t
        ∙ cut (first_part kind) (part_count kind) kids ∙ sym (ap (λ r. if r then kids else take (part_count kind) (drop (first_part kind) kids)) e)

-- the same with numbers
pub parts_are : (at : ℕ) (node : Node) (start from to : ℕ) (nodes : List Node) → IsRange (kind_of node) (length (kids_of node)) from to → start ≡ (at + 1) + length (pre_all (take from (kids_of node))) → nodes ≡ take (to - from) (drop from (kids_of node)) → siblings start nodes ≡ parts_of (record { at = at; node = node })
parts_are at node start from to nodes is start_is nodes_are =
    let kids = kids_of node in
    let same : length (siblings (at + 1) kids) ≡ length kids = sizes (at + 1) kids in
    let R : ℕ → Type 0 = λ n. IsRange (kind_of node) n from to in
    ap (λ s. siblings s nodes) start_is ∙ ap (siblings ((at + 1) + length (pre_all (take from kids)))) nodes_are
    ∙ sym (siblings_take ((at + 1) + length (pre_all (take from kids))) (drop from kids) (to - from))
    ∙ ap (take (to - from)) (sym (siblings_drop (at + 1) kids from))
    ∙ range_is (kind_of node) (siblings (at + 1) kids) from to (subst R (sym same) is)
  where
    sizes : (a : ℕ) (ns : List Node) → length (siblings a ns) ≡ length ns
    sizes a [] = refl
    sizes a (n ∷ ns) = ap suc (sizes (a + count_of n) ns)

-- one node more
pub siblings_more : (at next : ℕ) (ns : List Node) (i : ℕ) (n : Node) → i < length ns → n ≡ get_or ns i n → next ≡ at + length (pre_all (take i ns)) → siblings at (take (i + 1) ns) ≡ siblings at (take i ns) ++ record { at = next; node = n } ∷ []
siblings_more at next ns i n lt read next_is =
    ap (siblings at) (take_more ns i n lt ∙ ap (λ x. take i ns ++ x ∷ []) (sym read)) ∙ joined at (take i ns) n ∙ ap (λ a. siblings at (take i ns) ++ record { at = a; node = n } ∷ []) (sym next_is)
  where
    joined : (a : ℕ) (xs : List Node) (y : Node) → siblings a (xs ++ y ∷ []) ≡ siblings a xs ++ record { at = a + length (pre_all xs); node = y } ∷ []
    joined a [] y = let e : a ≡ a + length (pre_all []) = omega arith in ap (λ b. record { at = b; node = y } ∷ []) e
    joined a (x ∷ xs) y =
        let e : (a + count_of x) + length (pre_all xs) ≡ a + length (pre_all (x ∷ xs)) = omega (arith, pre_cons x xs) in
        ap (λ r. record { at = a; node = x } ∷ r) (joined (a + count_of x) xs y ∙ ap (λ b. siblings (a + count_of x) xs ++ record { at = b; node = y } ∷ []) e)

pub next_more : (at next end : ℕ) (ns : List Node) (i : ℕ) (n : Node) → i < length ns → n ≡ get_or ns i n → next ≡ at + length (pre_all (take i ns)) → end ≡ next + count_of n → end ≡ at + length (pre_all (take (i + 1) ns))
next_more at next end ns i n lt read next_is end_is =
    let e = ap length (trees_more ns i n lt read) in
    let l = length_app (pre_all (take i ns)) (pre_of n) in
    omega (arith, e, l, next_is, end_is)
  where
    length_app : (xs ys : List Node) → length (xs ++ ys) ≡ length xs + length ys
    length_app [] ys = omega arith
    length_app (x ∷ xs) ys = omega (arith, length_app xs ys)

pub mapped_more : {X : Type 0} (F : Numbered → X) (at next : ℕ) (ns : List Node) (i : ℕ) (n : Node) (old new : List X) → i < length ns → n ≡ get_or ns i n → next ≡ at + length (pre_all (take i ns)) → old ≡ map F (siblings at (take i ns)) → new ≡ old ++ F (record { at = next; node = n }) ∷ [] → new ≡ map F (siblings at (take (i + 1) ns))
mapped_more F at next ns i n old new lt read next_is old_is new_is =
    let s : Numbered = record { at = next; node = n } in
    new_is ∙ ap (λ xs. xs ++ F s ∷ []) old_is ∙ sym (map-append F (siblings at (take i ns)) (s ∷ [])) ∙ sym (ap (map F) (siblings_more at next ns i n lt read next_is))

pub flat_more : {X : Type 0} (F : Numbered → List X) (at next : ℕ) (ns : List Node) (i : ℕ) (n : Node) (first old new : List X) → i < length ns → n ≡ get_or ns i n → next ≡ at + length (pre_all (take i ns)) → old ≡ first ++ flat_map F (siblings at (take i ns)) → new ≡ old ++ F (record { at = next; node = n }) → new ≡ first ++ flat_map F (siblings at (take (i + 1) ns))
flat_more F at next ns i n first old new lt read next_is old_is new_is =
    let s : Numbered = record { at = next; node = n } in
    let whole : flat_map F (siblings at (take (i + 1) ns)) ≡ flat_map F (siblings at (take i ns)) ++ F s =
    ap (flat_map F) (siblings_more at next ns i n lt read next_is) ∙ flat_map-append F (siblings at (take i ns)) (s ∷ []) ∙ ap (λ xs. flat_map F (siblings at (take i ns)) ++ xs) (flat_map-cons F s [] ∙ append-nil (F s)) in
    new_is ∙ ap (λ xs. xs ++ F s) old_is ∙ append_assoc first (flat_map F (siblings at (take i ns))) (F s) ∙ ap (λ xs. first ++ xs) (sym whole)

-- texts that are equal
pub text_is : (a b : List ℕ) → same_text a b ≡ true → a ≡ b
text_is [] [] e = refl
text_is [] (y ∷ ys) e = absurd cc
text_is (x ∷ xs) [] e = absurd cc
text_is (x ∷ xs) (y ∷ ys) e = let h = halves (x == y) (same_text xs ys) e in ap (λ z. z ∷ xs) (eqb-true x y h.0) ∙ ap (λ zs. y ∷ zs) (text_is xs ys h.1)
  where
    halves : (p q : Bool) → (p && q) ≡ true → (p ≡ true) × (q ≡ true)
    halves true true h = (refl, refl)
    halves true false h = absurd cc
    halves false q h = absurd cc

pub text_same : (a b : List ℕ) → a ≡ b → same_text a b ≡ true
text_same a b e = let P : List ℕ → Type 0 = λ x. same_text a x ≡ true in subst P e (self a)
  where
    self : (a : List ℕ) → same_text a a ≡ true
    self [] = refl
    self (x ∷ xs) = ap (λ p. p && same_text xs xs) (eq-eqb x x refl) ∙ self xs

-- a label of that name, or another one
pub target_here : (l : Label) (ls : List Label) (exit : Point) (name : List ℕ) → l.name ≡ name → target_among (l ∷ ls) exit name ≡ record { node = l.at; role = roles.Head }
target_here l ls exit name e = ap (λ b. if b then record { node = l.at; role = roles.Head } else target_among ls exit name) (text_same l.name name e)

pub target_other : (l : Label) (ls : List Label) (exit : Point) (name : List ℕ) → (l.name ≡ name → ⊥) → target_among (l ∷ ls) exit name ≡ target_among ls exit name
target_other l ls exit name ne = by (same_text l.name name) refl
  where
    by : (b : Bool) → same_text l.name name ≡ b → target_among (l ∷ ls) exit name ≡ target_among ls exit name
    by true e = absurd (ne (text_is l.name name e))
    by false e = ap (λ b. if b then record { node = l.at; role = roles.Head } else target_among ls exit name) e

-- one depth more
pub labels_down : (less depth : ℕ) (s : Numbered) (old mid new : List Label) (parts : List Numbered) → suc less ≡ depth → mid ≡ old ++ labels_here s (kind_of s.node) → new ≡ mid ++ flat_map (labels_in less) parts → parts ≡ parts_of s → new ≡ old ++ labels_in depth s
labels_down less depth s old mid new parts deep mid_is new_is parts_are =
    new_is ∙ ap (λ xs. xs ++ flat_map (labels_in less) parts) mid_is ∙ append_assoc old (labels_here s (kind_of s.node)) (flat_map (labels_in less) parts)
    ∙ ap (λ xs. old ++ xs) (ap (λ ps. labels_here s (kind_of s.node) ++ flat_map (labels_in less) ps) parts_are ∙ ap (λ d. labels_in d s) deep)

pub outlined_down : (labels : List Label) (exit : Point) (less depth : ℕ) (s : Numbered) (how : Form) (target : Point) (kids : List Statement) (parts : List Numbered) → suc less ≡ depth → how ≡ form_by (kind_of s.node) → target ≡ target_by labels exit s.node (kind_of s.node) → kids ≡ map (outlined labels exit less) parts → parts ≡ parts_of s → roll-Statement (record { number = s.at; form = how; target = target; kids = kids }) ≡ outlined labels exit depth s
outlined_down labels exit less depth s how target kids parts deep form_is target_is kids_are parts_are =
    ap (λ f. roll-Statement (record { number = s.at; form = f; target = target; kids = kids })) form_is
    ∙ ap (λ t. roll-Statement (record { number = s.at; form = form_by (kind_of s.node); target = t; kids = kids })) target_is
    ∙ ap (λ ks. roll-Statement (record { number = s.at; form = form_by (kind_of s.node); target = target_by labels exit s.node (kind_of s.node); kids = ks })) (kids_are ∙ ap (map (outlined labels exit less)) parts_are)
    ∙ ap (λ d. outlined labels exit d s) deep

-- the last kid of a function, with its number
pub last_is : (at : ℕ) (node : Node) (start last : ℕ) (nodes : List Node) → start ≡ (at + 1) + length (pre_all (take last (kids_of node))) → last ≡ length (kids_of node) - 1 → nodes ≡ drop last (kids_of node) → siblings start nodes ≡ drop (length (kids_of node) - 1) (kids_at (record { at = at; node = node }))
last_is at node start last nodes start_is last_are nodes_are =
    ap (λ s. siblings s nodes) start_is ∙ ap (siblings ((at + 1) + length (pre_all (take last (kids_of node))))) nodes_are ∙ sym (siblings_drop (at + 1) (kids_of node) last) ∙ ap (λ n. drop n (siblings (at + 1) (kids_of node))) last_are

pub take_rest : {X : Type 0} (xs : List X) (k : ℕ) → take (length xs - k) (drop k xs) ≡ drop k xs
take_rest xs zero = let le : length xs ≤ length xs = omega arith in ap (λ n. take n xs) (omega arith) ∙ take_all (length xs) xs le
take_rest [] (suc k) = let z : zero - suc k ≡ zero = omega arith in ap (λ n. take n (drop (suc k) [])) z
take_rest (x ∷ xs) (suc k) = ap (λ n. take n (drop k xs)) (omega arith) ∙ take_rest xs k
