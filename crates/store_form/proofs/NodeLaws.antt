-- Nodes and their bytes, part by part.
use Rattle.std.proofs.Common.{◌≡◌, ℕ, zero, suc, ◌-◌, ◌<◌, List, [], ◌∷◌, ◌++◌, length, get_or, map, refl, sym, ap, ◌∙◌, subst, append_assoc, arith}
use Rattle.std.specs.List.{flat_map, All}
use Rattle.std.proofs.lemmas.List.{length-map}
use Rattle.node_tree.specs.declared.node.Node.{Node, roll-Node}
use Rattle.node_tree.specs.declared.kind.Kind.{Kind}
use Rattle.node_tree.specs.declared.kind.Kind.TheVariants.{Id}
use Rattle.node_tree.specs.declared.span.Span.{Span}
use Rattle.node_tree.specs.Tree.{kind_of, text_of, kids_of, span_of, content_of, content_is, content_kind, no_span}
use Rattle.node_tree.proofs.Nodes.{made, made_kind, made_text, made_kids, made_span, node_is}
use Rattle.meta_bind.specs.declared.bound.Bound.{Bound}
use Rattle.meta_bind.specs.Bounds.{seen}
use Rattle.store_form.specs.declared.head.Head.{Head}
use Rattle.store_form.specs.Form.{node_bytes, node_bytes_is, head_bytes, head_of, IsHead, IsKind, IsNodeWithin, IsBound}

-- a head of these parts
abbrev head : Kind → List ℕ → Span → ℕ → Head
head k t s m = record { kind = k; text = t; span = s; kids = m }

flattened : {X : Type 0} (f : X → List ℕ) (xs : List X) → flat_map (λ (k : List ℕ). k) (map f xs) ≡ flat_map f xs
flattened f [] = refl
flattened f (x ∷ xs) = ap (λ (v : List ℕ). f x ++ v) (flattened f xs)

-- the head, and then the kids
pub node_parts : (n : Node) → node_bytes n ≡ head_bytes (head_of n) ++ flat_map node_bytes (kids_of n)
node_parts n =
    node_bytes_is n
    ∙ ap (λ (v : List ℕ). head_bytes (head (kind_of n) (text_of n) (span_of n) (length (map node_bytes (kids_of n)))) ++ v) (flattened node_bytes (kids_of n))
    ∙ ap (λ (m : ℕ). head_bytes (head (kind_of n) (text_of n) (span_of n) m) ++ flat_map node_bytes (kids_of n)) (length-map (kids_of n) node_bytes)

pub within_none : (n : Node) → IsNodeWithin 0 n → ⊥
unfolding IsNodeWithin
within_none n h = h

pub within_head : (levels : ℕ) (n : Node) → IsNodeWithin levels n → IsHead (head_of n)
unfolding IsNodeWithin
within_head zero n h = absurd h
within_head (suc room) n h = h.0

pub within_kids : (levels : ℕ) (n : Node) → IsNodeWithin levels n → All (IsNodeWithin (levels - 1)) (kids_of n)
unfolding IsNodeWithin
within_kids zero n h = absurd h
within_kids (suc room) n h = let e : room ≡ suc room - 1 = omega arith in subst (λ (m : ℕ). All (IsNodeWithin m) (kids_of n)) e h.1

pub within_parts : (levels : ℕ) (n : Node) → 0 < levels → IsHead (head_of n) → All (IsNodeWithin (levels - 1)) (kids_of n) → IsNodeWithin levels n
unfolding IsNodeWithin
within_parts zero n lt h all = absurd (omega arith)
within_parts (suc room) n lt h all = let e : suc room - 1 ≡ room = omega arith in (h, subst (λ (m : ℕ). All (IsNodeWithin m) (kids_of n)) e all)

-- what stands where a node stands: its head, its kids, and what is behind it
pub node_stands : (n : Node) (start left : List ℕ) → start ≡ node_bytes n ++ left → start ≡ head_bytes (head_of n) ++ (flat_map node_bytes (kids_of n) ++ left)
node_stands n start left e =
    e ∙ ap (λ (v : List ℕ). v ++ left) (node_parts n) ∙ append_assoc (head_bytes (head_of n)) (flat_map node_bytes (kids_of n)) left

abbrev pub joined : Head → List Node → Node
joined h kids = roll-Node (made h.kind h.text kids h.span)

joined_head : (h : Head) (kids : List Node) → length kids ≡ h.kids → head_of (joined h kids) ≡ h
joined_head h kids e =
    ap (λ (k : Kind). head k (text_of (joined h kids)) (span_of (joined h kids)) (length (kids_of (joined h kids)))) (made_kind h.kind h.text kids h.span)
    ∙ ap (λ (t : List ℕ). head h.kind t (span_of (joined h kids)) (length (kids_of (joined h kids)))) (made_text h.kind h.text kids h.span)
    ∙ ap (λ (s : Span). head h.kind h.text s (length (kids_of (joined h kids)))) (made_span h.kind h.text kids h.span)
    ∙ ap (λ (m : ℕ). head h.kind h.text h.span m) (ap (λ (ks : List Node). length ks) (made_kids h.kind h.text kids h.span) ∙ e)

-- a node made of a head and kids
pub joined_within : (levels : ℕ) (h : Head) (kids : List Node) → 0 < levels → IsHead h → length kids ≡ h.kids → All (IsNodeWithin (levels - 1)) kids → IsNodeWithin levels (joined h kids)
joined_within levels h kids lt is e all =
    within_parts levels (joined h kids) lt (subst IsHead (sym (joined_head h kids e)) is) (subst (All (IsNodeWithin (levels - 1))) (sym (made_kids h.kind h.text kids h.span)) all)

pub joined_bytes : (h : Head) (kids : List Node) → length kids ≡ h.kids → node_bytes (joined h kids) ≡ head_bytes h ++ flat_map node_bytes kids
joined_bytes h kids e =
    node_parts (joined h kids) ∙ ap (λ (x : Head). head_bytes x ++ flat_map node_bytes (kids_of (joined h kids))) (joined_head h kids e)
    ∙ ap (λ (ks : List Node). head_bytes h ++ flat_map node_bytes ks) (made_kids h.kind h.text kids h.span)

-- a node is joined of its head and its kids
pub joined_is : (h : Head) (kids : List Node) (n : Node) → h ≡ head_of n → kids ≡ kids_of n → joined h kids ≡ n
joined_is h kids n e ek =
    node_is n h.kind h.text kids h.span (sym (ap (λ (x : Head). x.kind) e)) (sym (ap (λ (x : Head). x.text) e)) (sym ek) (sym (ap (λ (x : Head). x.span) e))

-- ---- contents

mapped_same : {X : Type 0} (f : X → X) (xs : List X) → All (λ x. f x ≡ x) xs → map f xs ≡ xs
mapped_same f [] h = refl
mapped_same {X} f (x ∷ xs) h =
    ap (λ (v : X). v ∷ map f xs) (h 0 x (omega arith)) ∙ ap (λ (v : List X). x ∷ v) (mapped_same f xs (λ k d lt. h (suc k) d (omega arith)))

-- what may be written is its own content
content_same : (levels : ℕ) (n : Node) → IsNodeWithin levels n → content_of n ≡ n
unfolding IsNodeWithin IsKind
content_same zero n h = absurd h
content_same (suc room) n h =
    content_is n ∙ ap (λ (k : Kind). joined (head k (text_of n) no_span 0) (map content_of (kids_of n))) h.0.kind
    ∙ joined_is (head (kind_of n) (text_of n) no_span (length (kids_of n))) (map content_of (kids_of n)) n (ap (λ (s : Span). head (kind_of n) (text_of n) s (length (kids_of n))) (sym h.0.span))
    (mapped_same content_of (kids_of n) (λ k d lt. content_same room (get_or (kids_of n) k d) (h.1 k d lt)))

abbrev bound_of : List ℕ → Span → List Node → Bound
bound_of name span nodes = record { name = name; span = span; nodes = nodes }

seen_same : (b : Bound) → IsBound b → seen b ≡ b
seen_same b h =
    ap (λ (ns : List Node). bound_of b.name b.span ns) (mapped_same content_of b.nodes (λ k d lt. content_same 509 (get_or b.nodes k d) (h.nodes.1 k d lt)))

pub seen_all : (bs : List Bound) → All IsBound bs → map seen bs ≡ bs
seen_all bs h = mapped_same seen bs (λ k d lt. seen_same (get_or bs k d) (h k d lt))

kind_settled : (k : Kind) → content_kind (content_kind k) ≡ content_kind k
kind_settled Id = refl
kind_settled k = refl

pub kind_is : (k : Kind) → IsKind (content_kind k)
unfolding IsKind
kind_is k = kind_settled k

-- the head of a content
pub content_head : (n : Node) → head_of (content_of n) ≡ record { kind = content_kind (kind_of n); text = text_of n; span = no_span; kids = length (kids_of n) }
content_head n =
    ap head_of (content_is n) ∙ joined_head (head (content_kind (kind_of n)) (text_of n) no_span (length (kids_of n))) (map content_of (kids_of n)) (length-map (kids_of n) content_of)

pub content_kids : (n : Node) → kids_of (content_of n) ≡ map content_of (kids_of n)
content_kids n = ap kids_of (content_is n) ∙ made_kids (content_kind (kind_of n)) (text_of n) (map content_of (kids_of n)) no_span

-- these parts are the head of a content
pub content_parts : (n : Node) (k : Kind) (t : List ℕ) (m : ℕ) → k ≡ content_kind (kind_of n) → t ≡ text_of n → m ≡ length (kids_of n) → head k t no_span m ≡ head_of (content_of n)
content_parts n k t m ek et em =
    ap (λ (x : Kind). head x t no_span m) ek ∙ ap (λ (x : List ℕ). head (content_kind (kind_of n)) x no_span m) et
    ∙ ap (λ (x : ℕ). head (content_kind (kind_of n)) (text_of n) no_span x) em ∙ sym (content_head n)

-- the kids of a content are those of the node, seen so
pub content_kids_within : (levels : ℕ) (n : Node) → IsNodeWithin levels (content_of n) → All (IsNodeWithin (levels - 1)) (map content_of (kids_of n))
content_kids_within levels n h = subst (All (IsNodeWithin (levels - 1))) (content_kids n) (within_kids levels (content_of n) h)

pub content_within : (levels : ℕ) (n : Node) → 0 < levels → IsHead (head_of (content_of n)) → All (IsNodeWithin (levels - 1)) (map content_of (kids_of n)) → IsNodeWithin levels (content_of n)
content_within levels n lt h all = within_parts levels (content_of n) lt h (subst (All (IsNodeWithin (levels - 1))) (sym (content_kids n)) all)

pub content_bytes : (n : Node) → node_bytes (content_of n) ≡ head_bytes (head_of (content_of n)) ++ flat_map node_bytes (map content_of (kids_of n))
content_bytes n = node_parts (content_of n) ∙ ap (λ (ks : List Node). head_bytes (head_of (content_of n)) ++ flat_map node_bytes ks) (content_kids n)
