-- Nodes that are read from bytes.
use Rattle.std.proofs.Common.{◌≡◌, ℕ, ◌+◌, ◌-◌, ◌*◌, ◌<◌, ◌≤◌, List, [], ◌∷◌, ◌++◌, length, take, drop, get_or, refl, sym, ap, ◌∙◌, append_assoc, length-append, arith}
use Rattle.std.specs.Prelude.{nat_lt, cond}
use Rattle.std.specs.List.{flat_map}
use Rattle.std.proofs.lemmas.List.{append-nil, take_all}
use Rattle.std.proofs.lemmas.Bool.{lt-ltb, le-ltb}
use Rattle.node_tree.specs.declared.node.Node.{Node, roll-Node}
use Rattle.node_tree.specs.declared.kind.Kind.{Kind}
use Rattle.node_tree.specs.declared.span.Span.{Span}
use Rattle.node_tree.specs.Order.{kind_place}
use Rattle.node_tree.specs.Tree.{kids_of, kind_of, span_of, text_of}
use Rattle.node_tree.proofs.Nodes.{made, node_is}
use Rattle.tree_code.specs.declared.head.Head.{Head}
use Rattle.tree_code.specs.Code.{number_code, text_code, span_code, tree_code}
use Rattle.tree_code.specs.Heads.{head_of, head_code}
use Rattle.tree_code.proofs.Numbers.{number_of, number_back}
use Rattle.tree_code.proofs.Telling.{laid_is}

-- ---- fronts

abbrev pub rest_behind : ℕ → List ℕ → List ℕ
rest_behind k xs = take (length xs - k) (drop k xs)

pub behind_one : (xs : List ℕ) → 1 ≤ length xs → xs ≡ get_or xs 0 0 ∷ rest_behind 1 xs
behind_one [] le = absurd (omega arith)
behind_one (a ∷ xs) le = ap (λ (v : List ℕ). a ∷ v) (sym (take_all (length (a ∷ xs) - 1) xs (omega arith)))

pub behind_four : (xs : List ℕ) → 4 ≤ length xs → xs ≡ get_or xs 0 0 ∷ get_or xs 1 0 ∷ get_or xs 2 0 ∷ get_or xs 3 0 ∷ rest_behind 4 xs
behind_four [] le = absurd (omega arith)
behind_four (a ∷ []) le = absurd (omega arith)
behind_four (a ∷ b ∷ []) le = absurd (omega arith)
behind_four (a ∷ b ∷ c ∷ []) le = absurd (omega arith)
behind_four (a ∷ b ∷ c ∷ d ∷ xs) le = ap (λ (v : List ℕ). a ∷ b ∷ c ∷ d ∷ v) (sym (take_all (length (a ∷ b ∷ c ∷ d ∷ xs) - 4) xs (omega arith)))

-- ---- numbers

-- what is read is the number that stands there
read_is : (old : List ℕ) (m : ℕ) (new : List ℕ) → number_of old ≡ (m, new) → (n : ℕ) (left : List ℕ) → old ≡ number_code n ++ left → (m ≡ n) × (new ≡ left)
read_is old m new is n left e =
    let same : (m, new) ≡ (n, left) = sym is ∙ ap number_of e ∙ number_back n left in
    (ap (λ (p : ℕ × List ℕ). p.0) same, ap (λ (p : ℕ × List ℕ). p.1) same)

pub tiny_read : (old : List ℕ) (a : ℕ) (new : List ℕ) → old ≡ a ∷ new → a < 192 → (n : ℕ) (left : List ℕ) → old ≡ number_code n ++ left → (a ≡ n) × (new ≡ left)
tiny_read old a new e lt = read_is old a new (ap number_of e ∙ rw (lt-ltb a 192 lt) refl)

pub small_read : (old : List ℕ) (a b : ℕ) (new : List ℕ) → old ≡ a ∷ b ∷ new → 192 ≤ a → a < 255 → (n : ℕ) (left : List ℕ) → old ≡ number_code n ++ left → ((a - 192) * 256 + b ≡ n) × (new ≡ left)
small_read old a b new e le lt = read_is old ((a - 192) * 256 + b) new (ap number_of e ∙ rw (le-ltb a 192 le, lt-ltb a 255 lt) refl)

pub large_read : (old : List ℕ) (o a b c d : ℕ) (new : List ℕ) → old ≡ o ∷ a ∷ b ∷ c ∷ d ∷ new → 255 ≤ o → (n : ℕ) (left : List ℕ) → old ≡ number_code n ++ left → (a + b * 256 + c * 65536 + d * 16777216 ≡ n) × (new ≡ left)
large_read old o a b c d new e le = read_is old (a + b * 256 + c * 65536 + d * 16777216) new (ap number_of e ∙ rw (le-ltb o 192 (omega arith), le-ltb o 255 le) refl)

-- ---- nodes

pub head_stands : (h : Head) (start left : List ℕ) → start ≡ head_code h ++ left → start ≡ kind_place h.kind ∷ (span_code h.span ++ (text_code h.text ++ (number_code h.kids ++ left)))
head_stands h start left e = e ∙ regrouped (kind_place h.kind) (span_code h.span) (text_code h.text) (number_code h.kids) left
  where
    regrouped : (kind : ℕ) (span text count r : List ℕ) → ((kind ∷ span) ++ (text ++ count)) ++ r ≡ kind ∷ (span ++ (text ++ (count ++ r)))
    regrouped kind span text count r = simp append_assoc

pub head_one : (h i : Head) → h.kind ≡ i.kind → h.span ≡ i.span → h.text ≡ i.text → h.kids ≡ i.kids → h ≡ i
head_one h i kind span text kids =
    let head : Kind → Span → List ℕ → ℕ → Head = λ k s t m. record { kind = k; span = s; text = t; kids = m } in
    ap (λ (k : Kind). head k h.span h.text h.kids) kind ∙ ap (λ (s : Span). head i.kind s h.text h.kids) span ∙ ap (λ (t : List ℕ). head i.kind i.span t h.kids) text ∙ ap (λ (m : ℕ). head i.kind i.span i.text m) kids

-- what stands where a node stands: its head, its kids, and what is behind it
pub node_stands : (n : Node) (start left : List ℕ) → start ≡ tree_code n ++ left → start ≡ head_code (head_of n) ++ (flat_map tree_code (kids_of n) ++ left)
node_stands n start left e = e ∙ laid_is n left ∙ regrouped (kind_place (kind_of n)) (span_code (span_of n)) (text_code (text_of n)) (number_code (length (kids_of n))) (flat_map tree_code (kids_of n) ++ left)
  where
    regrouped : (kind : ℕ) (span text count r : List ℕ) → kind ∷ (span ++ (text ++ (count ++ r))) ≡ ((kind ∷ span) ++ (text ++ count)) ++ r
    regrouped kind span text count r = simp append_assoc

-- a node is made of its head and its kids
pub joined_is : (h : Head) (kids : List Node) (n : Node) → h ≡ head_of n → kids ≡ kids_of n → roll-Node (made h.kind h.text kids h.span) ≡ n
joined_is h kids n e ek =
    node_is n h.kind h.text kids h.span (sym (ap (λ (x : Head). x.kind) e)) (sym (ap (λ (x : Head). x.text) e)) (sym ek) (sym (ap (λ (x : Head). x.span) e))

-- ---- kids that are taken off the front one after the other

-- so many of some kids were taken: these, and these bytes are left
pub record Taken (start : List ℕ) (count at : ℕ) (xs : List Node) (left : List ℕ) : Type 0 where
  pub many : length xs ≡ at
  pub shorter : length left ≤ length start
  pub found : (ys : List Node) (r : List ℕ) → length ys ≡ count → start ≡ flat_map tree_code ys ++ r → (zs : List Node) × (ys ≡ xs ++ zs) × (left ≡ flat_map tree_code zs ++ r)

pub taken_none : (start : List ℕ) (count : ℕ) (xs : List Node) → xs ≡ [] → Taken start count 0 xs start
taken_none start count xs none = record {
  many = ap (λ (v : List Node). length v) none;
  shorter = omega arith;
  found = λ ys r l e. (ys, ap (λ (v : List Node). v ++ ys) (sym none), e);
}

module _ (start : List ℕ) (count at : ℕ) (xs : List Node) (left : List ℕ) (t : Taken start count at xs left) where
  pub taken_more : at < count → (x : Node) (new : List ℕ) (more : List Node) → more ≡ xs ++ x ∷ [] → length new < length left → ((y : Node) (r : List ℕ) → left ≡ tree_code y ++ r → (x ≡ y) × (new ≡ r)) → Taken start count (at + 1) more new
  taken_more lt x new more pushed less only = record {
    many = ap (λ (v : List Node). length v) pushed ∙ omega (arith, t.many, length-append xs (x ∷ []));
    shorter = omega (arith, t.shorter);
    found = λ ys r l e. next ys r l (t.found ys r l e);
  }
    where
      next : (ys : List Node) (r : List ℕ) → length ys ≡ count → ((zs : List Node) × (ys ≡ xs ++ zs) × (left ≡ flat_map tree_code zs ++ r)) → (zs : List Node) × (ys ≡ more ++ zs) × (new ≡ flat_map tree_code zs ++ r)
      next ys r l ([], same, rest) = absurd (omega (arith, t.many, l, lt, ap (λ (v : List Node). length v) (same ∙ append-nil xs)))
      next ys r l (z ∷ zs, same, rest) =
          let o = only z (flat_map tree_code zs ++ r) (rest ∙ append_assoc (tree_code z) (flat_map tree_code zs) r) in
          (zs, same ∙ ap (λ (v : Node). xs ++ v ∷ zs) (sym o.0) ∙ sym (append_assoc xs (x ∷ []) zs) ∙ ap (λ (v : List Node). v ++ zs) (sym pushed), o.1)

  -- what was taken is all there was to take
  pub taken_all : at ≡ count → (ys : List Node) (r : List ℕ) → length ys ≡ count → start ≡ flat_map tree_code ys ++ r → (xs ≡ ys) × (left ≡ r)
  taken_all end ys r l e = ends (t.found ys r l e)
    where
      ends : ((zs : List Node) × (ys ≡ xs ++ zs) × (left ≡ flat_map tree_code zs ++ r)) → (xs ≡ ys) × (left ≡ r)
      ends ([], same, rest) = (sym (append-nil xs) ∙ sym same, rest)
      ends (z ∷ zs, same, rest) = absurd (omega (arith, t.many, l, end, ap (λ (v : List Node). length v) same, length-append xs (z ∷ zs)))
