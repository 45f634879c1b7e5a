-- Trees in which names are replaced, node by node.
use Rattle.std.proofs.Common.{◌≡◌, ℕ, ◌+◌, ◌*◌, List, [], ◌∷◌, ◌++◌, length, length-append, refl, sym, ap, ◌∙◌, arith}
use Rattle.std.specs.Prelude.{map}
use Rattle.std.specs.List.{flat_map}
use Rattle.std.proofs.lemmas.List.{append-nil}
use Rattle.std.proofs.lemmas.List.Concat.{flat_map-append}
use Rattle.node_tree.specs.declared.node.Node.{Node, Node-F, roll-Node, fold_out-Node}
use Rattle.node_tree.specs.declared.kind.Kind.{Kind}
use Rattle.node_tree.specs.declared.kind.Kind.TheVariants as kinds
use Rattle.node_tree.specs.declared.span.Span.{Span}
use Rattle.node_tree.specs.Numbers.{count_of}
use Rattle.node_tree.specs.Tree.{pre_of, pre_all, kind_of, text_of, kids_of, span_of}
use Rattle.node_tree.proofs.Nodes.{made, made_kids, made_span}
use Rattle.node_tree.proofs.Trees.{pre_is}
use Rattle.node_pool.proofs.Induction.{Each, by_kids}
use Rattle.import_names.specs.Resolved.{leaf, attribute, attributes, instead, meant, meant_at, replaced, added}

-- ---- dotted names

abbrev pub attribute_text : List ℕ
attribute_text = 46 ∷ []

pub leaf_pre : (k : Kind) (text : List ℕ) (span : Span) → pre_of (leaf k text span) ≡ leaf k text span ∷ []
leaf_pre k text span = pre_is (leaf k text span) ∙ ap (λ ks. leaf k text span ∷ flat_map pre_of ks) (made_kids k text [] span)

pub attribute_pre : (object : Node) (name : List ℕ) (span : Span) → pre_of (attribute object name span) ≡ attribute object name span ∷ (pre_of object ++ (leaf kinds.Id name span ∷ []))
attribute_pre object name span =
    let a = attribute object name span in
    pre_is a ∙ ap (λ ks. a ∷ flat_map pre_of ks) (made_kids kinds.Attr attribute_text (object ∷ leaf kinds.Id name span ∷ []) span)
    ∙ ap (λ ms. a ∷ (pre_of object ++ (ms ++ []))) (leaf_pre kinds.Id name span)

attribute_count : (object : Node) (name : List ℕ) (span : Span) → count_of (attribute object name span) ≡ count_of object + 2
attribute_count object name span =
    let e = ap length (attribute_pre object name span) in
    omega (arith, e, length-append (pre_of object) (leaf kinds.Id name span ∷ []))

attributes_count : (object : Node) (names : List (List ℕ)) (span : Span) → count_of (attributes object names span) ≡ count_of object + 2 * length names
attributes_count object [] span = omega arith
attributes_count object (name ∷ names) span = omega (arith, attributes_count (attribute object name span) names span, attribute_count object name span)

attributes_span : (object : Node) (names : List (List ℕ)) (span : Span) → span_of object ≡ span → span_of (attributes object names span) ≡ span
attributes_span object [] span e = e
attributes_span object (name ∷ names) span e = attributes_span (attribute object name span) names span (made_span kinds.Attr attribute_text (object ∷ leaf kinds.Id name span ∷ []) span)

pub instead_span : (parts : List (List ℕ)) (n : Node) → span_of (instead parts n) ≡ span_of n
instead_span [] n = refl
instead_span (name ∷ names) n = attributes_span (leaf kinds.Name name (span_of n)) names (span_of n) (made_span kinds.Name name [] (span_of n))

instead_count : (name : List ℕ) (names : List (List ℕ)) (n : Node) → count_of (instead (name ∷ names) n) ≡ 1 + 2 * length names
instead_count name names n =
    let one = ap length (leaf_pre kinds.Name name (span_of n)) in
    omega (arith, attributes_count (leaf kinds.Name name (span_of n)) names (span_of n), one)

-- ---- what is replaced

module _ (means : List ℕ → List (List ℕ)) where
  meant_kids : (k : Kind) (text : List ℕ) (f : Node → Node) (ks : List Node) → meant means k text (map f ks) ≡ meant means k text ks
  meant_kids kinds.Name text f [] = refl
  meant_kids kinds.Name text f (x ∷ xs) = refl
  meant_kids _ text f ks = refl

  no_kids : (k : Kind) (text : List ℕ) (ks : List Node) (name : List ℕ) (names : List (List ℕ)) → meant means k text ks ≡ name ∷ names → ks ≡ []
  no_kids kinds.Name text [] name names e = refl
  no_kids kinds.Name text (x ∷ xs) name names e = absurd cc
  no_kids _ text ks name names e = absurd cc

  -- a node with its kids replaced
  abbrev pub around : Node → Node
  around n = roll-Node (made (kind_of n) (text_of n) (map (replaced means) (kids_of n)) (span_of n))

  abbrev step : Node-F Node → Node
  step x = instead (meant means x.kind x.text x.kids) (roll-Node (record { kind = x.kind; text = x.text; kids = x.kids; span = x.span }))

  pub replaced_is : (n : Node) → replaced means n ≡ instead (meant_at means n) (around n)
  unfolding replaced
  replaced_is n = fold_out-Node Node step n ∙ ap (λ parts. instead parts (around n)) (meant_kids (kind_of n) (text_of n) (replaced means) (kids_of n))

  around_span : (n : Node) → span_of (around n) ≡ span_of n
  around_span n = made_span (kind_of n) (text_of n) (map (replaced means) (kids_of n)) (span_of n)

  pub replaced_span : (n : Node) → span_of (replaced means n) ≡ span_of n
  replaced_span n = ap span_of (replaced_is n) ∙ instead_span (meant_at means n) (around n) ∙ around_span n

  pub stays : (n : Node) → meant_at means n ≡ [] → replaced means n ≡ around n
  stays n e = replaced_is n ∙ ap (λ parts. instead parts (around n)) e

  pub becomes : (n : Node) (name : List ℕ) (names : List (List ℕ)) → meant_at means n ≡ name ∷ names → replaced means n ≡ attributes (leaf kinds.Name name (span_of n)) names (span_of n)
  becomes n name names e = replaced_is n ∙ ap (λ parts. instead parts (around n)) e ∙ ap (λ span. attributes (leaf kinds.Name name span) names span) (around_span n)

  -- the nodes that a node becomes, but for what is below it and stays
  abbrev pub turned : List (List ℕ) → Node → List Node
  turned [] r = r ∷ []
  turned (name ∷ names) r = pre_of r

  abbrev pub turns : Node → List Node
  turns n = turned (meant_at means n) (replaced means n)

  abbrev Spreads : Node → Type 0
  Spreads n = pre_of (replaced means n) ≡ flat_map turns (pre_of n)

  each_spreads : (ks : List Node) → Each Spreads ks → flat_map pre_of (map (replaced means) ks) ≡ flat_map turns (pre_all ks)
  each_spreads [] each = refl
  each_spreads (k ∷ ks) each =
      ap (λ ms. ms ++ flat_map pre_of (map (replaced means) ks)) each.0 ∙ ap (λ ms. flat_map turns (pre_of k) ++ ms) (each_spreads ks each.1)
      ∙ sym (flat_map-append turns (pre_of k) (pre_all ks))

  spreads_by : (n : Node) (parts : List (List ℕ)) → meant_at means n ≡ parts → Each Spreads (kids_of n) → Spreads n
  spreads_by n [] e each =
      let r = replaced means n in
      pre_is r ∙ ap (λ ks. r ∷ flat_map pre_of ks) (ap kids_of (stays n e) ∙ made_kids (kind_of n) (text_of n) (map (replaced means) (kids_of n)) (span_of n))
      ∙ ap (λ ms. r ∷ ms) (each_spreads (kids_of n) each)
      ∙ ap (λ parts. turned parts r ++ flat_map turns (pre_all (kids_of n))) (sym e)
      ∙ ap (flat_map turns) (sym (pre_is n))
  spreads_by n (name ∷ names) e each =
      let r = replaced means n in
      sym (append-nil (pre_of r))
      ∙ ap (λ parts. turned parts r ++ []) (sym e)
      ∙ ap (λ ks. flat_map turns (n ∷ pre_all ks)) (sym (no_kids (kind_of n) (text_of n) (kids_of n) name names e))
      ∙ ap (flat_map turns) (sym (pre_is n))

  -- the nodes of the replaced tree
  pub spreads : (n : Node) → pre_of (replaced means n) ≡ flat_map turns (pre_of n)
  spreads = by_kids Spreads (λ n each. spreads_by n (meant_at means n) refl each)

  many_by : (n : Node) (parts : List (List ℕ)) → meant_at means n ≡ parts → length (turned parts (replaced means n)) ≡ 1 + added parts
  many_by n [] e = omega arith
  many_by n (name ∷ names) e =
      let c = ap count_of (replaced_is n ∙ ap (λ parts. instead parts (around n)) e) in
      omega (arith, c, instead_count name names (around n))

  pub many : (n : Node) → length (turns n) ≡ 1 + added (meant_at means n)
  many n = many_by n (meant_at means n) refl
