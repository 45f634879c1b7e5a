-- The spans of a tree in which names are replaced.
use Rattle.std.proofs.Common.{◌≡◌, ℕ, List, [], ◌∷◌, ◌++◌, refl, sym, subst}
use Rattle.std.specs.Prelude.{map, All}
use Rattle.std.proofs.lemmas.List.Elements.{All-nil, All-cons, All-head, All-tail}
use Rattle.node_tree.specs.declared.node.Node.{Node}
use Rattle.node_tree.specs.declared.kind.Kind.{Kind}
use Rattle.node_tree.specs.declared.kind.Kind.TheVariants as kinds
use Rattle.node_tree.specs.declared.span.Span.{Span}
use Rattle.node_tree.specs.Span.{LiesIn}
use Rattle.node_tree.specs.Spans.{SpansLieIn}
use Rattle.node_tree.specs.Tree.{pre_of, pre_all, kind_of, text_of, kids_of, span_of}
use Rattle.node_tree.proofs.Nodes.{made_kids, made_span}
use Rattle.node_tree.proofs.SpanLaws.{AllLieIn, none_lie, more_lie, node_lies}
use Rattle.node_tree.proofs.Trees.{pre_is}
use Rattle.node_pool.proofs.Induction.{Each, by_kids}
use Rattle.import_names.specs.Resolved.{leaf, attribute, attributes, meant_at, replaced}
use Rattle.import_names.proofs.Replacing.{attribute_text, around, stays, becomes}

all_left : {X : Type 0} (P : X → Type 0) (xs ys : List X) → All P (xs ++ ys) → All P xs
all_left P [] ys h = All-nil P
all_left P (x ∷ xs) ys h = All-cons P x xs (All-head P x (xs ++ ys) h) (all_left P xs ys (All-tail P x (xs ++ ys) h))

all_right : {X : Type 0} (P : X → Type 0) (xs ys : List X) → All P (xs ++ ys) → All P ys
all_right P [] ys h = h
all_right P (x ∷ xs) ys h = all_right P xs ys (All-tail P x (xs ++ ys) h)

module _ (text : List ℕ) where
  abbrev Lies : Node → Type 0
  Lies n = LiesIn text (span_of n)

  abbrev at_span : Span → Type 0
  at_span span = LiesIn text span

  abbrev all_lie : List Node → Type 0
  all_lie ks = AllLieIn text ks

  leaf_lies : (k : Kind) (name : List ℕ) (span : Span) → LiesIn text span → SpansLieIn text (leaf k name span)
  leaf_lies k name span h = node_lies text (leaf k name span) (subst at_span (sym (made_span k name [] span)) h) (subst all_lie (sym (made_kids k name [] span)) (none_lie text))

  attributes_lie : (object : Node) (names : List (List ℕ)) (span : Span) → LiesIn text span → SpansLieIn text object → SpansLieIn text (attributes object names span)
  attributes_lie object [] span h o = o
  attributes_lie object (name ∷ names) span h o =
      let parts = object ∷ leaf kinds.Id name span ∷ [] in
      attributes_lie (attribute object name span) names span h (node_lies text (attribute object name span)
      (subst at_span (sym (made_span kinds.Attr attribute_text parts span)) h)
      (subst all_lie (sym (made_kids kinds.Attr attribute_text parts span)) (more_lie text object (leaf kinds.Id name span ∷ []) o (more_lie text (leaf kinds.Id name span) [] (leaf_lies kinds.Id name span h) (none_lie text)))))

  module _ (means : List ℕ → List (List ℕ)) where
    abbrev Still : Node → Type 0
    Still n = SpansLieIn text n → SpansLieIn text (replaced means n)

    each_still : (ks : List Node) → Each Still ks → AllLieIn text ks → AllLieIn text (map (replaced means) ks)
    each_still [] each h = none_lie text
    each_still (k ∷ ks) each h = more_lie text (replaced means k) (map (replaced means) ks) (each.0 (all_left Lies (pre_of k) (pre_all ks) h)) (each_still ks each.1 (all_right Lies (pre_of k) (pre_all ks) h))

    still_by : (n : Node) (parts : List (List ℕ)) → meant_at means n ≡ parts → Each Still (kids_of n) → LiesIn text (span_of n) → AllLieIn text (kids_of n) → SpansLieIn text (replaced means n)
    still_by n [] e each own kids =
        subst (SpansLieIn text) (sym (stays means n e)) (node_lies text (around means n)
        (subst at_span (sym (made_span (kind_of n) (text_of n) (map (replaced means) (kids_of n)) (span_of n))) own)
        (subst all_lie (sym (made_kids (kind_of n) (text_of n) (map (replaced means) (kids_of n)) (span_of n))) (each_still (kids_of n) each kids)))
    still_by n (name ∷ names) e each own kids =
        subst (SpansLieIn text) (sym (becomes means n name names e)) (attributes_lie (leaf kinds.Name name (span_of n)) names (span_of n) own (leaf_lies kinds.Name name (span_of n) own))

    -- the spans of the replaced tree lie where those of the tree do
    pub replaced_lies : (n : Node) → SpansLieIn text n → SpansLieIn text (replaced means n)
    replaced_lies = by_kids Still (λ n each h.
        let all : All Lies (n ∷ pre_all (kids_of n)) = subst (λ (ns : List Node). All Lies ns) (pre_is n) h in
        still_by n (meant_at means n) refl each (All-head Lies n (pre_all (kids_of n)) all) (All-tail Lies n (pre_all (kids_of n)) all))
