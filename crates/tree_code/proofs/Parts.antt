-- A tree's bytes, part by part.
use Rattle.std.proofs.Common.{◌≡◌, ℕ, suc, ◌+◌, ◌<◌, List, [], ◌∷◌, ◌++◌, length, take, map, get_or, refl, sym, ap, ◌∙◌, append_assoc}
use Rattle.std.specs.List.{flat_map}
use Rattle.std.proofs.lemmas.Grind.{flat_map-append}
use Rattle.std.proofs.lemmas.List.{take_more, append-nil, length-map}
use Rattle.node_tree.specs.declared.node.Node.{Node}
use Rattle.node_tree.specs.Tree.{kind_of, text_of, kids_of, span_of, content_of, content_is, content_kind, no_span}
use Rattle.node_tree.proofs.Nodes.{made_kind, made_text, made_kids, made_span}
use Rattle.tree_code.specs.declared.look.Look.{Look}
use Rattle.tree_code.specs.declared.look.Look.TheVariants.{Whole, Content}
use Rattle.tree_code.specs.Code.{number_code, text_code, place_code, tree_code, tree_code_is}
use Rattle.tree_code.specs.Looks.{seen_by}

-- ---- a node as it is looked at

pub content_kind_is : (n : Node) → kind_of (content_of n) ≡ content_kind (kind_of n)
content_kind_is n = ap kind_of (content_is n) ∙ made_kind (content_kind (kind_of n)) (text_of n) (map content_of (kids_of n)) no_span

pub content_span_is : (n : Node) → span_of (content_of n) ≡ no_span
content_span_is n = ap span_of (content_is n) ∙ made_span (content_kind (kind_of n)) (text_of n) (map content_of (kids_of n)) no_span

seen_text : (look : Look) (n : Node) → text_of (seen_by look n) ≡ text_of n
seen_text Whole n = refl
seen_text Content n = ap text_of (content_is n) ∙ made_text (content_kind (kind_of n)) (text_of n) (map content_of (kids_of n)) no_span

seen_kids : (look : Look) (n : Node) → kids_of (seen_by look n) ≡ map (seen_by look) (kids_of n)
seen_kids Whole n = sym (same (kids_of n))
  where
    same : (ns : List Node) → map (λ (m : Node). m) ns ≡ ns
    same [] = refl
    same (m ∷ ms) = ap (λ (xs : List Node). m ∷ xs) (same ms)
seen_kids Content n = ap kids_of (content_is n) ∙ made_kids (content_kind (kind_of n)) (text_of n) (map content_of (kids_of n)) no_span

-- ---- bytes

-- the bytes of some kids
abbrev pub kids_code : Look → List Node → List ℕ
kids_code look ns = flat_map (λ (n : Node). tree_code (seen_by look n)) ns

flattened : (look : Look) (ns : List Node) → flat_map (λ (k : List ℕ). k) (map tree_code (map (seen_by look) ns)) ≡ kids_code look ns
flattened look [] = refl
flattened look (n ∷ ns) = ap (λ (xs : List ℕ). tree_code (seen_by look n) ++ xs) (flattened look ns)

counted : (look : Look) (ns : List Node) → length (map tree_code (map (seen_by look) ns)) ≡ length ns
counted look [] = refl
counted look (n ∷ ns) = ap (λ (k : ℕ). suc k) (counted look ns)

-- the place of a node as it is looked at
abbrev pub place_of : Look → Node → List ℕ
place_of look n = place_code (kind_of (seen_by look n)) (span_of (seen_by look n))

-- a tree as it is looked at: its place, the text, the number of kids, and these
pub tree_parts : (look : Look) (n : Node) → tree_code (seen_by look n) ≡ place_of look n ++ (text_code (text_of n) ++ (number_code (length (kids_of n)) ++ kids_code look (kids_of n)))
tree_parts look n =
    tree_code_is (seen_by look n)
    ∙ ap (λ (t : List ℕ). place_of look n ++ (text_code t ++ (number_code (length (map tree_code (kids_of (seen_by look n)))) ++ flat_map (λ (k : List ℕ). k) (map tree_code (kids_of (seen_by look n)))))) (seen_text look n)
    ∙ ap (λ (ns : List Node). place_of look n ++ (text_code (text_of n) ++ (number_code (length (map tree_code ns)) ++ flat_map (λ (k : List ℕ). k) (map tree_code ns)))) (seen_kids look n)
    ∙ ap (λ (k : ℕ). place_of look n ++ (text_code (text_of n) ++ (number_code k ++ flat_map (λ (k : List ℕ). k) (map tree_code (map (seen_by look) (kids_of n)))))) (counted look (kids_of n))
    ∙ ap (λ (xs : List ℕ). place_of look n ++ (text_code (text_of n) ++ (number_code (length (kids_of n)) ++ xs))) (flattened look (kids_of n))

-- one kid more
pub kids_more : (look : Look) (ns : List Node) (i : ℕ) (n : Node) → i < length ns → n ≡ get_or ns i n → kids_code look (take (i + 1) ns) ≡ kids_code look (take i ns) ++ tree_code (seen_by look n)
kids_more look ns i n lt is =
    ap (kids_code look) (take_more ns i n lt ∙ ap (λ (m : Node). take i ns ++ m ∷ []) (sym is)) ∙ flat_map-append (λ (n : Node). tree_code (seen_by look n)) (take i ns) (n ∷ [])
    ∙ ap (λ (xs : List ℕ). kids_code look (take i ns) ++ xs) (append-nil (tree_code (seen_by look n)))

-- what was written in four steps
pub put_together : (old place text count kids n1 n2 n3 n4 code : List ℕ) → n1 ≡ old ++ place → n2 ≡ n1 ++ text → n3 ≡ n2 ++ count → n4 ≡ n3 ++ kids → code ≡ place ++ (text ++ (count ++ kids)) → n4 ≡ old ++ code
put_together old place text count kids n1 n2 n3 n4 code e1 e2 e3 e4 ec =
    e4 ∙ ap (λ (x : List ℕ). x ++ kids) (e3 ∙ ap (λ (x : List ℕ). x ++ count) (e2 ∙ ap (λ (x : List ℕ). x ++ text) e1)) ∙ joined ∙ ap (λ (x : List ℕ). old ++ x) (sym ec)
  where
    joined : (((old ++ place) ++ text) ++ count) ++ kids ≡ old ++ (place ++ (text ++ (count ++ kids)))
    joined = simp append_assoc
