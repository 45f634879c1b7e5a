-- Trees that are moved node by node.
use Rattle.std.proofs.Common.{◌≡◌, ℕ, ◌+◌, ◌-◌, ◌<◌, ◌≤◌, List, [], ◌∷◌, ◌++◌, length, map, refl, sym, ap, ◌∙◌, append_assoc, length-append, arith}
use Rattle.std.specs.List.{flat_map}
use Rattle.std.proofs.lemmas.List.{append-nil}
use Rattle.std.proofs.lemmas.Grind.{flat_map-append}
use Rattle.node_tree.specs.declared.node.Node.{Node}
use Rattle.node_tree.specs.Order.{kind_place}
use Rattle.node_tree.specs.Tree.{kind_of, text_of, kids_of, span_of}
use Rattle.tree_code.specs.Code.{number_code, text_code, tree_code}
use Rattle.tree_code.proofs.Telling.{laid_is}
use Rattle.piece_form.specs.Code.{known_code}
use Rattle.store_form.specs.Form.{node_bytes, head_bytes, head_of, number_bytes, text_bytes, kind_bytes}
use Rattle.store_form.proofs.NodeLaws.{node_parts}
use Rattle.store_file.specs.Pieces.{known_bytes}

-- these trees are left to be moved of one
pub record Left (start out : List ℕ) (nodes : ℕ) (rest now : List ℕ) (n : Node) (r : List ℕ) : Type 0 where
  pub forest : List Node
  pub many : length forest ≡ nodes
  pub codes : rest ≡ flat_map tree_code forest ++ r
  pub bytes : out ++ node_bytes n ≡ now ++ flat_map node_bytes forest

pub left_first : (start out : List ℕ) (n : Node) (r : List ℕ) → start ≡ tree_code n ++ r → Left start out 1 start out n r
left_first start out n r e = record {
  forest = n ∷ [];
  many = refl;
  codes = e ∙ ap (λ (v : List ℕ). v ++ r) (sym (append-nil (tree_code n)));
  bytes = ap (λ (v : List ℕ). out ++ v) (sym (append-nil (node_bytes n)));
}

-- a tree: what stands before its kids, and these
code_parts : (n : Node) (r : List ℕ) → tree_code n ++ r ≡ kind_place (kind_of n) ∷ (number_code (span_of n).from ++ (number_code (span_of n).to ++ (text_code (text_of n) ++ (number_code (length (kids_of n)) ++ (flat_map tree_code (kids_of n) ++ r)))))
code_parts n r =
    laid_is n r
    ∙ ap (λ (v : List ℕ). kind_place (kind_of n) ∷ v) (append_assoc (number_code (span_of n).from) (number_code (span_of n).to) (text_code (text_of n) ++ (number_code (length (kids_of n)) ++ (flat_map tree_code (kids_of n) ++ r))))

-- what is moved of a node before its kids
abbrev pub Moves : List ℕ → List ℕ → ℕ → List ℕ → List ℕ → Type 0
Moves rest now count rest' now' =
    (kind from to kids : ℕ) (text left : List ℕ) → rest ≡ kind ∷ (number_code from ++ (number_code to ++ (text_code text ++ (number_code kids ++ left)))) → (count ≡ kids) × (rest' ≡ left) × (now' ≡ now ++ (number_bytes kind ++ (text_bytes text ++ ((number_bytes from ++ number_bytes to) ++ number_bytes kids))))

moved_node : (rest now : List ℕ) (count : ℕ) (rest' now' : List ℕ) → Moves rest now count rest' now' → (m : Node) (r : List ℕ) → rest ≡ tree_code m ++ r → (count ≡ length (kids_of m)) × (rest' ≡ flat_map tree_code (kids_of m) ++ r) × (now' ≡ now ++ head_bytes (head_of m))
unfolding kind_bytes
moved_node rest now count rest' now' moves m r e =
    moves (kind_place (kind_of m)) (span_of m).from (span_of m).to (length (kids_of m)) (text_of m) (flat_map tree_code (kids_of m) ++ r) (e ∙ code_parts m r)

four_parts : (now head kids rest : List ℕ) → now ++ ((head ++ kids) ++ rest) ≡ (now ++ head) ++ (kids ++ rest)
four_parts now head kids rest = simp append_assoc

-- the first tree of a forest is moved, but for its kids
pub left_more : (start out : List ℕ) (nodes : ℕ) (rest now : List ℕ) (n : Node) (r : List ℕ) → Left start out nodes rest now n r → 0 < nodes → (count more : ℕ) (rest' now' : List ℕ) → Moves rest now count rest' now' → more ≡ nodes - 1 + count → Left start out more rest' now' n r
left_more start out nodes rest now n r l some count more rest' now' moves e = opens l.forest l.many l.codes l.bytes
  where
    opens : (forest : List Node) → length forest ≡ nodes → rest ≡ flat_map tree_code forest ++ r → out ++ node_bytes n ≡ now ++ flat_map node_bytes forest → Left start out more rest' now' n r
    opens [] many codes bytes = absurd (omega arith)
    opens (m ∷ ms) many codes bytes =
        let o = moved_node rest now count rest' now' moves m (flat_map tree_code ms ++ r) (codes ∙ append_assoc (tree_code m) (flat_map tree_code ms) r) in
        record {
          forest = kids_of m ++ ms;
          many = omega (arith, length-append (kids_of m) ms, o.0);
          codes = o.1 ∙ sym (append_assoc (flat_map tree_code (kids_of m)) (flat_map tree_code ms) r) ∙ ap (λ (v : List ℕ). v ++ r) (sym (flat_map-append tree_code (kids_of m) ms));
          bytes = bytes ∙ ap (λ (v : List ℕ). now ++ (v ++ flat_map node_bytes ms)) (node_parts m) ∙ four_parts now (head_bytes (head_of m)) (flat_map node_bytes (kids_of m)) (flat_map node_bytes ms)
              ∙ ap (λ (v : List ℕ). v ++ (flat_map node_bytes (kids_of m) ++ flat_map node_bytes ms)) (sym o.2) ∙ ap (λ (v : List ℕ). now' ++ v) (sym (flat_map-append node_bytes (kids_of m) ms));
        }

-- these known names are left to be moved of some
pub record NamesLeft (out : List ℕ) (done count : ℕ) (rest now : List ℕ) (ks : List (ℕ × Node)) (r : List ℕ) : Type 0 where
  pub names : List (ℕ × Node)
  pub many : length names + done ≡ count
  pub codes : rest ≡ known_code names ++ r
  pub bytes : out ++ flat_map known_bytes ks ≡ now ++ flat_map known_bytes names

pub names_first : (start out : List ℕ) (count : ℕ) (ks : List (ℕ × Node)) (r : List ℕ) → length ks ≡ count → start ≡ known_code ks ++ r → NamesLeft out 0 count start out ks r
names_first start out count ks r m e = record { names = ks; many = omega arith; codes = e; bytes = refl }

pub names_more : (out : List ℕ) (done count : ℕ) (rest now : List ℕ) (ks : List (ℕ × Node)) (r : List ℕ) → NamesLeft out done count rest now ks r → done < count → (at : ℕ) (rest1 now1 rest2 now2 : List ℕ)
    → ((n : ℕ) (left : List ℕ) → rest ≡ number_code n ++ left → (at ≡ n) × (rest1 ≡ left) × (now1 ≡ now ++ number_bytes n)) → ((n : Node) (left : List ℕ) → rest1 ≡ tree_code n ++ left → (rest2 ≡ left) × (now2 ≡ now1 ++ node_bytes n)) → NamesLeft out (done + 1) count rest2 now2 ks r
names_more out done count rest now ks r l lt at rest1 now1 rest2 now2 number tree = opens l.names l.many l.codes l.bytes
  where
    opens : (names : List (ℕ × Node)) → length names + done ≡ count → rest ≡ known_code names ++ r → out ++ flat_map known_bytes ks ≡ now ++ flat_map known_bytes names → NamesLeft out (done + 1) count rest2 now2 ks r
    opens [] many codes bytes = absurd (omega arith)
    opens (k ∷ names) many codes bytes =
        let a = number k.0 ((tree_code k.1 ++ known_code names) ++ r) (codes ∙ append_assoc (number_code k.0) (tree_code k.1 ++ known_code names) r) in
        let b = tree k.1 (known_code names ++ r) (a.1 ∙ append_assoc (tree_code k.1) (known_code names) r) in
        record {
          names = names;
          many = omega arith;
          codes = b.0;
          bytes = bytes ∙ four_parts now (number_bytes k.0) (node_bytes k.1) (flat_map known_bytes names) ∙ sym (append_assoc (now ++ number_bytes k.0) (node_bytes k.1) (flat_map known_bytes names))
              ∙ ap (λ (v : List ℕ). (v ++ node_bytes k.1) ++ flat_map known_bytes names) (sym a.2) ∙ ap (λ (v : List ℕ). v ++ flat_map known_bytes names) (sym b.1);
        }

-- where all are moved, nothing is left of them
pub names_end : (out : List ℕ) (done count : ℕ) (rest now : List ℕ) (ks : List (ℕ × Node)) (r : List ℕ) → NamesLeft out done count rest now ks r → count ≤ done → (rest ≡ r) × (now ≡ out ++ flat_map known_bytes ks)
names_end out done count rest now ks r l le = opens l.names l.many l.codes l.bytes
  where
    opens : (names : List (ℕ × Node)) → length names + done ≡ count → rest ≡ known_code names ++ r → out ++ flat_map known_bytes ks ≡ now ++ flat_map known_bytes names → (rest ≡ r) × (now ≡ out ++ flat_map known_bytes ks)
    opens [] many codes bytes = (codes, sym (append-nil now) ∙ sym bytes)
    opens (k ∷ names) many codes bytes = absurd (omega arith)

-- ---- what was added part by part

pub four_added : (o0 o1 o2 o3 o4 a b c d : List ℕ) → o0 ≡ [] → o1 ≡ o0 ++ a → o2 ≡ o1 ++ b → o3 ≡ o2 ++ c → o4 ≡ o3 ++ d → o4 ≡ a ++ (b ++ (c ++ d))
four_added o0 o1 o2 o3 o4 a b c d e0 e1 e2 e3 e4 =
    e4 ∙ ap (λ (v : List ℕ). v ++ d) (e3 ∙ ap (λ (v : List ℕ). v ++ c) (e2 ∙ ap (λ (v : List ℕ). v ++ b) (e1 ∙ ap (λ (v : List ℕ). v ++ a) e0))) ∙ regroup
  where
    regroup : ((a ++ b) ++ c) ++ d ≡ a ++ (b ++ (c ++ d))
    regroup = simp append_assoc
