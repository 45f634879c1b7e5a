-- What keys tell of pairs.
use Rattle.std.proofs.Common.{◌≡◌, ◌∙◌, ℕ, List, [], ◌++◌, length, refl, sym, ap, subst, Bool, true, false, cond, ◌∷◌, arith}
use Rattle.std.specs.Prelude.{Option, None, Some, ◌&&◌}
use Rattle.std.specs.Str.{bytes_eq}
use Rattle.std.specs.declared.cmp.Ordering.{Ordering}
use Rattle.std.specs.declared.cmp.Ordering.TheVariants.{Less, Equal, Greater}
use Rattle.std.specs.Ordering.{nat_cmp, ordering_then, is_eq}
use Rattle.std.specs.Cmp.{IsTotalOrder}
use Rattle.std.specs.Cmp.Lexicographic.{slice_cmp, bytes_decides}
use Rattle.std.specs.BTreeMap.{get}
use Rattle.std.proofs.lemmas.Cmp.{ranked, tied_itself, alike_right, on_total, then_total, nat_cmp_total, nat_list_cmp_total}
use Rattle.std.proofs.lemmas.Map.Text.{is_eq-slice_cmp}
use denote.Enum.Bare.{tag_one}
use denote.Enum.Declared.{tag_of}
use Rattle.node_tree.specs.declared.node.Node.{Node}
use Rattle.node_tree.specs.declared.view.Lang.{Lang}
use Rattle.node_tree.specs.declared.view.Shape.{Shape}
use Rattle.node_tree.specs.declared.view.Pattern.{Pattern}
use Rattle.node_tree.specs.contracts.view.Lang.{the_type as the_langs}
use Rattle.node_tree.specs.contracts.view.Shape.{the_type as the_shapes}
use Rattle.tree_code.specs.Code.{tree_code}
use Rattle.tree_code.proofs.Telling.{tree_tells}
use Rattle.piece_form.specs.Code.{lang_place, bool_place, pattern_code, piece_code}
use Rattle.piece_form.specs.Identity.{Identity}
use Rattle.piece_form.specs.Keys.{IsPatternKeyOf}
use Rattle.piece_form.proofs.Telling.{keys_tell}
use Rattle.piece_store.specs.declared.table.Table.{Table}
use Rattle.piece_store.specs.Kept.{answer_of, by_number, row_answer}
use Rattle.piece_store.specs.Slots.{slot, row_slot}
use Rattle.piece_store.specs.Views.{at, met_by, table_slot}
use Rattle.piece_store.proofs.ByNumber.{same_found, by_numbers}
use Rattle.kept_leaves.specs.declared.leaf.KeptLeaf.{KeptLeaf}
use Rattle.kept_leaves.specs.Kept.{PieceRef, PatternRef, Map, Leaves, kept_in, piece_cmp, pattern_cmp, AreKeys}
use Rattle.kept_leaves.specs.declared.leaf.OpenLeaves.{OpenLeaves}
use Rattle.kept_leaves.specs.Opened.{open_map}
use Rattle.open_store.specs.declared.held.HeldRow.{HeldRow}
use Rattle.open_store.specs.InHand.{with_rows}
use Rattle.kept_leaves.specs.Pairs.{Pair, IsSamePair}

-- ---- orders

pub piece_total : IsTotalOrder piece_cmp
piece_total =
    then_total (on_total (λ (a : PieceRef). a.value.size) nat_cmp_total)
    (then_total (on_total (λ (a : PieceRef). a.value.bytes.items) nat_list_cmp_total) (on_total (λ (a : PieceRef). a.value.code.items) nat_list_cmp_total))

pub pattern_total : IsTotalOrder pattern_cmp
pattern_total = then_total (on_total (λ (b : PatternRef). b.value.sum) nat_cmp_total) (on_total (λ (b : PatternRef). b.value.code.items) nat_list_cmp_total)

both_equal : (r s : Ordering) → ordering_then r s ≡ Equal → (r ≡ Equal) × (s ≡ Equal)
both_equal Less s e = absurd cc
both_equal Equal s e = (refl, e)
both_equal Greater s e = absurd cc

-- each part of equal keys is equal
pub parts_equal : (a b : PieceRef) → piece_cmp a b ≡ Equal → (a.value.size ≡ b.value.size) × (slice_cmp nat_cmp a.value.bytes.items b.value.bytes.items ≡ Equal) × (slice_cmp nat_cmp a.value.code.items b.value.code.items ≡ Equal)
parts_equal a b e =
    let bytes : Ordering = slice_cmp nat_cmp a.value.bytes.items b.value.bytes.items in
    let code : Ordering = slice_cmp nat_cmp a.value.code.items b.value.code.items in
    let all = both_equal (nat_cmp a.value.size b.value.size) (ordering_then bytes code) e in
    let rest = both_equal bytes code all.1 in
    (ranked a.value.size b.value.size Equal (sym all.0), rest.0, rest.1)

size_tied : (m n : ℕ) → m ≡ n → nat_cmp m n ≡ Equal
size_tied m n e = let P : ℕ → Type 0 = λ k. nat_cmp m k ≡ Equal in subst P e (tied_itself nat_cmp_total m)

pub text_one : (xs ys : List ℕ) → slice_cmp nat_cmp xs ys ≡ Equal → xs ≡ ys
text_one xs ys e = (bytes_decides xs ys).0 (sym (is_eq-slice_cmp xs ys) ∙ ap is_eq e)

text_tied : (xs ys : List ℕ) → xs ≡ ys → slice_cmp nat_cmp xs ys ≡ Equal
text_tied xs ys e = let P : List ℕ → Type 0 = λ zs. slice_cmp nat_cmp xs zs ≡ Equal in subst P e (tied_itself nat_list_cmp_total xs)

-- ---- patterns with equal codes

same_bool : (a b : Bool) → bool_place a ≡ bool_place b → a ≡ b
same_bool true true e = refl
same_bool true false e = absurd (omega (arith, e))
same_bool false true e = absurd (omega (arith, e))
same_bool false false e = refl

-- patterns of which the same is written are equal
pub pattern_tells : (p q : Pattern) → pattern_code p ≡ pattern_code q → p ≡ q
pattern_tells p q e =
    let lang : lang_place p.lang ≡ lang_place q.lang = cc in
    let shape : tag_of the_shapes p.shape ≡ tag_of the_shapes q.shape = cc in
    let constants : bool_place p.constants ≡ bool_place q.constants = cc in
    let code : tree_code p.tree ≡ tree_code q.tree = cc in
    let tree = tree_tells p.tree q.tree [] [] (ap (λ (c : List ℕ). c ++ []) code) in
    let langs = tag_one the_langs tt p.lang q.lang lang in
    let shapes = tag_one the_shapes tt p.shape q.shape shape in
    ap (λ (x : Lang). record { lang = x; shape = p.shape; tree = p.tree; constants = p.constants }) langs
    ∙ ap (λ (x : Shape). record { lang = q.lang; shape = x; tree = p.tree; constants = p.constants }) shapes
    ∙ ap (λ (x : Node). record { lang = q.lang; shape = q.shape; tree = x; constants = p.constants }) tree.0
    ∙ ap (λ (x : Bool). record { lang = q.lang; shape = q.shape; tree = q.tree; constants = x }) (same_bool p.constants q.constants constants)

-- ---- keys of pairs

module _ (x y : Pair) (a : PieceRef) (b : PatternRef) (keys : AreKeys x a b) where
  -- a pair that counts as one with this has the same keys
  pub keys_of_same : IsSamePair x y → AreKeys y a b
  keys_of_same same = record {
    of_piece = record {
      size = keys.of_piece.size ∙ ap (λ (i : Identity). length i.bytes) same.piece;
      bytes = keys.of_piece.bytes ∙ ap (λ (i : Identity). i.bytes) same.piece;
      code = keys.of_piece.code ∙ ap piece_code same.piece;
    };
    of_pattern = (let P : Pattern → Type 0 = λ p. IsPatternKeyOf p b.value in subst P same.pattern keys.of_pattern);
  }

  module _ (c : PieceRef) (d : PatternRef) (its : AreKeys y c d) where
    -- keys of pairs that count as one are equal
    pub tied : IsSamePair x y → (piece_cmp a c ≡ Equal) × (pattern_cmp b d ≡ Equal)
    tied same =
        let k = keys_of_same same in
        let bytes = text_tied a.value.bytes.items c.value.bytes.items (k.of_piece.bytes ∙ sym its.of_piece.bytes) in
        let code = text_tied a.value.code.items c.value.code.items (k.of_piece.code ∙ sym its.of_piece.code) in
        let size = size_tied a.value.size c.value.size (k.of_piece.size ∙ sym its.of_piece.size) in
        let rest : Ordering = slice_cmp nat_cmp a.value.code.items c.value.code.items in
        let all : Ordering = ordering_then (slice_cmp nat_cmp a.value.bytes.items c.value.bytes.items) rest in
        let written : Ordering = slice_cmp nat_cmp b.value.code.items d.value.code.items in
        let sum = size_tied b.value.sum d.value.sum (k.of_pattern.sum ∙ sym its.of_pattern.sum) in
        let same_code = text_tied b.value.code.items d.value.code.items (k.of_pattern.code ∙ sym its.of_pattern.code) in
        (ap (λ (o : Ordering). ordering_then o all) size ∙ ap (λ (o : Ordering). ordering_then o rest) bytes ∙ code, ap (λ (o : Ordering). ordering_then o written) sum ∙ same_code)

    -- pairs with equal keys count as one
    pub told : x.path ≡ y.path → piece_cmp a c ≡ Equal → pattern_cmp b d ≡ Equal → IsSamePair x y
    told path e f =
        let parts = parts_equal a c e in
        let code = both_equal (nat_cmp b.value.sum d.value.sum) (slice_cmp nat_cmp b.value.code.items d.value.code.items) f in
        record {
          path = path;
          piece = keys_tell x.piece y.piece a.value c.value keys.of_piece its.of_piece (text_one a.value.bytes.items c.value.bytes.items parts.1) (text_one a.value.code.items c.value.code.items parts.2);
          pattern = pattern_tells x.pattern y.pattern (sym keys.of_pattern.code ∙ text_one b.value.code.items d.value.code.items code.1 ∙ its.of_pattern.code);
        }

-- ---- equal keys find the same

slot_alike : (t : Option (Table PieceRef KeptLeaf)) (a c : PieceRef) (i : ℕ) → piece_cmp a c ≡ Equal → table_slot piece_cmp t a i ≡ table_slot piece_cmp t c i
slot_alike None a c i e = refl
slot_alike (Some table) a c i e = ap (λ (r : _). met_by table.met (row_slot r i)) (same_found piece_cmp piece_total a c e table.rows.entries)

-- keys that are equal find the same
abbrev pub IsAlike : Map → Type 0
IsAlike map = (path : List ℕ) (a c : PieceRef) (b d : PatternRef) → piece_cmp a c ≡ Equal → pattern_cmp b d ≡ Equal → map path a b ≡ map path c d

pub store_alike : (store : Leaves) → IsAlike (kept_in store)
store_alike store path a c b d e f =
    ap (by_number (λ i. answer_of store.empty (at piece_cmp store.shelf path a i))) (same_found pattern_cmp pattern_total b d f store.numbers.entries)
    ∙ by_numbers (λ i. answer_of store.empty (at piece_cmp store.shelf path a i)) (λ i. answer_of store.empty (at piece_cmp store.shelf path c i)) (λ i. ap (answer_of store.empty) (slot_alike _ a c i e)) (get pattern_cmp store.numbers d)

-- the same of rows in hand
module _ (leaves : OpenLeaves) where
  abbrev seen : List (HeldRow PieceRef KeptLeaf) → Map
  seen rows = with_rows piece_cmp pattern_cmp leaves.store.store leaves.store.path rows

  rows_alike : (path : List ℕ) (a c : PieceRef) (b d : PatternRef) → piece_cmp a c ≡ Equal → pattern_cmp b d ≡ Equal → (rows : List (HeldRow PieceRef KeptLeaf)) → seen rows path a b ≡ seen rows path c d
  rows_alike path a c b d e f [] = store_alike leaves.store.store path a c b d e f
  rows_alike path a c b d e f (r ∷ rs) =
      let store = leaves.store.store in
      let own = bytes_eq leaves.store.path path in
      ap (λ (o : Ordering). cond (own && is_eq o) (row_answer pattern_cmp store r.row b) (seen rs path a b)) (alike_right piece_total a c r.piece e)
      ∙ ap (λ (n : Option ℕ). cond (own && is_eq (piece_cmp r.piece c)) (by_number (λ i. answer_of store.empty (slot r.row i)) n) (seen rs path a b)) (same_found pattern_cmp pattern_total b d f store.numbers.entries)
      ∙ ap (λ (x : Option (KeptLeaf × Bool)). cond (own && is_eq (piece_cmp r.piece c)) (row_answer pattern_cmp store r.row d) x) (rows_alike path a c b d e f rs)

  pub open_alike : IsAlike (open_map leaves)
  open_alike path a c b d e f = rows_alike path a c b d e f leaves.store.rows.items
