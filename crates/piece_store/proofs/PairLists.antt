-- What the list of kept pairs has for a pair.
use Rattle.std.proofs.Common.{◌≡◌, ℕ, List, [], ◌∷◌, ◌++◌, refl, sym, ap, ◌∙◌, Bool, true, false, cond}
use Rattle.std.specs.Prelude.{Option, None, Some, IfSome, All, ◌&&◌, unwrap_or, String}
use Rattle.std.specs.List.{flat_map}
use Rattle.std.specs.List.Sorted.{IsStrictlySortedBy}
use Rattle.std.specs.declared.cmp.Ordering.{Ordering}
use Rattle.std.specs.declared.cmp.Ordering.TheVariants.{Less}
use Rattle.std.specs.Ordering.{is_eq, nat_cmp}
use Rattle.std.specs.Cmp.{IsTotalOrder}
use Rattle.std.specs.Cmp.Lexicographic.{slice_cmp}
use Rattle.std.specs.Str.{bytes_eq}
use Rattle.std.specs.String.{string_bytes}
use Rattle.std.specs.Map.{lookup, keys_of, values_of}
use Rattle.std.specs.BTreeMap.{BTreeMap, get, get_by_text, is_at, IsOrdered}
use Rattle.std.proofs.lemmas.Cmp.{nat_list_cmp_total}
use Rattle.std.proofs.lemmas.List.{append-nil}
use Rattle.std.proofs.lemmas.List.Elements.{All-nil, All-cons, All-head, All-tail}
use Rattle.std.proofs.lemmas.List.Folds.{flat_map-map}
use Rattle.std.proofs.lemmas.List.Concat.{flat_map-append}
use Rattle.std.proofs.lemmas.Map.Entries.{All-lookup}
use Rattle.std.proofs.lemmas.Map.Keys.{sorted_tail}
use Rattle.std.proofs.lemmas.Map.Views.{All-after_first}
use Rattle.std.proofs.lemmas.Map.Text.{is_eq-slice_cmp}
use Rattle.piece_store.specs.declared.row.Row.{Row}
use Rattle.piece_store.specs.declared.table.Met.{Met}
use Rattle.piece_store.specs.declared.table.Met.TheVariants as now
use Rattle.piece_store.specs.declared.table.Table.{Table}
use Rattle.piece_store.specs.Slots.{slot, row_slot}
use Rattle.piece_store.specs.Views.{met_by, table_slot}
use Rattle.piece_store.specs.Kept.{answer_of, by_number}
use Rattle.piece_store.specs.Listed.{with_slot, in_row, with_piece, in_table, with_path, in_tables, answers_for, kept_alone}
use Rattle.piece_store.proofs.ByNumber.{is_equal}

-- ---- what is found in order

-- what is made of what was found
abbrev from_found : {X A : Type 0} → (X → List A) → Option X → List A
from_found G None = []
from_found G (Some x) = G x

is_false : (b : Bool) → (b ≡ true → ⊥) → b ≡ false
is_false true h = absurd (h refl)
is_false false h = refl

module _ {K X A : Type 0} (R : K → K → Ordering) (test : K → Bool) (apart : (a b : K) → R a b ≡ Less → test a ≡ true → test b ≡ true → ⊥) (G : X → List A) where
  abbrev those : List (K × X) → List A
  those es = flat_map (λ e. cond (test e.0) (G e.1) []) es

  missing : (k : K) (es : List (K × X)) → test k ≡ true → All (λ q. R k q ≡ Less) (keys_of es) → those es ≡ []
  missing k [] t all = refl
  missing k (e ∷ es) t all =
      let f = is_false (test e.0) (λ u. apart k e.0 (All-head (λ q. R k q ≡ Less) e.0 (keys_of es) all) t u) in
      ap (λ (b : Bool). cond b (G e.1) [] ++ those es) f ∙ missing k es t (All-tail (λ q. R k q ≡ Less) e.0 (keys_of es) all)

  -- of keys in order one at most passes
  pick : (es : List (K × X)) → IsStrictlySortedBy R (keys_of es) → those es ≡ from_found G (lookup test es)
  pick [] up = refl
  pick (e ∷ es) up = by (test e.0) refl (pick es (sorted_tail R e.0 (keys_of es) up))
    where
      by : (b : Bool) → test e.0 ≡ b → those es ≡ from_found G (lookup test es) → those (e ∷ es) ≡ from_found G (lookup test (e ∷ es))
      by true t rest =
          ap (λ (b : Bool). cond b (G e.1) [] ++ those es) t ∙ ap (λ (xs : List A). G e.1 ++ xs) (missing e.0 es t (All-after_first R e.0 (keys_of es) up)) ∙ append-nil (G e.1)
          ∙ sym (ap (λ (b : Bool). from_found G (cond b (Some e.1) (lookup test es))) t)
      by false f rest = ap (λ (b : Bool). cond b (G e.1) [] ++ those es) f ∙ rest ∙ sym (ap (λ (b : Bool). from_found G (cond b (Some e.1) (lookup test es))) f)

module _ {K : Type 0} (R : K → K → Ordering) (total : IsTotalOrder R) (k : K) where
  key_apart : (a b : K) → R a b ≡ Less → is_eq (R k a) ≡ true → is_eq (R k b) ≡ true → ⊥
  key_apart a b less e f =
      let is : R k b ≡ Less = total.congr k a b (is_equal (R k a) e) ∙ less in
      let c : false ≡ true = sym (ap is_eq is) ∙ f in cc

-- ---- lists of lists

spread : {X Y A : Type 0} (f : X → List Y) (g : Y → List A) (xs : List X) → flat_map g (flat_map f xs) ≡ flat_map (λ x. flat_map g (f x)) xs
spread f g [] = refl
spread {A = A} f g (x ∷ xs) = flat_map-append g (f x) (flat_map f xs) ∙ ap (λ (ys : List A). flat_map g (f x) ++ ys) (spread f g xs)

flat_as : {X A : Type 0} (f g : X → List A) → ((x : X) → f x ≡ g x) → (xs : List X) → flat_map f xs ≡ flat_map g xs
flat_as f g h [] = refl
flat_as {A = A} f g h (x ∷ xs) = ap (λ (ys : List A). ys ++ flat_map f xs) (h x) ∙ ap (λ (ys : List A). g x ++ ys) (flat_as f g h xs)

gated : {X A : Type 0} (b : Bool) (f : X → List A) (xs : List X) → flat_map (λ x. cond b (f x) []) xs ≡ cond b (flat_map f xs) []
gated true f xs = refl
gated false f [] = refl
gated false f (x ∷ xs) = gated false f xs

both_gates : {A : Type 0} (b c : Bool) (xs : List A) → cond (b && c) xs [] ≡ cond b (cond c xs []) []
both_gates true c xs = refl
both_gates false c xs = refl

no_gate : {A : Type 0} (b : Bool) → let none : List A = [] in none ≡ cond b none none
no_gate true = refl
no_gate false = refl

-- what holds of the values holds of those of the entries
pub of_values : {K X : Type 0} (P : X → Type 0) (es : List (K × X)) → All P (values_of es) → All (λ e. P e.1) es
of_values P [] all = All-nil (λ e. P e.1)
of_values P (e ∷ es) all = All-cons (λ e. P e.1) e es (All-head P e.1 (values_of es) all) (of_values P es (All-tail P e.1 (values_of es) all))

-- ---- pairs

module _ {P Q V : Type 0} (R : P → P → Ordering) (S : Q → Q → Ordering) (of_pieces : IsTotalOrder R) (of_patterns : IsTotalOrder S) (empty : V) (path : List ℕ) (p : P) (q : Q) where
  abbrev value : Option (Option V × Bool) → List V
  value None = []
  value (Some k) = unwrap_or k.0 empty ∷ []

  abbrev at_pattern : Q × V → List V
  at_pattern y = cond (is_eq (S q y.0)) (y.1 ∷ []) []

  abbrev at_piece : P × Q × V → List V
  at_piece x = cond (is_eq (R p x.0) && is_eq (S q x.1)) (x.2 ∷ []) []

  slot_gate : (r : Q) (k : Option (Option V × Bool)) → flat_map at_pattern (with_slot empty r k) ≡ cond (is_eq (S q r)) (value k) []
  slot_gate r None = no_gate (is_eq (S q r))
  slot_gate r (Some k) = append-nil (cond (is_eq (S q r)) (unwrap_or k.0 empty ∷ []) [])

  piece_gate : (r : P) (ys : List (Q × V)) → flat_map at_piece (with_piece r ys) ≡ cond (is_eq (R p r)) (flat_map at_pattern ys) []
  piece_gate r ys =
      flat_map-map at_piece (λ (y : Q × V). (r, y.0, y.1)) ys
      ∙ flat_as _ _ (λ (y : Q × V). both_gates (is_eq (R p r)) (is_eq (S q y.0)) (y.1 ∷ [])) ys
      ∙ gated (is_eq (R p r)) at_pattern ys

  path_gate : (o : List ℕ) (xs : List (P × Q × V)) → answers_for R S path p q (with_path o xs) ≡ cond (bytes_eq path o) (flat_map at_piece xs) []
  path_gate o xs =
      flat_map-map _ _ xs
      ∙ flat_as _ _ (λ (x : P × Q × V). both_gates (bytes_eq path o) (is_eq (R p x.0) && is_eq (S q x.1)) (x.2 ∷ [])) xs
      ∙ gated (bytes_eq path o) at_piece xs

  module _ (numbers : BTreeMap Q ℕ) (sorted : IsOrdered S numbers) where
    abbrev in_slots : Row V → Option ℕ → List V
    in_slots row = from_found (λ (i : ℕ). value (slot row i))

    row_values : (row : Row V) → flat_map at_pattern (in_row empty row numbers.entries) ≡ in_slots row (get S numbers q)
    row_values row =
        spread (λ (e : Q × ℕ). with_slot empty e.0 (slot row e.1)) at_pattern numbers.entries
        ∙ flat_as _ _ (λ (e : Q × ℕ). slot_gate e.0 (slot row e.1)) numbers.entries
        ∙ pick S (is_at (S q)) (key_apart S of_patterns q) (λ (i : ℕ). value (slot row i)) numbers.entries sorted

    table_values : (rows : BTreeMap P (Row V)) → IsOrdered R rows → flat_map at_piece (in_table empty numbers.entries rows.entries) ≡ from_found (λ (row : Row V). in_slots row (get S numbers q)) (get R rows p)
    table_values rows up =
        spread (λ (e : P × Row V). with_piece e.0 (in_row empty e.1 numbers.entries)) at_piece rows.entries
        ∙ flat_as _ _ (λ (e : P × Row V). piece_gate e.0 (in_row empty e.1 numbers.entries) ∙ ap (λ (vs : List V). cond (is_eq (R p e.0)) vs []) (row_values e.1)) rows.entries
        ∙ pick R (is_at (R p)) (key_apart R of_pieces p) (λ (row : Row V). in_slots row (get S numbers q)) rows.entries up

    -- as the answers are kept
    met_value : (met : Met) (k : Option (Option V × Bool)) → value k ≡ kept_alone (answer_of empty (met_by met k))
    met_value now.Nothing None = refl
    met_value now.Nothing (Some k) = refl
    met_value now.All None = refl
    met_value now.All (Some k) = refl
    met_value now.Each None = refl
    met_value now.Each (Some k) = refl

    abbrev kept_in : (ℕ → Option (Option V × Bool)) → Option ℕ → List V
    kept_in slots n = kept_alone (by_number (λ i. answer_of empty (slots i)) n)

    row_kept : (met : Met) (row : Option (Row V)) (n : Option ℕ) → from_found (λ (r : Row V). in_slots r n) row ≡ kept_in (λ i. met_by met (row_slot row i)) n
    row_kept met None None = refl
    row_kept met None (Some i) = met_value met None
    row_kept met (Some row) None = refl
    row_kept met (Some row) (Some i) = met_value met (slot row i)

    nothing_kept : (n : Option ℕ) → [] ≡ kept_in (λ i. None) n
    nothing_kept None = refl
    nothing_kept (Some i) = refl

    module _ {Y : Type 0} (tables : BTreeMap (String Y) (Table P V)) (order : String Y → String Y → Ordering) (by_bytes : (a b : String Y) → order a b ≡ slice_cmp nat_cmp (string_bytes a) (string_bytes b)) (up : IsStrictlySortedBy order (keys_of tables.entries)) (each : All (λ t. IsOrdered R t.1.rows) tables.entries) where
      abbrev here : String Y → Bool
      here k = is_eq (slice_cmp nat_cmp path (string_bytes k))

      path_apart : (a b : String Y) → order a b ≡ Less → here a ≡ true → here b ≡ true → ⊥
      path_apart a b less = key_apart (slice_cmp nat_cmp) nat_list_cmp_total path (string_bytes a) (string_bytes b) (sym (by_bytes a b) ∙ less)

      abbrev table_answers : Table P V → List V
      table_answers t = flat_map at_piece (in_table empty numbers.entries t.rows.entries)

      found_answers : answers_for R S path p q (in_tables empty numbers.entries tables.entries) ≡ from_found table_answers (get_by_text tables path)
      found_answers =
          spread (λ (t : String Y × Table P V). with_path (string_bytes t.0) (in_table empty numbers.entries t.1.rows.entries)) _ tables.entries
          ∙ flat_as _ _ (λ (t : String Y × Table P V). path_gate (string_bytes t.0) (in_table empty numbers.entries t.1.rows.entries) ∙ ap (λ (b : Bool). cond b (table_answers t.1) []) (sym (is_eq-slice_cmp path (string_bytes t.0)))) tables.entries
          ∙ pick order here path_apart table_answers tables.entries up

      table_kept : (found : Option (Table P V)) → IfSome found (λ t. IsOrdered R t.rows) → from_found table_answers found ≡ kept_in (λ i. table_slot R found p i) (get S numbers q)
      table_kept None ordered = nothing_kept (get S numbers q)
      table_kept (Some t) ordered = table_values t.rows ordered ∙ row_kept t.met (get R t.rows p) (get S numbers q)

      -- the list has what is kept for a pair, once
      pub pair_once : answers_for R S path p q (in_tables empty numbers.entries tables.entries) ≡ kept_in (λ i. table_slot R (get_by_text tables path) p i) (get S numbers q)
      pair_once = found_answers ∙ table_kept (get_by_text tables path) (All-lookup (λ (t : Table P V). IsOrdered R t.rows) here tables.entries each)
