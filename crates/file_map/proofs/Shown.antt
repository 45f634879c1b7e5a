-- A map of shared bytes and how it is seen: look-ups, changes and order.
use Rattle.std.proofs.Common.{◌≡◌, ℕ, Bool, true, false, List, [], ◌∷◌, length, refl, ap, ◌∙◌}
use Rattle.std.specs.Prelude.{Option, None, Some, String, map, if◌then◌else◌}
use Rattle.std.specs.Option.{option_map}
use Rattle.std.specs.Ordering.{is_eq, match_ordering, nat_cmp}
use Rattle.std.specs.declared.cmp.Ordering.{Ordering}
use Rattle.std.specs.declared.cmp.Ordering.TheVariants.{Less, Equal, Greater}
use Rattle.std.specs.Cmp.Lexicographic.{slice_cmp}
use Rattle.std.specs.List.{AllByRecursion}
use Rattle.std.specs.List.Sorted.{IsStrictlySortedBy}
use Rattle.std.specs.Map.{lookup, remove_entry, keys_of}
use Rattle.std.specs.BTreeMap.{insert_entry}
use Rattle.std.specs.String.{string_bytes, string_cmp}
use Rattle.std.specs.declared.rc.Rc.{Rc}
use Rattle.std.specs.Rc.{rc_value}
use Rattle.scan_world.specs.Files.{path_cmp}
use Rattle.file_map.specs.FileMap.{bytes_at, with_file, without_file}
use Rattle.std.specs.BTreeMap.{BTreeMap, get_by, btree_map_len}
use Rattle.std.proofs.lemmas.List.{length-map}
use Rattle.file_map.specs.Seen.{shown, files_of}

-- whether a key is that of the path
abbrev pub is_key : {Y : Type 0} → List ℕ → String Y → Bool
is_key path key = is_eq (slice_cmp nat_cmp path (string_bytes key))

found : {Z : Type 0} (b : Bool) (rc : Rc (List ℕ) Z) (later : Option (Rc (List ℕ) Z)) → option_map rc_value (if b then Some rc else later) ≡ (if b then Some (rc_value rc) else option_map rc_value later)
found true rc later = refl
found false rc later = refl

module _ {Y Z : Type 0} where
  pub lookup_shown : (path : List ℕ) (es : List (String Y × Rc (List ℕ) Z)) → option_map rc_value (lookup (is_key path) es) ≡ bytes_at path (map shown es)
  lookup_shown path [] = refl
  lookup_shown path (e ∷ es) = found (is_key path e.0) e.1 (lookup (is_key path) es) ∙ ap (λ x. if is_key path e.0 then Some (rc_value e.1) else x) (lookup_shown path es)

  removed : (b : Bool) (e : String Y × Rc (List ℕ) Z) (es rest : List (String Y × Rc (List ℕ) Z)) → map shown (if b then es else e ∷ rest) ≡ (if b then map shown es else shown e ∷ map shown rest)
  removed true e es rest = refl
  removed false e es rest = refl

  pub remove_shown : (path : List ℕ) (es : List (String Y × Rc (List ℕ) Z)) → map shown (remove_entry (is_key path) es) ≡ without_file path (map shown es)
  remove_shown path [] = refl
  remove_shown path (e ∷ es) = removed (is_key path e.0) e es (remove_entry (is_key path) es) ∙ ap (λ x. if is_key path e.0 then map shown es else shown e ∷ x) (remove_shown path es)

  inserted : (o : Ordering) (a b c : List (String Y × Rc (List ℕ) Z)) → map shown (match_ordering o a b c) ≡ match_ordering o (map shown a) (map shown b) (map shown c)
  inserted Less a b c = refl
  inserted Equal a b c = refl
  inserted Greater a b c = refl

  pub insert_shown : (es : List (String Y × Rc (List ℕ) Z)) (key : String Y) (rc : Rc (List ℕ) Z) → map shown (insert_entry string_cmp es key rc) ≡ with_file (map shown es) (string_bytes key, rc_value rc)
  insert_shown [] key rc = refl
  insert_shown (e ∷ es) key rc =
      inserted (string_cmp key e.0) ((key, rc) ∷ e ∷ es) ((e.0, rc) ∷ es) (e ∷ insert_entry string_cmp es key rc)
      ∙ ap (λ x. match_ordering (string_cmp key e.0) (shown (key, rc) ∷ shown e ∷ map shown es) ((string_bytes e.0, rc_value rc) ∷ map shown es) (shown e ∷ x)) (insert_shown es key rc)

  below : (key : String Y) (es : List (String Y × Rc (List ℕ) Z)) → AllByRecursion (λ k. string_cmp key k ≡ Less) (keys_of es) → AllByRecursion (λ k. path_cmp (string_bytes key) k ≡ Less) (keys_of (map shown es))
  below key [] h = tt
  below key (e ∷ es) h = (h.0, below key es h.1)

  pub sorted_shown : (es : List (String Y × Rc (List ℕ) Z)) → IsStrictlySortedBy string_cmp (keys_of es) → IsStrictlySortedBy path_cmp (keys_of (map shown es))
  unfolding IsStrictlySortedBy
  sorted_shown [] h = tt
  sorted_shown (e ∷ es) h = (below e.0 es h.0, sorted_shown es h.1)

  -- what a look-up in the map says of the files
  pub held : (path : List ℕ) (m : BTreeMap (String Y) (Rc (List ℕ) Z)) (rc : Rc (List ℕ) Z) → Some rc ≡ get_by (λ key. slice_cmp nat_cmp path (string_bytes key)) m → Some (rc_value rc) ≡ bytes_at path (files_of m)
  held path m rc e = ap (option_map rc_value) e ∙ lookup_shown path m.entries

  pub lacked : (path : List ℕ) (m : BTreeMap (String Y) (Rc (List ℕ) Z)) → None ≡ get_by (λ key. slice_cmp nat_cmp path (string_bytes key)) m → None ≡ bytes_at path (files_of m)
  lacked path m e = ap (option_map rc_value) e ∙ lookup_shown path m.entries

  pub count_shown : (m : BTreeMap (String Y) (Rc (List ℕ) Z)) → length (files_of m) ≡ btree_map_len m
  count_shown m = length-map m.entries shown
