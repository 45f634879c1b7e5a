-- Clones of a map of shared bytes, listing it, measuring it, and putting files one after the other.
use Rattle.std.proofs.Common.{◌≡◌, ℕ, ◌+◌, ◌<◌, List, [], ◌∷◌, ◌++◌, length, take, get_or, refl, sym, ap, ◌∙◌, map, append_assoc, Bor, arith}
use Rattle.std.specs.Prelude.{Option, Some, None, String}
use Rattle.std.specs.String.{string_bytes}
use Rattle.std.specs.declared.rc.Rc.{Rc}
use Rattle.std.specs.Rc.{rc_value}
use Rattle.std.specs.Option.{option_map, option_copied}
use Rattle.std.specs.List.{AllZip}
use Rattle.std.proofs.lemmas.List.{map_more, map_push, append-nil}
use Rattle.std.proofs.lemmas.List.Sums.{sum_by-cons}
use Rattle.scan_world.specs.Files.{Files}
use Rattle.file_map.specs.FileMap.{File, with_file, all_bytes, front}
use Rattle.file_map.specs.Seen.{lent, shown}
use Rattle.file_map.specs.Sync.{with_files}
use Rattle.file_map.proofs.Putting.{with_files_on}

-- ---- files that are put

pub front_put : (base now : Files) (files : List File) (i : ℕ) (x : File) → i < length files → x ≡ get_or files i x → now ≡ with_files base (map front (take i files)) → with_file now (front x) ≡ with_files base (map front (take (i + 1) files))
front_put base now files i x lt is put =
    let more : map front (take (i + 1) files) ≡ map front (take i files) ++ front x ∷ [] = map_more front files i x lt ∙ ap (λ (y : File). map front (take i files) ++ front y ∷ []) (sym is) in
    ap (λ (m : Files). with_file m (front x)) put ∙ sym (with_files_on base (map front (take i files)) (front x ∷ [])) ∙ ap (with_files base) (sym more)

-- what a look-up lends
pub shared_is : {Z : Type 0} (r : Option (Bor (Rc (List ℕ) Z))) → option_map (λ b. rc_value b.now) r ≡ option_map rc_value (option_copied r)
shared_is None = refl
shared_is (Some b) = refl

module _ {Y Z : Type 0} where
  both_same : (a b : String Y × Rc (List ℕ) Z) → string_bytes b.0 ≡ string_bytes a.0 → rc_value b.1 ≡ rc_value a.1 → shown b ≡ shown a
  both_same a b p q = ap (λ (n : List ℕ). (n, rc_value b.1)) p ∙ ap (λ (v : List ℕ). (string_bytes a.0, v)) q

  -- a clone shows the same files
  pub cloned : (es fs : List (String Y × Rc (List ℕ) Z)) → AllZip (λ a b. (string_bytes b.0 ≡ string_bytes a.0) × (rc_value b.1 ≡ rc_value a.1)) es fs → map shown fs ≡ map shown es
  cloned [] [] h = refl
  cloned [] (f ∷ fs) h = elim h [ ]
  cloned (e ∷ es) [] h = elim h [ ]
  cloned (e ∷ es) (f ∷ fs) h = ap (λ (x : File). x ∷ map shown fs) (both_same e f h.0.0 h.0.1) ∙ ap (λ (l : Files). shown e ∷ l) (cloned es fs h.1)

  -- ---- files that are listed

  pub one_listed : (old : Files) (files : List (Bor (List ℕ) × Bor (Rc (List ℕ) Z))) (left right : List (String Y × Rc (List ℕ) Z)) (e : String Y × Rc (List ℕ) Z) → map lent files ++ map shown left ≡ old → left ≡ e ∷ right
      → (item : Bor (List ℕ) × Bor (Rc (List ℕ) Z)) (new : List (Bor (List ℕ) × Bor (Rc (List ℕ) Z))) → lent item ≡ shown e → new ≡ files ++ item ∷ [] → map lent new ++ map shown right ≡ old
  one_listed old files left right e so_far step item new same put =
      ap (λ (l : List File). l ++ map shown right) (ap (map lent) put ∙ map_push lent files item)
      ∙ append_assoc (map lent files) (lent item ∷ []) (map shown right)
      ∙ ap (λ (f : File). map lent files ++ f ∷ map shown right) same
      ∙ ap (λ l. map lent files ++ map shown l) (sym step) ∙ so_far

  pub all_listed : (old : Files) (files : List (Bor (List ℕ) × Bor (Rc (List ℕ) Z))) (left : List (String Y × Rc (List ℕ) Z)) → map lent files ++ map shown left ≡ old → left ≡ [] → map lent files ≡ old
  all_listed old files left so_far end = sym (append-nil (map lent files)) ∙ ap (λ l. map lent files ++ map shown l) (sym end) ∙ so_far

  -- ---- files that are measured

  pub one_measured : (all more : ℕ) (old : Files) (left right : List (String Y × Rc (List ℕ) Z)) (e : String Y × Rc (List ℕ) Z) → all + all_bytes (map shown left) ≡ all_bytes old → left ≡ e ∷ right → more ≡ all + length (rc_value e.1) → more + all_bytes (map shown right) ≡ all_bytes old
  one_measured all more old left right e so_far step put =
      let first : all_bytes (map shown left) ≡ length (rc_value e.1) + all_bytes (map shown right) = ap (λ l. all_bytes (map shown l)) step ∙ sum_by-cons length (rc_value e.1) (map (λ f. f.1) (map shown right)) in
      omega (arith, so_far, first, put)

  pub all_measured : (all : ℕ) (old : Files) (left : List (String Y × Rc (List ℕ) Z)) → all + all_bytes (map shown left) ≡ all_bytes old → left ≡ [] → all ≡ all_bytes old
  all_measured all old left so_far end =
      let none : all_bytes (map shown left) ≡ 0 = ap (λ l. all_bytes (map shown l)) end in
      omega (arith, so_far, none)
