-- Rule files beside the files that they are, through puts and removals.
use Rattle.std.proofs.Common.{◌≡◌, ℕ, zero, suc, ◌≤◌, List, [], ◌∷◌, length, refl, ap, ◌∙◌, sym, subst, arith, Ok, Err}
use Rattle.std.specs.Prelude.{Result, slice_set, insert, remove}
use Rattle.std_collections.specs.Layout.BTreeMap.{seek}
use Rattle.std.specs.List.Sorted.{IsStrictlySortedBy}
use Rattle.scan_world.specs.Files.{Files, path_cmp}
use Rattle.rule_entries.specs.Finds.{Writes}
use Rattle.rule_files.specs.declared.rule_file.RuleFile.{RuleFile}
use Rattle.rule_files.specs.RuleFiles.{IsRuleFile}
use Rattle.file_map.specs.FileMap.{File, with_file}
use Rattle.rule_map.specs.RuleMap.{AreRuleFiles, count_of}
use Rattle.rule_map.specs.Kept.{IsOnly, AreOnly, IsKept, put_at, HaveEntries}
use Rattle.rule_map.proofs.Places.{set_is, insert_is, with_ordered, fewer_ordered, length_fewer}

module _ (writes : Writes) where
  nothing_kept : IsKept writes [] [] 0
  unfolding IsStrictlySortedBy
  nothing_kept = record { ordered = tt; read = tt; counted = refl; few_files = omega arith; few_entries = omega arith }

  pub none_kept : (fs : Files) (cs : List RuleFile) → fs ≡ [] → cs ≡ [] → IsKept writes fs cs 0
  none_kept fs cs e f = subst (λ l. IsKept writes l cs 0) (sym e) (subst (λ l. IsKept writes [] l 0) (sym f) nothing_kept)

  pub they_are : (fs : Files) (cs : List RuleFile) → AreOnly writes fs cs → AreRuleFiles writes fs cs
  they_are [] [] a = a
  they_are [] (c ∷ cs) a = elim a [ ]
  they_are (f ∷ fs) [] a = elim a [ ]
  they_are (f ∷ fs) (c ∷ cs) a = (a.0.0, they_are fs cs a.1)

  both_same : (f : File) (c d : RuleFile) (cs ds : List RuleFile) → IsOnly writes f c → d ≡ c → ds ≡ cs → d ∷ ds ≡ c ∷ cs
  both_same f c d cs ds o p q = ap (λ x. x ∷ ds) p ∙ ap (λ l. c ∷ l) q

  pub no_others : (fs : Files) (cs ds : List RuleFile) → AreOnly writes fs cs → AreRuleFiles writes fs ds → ds ≡ cs
  no_others [] [] [] a h = refl
  no_others [] [] (d ∷ ds) a h = elim h [ ]
  no_others [] (c ∷ cs) ds a h = elim a [ ]
  no_others (f ∷ fs) [] ds a h = elim a [ ]
  no_others (f ∷ fs) (c ∷ cs) [] a h = elim h [ ]
  no_others (f ∷ fs) (c ∷ cs) (d ∷ ds) a h = both_same f c d cs ds a.0 (a.0.1 d h.0) (no_others fs cs ds a.1 h.1)

  pub as_many : (fs : Files) (cs : List RuleFile) → AreOnly writes fs cs → length cs ≡ length fs
  as_many [] [] a = refl
  as_many [] (c ∷ cs) a = elim a [ ]
  as_many (f ∷ fs) [] a = elim a [ ]
  as_many (f ∷ fs) (c ∷ cs) a = ap suc (as_many fs cs a.1)

  set_only : (f : File) (c : RuleFile) → IsOnly writes f c → (fs : Files) (cs : List RuleFile) (i : ℕ) → AreOnly writes fs cs → AreOnly writes (slice_set fs i f) (slice_set cs i c)
  set_only f c o [] [] i a = a
  set_only f c o [] (d ∷ cs) i a = elim a [ ]
  set_only f c o (g ∷ fs) [] i a = elim a [ ]
  set_only f c o (g ∷ fs) (d ∷ cs) zero a = (o, a.1)
  set_only f c o (g ∷ fs) (d ∷ cs) (suc i) a = (a.0, set_only f c o fs cs i a.1)

  insert_only : (f : File) (c : RuleFile) → IsOnly writes f c → (fs : Files) (cs : List RuleFile) (i : ℕ) → AreOnly writes fs cs → AreOnly writes (insert fs i f) (insert cs i c)
  insert_only f c o fs cs zero a = (o, a)
  insert_only f c o [] [] (suc i) a = (o, a)
  insert_only f c o [] (d ∷ cs) (suc i) a = elim a [ ]
  insert_only f c o (g ∷ fs) [] (suc i) a = elim a [ ]
  insert_only f c o (g ∷ fs) (d ∷ cs) (suc i) a = (a.0, insert_only f c o fs cs i a.1)

  pub remove_only : (fs : Files) (cs : List RuleFile) (i : ℕ) → AreOnly writes fs cs → AreOnly writes (remove fs i) (remove cs i)
  remove_only [] [] zero a = a
  remove_only [] [] (suc i) a = a
  remove_only [] (d ∷ cs) i a = elim a [ ]
  remove_only (g ∷ fs) [] i a = elim a [ ]
  remove_only (g ∷ fs) (d ∷ cs) zero a = a.1
  remove_only (g ∷ fs) (d ∷ cs) (suc i) a = (a.0, remove_only fs cs i a.1)

  pub put_only : (fs : Files) (cs : List RuleFile) (f : File) (c : RuleFile) (place : Result ℕ ℕ) → place ≡ seek (path_cmp f.0) fs → AreOnly writes fs cs → IsOnly writes f c → AreOnly writes (with_file fs f) (put_at place cs c)
  put_only fs cs f c (Ok i) e a o = subst (λ l. AreOnly writes l (slice_set cs i c)) (set_is fs f i e) (set_only f c o fs cs i a)
  put_only fs cs f c (Err i) e a o = subst (λ l. AreOnly writes l (insert cs i c)) (insert_is fs f i e) (insert_only f c o fs cs i a)

  pub kept_removed : (fs : Files) (cs : List RuleFile) (n m : ℕ) (i : ℕ) → IsKept writes fs cs n → m ≡ count_of (remove cs i) → m ≤ n → IsKept writes (remove fs i) (remove cs i) m
  kept_removed fs cs n m i k e l = record {
    ordered = fewer_ordered fs i k.ordered;
    read = remove_only fs cs i k.read;
    counted = e;
    few_files = omega (arith, length_fewer fs i, k.few_files);
    few_entries = omega (arith, l, k.few_entries);
  }

  pub only_this : (f : File) (c : RuleFile) → IsRuleFile writes f.0 f.1 c → ((d : RuleFile) → IsRuleFile writes f.0 f.1 d → c ≡ d) → IsOnly writes f c
  only_this f c is h = (is, λ d there. sym (h d there))

  pub have_put : (fs : Files) (cs : List RuleFile) (f : File) (c : RuleFile) (place : Result ℕ ℕ) (n : ℕ) → place ≡ seek (path_cmp f.0) fs → AreOnly writes fs cs → IsOnly writes f c → n ≡ count_of (put_at place cs c) → HaveEntries writes (with_file fs f) n
  have_put fs cs f c place n e a o h = λ contents are. h ∙ ap count_of (sym (no_others (with_file fs f) (put_at place cs c) contents (put_only fs cs f c place e a o) are))

  pub kept_put : (fs : Files) (cs : List RuleFile) (f : File) (c : RuleFile) (n m : ℕ) (place : Result ℕ ℕ) → place ≡ seek (path_cmp f.0) fs → IsKept writes fs cs n → IsOnly writes f c → HaveEntries writes (with_file fs f) m → length (with_file fs f) ≤ 100 → m ≤ 1000
      → IsKept writes (with_file fs f) (put_at place cs c) m
  kept_put fs cs f c n m place e k o h few l =
      let new = put_only fs cs f c place e k.read o in
      record {
        ordered = with_ordered fs f place e k.ordered;
        read = new;
        counted = h (put_at place cs c) (they_are (with_file fs f) (put_at place cs c) new);
        few_files = few;
        few_entries = l;
      }
