-- How many files changed, and how often files are opened.
use Rattle.std.proofs.Common.{◌≡◌, inl, inr, ℕ, ◌+◌, List, [], ◌∷◌, ◌++◌, length, map, Bool, true, false, not, cond, refl, sym, ap, ◌∙◌, subst, arith}
use Rattle.std.specs.Prelude.{Option, None, Some, ◌||◌, ◌&&◌, if◌then◌else◌}
use Rattle.std.specs.List.{list_any}
use Rattle.std.specs.Str.{bytes_eq}
use Rattle.std.proofs.lemmas.Slice.Eq.{bytes_eq-Decides}
use Rattle.node_match.specs.Sets.{Among}
use Rattle.file_results.specs.Shown.{File}
use Rattle.seen_files.specs.declared.seen.SeenFile.{SeenFile}
use Rattle.seen_files.specs.Seen.{file_of}
use Rattle.seen_files.specs.Spends.{is_same, changed}
use Rattle.seen_files.specs.Walk.{openings}

-- ---- tests

any_false : {X : Type 0} (p : X → Bool) (xs : List X) → ((x : X) → Among xs x → p x ≡ false) → list_any p xs ≡ false
any_false p [] h = refl
any_false p (x ∷ xs) h = ap (λ (b : Bool). b || list_any p xs) (h x (inl refl)) ∙ any_false p xs (λ y a. h y (inr a))

or_true : (b : Bool) → (b || true) ≡ true
or_true true = refl
or_true false = refl

any_true : {X : Type 0} (p : X → Bool) (xs : List X) (x : X) → Among xs x → p x ≡ true → list_any p xs ≡ true
any_true p [] x a e = absurd a
any_true {X} p (y ∷ ys) x (inl f) e = let P : X → Type 0 = λ z. p z ≡ true in ap (λ (b : Bool). b || list_any p ys) (subst P (sym f) e)
any_true p (y ∷ ys) x (inr a) e = ap (λ (b : Bool). p y || b) (any_true p ys x a e) ∙ or_true (p y)

both_false : (b c : Bool) → (b ≡ true → c ≡ false) → (b && c) ≡ false
both_false true c h = h refl
both_false false c h = refl

both_true : (b c : Bool) → b ≡ true → c ≡ true → (b && c) ≡ true
both_true true c e f = f
both_true false c e f = absurd (let g : false ≡ true = e in cc)

pub among_seen : (files : List SeenFile) (f : File) → Among (map file_of files) f → (s : SeenFile) × Among files s × (file_of s ≡ f)
among_seen [] f a = absurd a
among_seen (s ∷ ss) f (inl e) = (s, inl refl, e)
among_seen (s ∷ ss) f (inr a) = let (t, b, e) = among_seen ss f a in (t, inr b, e)

-- ---- changed files

-- one that wasn't there counts
abbrev pub once : Bool → ℕ
once there = if there then 0 else 1

one_count : (there : Bool) (f : File) → length (cond (not there) (f ∷ []) []) ≡ once there
one_count true f = refl
one_count false f = refl

more_count : (there : Bool) (f : File) (xs ys : List File) (n : ℕ) → length xs ≡ length ys + n → length (cond (not there) (f ∷ xs) xs) ≡ length (cond (not there) (f ∷ ys) ys) + n
more_count true f xs ys n e = e
more_count false f xs ys n e = omega (arith, e)

-- one file more
pub changed_more : (before done : List File) (f : File) → length (changed before (done ++ f ∷ [])) ≡ length (changed before done) + once (list_any (is_same f) before)
changed_more before [] f = let e = one_count (list_any (is_same f) before) f in omega (arith, e)
changed_more before (g ∷ gs) f = more_count (list_any (is_same g) before) g (changed before (gs ++ f ∷ [])) (changed before gs) (once (list_any (is_same f) before)) (changed_more before gs f)

-- ---- openings

module _ (files : List SeenFile) (old : List File) (files_are : map file_of files ≡ old) (path bytes : List ℕ) where
  -- no file at the path has these bytes
  unlike : ((s : SeenFile) → s.path ≡ path → Among files s → bytes_eq s.bytes.value bytes ≡ false) → list_any (is_same (path, bytes)) old ≡ false
  unlike other = any_false (is_same (path, bytes)) old (λ f a.
      let P : List File → Type 0 = λ fs. Among fs f in
      let (s, b, e) = among_seen files f (subst P (sym files_are) a) in
      both_false (bytes_eq f.0 path) (bytes_eq f.1 bytes) (λ same.
      let at : s.path ≡ path = ap (λ (g : File). g.0) e ∙ (bytes_eq-Decides f.0 path).0 same in
      ap (λ (g : File). bytes_eq g.1 bytes) (sym e) ∙ other s at b))

  -- this one has
  alike : (s : SeenFile) → s.path ≡ path → Among files s → bytes_eq s.bytes.value bytes ≡ true → list_any (is_same (path, bytes)) old ≡ true
  alike s at a same =
      let P : List File → Type 0 = λ fs. list_any (is_same (path, bytes)) fs ≡ true in
      let among : Among (map file_of files) (file_of s) = mapped files a in
      subst P files_are (any_true (is_same (path, bytes)) (map file_of files) (file_of s) among (both_true (bytes_eq s.path path) (bytes_eq s.bytes.value bytes) ((bytes_eq-Decides s.path path).1 at) same))
    where
      mapped : (fs : List SeenFile) → Among fs s → Among (map file_of fs) (file_of s)
      mapped [] a = absurd a
      mapped (t ∷ ts) (inl e) = inl (ap file_of e)
      mapped (t ∷ ts) (inr b) = inr (mapped ts b)

  opened_some : (t : SeenFile) → ((s : SeenFile) → s.path ≡ path → Among files s → Some t ≡ Some s) → t.path ≡ path → Among files t → (b : Bool) → bytes_eq t.bytes.value bytes ≡ b → (if b then 0 else 1) ≡ once (list_any (is_same (path, bytes)) old)
  opened_some t finds at a true e = sym (ap once (alike t at a e))
  opened_some t finds at a false e = sym (ap once (unlike (λ s here b.
      let same : t ≡ s = (let f : Some t ≡ Some s = finds s here b in cc) in
      let P : SeenFile → Type 0 = λ u. bytes_eq u.bytes.value bytes ≡ false in
      subst P same e)))

  -- a file is opened where none at its path had its bytes
  pub opened_once : (taken : Option SeenFile) → ((s : SeenFile) → s.path ≡ path → Among files s → taken ≡ Some s) → ((s : SeenFile) → taken ≡ Some s → (s.path ≡ path) × Among files s) → openings taken bytes ≡ once (list_any (is_same (path, bytes)) old)
  opened_once None finds found = sym (ap once (unlike (λ s at a. absurd (let f : None ≡ Some s = finds s at a in cc))))
  opened_once (Some t) finds found = opened_some t finds (found t refl).0 (found t refl).1 (bytes_eq t.bytes.value bytes) refl
