-- Paths that are taken and files that are read, one after the other.
use Rattle.std.proofs.Common.{◌≡◌, ◌↔◌, inl, inr, Bool, true, false, ℕ, ◌+◌, ◌<◌, ◌≤◌, List, [], ◌∷◌, ◌++◌, length, take, drop, get_or, refl, sym, ap, ◌∙◌, subst, append_assoc, arith}
use Rattle.std.specs.Prelude.{Option, Some, None, IsTrue}
use Rattle.std.proofs.lemmas.Bool.{false≢true}
use Rattle.std.proofs.lemmas.List.{append-nil, take_more, take-append-drop, length-take}
use Rattle.scan_world.specs.Files.{Files, file_at}
use Rattle.scan_world.specs.Trees.{KeepsFiles, LacksFile, HasFront}
use Rattle.folder_files.specs.Folder.{File, IsTaken, AreTaken, IsKept, AreRead}
use Rattle.folder_files.proofs.Told.{Path, front_before, lacks_before}

taken_on : (xs ys ts us : List Path) → AreTaken xs ts → AreTaken ys us → AreTaken (xs ++ ys) (ts ++ us)
taken_on [] ys ts us h k = let P : List Path → Type 0 = λ l. AreTaken ys (l ++ us) in subst P (sym h) k
taken_on (x ∷ xs) ys ts us (inl (is, (rest, e, r))) k = inl (is, (rest ++ us, ap (λ (l : List Path). l ++ us) e, taken_on xs ys rest us r k))
taken_on (x ∷ xs) ys ts us (inr (nay, r)) k = inr (nay, taken_on xs ys ts us r k)

module _ (paths taken : List Path) (i : ℕ) (x d : Path) (lt : i < length paths) (is : x ≡ get_or paths i d) (so_far : AreTaken (take i paths) taken) where
  whole : take (i + 1) paths ≡ take i paths ++ x ∷ []
  whole = take_more paths i d lt ∙ ap (λ (y : Path). take i paths ++ y ∷ []) (sym is)

  pub one_taken : IsTaken x → AreTaken (take (i + 1) paths) (taken ++ x ∷ [])
  one_taken t = let P : List Path → Type 0 = λ l. AreTaken l (taken ++ x ∷ []) in subst P (sym whole) (taken_on (take i paths) (x ∷ []) taken (x ∷ []) so_far (inl (t, ([], refl, refl))))

  pub one_passed : (IsTaken x → ⊥) → AreTaken (take (i + 1) paths) taken
  one_passed nay =
      let P : List Path → Type 0 = λ l. AreTaken l taken in
      let Q : List Path → Type 0 = λ l. AreTaken (take i paths ++ x ∷ []) l in
      subst P (sym whole) (subst Q (append-nil taken) (taken_on (take i paths) (x ∷ []) taken [] so_far (inr (nay, refl))))

read_on : (told : Option Files) (xs ys : List Path) (fs gs : List File) → AreRead told xs fs → AreRead told ys gs → AreRead told (xs ++ ys) (fs ++ gs)
read_on told [] ys fs gs h k = let P : List File → Type 0 = λ l. AreRead told ys (l ++ gs) in subst P (sym h) k
read_on told (x ∷ xs) ys fs gs (inl (bytes, rest, e, kept, r)) k = inl (bytes, rest ++ gs, ap (λ (l : List File). l ++ gs) e, kept, read_on told xs ys rest gs r k)
read_on told (x ∷ xs) ys fs gs (inr (lacks, r)) k = inr (lacks, read_on told xs ys fs gs r k)

-- whatever files stand at the paths that are left
pub rest_read : (told : Option Files) (paths : List Path) → (files : List File) × AreRead told paths files
rest_read told [] = ([], refl)
rest_read None (p ∷ ps) = let r = rest_read None ps in (r.0, inr (tt, r.1))
rest_read (Some map) (p ∷ ps) = at (file_at p map) refl (rest_read (Some map) ps)
  where
    at : (found : Option (List ℕ)) → file_at p map ≡ found → ((files : List File) × AreRead (Some map) ps files) → (files : List File) × AreRead (Some map) (p ∷ ps) files
    at None e r = (r.0, inr (e, r.1))
    at (Some whole) e r =
        let kept : IsKept (Some map) p (take 1000001 whole) = record { few = omega (arith, length-take 1000001 whole); front = (whole, e, refl) } in
        ((p, take 1000001 whole) ∷ r.0, inl (take 1000001 whole, r.0, refl, kept, r.1))

module _ (told : Option Files) (paths : List Path) (files : List File) (i : ℕ) (x d : Path) (lt : i < length paths) (is : x ≡ get_or paths i d) (so_far : AreRead told (take i paths) files) where
  whole_paths : take (i + 1) paths ≡ take i paths ++ x ∷ []
  whole_paths = take_more paths i d lt ∙ ap (λ (y : Path). take i paths ++ y ∷ []) (sym is)

  pub one_read : (bytes : List ℕ) → IsKept told x bytes → AreRead told (take (i + 1) paths) (files ++ (x, bytes) ∷ [])
  one_read bytes kept =
      let P : List Path → Type 0 = λ l. AreRead told l (files ++ (x, bytes) ∷ []) in
      subst P (sym whole_paths) (read_on told (take i paths) (x ∷ []) files ((x, bytes) ∷ []) so_far (inl (bytes, [], refl, kept, refl)))

  pub one_absent : LacksFile told x → AreRead told (take (i + 1) paths) files
  one_absent lacks =
      let P : List Path → Type 0 = λ l. AreRead told l files in
      let Q : List File → Type 0 = λ l. AreRead told (take i paths ++ x ∷ []) l in
      subst P (sym whole_paths) (subst Q (append-nil files) (read_on told (take i paths) (x ∷ []) files [] so_far (inr (lacks, refl))))

  -- the rest of the paths, with whatever files stand there
  pub whole_read : (bytes : List ℕ) → IsKept told x bytes → (others : List File) × AreRead told paths (files ++ (x, bytes) ∷ others)
  whole_read bytes kept =
      let r = rest_read told (drop (i + 1) paths) in
      let P : List Path → Type 0 = λ l. AreRead told l ((files ++ (x, bytes) ∷ []) ++ r.0) in
      let Q : List File → Type 0 = λ l. AreRead told paths l in
      (r.0, subst Q (append_assoc files ((x, bytes) ∷ []) r.0) (subst P (take-append-drop (i + 1) paths) (read_on told (take (i + 1) paths) (drop (i + 1) paths) (files ++ (x, bytes) ∷ []) r.0 (one_read bytes kept) r.1)))

-- ---- the same as loops have it

module _ (paths taken new : List Path) (i : ℕ) (x asked : Path) (b : Bool) (lt : i < length paths) (is : x ≡ get_or paths i x) (so_far : AreTaken (take i paths) taken) (test : IsTrue b ↔ IsTaken asked) (e : asked ≡ x) where
  pub step_taken : (copy : Path) → b ≡ true → copy ≡ x → new ≡ taken ++ copy ∷ [] → AreTaken (take (i + 1) paths) new
  step_taken copy t same put =
      let P : List Path → Type 0 = λ l. AreTaken (take (i + 1) paths) l in
      subst P (sym (put ∙ ap (λ (p : Path). taken ++ p ∷ []) same)) (one_taken paths taken i x x lt is so_far (subst IsTaken e (test.0 t)))

  pub step_passed : b ≡ false → new ≡ taken → AreTaken (take (i + 1) paths) new
  step_passed f put =
      let P : List Path → Type 0 = λ l. AreTaken (take (i + 1) paths) l in
      subst P (sym put) (one_passed paths taken i x x lt is so_far (λ t. absurd (false≢true (sym f ∙ test.1 (subst IsTaken (sym e) t)))))

module _ (told now : Option Files) (kept : KeepsFiles told now) (paths : List Path) (files : List File) (i : ℕ) (x asked : Path) (lt : i < length paths) (is : x ≡ get_or paths i x) (so_far : AreRead told (take i paths) files) (e : asked ≡ x) where
  pub step_absent : LacksFile now asked → AreRead told (take (i + 1) paths) files
  step_absent lacks = one_absent told paths files i x x lt is so_far (lacks_before told now x kept (subst (λ (p : Path). LacksFile now p) e lacks))

  module _ (bytes : List ℕ) (few : length bytes ≤ 1000001) (front : HasFront now asked 1000001 bytes) where
    is_kept : IsKept told x bytes
    is_kept = record { few = few; front = front_before told now x 1000001 bytes kept (subst (λ (p : Path). HasFront now p 1000001 bytes) e front) }

    pub step_read : AreRead told (take (i + 1) paths) (files ++ (asked, bytes) ∷ [])
    step_read =
        let P : Path → Type 0 = λ p. AreRead told (take (i + 1) paths) (files ++ (p, bytes) ∷ []) in
        subst P (sym e) (one_read told paths files i x x lt is so_far bytes is_kept)

    pub step_whole : (others : List File) × AreRead told paths (files ++ (asked, bytes) ∷ others)
    step_whole =
        let r = whole_read told paths files i x x lt is so_far bytes is_kept in
        let P : Path → Type 0 = λ p. AreRead told paths (files ++ (p, bytes) ∷ r.0) in
        (r.0, subst P (sym e) r.1)
