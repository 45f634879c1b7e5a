-- What is read with parts cut off that are too deep is what is read without, where it is shallow enough.
use Rattle.std.proofs.Common.{◌≡◌, ℕ, zero, suc, ◌<◌, ◌≤◌, List, [], ◌∷◌, ◌++◌, refl, ap, sym, subst, ◌∙◌, arith, Bool, true, false, cond, Option, Some, None, inl, inr}
use Rattle.std.specs.Prelude.{◌⊎◌, ◌&&◌, max}
use Rattle.grammar.specs.Rule.{done, mark, word, ref, deep, again, seq, around, alt, look, choose, opt, must, rep, make, has}
use Rattle.grammar.specs.Sets.{first}
use Rattle.grammar.specs.Reader.{◌>>=◌, turns, read, choice, climb, read_level}
use Rattle.c_expr.specs.declared.word.Token.{Token}
use Rattle.c_expr.specs.declared.part.Part.{Part}
use Rattle.c_expr.specs.Table.{Builder, Over, Named, TypeWords, Spellings, Pointer, Chain, Rootless, Joined, Widened, Level, Row, table}
use Rattle.c_expr.specs.Build.{start_of, tallest, absent, cut, leaf, grafted, graft_all, graft_cut, built, cut_built, source, cut_source}
use Rattle.c_expr.specs.reader.Sets.{sets}
use Rattle.c_expr.proofs.Cut.{cut_shallow, cut_deep, either}
use Rattle.c_expr.proofs.Depths.{in_left, in_right, weak, grafted_deep}

abbrev Got : Type 0
Got = Option (List Part × ℕ)

-- a part without the cut and with it: the same, or both too deep
abbrev SamePart : Part → Part → Type 0
SamePart p q = ((p.depth ≤ 500) × (p ≡ q)) ⊎ ((500 < p.depth) × (500 < q.depth))

-- the same of several
abbrev Same : List Part → List Part → Type 0
Same xs ys = ((tallest xs ≤ 500) × (xs ≡ ys)) ⊎ ((500 < tallest xs) × (500 < tallest ys))

-- ---- what builders make

alone : (p q : Part) → SamePart p q → Same (p ∷ []) (q ∷ [])
alone p q (inl h) = inl (omega (arith, h.0), ap (λ (r : Part). r ∷ []) h.1)
alone p q (inr h) = inr (omega (arith, h.0), omega (arith, h.1))

itself : (p : Part) → SamePart p p
itself p = elim (either p.depth) [ inl h ↦ inl (h, refl) | inr h ↦ inr (h, h) ]

deep_cut : (p : Part) → 500 < p.depth → 500 < (cut p).depth
deep_cut p h = rw (cut_deep p h) (omega arith)

cut_part : (p : Part) → SamePart p (cut p)
cut_part p = elim (either p.depth) [ inl h ↦ inl (h, sym (cut_shallow p h)) | inr h ↦ inr (h, deep_cut p h) ]

graft_same : (from : ℕ) (t u p : Part) → SamePart t u → SamePart (grafted from t p) (cut (grafted from u p))
graft_same from t u p (inl h) = subst (λ q. SamePart (grafted from t p) (cut (grafted from q p))) h.1 (cut_part (grafted from t p))
graft_same from t u p (inr h) = inr (omega (arith, h.0, grafted_deep from t p), deep_cut (grafted from u p) (omega (arith, h.1, grafted_deep from u p)))

grafts_same : (from : ℕ) (ps : List Part) (t u : Part) → SamePart t u → SamePart (graft_all from t ps) (graft_cut from u ps)
grafts_same from [] t u h = h
grafts_same from (p ∷ ps) t u h = grafts_same from ps (grafted from t p) (cut (grafted from u p)) (graft_same from t u p h)

no_wider : (p : Part) → ◌≡◌ {A = Part} (record { node = p.node; depth = max p.depth 0 }) p
no_wider p = let e : max p.depth 0 ≡ p.depth = omega arith in rw e refl

built_same : (ts : List Token) (b : Builder) (i j : ℕ) (ps : List Part) → SamePart (built ts b i j ps) (cut_built ts b i j ps)
built_same ts (Over kind n) i j ps = cut_part (built ts (Over kind n) i j ps)
built_same ts (Named kind n) i j ps = cut_part (built ts (Named kind n) i j ps)
built_same ts TypeWords i j ps = cut_part (built ts TypeWords i j ps)
built_same ts Spellings i j ps = itself (built ts Spellings i j ps)
built_same ts Pointer i j ps = cut_part (built ts Pointer i j ps)
built_same ts Chain i j [] = itself (absent (start_of ts i))
built_same ts Chain i j (p ∷ ps) = grafts_same (start_of ts i) ps p p (itself p)
built_same ts Rootless i j ps = grafts_same (start_of ts i) ps (absent (start_of ts i)) (absent (start_of ts i)) (itself (absent (start_of ts i)))
built_same ts Joined i j [] = cut_part (built ts Joined i j [])
built_same ts Joined i j (p ∷ []) = itself p
built_same ts Joined i j (p ∷ q ∷ ps) = cut_part (built ts Joined i j (p ∷ q ∷ ps))
built_same ts Widened i j [] = cut_part (built ts Widened i j [])
built_same ts Widened i j (p ∷ []) = subst (λ q. SamePart q p) (sym (no_wider p)) (itself p)
built_same ts Widened i j (p ∷ q ∷ ps) = cut_part (built ts Widened i j (p ∷ q ∷ ps))

deep_too : (p q : Part) → SamePart p q → 500 < p.depth → 500 < q.depth
deep_too p q (inl h) d = absurd (omega (arith, h.0, d))
deep_too p q (inr h) d = h.1

built_alike : (ts : List Token) (b : Builder) (i j : ℕ) (xs ys : List Part) → Same xs ys → Same (built ts b i j xs ∷ []) (cut_built ts b i j ys ∷ [])
built_alike ts b i j xs ys (inl h) = subst (λ zs. Same (built ts b i j xs ∷ []) (cut_built ts b i j zs ∷ [])) h.1 (alone (built ts b i j xs) (cut_built ts b i j xs) (built_same ts b i j xs))
built_alike ts b i j xs ys (inr h) = alone (built ts b i j xs) (cut_built ts b i j ys) (inr (omega (arith, h.0, weak ts b i j xs), deep_too (built ts b i j ys) (cut_built ts b i j ys) (built_same ts b i j ys) (omega (arith, h.1, weak ts b i j ys))))

both_parts : (xs ys zs ws : List Part) → Same xs ys → Same zs ws → Same (xs ++ zs) (ys ++ ws)
both_parts xs ys zs ws (inl h) (inl k) = elim (either (tallest (xs ++ zs))) [ inl s ↦ inl (s, rw (h.1, k.1) refl) | inr d ↦ inr (d, subst (λ vs. 500 < tallest vs) (ap (λ vs. vs ++ zs) h.1 ∙ ap (λ vs. ys ++ vs) k.1) d) ]
both_parts xs ys zs ws (inl h) (inr k) = inr (omega (arith, k.0, in_right xs zs), omega (arith, k.1, in_right ys ws))
both_parts xs ys zs ws (inr h) k = inr (omega (arith, h.0, in_left xs zs), omega (arith, h.1, in_left ys ws))

-- ---- what is read

-- nothing both times, or the same parts up to the same place, or parts that are too deep
abbrev pub Both : Option (List Part × ℕ) → Option (List Part × ℕ) → Type 0
Both None None = Unit {0}
Both None (Some y) = ⊥
Both (Some x) None = ⊥
Both (Some x) (Some y) = (((tallest x.0 ≤ 500) × (x.0 ≡ y.0)) ⊎ ((500 < tallest x.0) × (500 < tallest y.0))) × (x.1 ≡ y.1)

both_cond : (b : Bool) (r r' s s' : Got) → Both r r' → Both s s' → Both (cond b r s) (cond b r' s')
both_cond true r r' s s' h k = h
both_cond false r r' s s' h k = k

both_bind : (r r' : Got) (f f' : List Part × ℕ → Got) → Both r r' → ((xs ys : List Part) (j : ℕ) → Same xs ys → Both (f (xs, j)) (f' (ys, j))) → Both (r >>= f) (r' >>= f')
both_bind None None f f' h g = tt
both_bind None (Some y) f f' h g = absurd h
both_bind (Some x) None f f' h g = absurd h
both_bind (Some x) (Some y) f f' h g = subst (λ j. Both (f x) (f' (y.0, j))) h.1 (g x.0 y.0 x.1 h.0)

both_turns : (F F' : (ℕ → Got) → ℕ → Got) → ((A A' : ℕ → Got) → ((i : ℕ) → Both (A i) (A' i)) → (i : ℕ) → Both (F A i) (F' A' i)) → (n i : ℕ) → Both (turns (λ i. None) F n i) (turns (λ i. None) F' n i)
both_turns F F' h zero i = tt
both_turns F F' h (suc n) i = h (turns (λ i. None) F n) (turns (λ i. None) F' n) (both_turns F F' h n) i

both_choice : (X Y X' Y' : Level → ℕ → Got) → ((l : Level) (i : ℕ) → Both (X l i) (X' l i)) → ((l : Level) (i : ℕ) → Both (Y l i) (Y' l i)) → (g : Bool) (l : Level) (i : ℕ) → Both (choice X Y g l i) (choice X' Y' g l i)
both_choice X Y X' Y' h k false l i = h l i
both_choice X Y X' Y' h k true l i = k l i

module _ (ts : List Token) (m : ℕ) where
  reads_alike : (r : Row) (V V' : Bool → Level → ℕ → Got) (A A' : ℕ → Got) (q : Option Level) → ((g : Bool) (l : Level) (i : ℕ) → Both (V g l i) (V' g l i)) → ((i : ℕ) → Both (A i) (A' i)) → (i : ℕ) → Both (read (source ts) sets m V A q r i) (read (cut_source ts) sets m V' A' q r i)
  reads_alike done V V' A A' q v a i = (inl (omega arith, refl), refl)
  reads_alike (mark cs) V V' A A' q v a i = both_cond (has cs ((source ts).cls i)) (Some ([], suc i)) (Some ([], suc i)) None None (inl (omega arith, refl), refl) tt
  reads_alike (word l cs) V V' A A' q v a i = both_cond (has cs ((source ts).cls i)) (Some (leaf ts l i ∷ [], suc i)) (Some (leaf ts l i ∷ [], suc i)) None None (alone (leaf ts l i) (leaf ts l i) (itself (leaf ts l i)), refl) tt
  reads_alike (ref l) V V' A A' q v a i = v false l i
  reads_alike (deep l) V V' A A' q v a i = v true l i
  reads_alike again V V' A A' q v a i = a i
  reads_alike (seq r s) V V' A A' q v a i =
      both_bind (read (source ts) sets m V A q r i) (read (cut_source ts) sets m V' A' q r i) (λ x. read (source ts) sets m V A q s x.1 >>= λ y. Some (x.0 ++ y.0, y.1)) (λ x. read (cut_source ts) sets m V' A' q s x.1 >>= λ y. Some (x.0 ++ y.0, y.1)) (reads_alike r V V' A A' q v a i)
      (λ xs ys j h. both_bind (read (source ts) sets m V A q s j) (read (cut_source ts) sets m V' A' q s j) (λ y. Some (xs ++ y.0, y.1)) (λ y. Some (ys ++ y.0, y.1)) (reads_alike s V V' A A' q v a j) (λ zs ws k e. (both_parts xs ys zs ws h e, refl)))
  reads_alike (around cs ds r) V V' A A' q v a i =
      both_cond (has cs ((source ts).cls i)) _ _ None None
      (both_bind (read (source ts) sets m V A q r (suc i)) (read (cut_source ts) sets m V' A' q r (suc i)) (λ x. cond (has ds ((source ts).cls x.1)) (Some (x.0, suc x.1)) None) (λ x. cond (has ds ((source ts).cls x.1)) (Some (x.0, suc x.1)) None) (reads_alike r V V' A A' q v a (suc i))
      (λ xs ys j h. both_cond (has ds ((source ts).cls j)) (Some (xs, suc j)) (Some (ys, suc j)) None None (h, refl) tt))
      tt
  reads_alike (alt r s) V V' A A' q v a i = both_cond (has (first sets q r) ((source ts).cls i)) _ _ _ _ (reads_alike r V V' A A' q v a i) (reads_alike s V V' A A' q v a i)
  reads_alike (look w cs ds b r s) V V' A A' q v a i =
      both_cond (has cs ((source ts).cls i) && has ds ((source ts).cls (suc i))) _ _ _ _
      (both_bind (read (source ts) sets m V A q r (suc (suc i))) (read (cut_source ts) sets m V' A' q r (suc (suc i))) (λ x. Some (built ts b i x.1 (leaf ts w i ∷ x.0) ∷ [], x.1)) (λ x. Some (cut_built ts b i x.1 (leaf ts w i ∷ x.0) ∷ [], x.1)) (reads_alike r V V' A A' q v a (suc (suc i)))
      (λ xs ys j h. (built_alike ts b i j (leaf ts w i ∷ xs) (leaf ts w i ∷ ys) (both_parts (leaf ts w i ∷ []) (leaf ts w i ∷ []) xs ys (alone (leaf ts w i) (leaf ts w i) (itself (leaf ts w i))) h), refl)))
      (reads_alike s V V' A A' q v a i)
  reads_alike (choose p r s) V V' A A' q v a i = both_cond (p (source ts).cls i) _ _ _ _ (reads_alike r V V' A A' q v a i) (reads_alike s V V' A A' q v a i)
  reads_alike (opt r) V V' A A' q v a i = both_cond (has (first sets q r) ((source ts).cls i)) _ _ (Some ([], i)) (Some ([], i)) (reads_alike r V V' A A' q v a i) (inl (omega arith, refl), refl)
  reads_alike (must cs r) V V' A A' q v a i = both_cond (has cs ((source ts).cls i)) _ _ (Some ([], i)) (Some ([], i)) (reads_alike r V V' A A' q v a i) (inl (omega arith, refl), refl)
  reads_alike (rep l r) V V' A A' q v a i = both_turns (λ X. read (source ts) sets m V X (Some l) r) (λ X. read (cut_source ts) sets m V' X (Some l) r) (λ X X' h j. reads_alike r V V' X X' (Some l) v h j) m i
  reads_alike (make b r) V V' A A' q v a i =
      both_bind (read (source ts) sets m V A q r i) (read (cut_source ts) sets m V' A' q r i) (λ x. Some (built ts b i x.1 x.0 ∷ [], x.1)) (λ x. Some (cut_built ts b i x.1 x.0 ∷ [], x.1)) (reads_alike r V V' A A' q v a i) (λ xs ys j h. (built_alike ts b i j xs ys h, refl))

  climbs_alike : (D D' : Level → ℕ → Got) → ((l : Level) (i : ℕ) → Both (D l i) (D' l i)) → (n : ℕ) (l : Level) (i : ℕ) → Both (climb (source ts) sets m table D n l i) (climb (cut_source ts) sets m table D' n l i)
  climbs_alike D D' h zero l i = tt
  climbs_alike D D' h (suc n) l i = reads_alike (table l) (choice (climb (source ts) sets m table D n) D) (choice (climb (cut_source ts) sets m table D' n) D') (λ i. None) (λ i. None) None (both_choice (climb (source ts) sets m table D n) D (climb (cut_source ts) sets m table D' n) D' (climbs_alike D D' h n) h) (λ i. tt) i

  pub levels_alike : (top room : ℕ) (l : Level) (i : ℕ) → Both (read_level (source ts) sets m table top room l i) (read_level (cut_source ts) sets m table top room l i)
  levels_alike top zero l i = tt
  levels_alike top (suc h) l i = climbs_alike (read_level (source ts) sets m table top h) (read_level (cut_source ts) sets m table top h) (levels_alike top h) top l i

-- what is shallow is read with the cut as without
cut_some : (xs : List Part) (j : ℕ) (r : Option (List Part × ℕ)) → Both (Some (xs, j)) r → tallest xs ≤ 500 → r ≡ Some (xs, j)
cut_some xs j None h s = absurd h
cut_some xs j (Some y) h s = elim h.0 [ inl e ↦ rw (e.1, h.1) refl | inr d ↦ absurd (omega (arith, d.0, s)) ]

uncut_some : (r : Option (List Part × ℕ)) (ys : List Part) (j : ℕ) → Both r (Some (ys, j)) → tallest ys ≤ 500 → r ≡ Some (ys, j)
uncut_some None ys j h s = absurd h
uncut_some (Some x) ys j h s = elim h.0 [ inl e ↦ rw (e.1, h.1) refl | inr d ↦ absurd (omega (arith, d.1, s)) ]

pub cut_reads : (r s : Option (List Part × ℕ)) (xs : List Part) (j : ℕ) → Both r s → r ≡ Some (xs, j) → tallest xs ≤ 500 → s ≡ Some (xs, j)
cut_reads r s xs j h e = cut_some xs j s (subst (λ (q : Option (List Part × ℕ)). Both q s) e h)

pub uncut_reads : (r s : Option (List Part × ℕ)) (ys : List Part) (j : ℕ) → Both r s → s ≡ Some (ys, j) → tallest ys ≤ 500 → r ≡ Some (ys, j)
uncut_reads r s ys j h e = uncut_some r ys j (subst (λ (q : Option (List Part × ℕ)). Both r q) e h)
