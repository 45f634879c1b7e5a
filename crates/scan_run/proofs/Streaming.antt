-- Reading and writing piece after piece.
use Rattle.std.proofs.Common.{◌≡◌, ℕ, ◌+◌, ◌<◌, List, [], ◌∷◌, ◌++◌, length, take, drop, map, get_or, refl, sym, ap, ◌∙◌, subst, append_assoc}
use Rattle.std.specs.Prelude.{Option, Some, None}
use Rattle.std.specs.List.{concat}
use Rattle.std.specs.Io.KnownBytes.{Consumes, Appends}
use Rattle.std.proofs.lemmas.List.{append-nil, take_more, take-append-drop, take-map, map-append}
use Rattle.std.proofs.lemmas.List.Folds.{concat-append}
use Rattle.scan_world.specs.Streams.{AppendsFront}
use Rattle.meta_bind.specs.declared.bound.Bound.{Bound}
use Rattle.meta_bind.specs.Bounds.{seen}
use Rattle.scan_run.specs.Lines.{bound_text}
use Rattle.run_status.specs.Ways.{AppendsSome}

pub nothing_read : (left : Option (List ℕ)) → Consumes left left []
nothing_read None = tt
nothing_read (Some xs) = refl

pub one_piece : (a b c : Option (List ℕ)) (old new piece : List ℕ) → Consumes a b old → new ≡ old ++ piece → Consumes b c piece → Consumes a c new
one_piece None b c old new piece h e k = tt
one_piece (Some xs) None c old new piece h e k = absurd h
one_piece (Some xs) (Some ys) None old new piece h e k = absurd k
one_piece (Some xs) (Some ys) (Some zs) old new piece h e k = h ∙ ap (λ (l : List ℕ). old ++ l) k ∙ sym (append_assoc old piece zs) ∙ ap (λ (l : List ℕ). l ++ zs) (sym e)

pub nothing_written : (a : Option (List ℕ)) → Appends a a []
nothing_written None = tt
nothing_written (Some xs) = sym (append-nil xs)

pub written_on : (a b c : Option (List ℕ)) (x y : List ℕ) → Appends a b x → Appends b c y → Appends a c (x ++ y)
written_on None b c x y h k = tt
written_on (Some xs) None c x y h k = absurd h
written_on (Some xs) (Some ys) None x y h k = absurd k
written_on (Some xs) (Some ys) (Some zs) x y h k = k ∙ ap (λ (l : List ℕ). l ++ y) h ∙ append_assoc xs x y

-- ---- lines, each the line of an item

module _ {X : Type 0} (line : X → List ℕ) where
  -- the lines of the first items
  abbrev pub lines_to : List X → ℕ → List ℕ
  lines_to items i = concat (map line (take i items))

  pub one_more : (items : List X) (i : ℕ) (x d : X) → i < length items → x ≡ get_or items i d → lines_to items (i + 1) ≡ lines_to items i ++ line x
  one_more items i x d lt is =
      ap (λ (l : List X). concat (map line l)) (take_more items i d lt ∙ ap (λ (y : X). take i items ++ y ∷ []) (sym is))
      ∙ ap concat (map-append line (take i items) (x ∷ [])) ∙ concat-append (map line (take i items)) (line x ∷ [])
      ∙ ap (λ (l : List ℕ). lines_to items i ++ l) (append-nil (line x))

  -- after one more line
  pub one_line : (a b c : Option (List ℕ)) (items : List X) (i : ℕ) (x d : X) → i < length items → x ≡ get_or items i d → Appends a b (lines_to items i) → Appends b c (line x) → Appends a c (lines_to items (i + 1))
  one_line a b c items i x d lt is h k =
      let P : List ℕ → Type 0 = λ l. Appends a c l in
      subst P (sym (one_more items i x d lt is)) (written_on a b c (lines_to items i) (line x) h k)

  -- after a front of one more line
  pub one_front : (a b c : Option (List ℕ)) (items : List X) (i : ℕ) (x d : X) → i < length items → x ≡ get_or items i d → Appends a b (lines_to items i) → AppendsFront b c (line x) → AppendsFront a c (concat (map line items))
  one_front a b c items i x d lt is h (front, rest, e, k) =
      let L = lines_to items i in
      let D = concat (map line (drop (i + 1) items)) in
      let whole : concat (map line items) ≡ lines_to items (i + 1) ++ D =
      ap (λ (l : List X). concat (map line l)) (sym (take-append-drop (i + 1) items)) ∙ ap concat (map-append line (take (i + 1) items) (drop (i + 1) items)) ∙ concat-append (map line (take (i + 1) items)) (map line (drop (i + 1) items)) in
      let parts : concat (map line items) ≡ (L ++ front) ++ (rest ++ D) =
      whole ∙ ap (λ (l : List ℕ). l ++ D) (one_more items i x d lt is ∙ ap (λ (l : List ℕ). L ++ l) e ∙ sym (append_assoc L front rest)) ∙ append_assoc (L ++ front) rest D in
      (L ++ front, rest ++ D, parts, written_on a b c L front h k)

  -- where memory runs out before a line
  pub some_lines : (a b c : Option (List ℕ)) (items : List X) (i : ℕ) → Appends a b (lines_to items i) → c ≡ b → AppendsSome a c (map line items)
  some_lines a b c items i h e =
      let P : List ℕ → Type 0 = λ l. Appends a b l in
      let Q : Option (List ℕ) → Type 0 = λ o. AppendsSome a o (map line items) in
      subst Q (sym e) (i, subst P (ap concat (sym (take-map line i items))) h)

pub no_front : (a b : Option (List ℕ)) (piece : List ℕ) → b ≡ a → AppendsFront a b piece
no_front a b piece e = let P : Option (List ℕ) → Type 0 = λ o. AppendsFront a o piece in subst P (sym e) ([], piece, refl, nothing_written a)

-- ---- the names of a member

seen_texts : (bs : List Bound) → map bound_text (map seen bs) ≡ map bound_text bs
seen_texts [] = refl
seen_texts (b ∷ bs) = ap (λ (l : List (List ℕ)). bound_text b ∷ l) (seen_texts bs)

-- after one more name
pub one_name : (front old part new : List ℕ) (bs : List Bound) (i : ℕ) (b d : Bound) → i < length bs → b ≡ get_or bs i d → old ≡ front ++ concat (map bound_text (map seen (take i bs))) → part ≡ bound_text b → new ≡ old ++ part
    → new ≡ front ++ concat (map bound_text (map seen (take (i + 1) bs)))
one_name front old part new bs i b d lt is before this after =
    after ∙ ap (λ (l : List ℕ). old ++ l) this ∙ ap (λ (l : List ℕ). l ++ bound_text b) (before ∙ ap (λ (l : List (List ℕ)). front ++ concat l) (seen_texts (take i bs)))
    ∙ append_assoc front (lines_to bound_text bs i) (bound_text b)
    ∙ ap (λ (l : List ℕ). front ++ l) (sym (one_more bound_text bs i b d lt is) ∙ ap concat (sym (seen_texts (take (i + 1) bs))))
