-- The rows of block scalars.
use Rattle.std.proofs.Common.{◌≡◌, ℕ, ◌+◌, ◌<◌, Bool, true, false, List, [], ◌∷◌, ◌++◌, length, get_or, drop, Option, Some, None, refl, sym, ap, ◌∙◌, subst, arith, append_assoc}
use Rattle.std.proofs.lemmas.List.{drop_more}
use Rattle.std.specs.Str.{IsUtf8, is_utf8}
use Rattle.std.proofs.lemmas.Str.{is_utf8-from_IsUtf8}
use Rattle.yaml_lines.proofs.Steps.{not_text}
use Rattle.yaml_cells.specs.declared.block.Header.{Header}
use Rattle.yaml_cells.specs.Block.{block_from, past_column, before, before_row, is_kept}

rows_more : (body : List (List ℕ)) (at : ℕ) (d line : List ℕ) → at < length body → line ≡ get_or body at d → drop at body ≡ line ∷ drop (at + 1) body
rows_more body at d line h e = drop_more body at d h ∙ ap (λ (x : List ℕ). x ∷ drop (at + 1) body) (sym e)

module _ (h : Header) (column : Option ℕ) (ended : Bool) (kept : Option Bool) (gap : ℕ) (body : List (List ℕ)) (at : ℕ) (d line row : List ℕ) (inside : at < length body) (is : line ≡ get_or body at d) (cut : row ≡ past_column column line) where
  pub row_gap : row ≡ [] → block_from h column ended kept gap (drop at body) ≡ block_from h column ended kept (gap + 1) (drop (at + 1) body)
  row_gap e = rw (rows_more body at d line inside is, ← cut, e) refl

  pub row_bad : (b : ℕ) (bs : List ℕ) → row ≡ b ∷ bs → (IsUtf8 row → ⊥) → block_from h column ended kept gap (drop at body) ≡ None
  row_bad b bs e wrong =
      let P : List ℕ → Type 0 = λ x. is_utf8 x ≡ false in
      rw (rows_more body at d line inside is, ← cut, e, subst P e (not_text row wrong)) refl

  pub row_said : (b : ℕ) (bs : List ℕ) → row ≡ b ∷ bs → IsUtf8 row → block_from h column ended kept gap (drop at body) ≡ before (before_row kept (is_kept h b) gap ++ row) (block_from h column ended (Some (is_kept h b)) 0 (drop (at + 1) body))
  row_said b bs e u =
      let P : List ℕ → Type 0 = λ x. is_utf8 x ≡ true in
      rw (rows_more body at d line inside is, ← cut, e, subst P e (is_utf8-from_IsUtf8 row u)) refl

pub before-before : (a b : List ℕ) (rest : Option (List ℕ)) → before a (before b rest) ≡ before (a ++ b) rest
before-before a b None = refl
before-before a b (Some r) = ap Some (sym (append_assoc a b r))

pub empty : (row : List ℕ) → length row ≡ 0 → row ≡ []
empty [] e = refl
empty (b ∷ bs) e = absurd (omega (arith, e))

-- a row is pushed behind what stands before it
pub row_pushed : (h : Header) (column : Option ℕ) (ended : Bool) (kept : Option Bool) (gap : ℕ) (rest : List (List ℕ)) (b : ℕ) (content mid new row t : List ℕ) (k : Bool) → k ≡ is_kept h b → mid ≡ content ++ before_row kept k gap → new ≡ mid ++ t → t ≡ row → before content (before (before_row kept (is_kept h b) gap ++ row) (block_from h column ended (Some (is_kept h b)) 0 rest)) ≡ before new (block_from h column ended (Some k) 0 rest)
row_pushed h column ended kept gap rest b content mid new row t k ke m n te =
    let all : content ++ (before_row kept k gap ++ row) ≡ new = sym (append_assoc content (before_row kept k gap) row) ∙ ap (λ (x : List ℕ). x ++ row) (sym m) ∙ ap (λ (x : List ℕ). mid ++ x) (sym te) ∙ sym n in
    ap (λ (y : Bool). before content (before (before_row kept y gap ++ row) (block_from h column ended (Some y) 0 rest))) (sym ke)
    ∙ before-before content (before_row kept k gap ++ row) (block_from h column ended (Some k) 0 rest)
    ∙ ap (λ (x : List ℕ). before x (block_from h column ended (Some k) 0 rest)) all
