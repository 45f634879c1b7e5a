-- Keys that are found one at a time, from the last on.
use Rattle.std.proofs.Common.{◌≡◌, ℕ, zero, suc, ◌+◌, ◌<◌, Bool, true, false, cond, not, List, [], ◌∷◌, length, get_or, drop, nat_cmp, refl, sym, ap, ◌∙◌}
use Rattle.std.specs.Ordering.{is_eq}
use Rattle.std.specs.Cmp.Lexicographic.{slice_cmp}
use Rattle.std.proofs.lemmas.List.{drop_more}
use Rattle.std.proofs.lemmas.Map.Text.{is_eq-slice_cmp}
use Rattle.yaml_cells.specs.declared.value.YValue.{YValue}
use Rattle.yaml_read.specs.Keys.{is_among, is_distinct}

pub not_false : (b : Bool) → not b ≡ false → b ≡ true
not_false true e = refl
not_false false e = sym e

pub not_true : (b : Bool) → not b ≡ true → b ≡ false
not_true true e = sym e
not_true false e = refl

later : (b x : Bool) → x ≡ false → cond b false x ≡ false
later true x h = refl
later false x h = h

-- where a key stands twice in the last entries, it does so in all
last_twice : (es : List (List ℕ × YValue)) (n : ℕ) → is_distinct (drop n es) ≡ false → is_distinct es ≡ false
last_twice es zero h = h
last_twice [] (suc n) h = h
last_twice (e ∷ es) (suc n) h = later (is_among e.0 es) (is_distinct es) (last_twice es n h)

-- one entry more, at m, before those from n on
module _ (es : List (List ℕ × YValue)) (m n : ℕ) (e : List ℕ × YValue) (k : List ℕ) (next : m + 1 ≡ n) (inside : m < length es) (is : e ≡ get_or es m e) (said : k ≡ (get_or es m e).0) where
  named : k ≡ e.0
  named = said ∙ ap (λ (x : List ℕ × YValue). x.0) (sym is)

  front : drop m es ≡ e ∷ drop n es
  front =
      drop_more es m e inside ∙ ap (λ (x : ℕ). get_or es m e ∷ drop x es) next
      ∙ ap (λ (x : List ℕ × YValue). x ∷ drop n es) (sym is)

  found : (b : Bool) → is_among k (drop n es) ≡ b → is_distinct (drop m es) ≡ cond b false (is_distinct (drop n es))
  found b h = ap is_distinct front ∙ ap (λ (x : Bool). cond x false (is_distinct (drop n es))) (ap (λ (x : List ℕ). is_among x (drop n es)) (sym named) ∙ h)

  pub twice : is_among k (drop n es) ≡ true → is_distinct es ≡ false
  twice h = last_twice es m (found true h)

  pub once : is_among k (drop n es) ≡ false → is_distinct (drop n es) ≡ true → is_distinct (drop m es) ≡ true
  once h i = found false h ∙ i

  pub among : (key : List ℕ) → cond (is_eq (slice_cmp nat_cmp k key)) true (is_among key (drop n es)) ≡ is_among key (drop m es)
  among key =
      ap (λ (b : Bool). cond b true (is_among key (drop n es))) (ap (λ (x : List ℕ). is_eq (slice_cmp nat_cmp x key)) named ∙ is_eq-slice_cmp e.0 key)
      ∙ ap (λ (xs : List (List ℕ × YValue)). is_among key xs) (sym front)
