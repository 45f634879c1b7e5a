-- Names that are found one at a time, from the last on.
use Rattle.std.proofs.Common.{◌≡◌, ℕ, zero, suc, ◌+◌, ◌<◌, Bool, true, false, cond, not, List, [], ◌∷◌, length, get_or, drop, map, nat_cmp, refl, sym, ap, ◌∙◌}
use Rattle.std.specs.Ordering.{is_eq}
use Rattle.std.specs.Cmp.Lexicographic.{slice_cmp}
use Rattle.std.proofs.lemmas.List.{drop_more}
use Rattle.std.proofs.lemmas.Map.Text.{is_eq-slice_cmp}
use Rattle.lexing.specs.WordList.{is_among}
use Rattle.yaml_cells.specs.declared.value.YValue.{YValue}
use Rattle.rule_keys.specs.Heads.{named, are_distinct}

pub not_false : (b : Bool) → not b ≡ false → b ≡ true
not_false true e = refl
not_false false e = sym e

pub not_true : (b : Bool) → not b ≡ true → b ≡ false
not_true true e = sym e
not_true false e = refl

later : (b x : Bool) → x ≡ false → cond b false x ≡ false
later true x h = refl
later false x h = h

-- where a name stands twice in the last items, it does so in all
last_twice : (vs : List YValue) (n : ℕ) → are_distinct (map named (drop n vs)) ≡ false → are_distinct (map named vs) ≡ false
last_twice vs zero h = h
last_twice [] (suc n) h = h
last_twice (v ∷ vs) (suc n) h = later (is_among (map named vs) (named v)) (are_distinct (map named vs)) (last_twice vs n h)

-- one item more, at m, before those from n on
module _ (vs : List YValue) (m n : ℕ) (v : YValue) (k : List ℕ) (next : m + 1 ≡ n) (inside : m < length vs) (is : v ≡ get_or vs m v) (said : k ≡ named v) where
  front : map named (drop m vs) ≡ named v ∷ map named (drop n vs)
  front = ap (map named) (drop_more vs m v inside ∙ ap (λ (x : ℕ). get_or vs m v ∷ drop x vs) next ∙ ap (λ (x : YValue). x ∷ drop n vs) (sym is))

  found : (b : Bool) → is_among (map named (drop n vs)) k ≡ b → are_distinct (map named (drop m vs)) ≡ cond b false (are_distinct (map named (drop n vs)))
  found b h =
      ap are_distinct front
      ∙ ap (λ (x : Bool). cond x false (are_distinct (map named (drop n vs)))) (ap (is_among (map named (drop n vs))) (sym said) ∙ h)

  pub twice : is_among (map named (drop n vs)) k ≡ true → are_distinct (map named vs) ≡ false
  twice h = last_twice vs m (found true h)

  pub once : is_among (map named (drop n vs)) k ≡ false → are_distinct (map named (drop n vs)) ≡ true → are_distinct (map named (drop m vs)) ≡ true
  once h i = found false h ∙ i

  pub among : (key : List ℕ) → cond (is_eq (slice_cmp nat_cmp k key)) true (is_among (map named (drop n vs)) key) ≡ is_among (map named (drop m vs)) key
  among key =
      ap (λ (b : Bool). cond b true (is_among (map named (drop n vs)) key)) (ap (λ (x : List ℕ). is_eq (slice_cmp nat_cmp x key)) said ∙ is_eq-slice_cmp (named v) key)
      ∙ ap (λ (xs : List (List ℕ)). is_among xs key) (sym front)
