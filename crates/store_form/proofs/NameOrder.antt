-- Bounds in order of name, neighbour by neighbour.
use Rattle.std.proofs.Common.{◌≡◌, ℕ, zero, suc, ◌+◌, ◌-◌, ◌<◌, List, [], ◌∷◌, length, get_or, sym, ap, ◌∙◌, subst, arith}
use Rattle.std.specs.declared.cmp.Ordering.TheVariants.{Less}
use Rattle.std.proofs.lemmas.List.{get_or_default}
use borrow.Author.Count.{below_more}
use Rattle.meta_bind.specs.declared.bound.Bound.{Bound}
use Rattle.meta_bind.specs.Bounds.{name_cmp, NamesAscend}

-- the names at these places ascend
abbrev pub NextAscends : List Bound → ℕ → ℕ → Type 0
NextAscends bs i j = (d : Bound) → name_cmp (get_or bs i d).name (get_or bs j d).name ≡ Less

next_ascends : (bs : List Bound) → NamesAscend bs → (i : ℕ) → suc i < length bs → NextAscends bs i (suc i)
next_ascends [] h i lt = absurd (omega arith)
next_ascends (b ∷ []) h i lt = absurd (omega arith)
next_ascends (b ∷ c ∷ cs) h zero lt = λ d. h.0
next_ascends (b ∷ c ∷ cs) h (suc i) lt = λ d. next_ascends (c ∷ cs) h.1 i (omega arith) d

next_all : (bs : List Bound) → ((i : ℕ) → suc i < length bs → NextAscends bs i (suc i)) → NamesAscend bs
next_all [] h = tt
next_all (b ∷ []) h = tt
next_all (b ∷ c ∷ cs) h = (h 0 (omega arith) b, next_all (c ∷ cs) (λ i lt d. h (suc i) (omega arith) d))

pub some_ascend : (bs : List Bound) → NamesAscend bs → (j : ℕ) → 0 < j → j < length bs → NextAscends bs (j - 1) j
some_ascend bs h zero p lt = absurd (omega arith)
some_ascend bs h (suc i) p lt = let e : i ≡ suc i - 1 = omega arith in subst (λ (k : ℕ). NextAscends bs k (suc i)) e (next_ascends bs h i lt)

pub all_ascend : (bs : List Bound) → ((j : ℕ) → 0 < j → j < length bs → NextAscends bs (j - 1) j) → NamesAscend bs
all_ascend bs h =
    next_all bs (λ i lt. let e : suc i - 1 ≡ i = omega arith in subst (λ (k : ℕ). NextAscends bs k (suc i)) e (h (suc i) (omega arith) lt))

same_orders : (bs : List Bound) (i j : ℕ) (a b d : Bound) → i < length bs → j < length bs → a ≡ get_or bs i a → b ≡ get_or bs j b → name_cmp a.name b.name ≡ name_cmp (get_or bs i d).name (get_or bs j d).name
same_orders bs i j a b d li lj ea eb =
    ap (λ (x : Bound). name_cmp x.name b.name) (ea ∙ get_or_default bs i a d li) ∙ ap (λ (x : Bound). name_cmp (get_or bs i d).name x.name) (eb ∙ get_or_default bs j b d lj)

pub to_next : (bs : List Bound) (i j : ℕ) (a b : Bound) → i < length bs → j < length bs → a ≡ get_or bs i a → b ≡ get_or bs j b → name_cmp a.name b.name ≡ Less → NextAscends bs i j
to_next bs i j a b li lj ea eb h = λ d. sym (same_orders bs i j a b d li lj ea eb) ∙ h

pub from_next : (bs : List Bound) (i j : ℕ) (a b : Bound) → i < length bs → j < length bs → a ≡ get_or bs i a → b ≡ get_or bs j b → NextAscends bs i j → name_cmp a.name b.name ≡ Less
from_next bs i j a b li lj ea eb h = same_orders bs i j a b a li lj ea eb ∙ h a

-- one place more
pub next_more : (bs : List Bound) (i : ℕ) → ((j : ℕ) → 0 < j → j < i → NextAscends bs (j - 1) j) → NextAscends bs (i - 1) i → (j : ℕ) → 0 < j → j < i + 1 → NextAscends bs (j - 1) j
next_more bs i below here j p lt = below_more (λ (m : ℕ). 0 < m → NextAscends bs (m - 1) m) i (λ k l p'. below k p' l) (λ _. here) j lt p
