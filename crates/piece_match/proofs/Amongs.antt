-- Lists one after the other, and numbers that go on.
use Rattle.std.proofs.Common.{◌≡◌, ℕ, zero, suc, ◌<◌, take, drop, get_or, ◌+◌, List, [], ◌∷◌, ◌++◌, ◌⊎◌, inl, inr, ◌↔◌, length, refl, sym, ap, ◌∙◌, subst, arith}
use Rattle.std.specs.Prelude.{remove}
use Rattle.std.specs.List.{flat_map}
use Rattle.std.proofs.lemmas.List.Concat.{flat_map-cons}
use Rattle.node_tree.specs.declared.node.Node.{Node}
use Rattle.node_tree.specs.Numbers.{Numbered, numbered}
use Rattle.node_match.specs.Sets.{Among}

module _ {X : Type 0} where
  pub among_first : (xs ys : List X) (x : X) → Among xs x → Among (xs ++ ys) x
  among_first [] ys x h = absurd h
  among_first (z ∷ zs) ys x (inl e) = inl e
  among_first (z ∷ zs) ys x (inr h) = inr (among_first zs ys x h)

  pub among_second : (xs ys : List X) (x : X) → Among ys x → Among (xs ++ ys) x
  among_second [] ys x h = h
  among_second (z ∷ zs) ys x h = inr (among_second zs ys x h)

  pub among_either : (xs ys : List X) (x : X) → Among (xs ++ ys) x → Among xs x ⊎ Among ys x
  among_either [] ys x h = inr h
  among_either (z ∷ zs) ys x (inl e) = inl (inl e)
  among_either (z ∷ zs) ys x (inr h) = elim (among_either zs ys x h) [ inl a ↦ inl (inr a) | inr b ↦ inr b ]

module _ {X : Type 0} where
  pub among_at : (xs : List X) (k : ℕ) (x : X) → k < length xs → x ≡ get_or xs k x → Among xs x
  among_at [] k x lt is = absurd (omega arith)
  among_at (y ∷ ys) zero x lt is = inl (sym is)
  among_at (y ∷ ys) (suc k) x lt is = inr (among_at ys k x (omega arith) is)

  among_drop : (k : ℕ) (xs : List X) (x : X) → Among (drop k xs) x → Among xs x
  among_drop zero xs x h = h
  among_drop (suc k) [] x h = h
  among_drop (suc k) (y ∷ ys) x h = inr (among_drop k ys x h)

  among_take : (k : ℕ) (xs : List X) (x : X) → Among (take k xs) x → Among xs x
  among_take zero xs x h = absurd h
  among_take (suc k) [] x h = h
  among_take (suc k) (y ∷ ys) x (inl e) = inl e
  among_take (suc k) (y ∷ ys) x (inr h) = inr (among_take k ys x h)

  pub among_removed : (k : ℕ) (xs : List X) (x : X) → Among (remove xs k) x → Among xs x
  among_removed k xs x h = elim (among_either (take k xs) (drop (suc k) xs) x h) [ inl a ↦ among_take k xs x a | inr b ↦ among_drop (suc k) xs x b ]

-- a list that is made of one for each item
pub among_flat : {X Y : Type 0} (f : X → List Y) (xs : List X) (y : Y) → Among (flat_map f xs) y ↔ ((x : X) × Among xs x × Among (f x) y)
among_flat {X} {Y} f [] y = (λ h. absurd h, λ (x, a, h). absurd a)
among_flat {X} {Y} f (z ∷ zs) y =
    let P : List Y → Type 0 = λ ys. Among ys y ↔ ((x : X) × Among (z ∷ zs) x × Among (f x) y) in
    let ih = among_flat f zs y in
    let to : Among (f z ++ flat_map f zs) y → (x : X) × Among (z ∷ zs) x × Among (f x) y =
    λ h. elim (among_either (f z) (flat_map f zs) y h) [ inl a ↦ (z, inl refl, a) | inr b ↦ (let (x, a, c) = ih.0 b in (x, inr a, c)) ] in
    let back : (x : X) × Among (z ∷ zs) x × Among (f x) y → Among (f z ++ flat_map f zs) y =
    λ (x, a, h). elim a [
      | inl e ↦ (let Q : X → Type 0 = λ k. Among (f k) y in let here : Among (f z) y = subst Q (sym e) h in among_first (f z) (flat_map f zs) y here)
      | inr b ↦ among_second (f z) (flat_map f zs) y (ih.1 (x, b, h))
    ] in
    subst P (sym (flat_map-cons f z zs)) (to, back)

pub numbered_append : (i : ℕ) (ns ms : List Node) → numbered i (ns ++ ms) ≡ numbered i ns ++ numbered (i + length ns) ms
numbered_append i [] ms = let e : i ≡ i + 0 = omega arith in ap (λ (k : ℕ). numbered k ms) e
numbered_append i (n ∷ ns) ms =
    let e : i + 1 + length ns ≡ i + length (n ∷ ns) = omega arith in
    let x : Numbered = record { at = i; node = n } in
    ap (λ (xs : List Numbered). x ∷ xs) (numbered_append (i + 1) ns ms ∙ ap (λ (k : ℕ). numbered (i + 1) ns ++ numbered k ms) e)
