-- Edits applied from one place to the next.
use Rattle.std.proofs.Common.{◌≡◌, ℕ, zero, suc, ◌+◌, ◌-◌, ◌<◌, ◌≤◌, List, [], ◌∷◌, ◌++◌, length, take, drop, drop-cons, get_or, refl, sym, ap, ◌∙◌, arith, append_assoc}
use Rattle.std.proofs.lemmas.List.{take-append-le, drop-append-le, drop-take, length-take-le, length-take}
use Rattle.report_form.specs.declared.edit.Edit.{Edit}
use Rattle.fix_apply.specs.Applied.{LieIn, applied}

take_front : {X : Type 0} (n m : ℕ) (xs : List X) → n ≤ m → take n (take m xs) ≡ take n xs
take_front zero m xs le = refl
take_front (suc n) zero xs le = absurd (omega arith)
take_front (suc n) (suc m) [] le = refl
take_front (suc n) (suc m) (x ∷ xs) le = ap (λ ys. x ∷ ys) (take_front n m xs (omega arith))

-- where edits lie in a text, they begin within it
pub lie_within : (from size : ℕ) (es : List Edit) → LieIn from size es → from ≤ size
lie_within from size [] lie = lie
lie_within from size (e ∷ es) lie = let rest = lie_within e.span.to size es lie.2 in omega (arith, lie.0, lie.1, rest)

-- a text that has a front of another text is as long at least
long_enough : (n : ℕ) (xs ys : List ℕ) → take n xs ≡ take n ys → n ≤ length ys → n ≤ length xs
long_enough n xs ys e le = omega (arith, length-take n xs, ap length e, length-take-le n ys le)

-- what stands before all edits stays as it is
front_stays : (text : List ℕ) (n : ℕ) (es : List Edit) → LieIn n (length text) es → take n (applied text es) ≡ take n text
front_stays text n [] lie = refl
front_stays text n (e ∷ es) lie =
    let rest = applied text es in
    let whole = front_stays text e.span.to es lie.2 in
    let long : e.span.to ≤ length rest = long_enough e.span.to rest text whole (lie_within e.span.to (length text) es lie.2) in
    let from_long : e.span.from ≤ length rest = omega (arith, long, lie.1) in
    let front_long : length (take e.span.from rest) ≡ e.span.from = length-take-le e.span.from rest from_long in
    ap (take n) (append_assoc (take e.span.from rest) e.text (drop e.span.to rest))
    ∙ take-append-le n (take e.span.from rest) (e.text ++ drop e.span.to rest) (omega (arith, front_long, lie.0))
    ∙ take_front n e.span.from rest lie.0
    ∙ sym (take_front n e.span.to rest (omega (arith, lie.0, lie.1)))
    ∙ ap (take n) whole
    ∙ take_front n e.span.to text (omega (arith, lie.0, lie.1))

between : (text other : List ℕ) (at from : ℕ) → at ≤ from → take from other ≡ take from text → drop at (take from other) ≡ take (from - at) (drop at text)
between text other at from le same =
    let on : from ≡ at + (from - at) = omega arith in
    ap (drop at) (same ∙ ap (λ n. take n text) on) ∙ drop-take at (from - at) text

-- the text from where the last edit ended, with the next edits applied: what stands before the next one, its text, and the rest
pub next_edit : (text : List ℕ) (at : ℕ) (e : Edit) (es : List Edit) → LieIn at (length text) (e ∷ es)
    → drop at (applied text (e ∷ es)) ≡ take (e.span.from - at) (drop at text) ++ (e.text ++ drop e.span.to (applied text es))
next_edit text at e es lie =
    let rest = applied text es in
    let whole = front_stays text e.span.to es lie.2 in
    let long : e.span.to ≤ length rest = long_enough e.span.to rest text whole (lie_within e.span.to (length text) es lie.2) in
    let front_long : length (take e.span.from rest) ≡ e.span.from = length-take-le e.span.from rest (omega (arith, long, lie.1)) in
    let same : take e.span.from rest ≡ take e.span.from text =
    sym (take_front e.span.from e.span.to rest lie.1) ∙ ap (take e.span.from) whole ∙ take_front e.span.from e.span.to text lie.1 in
    ap (drop at) (append_assoc (take e.span.from rest) e.text (drop e.span.to rest))
    ∙ drop-append-le at (take e.span.from rest) (e.text ++ drop e.span.to rest) (omega (arith, front_long, lie.0))
    ∙ ap (λ xs. xs ++ (e.text ++ drop e.span.to rest)) (between text rest at e.span.from lie.0 same)

-- one edit more
pub edit_on : (text whole goal : List ℕ) (at : ℕ) (e : Edit) (es : List Edit) → LieIn at (length text) (e ∷ es)
    → whole ++ drop at (applied text (e ∷ es)) ≡ goal
    → ((whole ++ take (e.span.from - at) (drop at text)) ++ e.text) ++ drop e.span.to (applied text es) ≡ goal
edit_on text whole goal at e es lie far =
    let piece = take (e.span.from - at) (drop at text) in
    append_assoc (whole ++ piece) e.text (drop e.span.to (applied text es))
    ∙ append_assoc whole piece (e.text ++ drop e.span.to (applied text es))
    ∙ ap (λ xs. whole ++ xs) (sym (next_edit text at e es lie))
    ∙ far

-- the item at a place, and the rest
pub next_item : {X : Type 0} (xs : List X) (i : ℕ) (x : X) → i < length xs → x ≡ get_or xs i x → drop i xs ≡ x ∷ drop (i + 1) xs
next_item xs i x lt is =
    let on : suc i ≡ i + 1 = omega arith in
    drop-cons xs i x lt ∙ ap (λ y. y ∷ drop (suc i) xs) (sym is) ∙ ap (λ k. x ∷ drop k xs) on
