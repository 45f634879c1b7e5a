-- Pairs as numbers in order.
use Rattle.std.proofs.Common.{◌≡◌, ◌≢◌, ◌↔◌, ◌⊎◌, inl, inr, ℕ, zero, suc, ◌+◌, ◌*◌, ◌/◌, ◌%◌, ◌<◌, ◌≤◌, List, [], ◌∷◌, ◌++◌, length, get_or, Some, refl, sym, ap, ◌∙◌, arith}
use Rattle.std.specs.Prelude.{slice_get}
use Rattle.std.specs.Global.{Vec}
use Rattle.std.proofs.lemmas.Bool.{cases_eq}
use Rattle.std.proofs.lemmas.Option.{slice_get_read}
use Rattle.graph_form.specs.Sets.{Among}
use Rattle.graph_form.proofs.Amongs.{among_push, among_at, among_place}
use Rattle.flow_reach.specs.Adds.{Ascends, Codes, CodedTo, Coded, IsAddsOf, AreAdds}
use Rattle.flow_reach.specs.declared.moves.Move.{Move}

-- numbers of pairs

pub coded_push : (xs : List ℕ) (y a b f h : ℕ) → Codes y a b → Coded (xs ++ y ∷ []) f h ↔ (Coded xs f h ⊎ ((a ≡ f) × (b ≡ h)))
coded_push xs y a b f h codes = (
  λ (x, among, c). elim ((among_push xs y x).0 among) [
    | inl o ↦ inl (x, o, c)
    | inr e ↦ inr (sym codes.0 ∙ ap (λ z. z / 4294967296) e ∙ c.0, sym codes.1 ∙ ap (λ z. z % 4294967296) e ∙ c.1)
  ],
  λ t. elim t [
    | inl (x, o, c) ↦ (x, (among_push xs y x).1 (inl o), c)
    | inr (p, q) ↦ (y, (among_push xs y y).1 (inr refl), (codes.0 ∙ p, codes.1 ∙ q))
  ],
)

pub coded_same : (xs ys : List ℕ) (f h : ℕ) → ((x : ℕ) → Among ys x ↔ Among xs x) → Coded ys f h ↔ Coded xs f h
coded_same xs ys f h same = (λ (x, among, c). (x, (same x).0 among, c), λ (x, among, c). (x, (same x).1 among, c))

pub coded_none : (xs : List ℕ) (at fact : ℕ) → ((k : ℕ) → k < at → get_or xs k 0 < fact * 4294967296) → (after : ℕ) → CodedTo xs at fact after → ⊥
coded_none xs at fact below after (k, lt, inside, c) = omega (arith, below k lt, c.0)

pub coded_more : (xs : List ℕ) (at fact after : ℕ) → at < length xs → get_or xs at 0 / 4294967296 ≡ fact → CodedTo xs (at + 1) fact after ↔ (CodedTo xs at fact after ⊎ (get_or xs at 0 % 4294967296 ≡ after))
coded_more xs at fact after lt here = (
  λ (k, less, inside, c). elim (cases_eq k at) [
    | inl e ↦ inr (ap (λ z. get_or xs z 0 % 4294967296) (sym e) ∙ c.1)
    | inr ne ↦ inl (k, omega arith, inside, c)
  ],
  λ t. elim t [
    | inl (k, less, inside, c) ↦ (k, omega (arith, less), inside, c)
    | inr e ↦ (at, omega arith, lt, (here, e))
  ],
)

-- all that are coded stand below the first place with another fact
pub coded_all : (xs : List ℕ) (at fact after : ℕ) → Ascends xs → ((k : ℕ) → at ≤ k → k < length xs → fact * 4294967296 ≤ get_or xs k 0) → (at < length xs → get_or xs at 0 / 4294967296 ≢ fact) → CodedTo xs at fact after ↔ Coded xs fact after
coded_all xs at fact after up above other = (
  λ (k, less, inside, c). (get_or xs k 0, among_at xs k 0 inside, c),
  λ (x, among, c).
      let p = among_place 0 xs x among in
      elim (cases_lt p.0 at) [
        | inl lt ↦ (p.0, lt, p.1, (ap (λ z. z / 4294967296) p.2 ∙ c.0, ap (λ z. z % 4294967296) p.2 ∙ c.1))
        | inr ge ↦
            let lt : at < length xs = omega (arith, ge, p.1) in
            let here : at ≤ at = omega arith in
            let a = above at here lt in
            let le = up at p.0 ge p.1 in
            let q : get_or xs p.0 0 / 4294967296 ≡ fact = ap (λ z. z / 4294967296) p.2 ∙ c.0 in
            absurd (other lt (squeezed (get_or xs at 0) (get_or xs p.0 0) fact a le q))
      ],
)
  where
    cases_lt : (a b : ℕ) → (a < b) ⊎ (b ≤ a)
    cases_lt a zero = inr (omega arith)
    cases_lt zero (suc b) = inl (omega arith)
    cases_lt (suc a) (suc b) = elim (cases_lt a b) [ inl h ↦ inl (omega arith) | inr h ↦ inr (omega arith) ]

    squeezed : (x y f : ℕ) → f * 4294967296 ≤ x → x ≤ y → y / 4294967296 ≡ f → x / 4294967296 ≡ f
    squeezed x y f lo le q = omega arith

-- the rows, one more
pub got_push : {X : Type 0} (xs : List X) (d : X) (i : ℕ) (c : X) → slice_get (xs ++ d ∷ []) i ≡ Some c → (slice_get xs i ≡ Some c) ⊎ ((i ≡ length xs) × (d ≡ c))
got_push [] d zero c at = inr (refl, cc)
got_push [] d (suc i) c at = absurd cc
got_push (x ∷ xs) d zero c at = inl at
got_push (x ∷ xs) d (suc i) c at = elim (got_push xs d i c at) [ inl a ↦ inl a | inr e ↦ inr (ap suc e.0, e.1) ]

pub move_for : (moves : List Move) (adds : List (Vec ℕ)) (i : ℕ) (xs : Vec ℕ) → AreAdds moves adds → i < length moves → xs ≡ get_or adds i xs → (move : Move) × (slice_get moves i ≡ Some move) × IsAddsOf move xs.items
move_for moves adds i xs are lt read =
    let inside : i < length adds = omega (arith, are.size) in
    are.each i xs (slice_get_read adds (length adds) i xs refl inside read)

-- items by their places
pub got_among : {X : Type 0} (xs : List X) (i : ℕ) (x : X) → slice_get xs i ≡ Some x → Among xs x
got_among [] i x got = absurd cc
got_among (y ∷ ys) zero x got = inl cc
got_among (y ∷ ys) (suc i) x got = inr (got_among ys i x got)

pub among_got : {X : Type 0} (xs : List X) (x : X) → Among xs x → (i : ℕ) × (slice_get xs i ≡ Some x)
among_got [] x among = absurd among
among_got (y ∷ ys) x (inl e) = (0, ap Some e)
among_got (y ∷ ys) x (inr among) = let r = among_got ys x among in (suc r.0, r.1)
