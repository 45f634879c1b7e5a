-- One reading after another: what each step of the code shows of the whole.
use Rattle.std.proofs.Common.{◌≡◌, ℕ, zero, suc, arith, ◌+◌, ◌<◌, ◌≤◌, List, [], ◌∷◌, ◌++◌, length, get_or, drop, refl, sym, ap, ◌∙◌, subst, Ok, Err, append_assoc, append-nil, add-one}
use Rattle.std.proofs.lemmas.List.{drop_all}
use Rattle.std.proofs.Math.Seq.{drop-cons}
use Rattle.std.specs.Prelude.{Result}
use Rattle.rule_entries.specs.declared.found.Found.{Found}
use Rattle.rule_keys.specs.declared.stop.Misfit.{Misfit}
use Rattle.rule_keys.specs.declared.stop.Stop.{Stop}
use Rattle.rule_keys.specs.declared.stop.Stop.TheVariants.{Memory, Bad}
use Rattle.rule_keys.specs.Misfits.{Fits, IsStop, IsUnder, below, under}
use Rattle.rule_entries.specs.Readings.{Outcome, Reading, Only, Reads, Then, GoesOn, After, Below, Each, gives, tells}

module _ {X : Type 0} where
  pub gives_reads : (x : X) (s : Found) → Reads (gives x) s (Ok x) s
  gives_reads x s = record { is = refl; one = λ p e. e }

  -- what stops with a misfit
  pub stops : (R : Reading X) (m : Misfit) (stop : Stop) (s t : Found) → IsStop m stop → Only (R s) (Err m) → Reads R s (Err stop) t
  stops R m Memory s t is only = tt
  stops R m (Bad n) s t is only = subst (λ (z : Misfit). Only (R s) (Err z)) (sym is) only

  pub tells_reads : (w : Result X Misfit) (r : Result X Stop) (s : Found) → Fits (λ (x : X). x) w r → Reads (tells w) s r s
  tells_reads w (Ok x) s e = subst (λ (z : Result X Misfit). Only (tells z s) (Ok (x, s))) (sym e) (record { is = refl; one = λ p h. h })
  tells_reads w (Err Memory) s e = tt
  tells_reads w (Err (Bad m)) s e = subst (λ (z : Result X Misfit). Only (tells z s) (Err m)) (sym e) (record { is = refl; one = λ p h. h })

  -- what was read at a key or a place
  pub below_reads : (part : List ℕ) (R : Reading X) (s t : Found) (read r : Result X Stop) → Reads R s read t → IsUnder part read r → Reads (Below part R) s r t
  below_reads part R s t (Ok x) (Ok y) h e =
      let P : Result X Stop → Type 0 = λ z. Reads (Below part R) s z t in
      subst P (sym e) (record { is = (Ok (x, t), h.is, refl); one = λ p q. q.2 ∙ ap (under part) (h.one q.0 q.1) })
  below_reads part R s t (Ok x) (Err stop) h e = absurd cc
  below_reads part R s t (Err stop) (Ok y) h e = absurd e
  below_reads part R s t (Err Memory) (Err stop) h e = subst (λ (z : Stop). Reads (Below part R) s (Err z) t) (sym e) tt
  below_reads part R s t (Err (Bad m)) (Err stop) h e =
      stops (Below part R) (below part m) stop s t e (record { is = (Err m, h.is, refl); one = λ p q. q.2 ∙ ap (under part) (h.one q.0 q.1) })

module _ {V X Y : Type 0} (view : V → X) (w : Result X Misfit) (S : X → Reading Y) where
  pub after_goes : (v : V) (s t : Found) (r : Result Y Stop) → w ≡ Ok (view v) → Reads (S (view v)) s r t → Reads (After w S) s r t
  after_goes v s t r e h = subst (λ (z : Result X Misfit). Reads (After z S) s r t) (sym e) h

  pub after_stops : (stop : Stop) (s t : Found) → Fits view w (Err stop) → Reads (After w S) s (Err stop) t
  after_stops Memory s t e = tt
  after_stops (Bad m) s t e = subst (λ (z : Result X Misfit). Reads (After z S) s (Err (Bad m)) t) (sym e) (record { is = refl; one = λ p h. h })

module _ {X Y : Type 0} (R : Reading X) (S : X → Reading Y) where
  went : (s t : Found) (x : X) (o p : Outcome Y) → Only (R s) (Ok (x, t)) → ((q : Outcome Y) → S x t q → q ≡ o) → Then R S s p → p ≡ o
  went s t x o p only one q = one p (subst (λ (z : Outcome X). GoesOn S z p) (only.one q.0 q.1) q.2)

  pub then_goes : (x : X) (s t u : Found) (r : Result Y Stop) → Only (R s) (Ok (x, t)) → Reads (S x) t r u → Reads (Then R S) s r u
  then_goes x s t u (Ok y) only h = record { is = (Ok (x, t), only.is, h.is); one = λ p q. went s t x _ p only h.one q }
  then_goes x s t u (Err Memory) only h = tt
  then_goes x s t u (Err (Bad m)) only h = record { is = (Ok (x, t), only.is, h.is); one = λ p q. went s t x _ p only h.one q }

  pub then_stops : (stop : Stop) (s t u : Found) → Reads R s (Err stop) t → Reads (Then R S) s (Err stop) u
  then_stops Memory s t u h = tt
  then_stops (Bad m) s t u h = record { is = (Err m, h.is, refl); one = λ p q. subst (λ (z : Outcome X). GoesOn S z p) (h.one q.0 q.1) q.2 }

-- some items before those that are read
abbrev pub onto : {Y : Type 0} → List Y → Result (List Y) Stop → Result (List Y) Stop
onto ys (Ok zs) = Ok (ys ++ zs)
onto ys (Err e) = Err e

module _ {X Y : Type 0} (R : ℕ → X → Reading Y) (all : List X) (begin : Found) where
  -- items were read, and what is read of the rest makes the whole
  abbrev pub Rest : List Y → ℕ → List X → Found → Type 0
  Rest ys k xs s = (r : Result (List Y) Stop) (u : Found) → Reads (Each R k xs) s r u → Reads (Each R 0 all) begin (onto ys r) u

  pub rest_begins : Rest [] 0 all begin
  rest_begins (Ok zs) u h = h
  rest_begins (Err e) u h = h

  module _ (ys : List Y) (k : ℕ) (x : X) (xs : List X) (s : Found) (rest : Rest ys k (x ∷ xs) s) where
    more : (y : Y) (t u : Found) (r : Result (List Y) Stop) → Reads (Each R (k + 1) xs) t r u → Reads (Then (Each R (k + 1) xs) (λ zs. gives (y ∷ zs))) t (onto (y ∷ []) r) u
    more y t u (Ok zs) h = then_goes (Each R (k + 1) xs) (λ zs. gives (y ∷ zs)) zs t u u (Ok (y ∷ zs)) h (gives_reads (y ∷ zs) u)
    more y t u (Err e) h = then_stops (Each R (k + 1) xs) (λ zs. gives (y ∷ zs)) e t u u h

    joined : (y : Y) (r : Result (List Y) Stop) → onto ys (onto (y ∷ []) r) ≡ onto (ys ++ y ∷ []) r
    joined y (Ok zs) = ap Ok (sym (append_assoc ys (y ∷ []) zs))
    joined y (Err e) = refl

    pub rest_goes : (y : Y) (t : Found) → Only (R k x s) (Ok (y, t)) → Rest (ys ++ y ∷ []) (k + 1) xs t
    rest_goes y t only = λ r u h.
        let turn = then_goes (R k x) (λ z. Then (Each R (k + 1) xs) (λ zs. gives (z ∷ zs))) y s t u (onto (y ∷ []) r) only (more y t u r h) in
        subst (λ (z : Result (List Y) Stop). Reads (Each R 0 all) begin z u) (joined y r) (rest (onto (y ∷ []) r) u turn)

    pub rest_stops : (e : Stop) (t u : Found) → Reads (R k x) s (Err e) t → Reads (Each R 0 all) begin (Err e) u
    rest_stops e t u h = rest (Err e) u (then_stops (R k x) (λ z. Then (Each R (k + 1) xs) (λ zs. gives (z ∷ zs))) e s t u h)

  -- the same, where the rest is what is left of all
  module _ (ys : List Y) (k : ℕ) (s : Found) (rest : Rest ys k (drop k all) s) where
    pub turns_end : length all ≤ k → Reads (Each R 0 all) begin (Ok ys) s
    turns_end le =
        let P : List X → Type 0 = λ xs. Rest ys k xs s in
        let last : Rest ys k [] s = subst P (drop_all k all le) rest in
        subst (λ (z : List Y). Reads (Each R 0 all) begin (Ok z) s) (append-nil ys) (last (Ok []) s (record { is = refl; one = λ p e. e }))

    module _ (x : X) (inside : k < length all) (is : x ≡ get_or all k x) where
      opened : Rest ys k (x ∷ drop (k + 1) all) s
      opened =
          let P : List X → Type 0 = λ xs. Rest ys k xs s in
          subst P (drop-cons all k x inside ∙ ap (λ (y : X). y ∷ drop (suc k) all) (sym is) ∙ ap (λ (j : ℕ). x ∷ drop j all) (sym (add-one k))) rest

      pub turn_goes : (y : Y) (t : Found) → Only (R k x s) (Ok (y, t)) → Rest (ys ++ y ∷ []) (k + 1) (drop (k + 1) all) t
      turn_goes y t only = rest_goes ys k x (drop (k + 1) all) s opened y t only

      pub turn_stops : (e : Stop) (t u : Found) → Reads (R k x) s (Err e) t → Reads (Each R 0 all) begin (Err e) u
      turn_stops e t u h = rest_stops ys k x (drop (k + 1) all) s opened e t u h

-- an item that is there stays the same, whatever would stand in for it
pub item_is : {X : Type 0} (xs : List X) (i : ℕ) (d : X) → i < length xs → get_or xs i d ≡ get_or xs i (get_or xs i d)
item_is xs i d lt = same xs i d (get_or xs i d) lt
  where
    same : {X : Type 0} (xs : List X) (i : ℕ) (d e : X) → i < length xs → get_or xs i d ≡ get_or xs i e
    same [] i d e lt = absurd (omega (arith, lt))
    same (x ∷ xs) zero d e lt = refl
    same (x ∷ xs) (suc i) d e lt = same xs i d e (omega (arith, lt))
