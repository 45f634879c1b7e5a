-- Two chains of steps come to one end, where at each place of the one the other can only do the same.
use Rattle.std.proofs.Common.{◌≡◌, ◌⊎◌, inl, inr, ◌<◌, ℕ, zero, suc, refl, sym, ap, ◌∙◌, subst, arith}

order : (n m : ℕ) → (n < m) ⊎ ((n ≡ m) ⊎ (m < n))
order zero zero = inr (inl refl)
order zero (suc m) = inl (omega arith)
order (suc n) zero = inr (inr (omega arith))
order (suc n) (suc m) = at (order n m)
  where
    at : (n < m) ⊎ ((n ≡ m) ⊎ (m < n)) → (suc n < suc m) ⊎ ((suc n ≡ suc m) ⊎ (suc m < suc n))
    at (inl h) = inl (omega (arith, h))
    at (inr (inl e)) = inr (inl (ap suc e))
    at (inr (inr h)) = inr (inr (omega (arith, h)))

module _ {X : Type 0} (start : X) where
  -- so many steps come to this
  abbrev pub Reach : (X → X → Type 0) → ℕ → X → Type 0
  Reach Step zero a = a ≡ start
  Reach Step (suc n) a = (old : X) × Reach Step n old × Step old a

  -- the step after the first ones
  record Next (Step : X → X → Type 0) (n : ℕ) : Type 0 where
    from : X
    to : X
    reach : Reach Step n from
    step : Step from to

  step_after : (Step : X → X → Type 0) (n m : ℕ) (b : X) → n < m → Reach Step m b → Next Step n
  step_after Step n zero b lt r = absurd (omega (arith, lt))
  step_after Step n (suc m) b lt (old, r, step) = at (λ (h : n < m). step_after Step n m old h r) (order n m)
    where
      at : (n < m → Next Step n) → (n < m) ⊎ ((n ≡ m) ⊎ (m < n)) → Next Step n
      at far (inl h) = far h
      at far (inr (inl e)) = record { from = old; to = b; reach = subst (λ (k : ℕ). Reach Step k old) (sym e) r; step = step }
      at far (inr (inr h)) = absurd (omega (arith, h, lt))

  module _ (Step Other : X → X → Type 0) (once : (a b c : X) → Step a b → Other a c → c ≡ b) where
    reach_once : (n : ℕ) (a b : X) → Reach Step n a → Reach Other n b → b ≡ a
    reach_once zero a b e f = f ∙ sym e
    reach_once (suc n) a b (old, r, s) (old', r', t) = once old a b s (subst (λ (x : X). Other x b) (reach_once n old old' r r') t)

    -- the one chain ends somewhere, and the other stops somewhere: that is there
    module _ (Ends Stops : X → Type 0) (no_step : (a b : X) → Ends a → Other a b → ⊥) (no_stop : (a b : X) → Step a b → Stops a → ⊥) where
      pub chains_once : (n m : ℕ) (a b : X) → Reach Step n a → Ends a → Reach Other m b → Stops b → b ≡ a
      chains_once n m a b r ends q stops = at (order n m)
        where
          at : (n < m) ⊎ ((n ≡ m) ⊎ (m < n)) → b ≡ a
          at (inl h) = let t = step_after Other n m b h q in absurd (no_step a t.to ends (subst (λ (x : X). Other x t.to) (reach_once n a t.from r t.reach) t.step))
          at (inr (inl e)) = reach_once n a b r (subst (λ (k : ℕ). Reach Other k b) (sym e) q)
          at (inr (inr h)) = let t = step_after Step m n a h r in absurd (no_stop t.from t.to t.step (subst Stops (reach_once m t.from b t.reach q) stops))
