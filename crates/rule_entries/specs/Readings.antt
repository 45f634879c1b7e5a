-- Reading one thing after another. A reading relates what was found before to what it gives with what was found then, or to
-- what is wrong.
use Rattle.std.specs.Prelude.{◌≡◌, ℕ, ◌+◌, List, [], ◌∷◌, Result, Ok, Err, ⊤}
use Rattle.std.specs.Fmt.{decimal}
use Rattle.rule_entries.specs.declared.found.Found.{Found}
use Rattle.rule_keys.specs.declared.stop.Misfit.{Misfit}
use Rattle.rule_keys.specs.declared.stop.Stop.{Stop}
use Rattle.rule_keys.specs.declared.stop.Stop.TheVariants.{Memory, Bad}
use Rattle.rule_keys.specs.Misfits.{under}

-- what a reading comes to
abbrev pub Outcome : Type 0 → Type 0
Outcome X = Result (X × Found) Misfit

abbrev pub Reading : Type 0 → Type 1
Reading X = Found → Outcome X → Type 0

-- nothing is read
abbrev pub gives : {X : Type 0} → X → Reading X
gives x s o = o ≡ Ok (x, s)

-- what is told, with nothing found
abbrev pub tells : {X : Type 0} → Result X Misfit → Reading X
tells (Ok x) s o = o ≡ Ok (x, s)
tells (Err m) s o = o ≡ Err m

-- goes on from an outcome
abbrev pub GoesOn : {X Y : Type 0} → (X → Reading Y) → Outcome X → Outcome Y → Type 0
GoesOn S (Ok x) o = S x.0 x.1 o
GoesOn S (Err m) o = o ≡ Err m

-- one reading, and then the one that its outcome leads to
abbrev pub Then : {X Y : Type 0} → Reading X → (X → Reading Y) → Reading Y
Then {X} R S s o = (p : Outcome X) × R s p × GoesOn S p o

-- what is told, and then the reading that it leads to
abbrev pub After : {X Y : Type 0} → Result X Misfit → (X → Reading Y) → Reading Y
After (Ok x) S s o = S x s o
After (Err m) S s o = o ≡ Err m

-- a reading of the value of a key, or of an item at a place
abbrev pub Below : {X : Type 0} → List ℕ → Reading X → Reading X
Below {X} part R s o = (p : Outcome X) × R s p × (o ≡ under part p)

-- the items from a place on, one after the other
abbrev pub Each : {X Y : Type 0} → (ℕ → X → Reading Y) → ℕ → List X → Reading (List Y)
Each R k [] s o = o ≡ Ok ([], s)
Each R k (x ∷ xs) s o = Then (R k x) (λ y. Then (Each R (k + 1) xs) (λ ys. gives (y ∷ ys))) s o

-- a reading of an item at a place, counted from 0
abbrev pub AtPlace : {X Y : Type 0} → (X → Reading Y) → ℕ → X → Reading Y
AtPlace R k x = Below (decimal k) (R x)

-- the outcome and no other
pub record Only {X : Type 0} (R : Outcome X → Type 0) (o : Outcome X) : Type 0 where
  pub is : R o
  pub one : (p : Outcome X) → R p → p ≡ o

-- the result, with what was found then, is what the reading comes to, and nothing else is, unless memory runs out
abbrev pub Reads : {X : Type 0} → Reading X → Found → Result X Stop → Found → Type 0
Reads R s (Ok x) t = Only (R s) (Ok (x, t))
Reads R s (Err Memory) t = ⊤
Reads R s (Err (Bad m)) t = Only (R s) (Err m)
