-- What is wrong with a value.
use Rattle.std.specs.Prelude.{◌≡◌, ℕ, List, [], ◌∷◌, ◌++◌, Result, Ok, Err, ⊤}
use Rattle.rule_keys.specs.declared.fault.RuleFaultKind.{RuleFaultKind}
use Rattle.rule_keys.specs.declared.stop.Misfit.{Misfit}
use Rattle.rule_keys.specs.declared.stop.Stop.{Stop}
use Rattle.rule_keys.specs.declared.stop.Stop.TheVariants.{Memory, Bad}

-- the value itself
abbrev pub here : RuleFaultKind → Misfit
here k = record { kind = k; path = [] }

-- the same, one key or place further up
abbrev pub below : List ℕ → Misfit → Misfit
below part m = record { kind = m.kind; path = m.path ++ part ∷ [] }

-- the value of a key, or the key itself
abbrev pub at : List ℕ → RuleFaultKind → Misfit
at key k = below key (here k)

-- what is told of a value, one key or place further up
abbrev pub under : {X : Type 0} → List ℕ → Result X Misfit → Result X Misfit
under part (Ok x) = Ok x
under part (Err m) = Err (below part m)

-- it stops for this, unless memory runs out
abbrev pub IsStop : Misfit → Stop → Type 0
IsStop m Memory = ⊤
IsStop m (Bad n) = n ≡ m

-- it stops as before, one key or place further up, unless memory runs out
abbrev pub IsBelow : List ℕ → Stop → Stop → Type 0
IsBelow part Memory r = r ≡ Memory
IsBelow part (Bad m) r = IsStop (below part m) r

-- the result of before, one key or place further up, unless memory runs out
abbrev pub IsUnder : {X : Type 0} → List ℕ → Result X Stop → Result X Stop → Type 0
IsUnder part (Ok x) r = r ≡ Ok x
IsUnder part (Err e) (Ok y) = ⊥
IsUnder part (Err e) (Err r) = IsBelow part e r

-- seen by `view` the result is what is to be told, unless memory runs out
abbrev pub Fits : {X Y : Type 0} → (X → Y) → Result Y Misfit → Result X Stop → Type 0
Fits view wanted (Ok x) = wanted ≡ Ok (view x)
Fits view wanted (Err Memory) = ⊤
Fits view wanted (Err (Bad m)) = wanted ≡ Err m
