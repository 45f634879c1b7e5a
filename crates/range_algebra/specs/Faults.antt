-- The faults of children.
use Rattle.std.specs.Prelude.{◌≡◌, ℕ, [], ◌∷◌, ◌++◌, Result, Ok, Err}
use Rattle.member_join.specs.declared.fault.EvalFault.{EvalFault}
use Rattle.member_join.specs.declared.fault.EvalFault.TheVariants as faults

-- the fault of the child with that number, as it is seen from the set above; there may be no memory for its number
abbrev pub IsSeenFrom : ℕ → EvalFault → EvalFault → Type 0
IsSeenFrom i inner faults.Memory = Unit {0}
IsSeenFrom i faults.Memory (faults.Crowded given) = ⊥
IsSeenFrom i (faults.Crowded numbers) (faults.Crowded given) = given ≡ numbers ++ i ∷ []

-- a fault was found in the child with that number, which is so seen
abbrev pub IsFaultOf : {T : Type 0} → ℕ → Result T EvalFault → EvalFault → Type 0
IsFaultOf i (Ok found) e = ⊥
IsFaultOf i (Err inner) e = IsSeenFrom i inner e
