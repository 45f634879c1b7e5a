-- What is in hand and what a source has left, where it tells that.
use Rattle.std.specs.Prelude.{◌≡◌, ℕ, List, ◌++◌, ⊤, Option, None, Some, Result, Ok, Err}
use Rattle.scan_world.specs.Faults.{Rose}
use Rattle.wire_stream.specs.declared.trouble.Trouble.{Trouble}
use Rattle.wire_stream.specs.declared.trouble.Trouble.TheVariants.{Failed}

-- the bytes were used: what is in hand and what a told source has left was these bytes and what is there now
abbrev pub Uses : Option (List ℕ) → Option (List ℕ) → List ℕ → List ℕ → List ℕ → Type 0
Uses None left_new hand_old hand_new bytes = ⊤
Uses (Some left_old) None hand_old hand_new bytes = ⊥
Uses (Some left_old) (Some left_new) hand_old hand_new bytes = hand_old ++ left_old ≡ bytes ++ (hand_new ++ left_new)

-- it holds of what is in hand and what a told source has left
abbrev pub OfStream : Option (List ℕ) → List ℕ → (List ℕ → Type 0) → Type 0
OfStream None hand P = ⊤
OfStream (Some left) hand P = P (hand ++ left)

-- a failed read has raised the count of faults, and another trouble leaves it
abbrev pub HasTroubleCause : ℕ → ℕ → Trouble → Type 0
HasTroubleCause before after Failed = Rose before after
HasTroubleCause before after _ = after ≡ before

-- a call that a failed read ended has raised the count of faults, and another one leaves it
abbrev pub HasCauseOf : {T : Type 0} → ℕ → ℕ → Result T Trouble → Type 0
HasCauseOf before after (Ok x) = after ≡ before
HasCauseOf before after (Err trouble) = HasTroubleCause before after trouble
