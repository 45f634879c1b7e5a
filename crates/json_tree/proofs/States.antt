-- Characters beyond ASCII have one column.
use Rattle.std.proofs.Common.{◌≡◌, ℕ, ◌<◌, ◌≤◌, Bool, true, false, refl, arith, nat_lt}
use Rattle.std.specs.Prelude.{slice_index, if◌then◌else◌}
use Rattle.lexing.specs.Rules.{symbol}
use Rattle.json_tree.specs.declared.table.TheConstants.{COLUMNS}
use Rattle.json_tree.specs.States.{column}

below : (c : ℕ) → c < 128 → nat_lt c 128 ≡ true
below c lt = grind arith

above : (c : ℕ) → 128 ≤ c → nat_lt c 128 ≡ false
above c le = grind arith

either : (a b : Bool) → slice_index COLUMNS 130 ≡ slice_index COLUMNS (if a then 128 else (if b then 129 else 130))
either true b = refl
either false true = refl
either false false = refl

pub in_ascii : (c : ℕ) → c < 128 → slice_index COLUMNS c ≡ column c
unfolding column symbol
in_ascii c lt = rw (below c lt) refl

pub beyond : (c : ℕ) → 128 ≤ c → slice_index COLUMNS 130 ≡ column c
unfolding column symbol
beyond c le = rw (above c le) (either _ _)
