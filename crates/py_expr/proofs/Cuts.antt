-- Where a text may be cut.
use Rattle.std.proofs.Common.{◌≡◌, ℕ, ◌+◌, ◌-◌, ◌<◌, List, length, get_or, subst, arith}
use Rattle.std.specs.Str.{IsUtf8, IsCharBoundary}
use Rattle.std.proofs.lemmas.Str.{IsCharBoundary-after_ascii}

-- behind a byte of ASCII
pub behind_ascii : (bs : List ℕ) (i : ℕ) → IsUtf8 bs → 0 < i → i - 1 < length bs → get_or bs (i - 1) 0 < 128 → IsCharBoundary bs i
behind_ascii bs i u pos within ascii = subst (λ (j : ℕ). IsCharBoundary bs j) (same i pos) (IsCharBoundary-after_ascii bs (i - 1) u within ascii)
  where
    same : (i : ℕ) → 0 < i → i - 1 + 1 ≡ i
    same i pos = omega (arith, pos)
