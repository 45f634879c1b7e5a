-- Sets of numbers as words of bits.
use Rattle.std.specs.Prelude.{◌≡◌, ◌↔◌, ℕ, ◌+◌, ◌*◌, ◌/◌, ◌%◌, List, slice_index}
use Rattle.std.specs.Int.{bit_at}

-- 1 where the number is in the set, else 0
abbrev pub bit_of : List ℕ → ℕ → ℕ
bit_of set k = bit_at (slice_index set (k / 64)) (k % 64)

-- the number is in the set
abbrev pub Has : List ℕ → ℕ → Type 0
Has set k = bit_of set k ≡ 1

-- the number is one of the word with these bits
abbrev pub InWord : ℕ → ℕ → ℕ → Type 0
InWord word bits k = (k / 64 ≡ word) × (bit_at bits (k % 64) ≡ 1)

-- these are the bits that the others aren't
abbrev pub IsWithout : ℕ → ℕ → ℕ → Type 0
IsWithout bits others left = (i : ℕ) → (bit_at left i ≡ 1) ↔ ((bit_at bits i ≡ 1) × (bit_at others i ≡ 1 → ⊥))

-- how many words the facts of a point take
abbrev pub width_of : ℕ → ℕ
width_of facts = (facts + 63) / 64

-- how many numbers a point takes
abbrev pub stride_of : ℕ → ℕ
stride_of facts = width_of facts * 64
