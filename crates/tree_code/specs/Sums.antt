-- Numbers made from bytes.
use Rattle.std.specs.Prelude.{ℕ, ◌+◌, ◌*◌, ◌%◌, List, [], ◌∷◌}

-- a number made from the bytes, and from one made from what came before them
abbrev pub mixed : ℕ → List ℕ → ℕ
mixed sum [] = sum
mixed sum (b ∷ bs) = mixed ((sum * 31 + b) % 65536) bs
