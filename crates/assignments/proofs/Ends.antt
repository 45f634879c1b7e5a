-- A list without its last item, and that item.
use Rattle.std.proofs.Common.{◌≡◌, ℕ, ◌-◌, List, length, take, drop, map, sym, ap, ◌∙◌}
use Rattle.std.proofs.lemmas.List.{take_rest, take-map, drop-map}

module _ {X Y : Type 0} (f : X → Y) where
  pub last_seen : (xs : List X) (last : ℕ) → last ≡ length (map f xs) - 1 → map f (take (length xs - last) (drop last xs)) ≡ drop (length (map f xs) - 1) (map f xs)
  last_seen xs last e = ap (map f) (take_rest xs last) ∙ sym (drop-map f last xs) ∙ ap (λ n. drop n (map f xs)) e

  pub front_seen : (xs : List X) (last : ℕ) → last ≡ length (map f xs) - 1 → map f (take last xs) ≡ take (length (map f xs) - 1) (map f xs)
  front_seen xs last e = sym (take-map f last xs) ∙ ap (λ n. take n (map f xs)) e
