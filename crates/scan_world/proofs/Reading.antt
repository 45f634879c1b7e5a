-- What one read takes.
use Rattle.std.proofs.Common.{◌≡◌, ℕ, ◌+◌, ◌≤◌, List, [], ◌++◌, length, take, drop, sym, ap, ◌∙◌}
use Rattle.std.proofs.Math.ListN.{drop_of_length-le}
use Rattle.std.proofs.lemmas.List.{take_at, drop-drop, take-append-drop}

pub consumes : (at count : ℕ) (bytes copied rest : List ℕ) → length copied ≡ count → copied ≡ take count (drop at bytes) → drop at bytes ≡ take count (copied ++ rest) ++ drop (at + count) bytes
consumes at count bytes copied rest len is =
    sym (take-append-drop count (drop at bytes))
    ∙ ap (λ (x : List ℕ). x ++ drop count (drop at bytes)) (sym is ∙ sym (take_at copied rest count len))
    ∙ ap (λ (x : List ℕ). take count (copied ++ rest) ++ x) (drop-drop count at bytes)

pub at_end : (at count : ℕ) (bytes : List ℕ) → length bytes ≤ at + count → drop (at + count) bytes ≡ []
at_end at count bytes le = drop_of_length-le bytes le
