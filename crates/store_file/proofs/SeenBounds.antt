-- Bounds as they are seen stand where they stand.
use Rattle.std.proofs.Common.{ℕ, ◌<◌, List, length, map, sym, subst, arith}
use Rattle.std.specs.List.{All}
use Rattle.std.proofs.lemmas.List.{get_or-map, length-map}
use Rattle.node_tree.specs.Span.{LiesIn}
use Rattle.meta_bind.specs.declared.bound.Bound.{Bound}
use Rattle.meta_bind.specs.Bounds.{seen}

abbrev Lies : List ℕ → Bound → Type 0
Lies text b = LiesIn text b.span

pub to_seen : (text : List ℕ) (bs : List Bound) → All (λ b. LiesIn text b.span) bs → All (λ b. LiesIn text b.span) (map seen bs)
to_seen text bs h = λ k d lt.
    let in' : k < length bs = omega (arith, length-map bs seen) in
    subst (Lies text) (sym (get_or-map seen bs k d d in')) (h k d in')

pub from_seen : (text : List ℕ) (bs : List Bound) → All (λ b. LiesIn text b.span) (map seen bs) → All (λ b. LiesIn text b.span) bs
from_seen text bs h = λ k d lt.
    subst (Lies text) (get_or-map seen bs k d d lt) (h k d (omega (arith, length-map bs seen)))
