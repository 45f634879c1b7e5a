use Rattle.std.proofs.Common.{arith, ap, sym, subst, inl, inr, List, ℕ, ◌≡◌, ◌+◌, ◌*◌}
use Rattle.flow_reach.specs.Adds.{Coded}
use Rattle.flow_reach.specs.Bits.{stride_of}
use Rattle.flow_reach.specs.Spread.{Left}
use Rattle.flow_reach.proofs.Following.{number_there, turned_is}
use Rattle.flow_reach.proofs.turning.turn.Goals as goal

pub keep-requires : goal.keep-requires
keep-requires c =
    let e : c.args.point * c.stride.result ≡ c.args.point * stride_of c.args.moves.now.facts = ap (λ s. c.args.point * s) c.stride.ensures in
    omega (arith, number_there c.args.graph.now c.args.moves.now c.requires.fits c.args.ready.now c.requires.ready c.args.point c.args.fact c.requires.point c.requires.fact, e, c.deref.ensures.len)

pub returns : goal.returns
returns c after =
    let at : ℕ = c.args.point * c.stride.result + c.args.fact in
    let is = turned_is c.args.graph.now c.args.moves.now c.requires.fits c.args.ready.now c.requires.ready c.args.point c.args.fact c.requires.point c.requires.fact c.index.result.now c.index.ensures after in
    let number : at ≡ c.args.point * stride_of c.args.moves.now.facts + c.args.fact = ap (λ s. c.args.point * s + c.args.fact) c.stride.ensures in
    let L : List ℕ → Type 0 = λ d. Left d at c.args.fact after in
    let N : ℕ → Type 0 = λ k. Left c.args.ready.now.dropped.items k c.args.fact after in
    let A : List ℕ → Type 0 = λ xs. Coded xs c.args.fact after in (
      λ h. elim ((c.in_ok-seconds.ensures after).0 h) [
        | inl k ↦ elim ((c.in_ok-keep.ensures after).0 k) [
          | inl o ↦ inl o
          | inr left ↦ inr (is.0 (inl (subst N number (subst L c.deref.ensures.value left))))
        ]
        | inr coded ↦ inr (is.0 (inr (subst A c.deref-2.ensures.value coded)))
      ],
      λ h. elim h [
        | inl o ↦ (c.in_ok-seconds.ensures after).1 (inl ((c.in_ok-keep.ensures after).1 (inl o)))
        | inr turns ↦ elim (is.1 turns) [
          | inl left ↦ (c.in_ok-seconds.ensures after).1 (inl ((c.in_ok-keep.ensures after).1 (inr (subst L (sym c.deref.ensures.value) (subst N (sym number) left)))))
          | inr coded ↦ (c.in_ok-seconds.ensures after).1 (inr (subst A (sym c.deref-2.ensures.value) coded))
        ]
      ],
    )
