use Rattle.std.proofs.Common.{◌↔◌, ◌≡◌, List, ℕ, ◌+◌, ◌*◌, ap, subst, IsTrue, arith, mul_comm}
use Rattle.std.proofs.lemmas.Nat.{mul-add-lt}
use Rattle.flow_reach.specs.Bits.{Has, stride_of}
use Rattle.flow_reach.specs.Reached.{Tells}
use Rattle.flow_reach.proofs.Closing.{facts_fit}
use Rattle.flow_reach.proofs.reached.Reached.has.Goals as goal

pub overflow_mul-first : goal.overflow_mul-first
overflow_mul-first c =
    let s = c.args.self.now in
    let lt = facts_fit s.facts c.args.fact c.requires.fact in
    let e : c.args.point * c.stride.result ≡ c.args.point * stride_of s.facts = ap (λ x. c.args.point * x) c.stride.ensures in
    omega (arith, mul-add-lt c.args.point (stride_of s.facts) c.args.fact s.points c.requires.point lt, e, s.room, s.small, mul_comm (stride_of s.facts) s.points)

pub overflow_add-first : goal.overflow_add-first
overflow_add-first c =
    let s = c.args.self.now in
    let lt = facts_fit s.facts c.args.fact c.requires.fact in
    let e : c.args.point * c.stride.result ≡ c.args.point * stride_of s.facts = ap (λ x. c.args.point * x) c.stride.ensures in
    omega (arith, mul-add-lt c.args.point (stride_of s.facts) c.args.fact s.points c.requires.point lt, e, s.room, s.small, mul_comm (stride_of s.facts) s.points)

pub has-requires : goal.has-requires
has-requires c =
    let s = c.args.self.now in
    let lt = facts_fit s.facts c.args.fact c.requires.fact in
    let e : c.args.point * c.stride.result ≡ c.args.point * stride_of s.facts = ap (λ x. c.args.point * x) c.stride.ensures in
    omega (arith, mul-add-lt c.args.point (stride_of s.facts) c.args.fact s.points c.requires.point lt, e, s.room, mul_comm (stride_of s.facts) s.points, ap (λ v. 64 * v) c.deref.ensures.len)

pub returns : goal.returns
unfolding Tells
returns c =
    let P : List ℕ → Type 0 = λ s. IsTrue c.has.result ↔ Has s (c.args.point * c.stride.result + c.args.fact) in
    let Q : ℕ → Type 0 = λ x. IsTrue c.has.result ↔ Has c.args.self.now.seen.items (c.args.point * x + c.args.fact) in
    subst Q c.stride.ensures (subst P c.deref.ensures.value c.has.ensures)
