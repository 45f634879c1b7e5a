use Rattle.std.proofs.Common.{refl, inl, inr, arith, subst, sym, ap, ◌∙◌, ◌++◌, ◌∷◌, [], List, ℕ, ◌≡◌, ◌<◌, length, Some}
use Rattle.std.proofs.lemmas.Option.{slice_get_read}
use Rattle.trace_path.specs.declared.queue.Class.{Class}
use Rattle.trace_path.specs.Queue.{IsRoute, groups, group_of}
use Rattle.trace_path.proofs.Members.{joined}
use Rattle.trace_path.proofs.Places.{group_read}
use Rattle.trace_path.proofs.queue.Queue.walk.Goals as goal

pub loop-at-init : goal.loop-at-init
loop-at-init c = record {
  inside = c.requires.inside;
  grows = λ route h. let P : List ℕ → Type 0 = λ ps. IsRoute (groups c.args.self.now) c.args.from (ps ++ route) in subst P (sym c.new-points.ensures) h;
}

pub loop-at-smaller : goal.loop-at-smaller
loop-at-smaller c =
    let d = c.index-in-loop-at.result.now in
    let here = slice_get_read c.args.self.now.classes.items _ c.loop-at.at d refl c.loop-at.invariant.inside c.index-in-loop-at.ensures in
    c.requires.descends c.loop-at.at (group_of c.args.self.now.facts.items d) (group_read c.args.self.now c.loop-at.at d here) c.loop-at-test.true

pub loop-at-preserved : goal.loop-at-preserved
loop-at-preserved c =
    let d = c.index-in-loop-at.result.now in
    let e = c.index.result.now in
    let here = slice_get_read c.args.self.now.classes.items _ c.loop-at.at d refl c.loop-at.invariant.inside c.index-in-loop-at.ensures in
    let point_here = slice_get_read c.args.self.now.classes.items _ c.loop-at.at e refl c.loop-at.invariant.inside c.index.ensures in
    let same : d ≡ e = let q : Some d ≡ Some e = sym here ∙ point_here in cc in
    let at = group_read c.args.self.now c.loop-at.at d here in
    let less = c.requires.descends c.loop-at.at (group_of c.args.self.now.facts.items d) at c.loop-at-test.true in
    record {
      inside = omega (arith, less, c.loop-at.invariant.inside);
      grows = λ route h.
          let P : List ℕ → Type 0 = λ ps. IsRoute (groups c.args.self.now) c.args.from ps in
          let all : c.push.new.self ++ route ≡ c.loop-at.points ++ (e.point ∷ route) = ap (λ ps. ps ++ route) c.in_ok-push.ensures.ok ∙ joined c.loop-at.points e.point route in
          let point_is : d.point ≡ e.point = ap (λ (x : Class). x.point) same in
          subst P (sym all) (c.loop-at.invariant.grows (e.point ∷ route) (group_of c.args.self.now.facts.items d, at, point_is, inr (c.loop-at-test.true, h)));
    }

pub returns : goal.returns
returns c =
    let zero_is : c.loop-at.at ≡ 0 = omega (arith, c.loop-at-test.false) in
    let lt : 0 < length c.args.self.now.classes.items = omega (arith, c.requires.inside) in
    let d = c.index-2.result.now in
    let here = slice_get_read c.args.self.now.classes.items _ 0 d refl lt c.index-2.ensures in
    let Q : ℕ → Type 0 = λ k. IsRoute (groups c.args.self.now) k (d.point ∷ []) in
    let one : IsRoute (groups c.args.self.now) 0 (d.point ∷ []) = (group_of c.args.self.now.facts.items d, group_read c.args.self.now 0 d here, refl, inl (refl, refl)) in
    let all = c.loop-at.invariant.grows (d.point ∷ []) (subst Q (sym zero_is) one) in
    let P : List ℕ → Type 0 = λ ps. IsRoute (groups c.args.self.now) c.args.from ps in
    (c.push-2.new.self, subst P (sym c.in_ok-push-2.ensures.ok) all, c.reverse.ensures)
