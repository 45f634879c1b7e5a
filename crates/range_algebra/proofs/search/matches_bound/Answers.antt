use Rattle.std.proofs.Common.{List, ℕ, ap, sym, subst, ◌∙◌, IsUtf8}
use Rattle.std.proofs.lemmas.Result.{IfOk-weaker}
use Rattle.meta_bind.specs.declared.bound.Bound.{Bound}
use Rattle.meta_filter.specs.BoundTexts.{holds_regex}
use Rattle.range_algebra.proofs.Regexes.{none_held, some_held}
use Rattle.range_algebra.proofs.search.matches_bound.Goals as goal

pub returns-in_default : goal.returns-in_default
returns-in_default c = none_held c.args.scene.rx.now c.args.scene.view.now.bytes c.args.number c.args.name.now c.args.trail.now (sym c.in_default.ensures)

pub holds_regex-requires-clause-utf8 : goal.holds_regex-requires-clause-utf8
holds_regex-requires-clause-utf8 c = let P : List ℕ → Type 0 = λ b. ∥ IsUtf8 b ∥₁ in subst P (sym c.as_slice-bytes.ensures) c.args.scene.view.now.utf8

pub returns : goal.returns
returns c =
    let text = c.in-Some.rx.now in
    let name = c.args.name.now in
    let bytes = c.as_slice-bytes.result.now in
    IfOk-weaker c.holds_regex.result _ _
    (λ y e. some_held c.args.scene.rx.now c.args.scene.view.now.bytes c.args.number name c.args.trail.now text y (sym c.in-Some.ensures)
    (e ∙ ap (λ (t : List ℕ). holds_regex t c.in_ok-keep.field-0 name bytes) c.in_ok-share.ensures ∙ ap (λ (b : List Bound). holds_regex text b name bytes) c.in_ok-keep.ensures
    ∙ ap (λ (s : List ℕ). holds_regex text c.args.trail.now name s) c.as_slice-bytes.ensures))
    c.holds_regex.ensures.holds
