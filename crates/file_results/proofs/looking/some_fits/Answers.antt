use Rattle.std.proofs.Common.{◌+◌, ℕ, List, refl, sym, subst, drop}
use Rattle.std.proofs.lemmas.List.{drop_all}
use Rattle.meta_bind.proofs.Lookups.{opened}
use Rattle.file_results.specs.Looking.{GlobMatches, SomeMatches}
use Rattle.file_results.proofs.Somes.{next_none, this_one, none_left}
use Rattle.file_results.proofs.looking.some_fits.Goals as goal

pub loop-glob-preserved : goal.loop-glob-preserved
loop-glob-preserved c =
    let i = c.loop-glob.glob-index in
    let gs = c.as_slice-glob-items.result.now in
    let g = c.glob-item.result in
    let P : List ℕ → Type 0 = λ x. GlobMatches x c.args.path.now in
    next_none P gs (drop i gs) (drop (i + 1) gs) g c.loop-glob.invariant (opened gs i g c.loop-glob-test.true c.glob-item.is) (λ h. let e = c.fits.ensures.1 (subst P (sym c.as_str.ensures) h) in let f = c.if-fits.false in absurd cc)

pub returns-then-fits : goal.returns-then-fits
returns-then-fits c =
    let i = c.loop-glob.glob-index in
    let gs = c.as_slice-glob-items.result.now in
    let g = c.glob-item.result in
    let P : List ℕ → Type 0 = λ x. GlobMatches x c.args.path.now in
    let Q : List (List ℕ) → Type 0 = λ x. SomeMatches x c.args.path.now in (
      λ _. subst Q c.as_slice-glob-items.ensures (this_one P gs (drop i gs) (drop (i + 1) gs) g c.loop-glob.invariant (opened gs i g c.loop-glob-test.true c.glob-item.is) (subst P c.as_str.ensures (c.fits.ensures.0 c.if-fits.true))),
      λ _. refl,
    )

pub returns : goal.returns
returns c =
    let i = c.loop-glob.glob-index in
    let gs = c.as_slice-glob-items.result.now in
    let P : List ℕ → Type 0 = λ x. GlobMatches x c.args.path.now in
    let Q : List (List ℕ) → Type 0 = λ x. SomeMatches x c.args.path.now in
    (λ h. absurd cc, λ h. absurd (none_left P gs (drop i gs) c.loop-glob.invariant (drop_all i gs c.loop-glob-test.false) (subst Q (sym c.as_slice-glob-items.ensures) h)))
