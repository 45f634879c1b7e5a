use Rattle.std.proofs.Common.{◌≡◌, ◌∙◌, ◌≤◌, ℕ, List, sym, ap, subst, arith, length}
use Rattle.std.proofs.lemmas.Slice.Eq.{bytes_eq-Decides}
use Rattle.import_names.specs.Itself.{IsItself}
use Rattle.import_names.proofs.Itself.{first_alone}
use Rattle.import_names.proofs.claim.is_itself.Goals as goal

pub returns : goal.returns
returns c e =
    let name = c.args.claim.now.name in
    let parts = c.as_slice-parts.result.now in
    let few : length parts ≤ 1 = omega (arith, c.if-parts-gt1.false) in
    let same : c.index-parts-0.result ≡ name = sym c.as_str.ensures ∙ (bytes_eq-Decides c.as_str.result.now c.as_str-2.result.now).0 (sym c.eq.ensures ∙ e) ∙ c.as_str-2.ensures in
    let P : List (List ℕ) → Type 0 = λ ps. IsItself name ps in
    subst P c.as_slice-parts.ensures (first_alone name parts c.index-parts-0.result few c.index-parts-0.is same)
