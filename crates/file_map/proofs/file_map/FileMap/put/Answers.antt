use Rattle.std.proofs.Common.{◌≡◌, ◌∙◌, ℕ, List, ap, sym, take}
use Rattle.std.proofs.lemmas.Result.{err_from_is_err_and}
use Rattle.file_map.specs.FileMap.{with_file, over_limit}
use Rattle.file_map.proofs.file_map.FileMap.put.Goals as goal

pub returns-in_err-put_shared-clause-over : goal.returns-in_err-put_shared-clause-over
returns-in_err-put_shared-clause-over c =
    let kept : c.in_ok-kept-2.kept.value ≡ take 1000001 c.args.bytes.now = c.in_ok-kept-2.ensures.ok ∙ c.in_ok-kept.ensures in
    let p = err_from_is_err_and c.from_residual-in_err-put_shared.result c.from_residual-in_err-put_shared.ensures.1 in
    rw (p.1, p.2, ← kept) c.in_err-put_shared.ensures.over

pub returns-clause-put : goal.returns-clause-put
returns-clause-put c =
    c.in_ok-put_shared.ensures.put ∙ ap (λ (bytes : List ℕ). with_file c.args.self.now (c.args.path.now, bytes)) (c.in_ok-kept-2.ensures.ok ∙ c.in_ok-kept.ensures)

pub returns-clause-within : goal.returns-clause-within
returns-clause-within c =
    let kept : c.in_ok-kept-2.kept.value ≡ take 1000001 c.args.bytes.now = c.in_ok-kept-2.ensures.ok ∙ c.in_ok-kept.ensures in
    ap (λ (bytes : List ℕ). over_limit (with_file c.args.self.now (c.args.path.now, bytes))) (sym kept) ∙ c.in_ok-put_shared.ensures.within
