use Rattle.std.proofs.Common.{◌≡◌, ◌∷◌, get_or, sym, ◌∙◌}
use Rattle.tree_code.proofs.Reading.{rest_behind, behind_one}
use Rattle.tree_code.proofs.front.Front.byte.Goals as goal

pub returns-clause-read : goal.returns-clause-read
returns-clause-read c = λ byte left e.
    let old = c.args.self.now.rest.now in
    let both : (get_or old 0 0 ∷ rest_behind 1 old) ≡ (byte ∷ left) = sym (behind_one old c.in-len1-up.len_at_least) ∙ e in
    let first : get_or old 0 0 ≡ byte = cc in
    let rest : rest_behind 1 old ≡ left = cc in
    (first, rest)
