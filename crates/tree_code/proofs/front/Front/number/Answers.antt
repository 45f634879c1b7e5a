use Rattle.std.proofs.Common.{◌≡◌, ◌∙◌, ap, ℕ, ◌+◌, ◌-◌, ◌*◌, List, ◌∷◌, get_or}
use Rattle.tree_code.proofs.Reading.{rest_behind, behind_one, behind_four, tiny_read, small_read, large_read}
use Rattle.tree_code.proofs.front.Front.number.Goals as goal

pub returns-then-first-lt192-clause-read : goal.returns-then-first-lt192-clause-read
returns-then-first-lt192-clause-read c = λ n left e.
    let old = c.args.self.now.rest.now in
    let r = tiny_read old (get_or old 0 0) (rest_behind 1 old) (behind_one old c.in-len1-up.len_at_least) c.if-first-lt192.true n left e in
    (c.from.ensures ∙ r.0, r.1)

pub returns-then-first-lt255-clause-read : goal.returns-then-first-lt255-clause-read
returns-then-first-lt255-clause-read c = λ n left e.
    let old = c.args.self.now.rest.now in
    let rest = rest_behind 1 old in
    let first = get_or old 0 0 in
    let two = behind_one old c.in-len1-up.len_at_least ∙ ap (λ (v : List ℕ). first ∷ v) (behind_one rest c.in-len1-up-rest.len_at_least) in
    let r = small_read old first (get_or rest 0 0) (rest_behind 1 rest) two c.if-first-lt192.false c.if-first-lt255.true n left e in (
      ap (λ (m : ℕ). m * 256 + c.from-then-first-lt255-2.result) c.from-then-first-lt255.ensures ∙ ap (λ (m : ℕ). (first - 192) * 256 + m) c.from-then-first-lt255-2.ensures ∙ r.0,
      r.1,
    )

pub returns-clause-read : goal.returns-clause-read
returns-clause-read c = λ n left e.
    let old = c.args.self.now.rest.now in
    let rest = rest_behind 1 old in
    let first = get_or old 0 0 in
    let five = behind_one old c.in-len1-up.len_at_least ∙ ap (λ (v : List ℕ). first ∷ v) (behind_four rest c.in-len4-up.len_at_least) in
    let r = large_read old first (get_or rest 0 0) (get_or rest 1 0) (get_or rest 2 0) (get_or rest 3 0) (rest_behind 4 rest) five c.if-first-lt255.false n left e in
    (c.from_le_bytes.ensures ∙ r.0, r.1)
