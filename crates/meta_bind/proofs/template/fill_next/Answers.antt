use Rattle.std.proofs.Common.{◌≡◌, ◌≤◌, ◌<◌, ◌+◌, ◌-◌, ◌∙◌, ◌++◌, List, ℕ, length, take, drop, get_or, sym, ap, subst, arith, length-drop}
use Rattle.std.proofs.lemmas.Grind.{common_steps}
use Rattle.meta_bind.specs.Fills.{value_of, name_size}
use Rattle.meta_bind.proofs.Fillings.{plain_moves, name_moves, name_ends}
use Rattle.meta_bind.proofs.template.fill_next.Goals as goal

pub returns-then-size-eq0-clause-adds : goal.returns-then-size-eq0-clause-adds
returns-then-size-eq0-clause-adds c =
    let is = (let P : List ℕ → Type 0 = λ t. c.name_size-size.result ≡ name_size (take (length t - c.args.at) (drop c.args.at t)) in subst P c.as_bytes.ensures.value c.name_size-size.ensures.size) in
    let within = (let P : List ℕ → Type 0 = λ t. c.next_mark-end.result ≤ length t in subst P c.as_bytes-then-size-eq0.ensures.value c.next_mark-end.ensures.within) in
    let between = (let P : List ℕ → Type 0 = λ t. (k : ℕ) → c.args.at + 1 ≤ k → k < c.next_mark-end.result → get_or t k 0 ≡ 36 → ⊥ in subst P c.as_bytes-then-size-eq0.ensures.value c.next_mark-end.ensures.between) in
    plain_moves c.args.binding.now c.args.bytes.now c.args.template.now c.args.at c.next_mark-end.result c.args.text.now c.push.new.self (sym is ∙ c.if-size-eq0.true)
    (omega (arith, c.next_mark-end.ensures.later)) within between (c.in_ok-push.ensures.ok ∙ ap (λ (xs : List ℕ). c.args.text.now ++ xs) c.range.ensures.value)

pub range-requires-2-clause-end_boundary : goal.range-requires-2-clause-end_boundary
range-requires-2-clause-end_boundary c =
    let is = (let P : List ℕ → Type 0 = λ t. c.name_size-size.result ≡ name_size (take (length t - c.args.at) (drop c.args.at t)) in subst P c.as_bytes.ensures.value c.name_size-size.ensures.size) in
    let within = (let P : List ℕ → Type 0 = λ t. c.name_size-size.result ≤ length (take (length t - c.args.at) (drop c.args.at t)) in subst P c.as_bytes.ensures.value c.name_size-size.ensures.within) in
    name_ends c.args.template.now c.args.at c.name_size-size.result c.utf8.template is c.if-size-eq0.false (grind (arith, common_steps, within, c.requires.left))

pub returns-clause-ends : goal.returns-clause-ends
returns-clause-ends c =
    let is = (let P : List ℕ → Type 0 = λ t. c.name_size-size.result ≡ name_size (take (length t - c.args.at) (drop c.args.at t)) in subst P c.as_bytes.ensures.value c.name_size-size.ensures.size) in
    let within = (let P : List ℕ → Type 0 = λ t. c.name_size-size.result ≤ length (take (length t - c.args.at) (drop c.args.at t)) in subst P c.as_bytes.ensures.value c.name_size-size.ensures.within) in
    name_ends c.args.template.now c.args.at c.name_size-size.result c.utf8.template is c.if-size-eq0.false (grind (arith, common_steps, within, c.requires.left))

pub returns-clause-adds : goal.returns-clause-adds
returns-clause-adds c =
    let is = (let P : List ℕ → Type 0 = λ t. c.name_size-size.result ≡ name_size (take (length t - c.args.at) (drop c.args.at t)) in subst P c.as_bytes.ensures.value c.name_size-size.ensures.size) in
    name_moves c.args.binding.now c.args.bytes.now c.args.template.now c.args.at c.name_size-size.result c.args.text.now c.push_value.new.text is c.if-size-eq0.false c.requires.left
    (c.in_ok-push_value.ensures ∙ ap (λ (xs : List ℕ). c.args.text.now ++ value_of c.args.binding.now c.args.bytes.now xs) c.range-2.ensures.value)
