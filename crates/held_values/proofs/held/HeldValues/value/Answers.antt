use Rattle.std.proofs.Common.{arith}
use Rattle.std.proofs.lemmas.List.{get_or_read}
use Rattle.std.proofs.lemmas.Nat.{mul-add-lt}
use Rattle.held_values.proofs.Asking.{tells_none, tells_unseen, tells_some}
use Rattle.held_values.proofs.held.HeldValues.value.Goals as goal

pub returns-then-value-eq0 : goal.returns-then-value-eq0
returns-then-value-eq0 c literal =
    let s = c.args.self.now in
    let is = get_or_read s.values.items _ _ (omega (arith, mul-add-lt c.args.name s.points c.args.point s.names c.requires.name c.requires.point, s.room)) c.index-value.ensures 0 in
    (λ e. absurd cc, λ t. absurd (tells_none s c.args.point c.args.name _ is c.if-value-eq0.true literal t))

pub returns-then-value : goal.returns-then-value
returns-then-value c literal =
    let s = c.args.self.now in
    let is = get_or_read s.values.items _ _ (omega (arith, mul-add-lt c.args.name s.points c.args.point s.names c.requires.name c.requires.point, s.room)) c.index-value.ensures 0 in
    (λ e. absurd cc, λ t. absurd (tells_unseen s c.args.point c.args.name _ is c.if-value.true literal t))

pub returns : goal.returns
returns c literal =
    let s = c.args.self.now in
    let is = get_or_read s.values.items _ _ (omega (arith, mul-add-lt c.args.name s.points c.args.point s.names c.requires.name c.requires.point, s.room)) c.index-value.ensures 0 in
    tells_some s c.args.point c.args.name _ is c.if-value-eq0.false c.if-value.false literal
