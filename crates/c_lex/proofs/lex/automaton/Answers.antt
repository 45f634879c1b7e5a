use Rattle.std.proofs.Common.{◌≡◌, ℕ, Bool, sym, subst}
use Rattle.lexing.specs.Automaton.{Started, Accepts}
use Rattle.node_tree.specs.declared.view.Mode.{Mode}
use Rattle.c_lex.specs.Tokens.{rules}
use Rattle.c_lex.proofs.Certificate.{the_table, accepts_0, accepts_1, accepts_2, accepts_3, sound_0, sound_1, sound_2, sound_3}
use Rattle.c_lex.proofs.lex.automaton.Goals as goal

-- an automaton that was made at a start accepts the rules there
accepts : (a : Started) (start : ℕ) (mode mode' : Mode) (fresh fresh' : Bool) → a ≡ record { table = the_table; start = start } → mode ≡ mode' → fresh ≡ fresh' → Accepts the_table start (rules mode' fresh') → Accepts a.table a.start (rules mode fresh)
accepts a start mode mode' fresh fresh' made is_mode is_fresh h =
    subst (λ (x : Started). Accepts x.table x.start (rules mode fresh)) (sym made)
    (subst (λ (x : Mode). Accepts the_table start (rules x fresh)) (sym is_mode) (subst (λ (x : Bool). Accepts the_table start (rules mode' x)) (sym is_fresh) h))

pub new-requires-in-Text-false : goal.new-requires-in-Text-false
new-requires-in-Text-false c = sound_0

pub new-requires : goal.new-requires
new-requires c = sound_1

pub new-requires-in-Pattern-false : goal.new-requires-in-Pattern-false
new-requires-in-Pattern-false c = sound_2

pub new-requires-in-Pattern-true : goal.new-requires-in-Pattern-true
new-requires-in-Pattern-true c = sound_3

pub returns-in-Text-false : goal.returns-in-Text-false
returns-in-Text-false c = accepts _ _ _ _ _ _ c.new-in-Text-false.ensures c.in-Text-false.is-0 c.in-Text-false.is-1 accepts_0

pub returns-in-Text-true : goal.returns-in-Text-true
returns-in-Text-true c = accepts _ _ _ _ _ _ c.new.ensures c.in-Text-true.is-0 c.in-Text-true.is-1 accepts_1

pub returns-in-Pattern-false : goal.returns-in-Pattern-false
returns-in-Pattern-false c = accepts _ _ _ _ _ _ c.new-in-Pattern-false.ensures c.in-Pattern-false.is-0 c.in-Pattern-false.is-1 accepts_2

pub returns-in-Pattern-true : goal.returns-in-Pattern-true
returns-in-Pattern-true c = accepts _ _ _ _ _ _ c.new-in-Pattern-true.ensures c.in-Pattern-true.is-0 c.in-Pattern-true.is-1 accepts_3
