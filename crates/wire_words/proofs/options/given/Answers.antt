use Rattle.std.proofs.Common.{map, string_bytes, ◌∙◌}
use Rattle.wire_words.specs.Options.{choice_of}
use Rattle.wire_words.proofs.Choices.{look_on, found, not_found}
use Rattle.wire_words.proofs.Parts.{same_test}
use Rattle.wire_words.proofs.options.given.Goals as goal

pub returns-then-eq : goal.returns-then-eq
returns-then-eq c =
    found c.args.command c.args.wanted.now (map string_bytes c.args.words.now) (map string_bytes c.options.left.now) c.options.invariant
    (choice_of c.in-Some.word c.in-Some.value) (map string_bytes c.in-Some.rest.now) c.in-Some.ensures.some
    (same_test c.in-Some.word.now c.args.wanted.now c.eq.result c.eq.ensures ∙ c.if-eq.true)

pub options-preserved : goal.options-preserved
options-preserved c =
    look_on c.args.command c.args.wanted.now (map string_bytes c.args.words.now) (map string_bytes c.options.left.now) c.options.invariant
    (choice_of c.in-Some.word c.in-Some.value) (map string_bytes c.in-Some.rest.now) c.in-Some.ensures.some
    (same_test c.in-Some.word.now c.args.wanted.now c.eq.result c.eq.ensures ∙ c.if-eq.false)

pub returns : goal.returns
returns c =
    not_found c.args.command c.args.wanted.now (map string_bytes c.args.words.now) (map string_bytes c.options.left.now) c.options.invariant
    c.in_default.ensures.none
