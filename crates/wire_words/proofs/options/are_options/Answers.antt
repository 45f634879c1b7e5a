use Rattle.std.proofs.Common.{map, string_bytes, sym, ◌∙◌}
use Rattle.wire_words.specs.Options.{choice_of}
use Rattle.wire_words.proofs.Choices.{one_more, twice, none_begins, none_within, some_within}
use Rattle.wire_words.proofs.Parts.{not_empty, no_words}
use Rattle.wire_words.proofs.options.are_options.Goals as goal

pub returns-in_default : goal.returns-in_default
returns-in_default c = (
  λ h. absurd cc,
  λ some. absurd (none_begins c.args.command (map string_bytes c.options.left.now) (λ e. not_empty _ _ c.options-test.true c.is_empty.ensures (no_words string_bytes c.options.left.now e))
      c.in_default.ensures.none (c.options.invariant.0 some)),
)

pub returns-then-is_some : goal.returns-then-is_some
returns-then-is_some c =
    let v = some_within c.given.result (sym c.is_some.ensures ∙ c.if-is_some.true) in (
      λ h. absurd cc,
      λ some. absurd (twice c.args.command (choice_of c.in-Some.word c.in-Some.field-0-1) (map string_bytes c.in-Some.rest.now) (map string_bytes c.options.left.now) c.in-Some.ensures.some
          v.0 (λ cs a. sym (c.given.ensures cs a) ∙ v.1) (c.options.invariant.0 some)),
    )

pub options-preserved : goal.options-preserved
options-preserved c =
    let more = one_more c.args.command (choice_of c.in-Some.word c.in-Some.field-0-1) (map string_bytes c.in-Some.rest.now) (map string_bytes c.options.left.now) c.in-Some.ensures.some
    (λ cs a. sym (c.given.ensures cs a) ∙ none_within c.given.result (sym c.is_some.ensures ∙ c.if-is_some.false)) in
    (λ a. more.0 (c.options.invariant.0 a), λ b. c.options.invariant.1 (more.1 b))
