use Rattle.std.proofs.Common.{◌≡◌, ◌<◌, ◌≤◌, ◌+◌, ◌-◌, ◌*◌, ◌++◌, suc, length, map, Some, true}
use Rattle.grammar.specs.Rule.{has}
use Rattle.grammar.specs.Reader.{◌>>=◌}
use Rattle.c_expr.specs.Words.{class}
use Rattle.c_expr.specs.Table.{Comma, CommaTail, Postfix, PostfixTail, QualifiersTail, Typed, TypedTail, DeclrTail, Fields, Desigs, DesigsTail}
use Rattle.c_expr.specs.Build.{token_at}
use Rattle.c_expr.specs.reader.Reading.{level, optional, grafting, gathering, climbed, looseness, operators, ops_level, list_level, list_tail}
use Rattle.c_expr.proofs.Steps.{rest}
use Rattle.c_expr.proofs.Climbs.{ops_rest, still}
use Rattle.c_expr.proofs.+reader.Given as goal

abbrev pub decreases-declarators::maybe_declarator : goal.decreases-declarators::maybe_declarator
decreases-declarators::maybe_declarator l = 128 * l.room + 5

abbrev pub decreases-declarators::declarator : goal.decreases-declarators::declarator
decreases-declarators::declarator l = 128 * l.room + 4

abbrev pub decreases-declarators::pointed : goal.decreases-declarators::pointed
decreases-declarators::pointed l = 128 * l.room + 6

abbrev pub decreases-declarators::direct : goal.decreases-declarators::direct
decreases-declarators::direct l = 128 * l.room + 3

abbrev pub decreases-declarators::brackets : goal.decreases-declarators::brackets
decreases-declarators::brackets l = 128 * l.room + 2

abbrev pub decreases-declarators::bracket : goal.decreases-declarators::bracket
decreases-declarators::bracket l = 128 * l.room + 1

abbrev pub decreases-declarators::array_size : goal.decreases-declarators::array_size
decreases-declarators::array_size l = 128 * l.room + 94

abbrev pub decreases-declarators::parameter : goal.decreases-declarators::parameter
decreases-declarators::parameter l = 128 * l.room + 9

abbrev pub decreases-initializers::maybe_value : goal.decreases-initializers::maybe_value
decreases-initializers::maybe_value l = 128 * l.room + 95

abbrev pub decreases-initializers::value : goal.decreases-initializers::value
decreases-initializers::value l = 128 * l.room + 94

abbrev pub decreases-initializers::initializer : goal.decreases-initializers::initializer
decreases-initializers::initializer l = 128 * l.room + 95

abbrev pub decreases-initializers::designators : goal.decreases-initializers::designators
decreases-initializers::designators l = 128 * l.room + 2

abbrev pub decreases-initializers::designator : goal.decreases-initializers::designator
decreases-initializers::designator l = 128 * l.room + 1

abbrev pub decreases-lists::list : goal.decreases-lists::list
decreases-lists::list l = 128 * l.room + 99

abbrev pub decreases-lists::items : goal.decreases-lists::items
decreases-lists::items l = 128 * l.room + 98

abbrev pub decreases-lists::item : goal.decreases-lists::item
decreases-lists::item l = 128 * l.room + 97

abbrev pub decreases-members::body : goal.decreases-members::body
decreases-members::body l = 128 * l.room + 1

abbrev pub decreases-members::fields : goal.decreases-members::fields
decreases-members::fields l = 128 * l.room + 101

abbrev pub decreases-members::field : goal.decreases-members::field
decreases-members::field l = 128 * l.room + 100

abbrev pub decreases-members::member : goal.decreases-members::member
decreases-members::member l = 128 * l.room + 96

abbrev pub decreases-members::width : goal.decreases-members::width
decreases-members::width l = 128 * l.room + 93

abbrev pub decreases-members::enumerator : goal.decreases-members::enumerator
decreases-members::enumerator l = 128 * l.room + 94

abbrev pub decreases-members::maybe_number : goal.decreases-members::maybe_number
decreases-members::maybe_number l = 128 * l.room + 93

abbrev pub decreases-operators::comma : goal.decreases-operators::comma
decreases-operators::comma l = 128 * l.room + 94

abbrev pub decreases-operators::assign : goal.decreases-operators::assign
decreases-operators::assign l = 128 * l.room + 93

abbrev pub decreases-operators::assign_rest : goal.decreases-operators::assign_rest
decreases-operators::assign_rest l = 128 * l.room + 92

abbrev pub decreases-operators::conditional : goal.decreases-operators::conditional
decreases-operators::conditional l = 128 * l.room + 92

abbrev pub decreases-operators::cond_rest : goal.decreases-operators::cond_rest
decreases-operators::cond_rest l = 128 * l.room + 91

abbrev pub decreases-operators::cond_part : goal.decreases-operators::cond_part
decreases-operators::cond_part l = 128 * l.room + 1

abbrev pub decreases-operators::chain : goal.decreases-operators::chain
decreases-operators::chain l = 128 * l.room + (13 + 8 * looseness l.level)

abbrev pub decreases-operators::climb : goal.decreases-operators::climb
decreases-operators::climb l = 128 * l.room + (12 + 8 * looseness l.level)

abbrev pub decreases-operators::level_operators : goal.decreases-operators::level_operators
decreases-operators::level_operators l = 128 * l.room + (11 + 8 * looseness l.level)

abbrev pub decreases-operators::operand : goal.decreases-operators::operand
decreases-operators::operand l = 128 * l.room + (10 + 8 * looseness l.level)

abbrev pub decreases-operators::cast : goal.decreases-operators::cast
decreases-operators::cast l = 128 * l.room + 5

abbrev pub decreases-operators::unary : goal.decreases-operators::unary
decreases-operators::unary l = 128 * l.room + 4

abbrev pub decreases-operators::size : goal.decreases-operators::size
decreases-operators::size l = 128 * l.room + 1

abbrev pub decreases-primaries::postfix : goal.decreases-primaries::postfix
decreases-primaries::postfix l = 128 * l.room + 3

abbrev pub decreases-primaries::suffix : goal.decreases-primaries::suffix
decreases-primaries::suffix l = 128 * l.room + 1

abbrev pub decreases-primaries::primary : goal.decreases-primaries::primary
decreases-primaries::primary l = 128 * l.room + 2

abbrev pub decreases-primaries::deep : goal.decreases-primaries::deep
decreases-primaries::deep l = 128 * l.room + 1

abbrev pub decreases-primaries::argument : goal.decreases-primaries::argument
decreases-primaries::argument l = 128 * l.room + 95

abbrev pub decreases-types::type_name : goal.decreases-types::type_name
decreases-types::type_name l = 128 * l.room + 9

abbrev pub decreases-types::spec : goal.decreases-types::spec
decreases-types::spec l = 128 * l.room + 8

abbrev pub decreases-types::spec_start : goal.decreases-types::spec_start
decreases-types::spec_start l = 128 * l.room + 7

abbrev pub decreases-types::qualified : goal.decreases-types::qualified
decreases-types::qualified l = 128 * l.room + 6

abbrev pub decreases-types::typed : goal.decreases-types::typed
decreases-types::typed l = 128 * l.room + 5

abbrev pub decreases-types::word_or_group : goal.decreases-types::word_or_group
decreases-types::word_or_group l = 128 * l.room + 4

abbrev pub decreases-types::group : goal.decreases-types::group
decreases-types::group l = 128 * l.room + 3

abbrev pub decreases-types::maybe_body : goal.decreases-types::maybe_body
decreases-types::maybe_body l = 128 * l.room + 2

abbrev pub invariant-operators::comma-loop-turn : goal.invariant-operators::comma-loop-turn
invariant-operators::comma-loop-turn l = record {
  within : l.end ≤ length l.tokens;
  turns : l.turn ≤ suc (length l.tokens);
  rest : level l.fn.tokens l.fn.room Comma l.fn.at ≡ grafting l.from l.part (rest l.fn.tokens l.fn.room CommaTail (suc (length l.fn.tokens) - l.turn) l.end);
}

abbrev pub invariant-operators::climb-loop-step : goal.invariant-operators::climb-loop-step
invariant-operators::climb-loop-step l = record {
  within : l.end ≤ length l.tokens;
  steps : l.step ≤ suc (looseness l.fn.level);
  rest : climbed l.fn.tokens l.fn.room l.fn.from l.fn.level l.fn.first l.fn.at ≡ still l.fn.tokens l.fn.room l.fn.from (suc (looseness l.fn.level) - l.step) l.step l.part l.end;
}

abbrev pub invariant-operators::level_operators-loop-turn : goal.invariant-operators::level_operators-loop-turn
invariant-operators::level_operators-loop-turn l = record {
  within : l.end < length l.tokens;
  stands : has (map class (operators l.fn.level)) (class (token_at l.tokens l.end).word) ≡ true;
  turns : l.turn ≤ suc (length l.tokens);
  rest : grafting l.fn.from l.fn.first (optional l.fn.tokens l.fn.room (ops_level l.fn.level) l.fn.at) ≡ grafting l.fn.from l.part (ops_rest l.fn.tokens l.fn.room l.fn.level (suc (length l.fn.tokens) - l.turn) l.end);
}

abbrev pub invariant-primaries::postfix-loop-turn : goal.invariant-primaries::postfix-loop-turn
invariant-primaries::postfix-loop-turn l = record {
  within : l.end ≤ length l.tokens;
  turns : l.turn ≤ suc (length l.tokens);
  rest : level l.fn.tokens l.fn.room Postfix l.fn.at ≡ grafting l.from l.part (rest l.fn.tokens l.fn.room PostfixTail (suc (length l.fn.tokens) - l.turn) l.end);
}

abbrev pub invariant-lists::items-loop-turn : goal.invariant-lists::items-loop-turn
invariant-lists::items-loop-turn l = record {
  within : l.end ≤ length l.tokens;
  turns : l.turn ≤ suc (length l.tokens);
  rest : level l.fn.tokens l.fn.room (list_level l.fn.listed) l.fn.at ≡ (rest l.fn.tokens l.fn.room (list_tail l.fn.listed) (suc (length l.fn.tokens) - l.turn) l.end >>= λ y. Some (l.parts.items ++ y.0, y.1));
}

abbrev pub invariant-types::qualified-loop-turn : goal.invariant-types::qualified-loop-turn
invariant-types::qualified-loop-turn l = record {
  within : l.end ≤ length l.tokens;
  turns : l.turn ≤ suc (length l.tokens);
  rest : gathering (l.fn.spelt.text, l.fn.spelt.kids.items) (level l.fn.tokens l.fn.room QualifiersTail l.fn.at) ≡ gathering (l.spelt.text, l.spelt.kids.items) (rest l.fn.tokens l.fn.room QualifiersTail (suc (length l.fn.tokens) - l.turn) l.end);
}

abbrev pub invariant-types::typed-loop-turn : goal.invariant-types::typed-loop-turn
invariant-types::typed-loop-turn l = record {
  within : l.end ≤ length l.tokens;
  turns : l.turn ≤ suc (length l.tokens);
  rest : gathering (l.fn.spelt.text, l.fn.spelt.kids.items) (level l.fn.tokens l.fn.room Typed l.fn.at) ≡ gathering (l.spelt.text, l.spelt.kids.items) (rest l.fn.tokens l.fn.room TypedTail (suc (length l.fn.tokens) - l.turn) l.end);
}

abbrev pub invariant-declarators::brackets-loop-turn : goal.invariant-declarators::brackets-loop-turn
invariant-declarators::brackets-loop-turn l = record {
  within : l.end ≤ length l.tokens;
  turns : l.turn ≤ suc (length l.tokens);
  rest : grafting l.fn.from l.fn.first (level l.fn.tokens l.fn.room DeclrTail l.fn.at) ≡ grafting l.fn.from l.part (rest l.fn.tokens l.fn.room DeclrTail (suc (length l.fn.tokens) - l.turn) l.end);
}

abbrev pub invariant-members::fields-loop-turn : goal.invariant-members::fields-loop-turn
invariant-members::fields-loop-turn l = record {
  within : l.end ≤ length l.tokens;
  turns : l.turn ≤ suc (length l.tokens);
  rest : level l.fn.tokens l.fn.room Fields l.fn.at ≡ (rest l.fn.tokens l.fn.room Fields (suc (length l.fn.tokens) - l.turn) l.end >>= λ y. Some (l.parts.items ++ y.0, y.1));
}

abbrev pub invariant-initializers::designators-loop-turn : goal.invariant-initializers::designators-loop-turn
invariant-initializers::designators-loop-turn l = record {
  within : l.end ≤ length l.tokens;
  turns : l.turn ≤ suc (length l.tokens);
  rest : level l.fn.tokens l.fn.room Desigs l.fn.at ≡ (rest l.fn.tokens l.fn.room DesigsTail (suc (length l.fn.tokens) - l.turn) l.end >>= λ y. Some (l.parts.items ++ y.0, y.1));
}
