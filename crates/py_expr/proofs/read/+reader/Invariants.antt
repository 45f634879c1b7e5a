use Rattle.std.proofs.Common.{◌≡◌, suc, length, ◌≤◌, ◌-◌, ◌+◌, ◌*◌, ◌++◌, [], ◌∷◌, Some}
use Rattle.node_tree.specs.declared.kind.Kind.TheVariants as k
use Rattle.grammar.specs.Reader.{◌>>=◌}
use Rattle.py_expr.specs.Parts.{whole, clauses, wholes, node, nodes_of}
use Rattle.py_expr.specs.Table.{Prim, Cmp, Dotted, Comprehension}
use Rattle.py_expr.specs.Build.{token_at, end_of, chain_from, operators, undecided}
use Rattle.py_expr.specs.reader.Reading.{level, level_of, further_of, pairs_of}
use Rattle.py_expr.proofs.Steps.{binary_rest, prim_rest, cmp_rest, dotted_rest, comprehension_rest, further_rest, pairs_rest}
use Rattle.py_expr.proofs.Measures.{of_operand, of_item}
use Rattle.py_expr.proofs.read.+reader.Given as goal

abbrev pub decreases-operators::named : goal.decreases-operators::named
decreases-operators::named l = 128 * l.room + 76

abbrev pub decreases-operators::assigned : goal.decreases-operators::assigned
decreases-operators::assigned l = 128 * l.room + 73

abbrev pub decreases-operators::test : goal.decreases-operators::test
decreases-operators::test l = 128 * l.room + 72

abbrev pub decreases-operators::lambda : goal.decreases-operators::lambda
decreases-operators::lambda l = 128 * l.room + 4

abbrev pub decreases-operators::some_params : goal.decreases-operators::some_params
decreases-operators::some_params l = 128 * l.room + 3

abbrev pub decreases-operators::not : goal.decreases-operators::not
decreases-operators::not l = 128 * l.room + 60

abbrev pub decreases-operators::cmp : goal.decreases-operators::cmp
decreases-operators::cmp l = 128 * l.room + 56

abbrev pub decreases-operators::unary : goal.decreases-operators::unary
decreases-operators::unary l = 128 * l.room + 28

abbrev pub decreases-operators::power : goal.decreases-operators::power
decreases-operators::power l = 128 * l.room + 24

abbrev pub decreases-operators::awaited : goal.decreases-operators::awaited
decreases-operators::awaited l = 128 * l.room + 20

abbrev pub decreases-primaries::prim : goal.decreases-primaries::prim
decreases-primaries::prim l = 128 * l.room + 16

abbrev pub decreases-primaries::suffix : goal.decreases-primaries::suffix
decreases-primaries::suffix l = 128 * l.room + 8

abbrev pub decreases-primaries::call : goal.decreases-primaries::call
decreases-primaries::call l = 128 * l.room + 4

abbrev pub decreases-primaries::sub : goal.decreases-primaries::sub
decreases-primaries::sub l = 128 * l.room + 4

abbrev pub decreases-primaries::atom : goal.decreases-primaries::atom
decreases-primaries::atom l = 128 * l.room + 12

abbrev pub decreases-primaries::paren : goal.decreases-primaries::paren
decreases-primaries::paren l = 128 * l.room + 4

abbrev pub decreases-primaries::inner : goal.decreases-primaries::inner
decreases-primaries::inner l = 128 * l.room + 100

abbrev pub decreases-primaries::first_items : goal.decreases-primaries::first_items
decreases-primaries::first_items l = 128 * l.room + 92

abbrev pub decreases-primaries::list_lit : goal.decreases-primaries::list_lit
decreases-primaries::list_lit l = 128 * l.room + 4

abbrev pub decreases-primaries::deep : goal.decreases-primaries::deep
decreases-primaries::deep l = 128 * l.room + 4

abbrev pub decreases-displays::braces : goal.decreases-displays::braces
decreases-displays::braces l = 128 * l.room + 4

abbrev pub decreases-displays::dotted : goal.decreases-displays::dotted
decreases-displays::dotted l = 128 * l.room + 96

abbrev pub decreases-displays::decided : goal.decreases-displays::decided
decreases-displays::decided l = 128 * l.room + 95

abbrev pub decreases-displays::pair : goal.decreases-displays::pair
decreases-displays::pair l = 128 * l.room + 76

abbrev pub decreases-displays::pair_or_dots : goal.decreases-displays::pair_or_dots
decreases-displays::pair_or_dots l = 128 * l.room + 77

abbrev pub decreases-displays::comprehension : goal.decreases-displays::comprehension
decreases-displays::comprehension l = 128 * l.room + 80

abbrev pub decreases-displays::clause : goal.decreases-displays::clause
decreases-displays::clause l = 128 * l.room + 76

abbrev pub decreases-displays::for_clause : goal.decreases-displays::for_clause
decreases-displays::for_clause l = 128 * l.room + 72

abbrev pub decreases-displays::for_part : goal.decreases-displays::for_part
decreases-displays::for_part l = 128 * l.room + 71

abbrev pub decreases-lists::exprs : goal.decreases-lists::exprs
decreases-lists::exprs l = 128 * l.room + 92

abbrev pub decreases-lists::targs : goal.decreases-lists::targs
decreases-lists::targs l = 128 * l.room + 68

abbrev pub decreases-lists::index : goal.decreases-lists::index
decreases-lists::index l = 128 * l.room + 96

abbrev pub decreases-lists::star : goal.decreases-lists::star
decreases-lists::star l = 128 * l.room + 80

abbrev pub decreases-lists::starred : goal.decreases-lists::starred
decreases-lists::starred l = 128 * l.room + 53

abbrev pub decreases-lists::double_starred : goal.decreases-lists::double_starred
decreases-lists::double_starred l = 128 * l.room + 53

abbrev pub decreases-lists::target : goal.decreases-lists::target
decreases-lists::target l = 128 * l.room + 56

abbrev pub decreases-lists::piece : goal.decreases-lists::piece
decreases-lists::piece l = 128 * l.room + 84

abbrev pub decreases-lists::slice_end : goal.decreases-lists::slice_end
decreases-lists::slice_end l = 128 * l.room + 80

abbrev pub decreases-lists::bound : goal.decreases-lists::bound
decreases-lists::bound l = 128 * l.room + 76

abbrev pub decreases-lists::yields : goal.decreases-lists::yields
decreases-lists::yields l = 128 * l.room + 96

abbrev pub decreases-arguments::args : goal.decreases-arguments::args
decreases-arguments::args l = 128 * l.room + 100

abbrev pub decreases-arguments::first_arg : goal.decreases-arguments::first_arg
decreases-arguments::first_arg l = 128 * l.room + 96

abbrev pub decreases-arguments::arg : goal.decreases-arguments::arg
decreases-arguments::arg l = 128 * l.room + 84

abbrev pub decreases-arguments::plain_arg : goal.decreases-arguments::plain_arg
decreases-arguments::plain_arg l = 128 * l.room + 80

abbrev pub decreases-arguments::marked_arg : goal.decreases-arguments::marked_arg
decreases-arguments::marked_arg l = 128 * l.room + 73

abbrev pub decreases-arguments::lambda_params : goal.decreases-arguments::lambda_params
decreases-arguments::lambda_params l = 128 * l.room + 92

abbrev pub decreases-arguments::param : goal.decreases-arguments::param
decreases-arguments::param l = 128 * l.room + 80

abbrev pub decreases-arguments::marked_param : goal.decreases-arguments::marked_param
decreases-arguments::marked_param l = 128 * l.room + 78

abbrev pub decreases-arguments::given : goal.decreases-arguments::given
decreases-arguments::given l = 128 * l.room + 76

abbrev pub decreases-arguments::annotation : goal.decreases-arguments::annotation
decreases-arguments::annotation l = 128 * l.room + 74

abbrev pub decreases-arguments::marked : goal.decreases-arguments::marked
decreases-arguments::marked l = 128 * l.room + 73

abbrev pub decreases-displays::entry : goal.decreases-displays::entry
decreases-displays::entry l = 128 * l.room + 92

abbrev pub decreases-displays::after_pair : goal.decreases-displays::after_pair
decreases-displays::after_pair l = 128 * l.room + 84

abbrev pub decreases-displays::pairs : goal.decreases-displays::pairs
decreases-displays::pairs l = 128 * l.room + 80

abbrev pub decreases-operators::tightest : goal.decreases-operators::tightest
decreases-operators::tightest l = 128 * l.room + of_operand l.level

abbrev pub decreases-operators::climbed : goal.decreases-operators::climbed
decreases-operators::climbed l = 128 * l.room + of_operand l.level

abbrev pub decreases-operators::chained : goal.decreases-operators::chained
decreases-operators::chained l = 128 * l.room + (of_operand l.level + 1)

abbrev pub decreases-operators::binary : goal.decreases-operators::binary
decreases-operators::binary l = 128 * l.room + (of_operand l.level + 2)

abbrev pub decreases-lists::one_item : goal.decreases-lists::one_item
decreases-lists::one_item l = 128 * l.room + of_item l.place

abbrev pub decreases-lists::further : goal.decreases-lists::further
decreases-lists::further l = 128 * l.room + (of_item l.place + 1)

abbrev pub decreases-lists::after : goal.decreases-lists::after
decreases-lists::after l = 128 * l.room + (of_item l.place + 2)

abbrev pub invariant-operators::chained-loop-turn : goal.invariant-operators::chained-loop-turn
invariant-operators::chained-loop-turn l = record {
  within : l.end ≤ length l.items;
  turns : l.turn ≤ suc (length l.items);
  rest : level l.fn.items l.fn.room (level_of l.fn.level) l.fn.at ≡ (binary_rest l.fn.items l.fn.room l.fn.level (suc (length l.fn.items) - l.turn) l.end >>= λ y. Some (whole (chain_from (token_at l.fn.items l.fn.at).span.from l.far l.node y.0) ∷ [], y.1));
}

abbrev pub invariant-primaries::prim-loop-turn : goal.invariant-primaries::prim-loop-turn
invariant-primaries::prim-loop-turn l = record {
  within : l.end ≤ length l.items;
  turns : l.turn ≤ suc (length l.items);
  rest : level l.fn.items l.fn.room Prim l.fn.at ≡ (prim_rest l.fn.items l.fn.room (suc (length l.fn.items) - l.turn) l.end >>= λ y. Some (whole (chain_from (token_at l.fn.items l.fn.at).span.from l.far l.node y.0) ∷ [], y.1));
}

abbrev pub invariant-operators::cmp-loop-turn : goal.invariant-operators::cmp-loop-turn
invariant-operators::cmp-loop-turn l = record {
  within : l.end ≤ length l.items;
  turns : l.turn ≤ suc (length l.items);
  rest : level l.fn.items l.fn.room Cmp l.fn.at ≡ (cmp_rest l.fn.items l.fn.room (suc (length l.fn.items) - l.turn) l.end >>= λ y. Some (whole (node k.Compare (operators l.text y.0) (token_at l.fn.items l.fn.at).span.from (end_of l.fn.items y.1) (l.kids ++ nodes_of y.0)) ∷ [], y.1));
}

abbrev pub invariant-lists::further-loop-turn : goal.invariant-lists::further-loop-turn
invariant-lists::further-loop-turn l = record {
  within : l.end ≤ length l.items;
  turns : l.turn ≤ suc (length l.items);
  rest : level l.fn.items l.fn.room (further_of l.fn.place) l.fn.at ≡ (further_rest l.fn.items l.fn.room l.fn.place (suc (length l.fn.items) - l.turn) l.end >>= λ y. Some (wholes l.kids ++ y.0, y.1));
}

abbrev pub invariant-displays::pairs-loop-turn : goal.invariant-displays::pairs-loop-turn
invariant-displays::pairs-loop-turn l = record {
  within : l.end ≤ length l.items;
  turns : l.turn ≤ suc (length l.items);
  rest : level l.fn.items l.fn.room (pairs_of l.fn.dots) l.fn.at ≡ (pairs_rest l.fn.items l.fn.room (suc (length l.fn.items) - l.turn) l.end >>= λ y. Some (wholes l.kids ++ y.0, y.1));
}

abbrev pub invariant-displays::dotted-loop-turn : goal.invariant-displays::dotted-loop-turn
invariant-displays::dotted-loop-turn l = record {
  within : l.end ≤ length l.items;
  turns : l.turn ≤ suc (length l.items);
  rest : level l.fn.items l.fn.room Dotted l.fn.at ≡ (dotted_rest l.fn.items l.fn.room (suc (length l.fn.items) - l.turn) l.end >>= λ y. Some (undecided l.kids y.0 ∷ [], y.1));
}

abbrev pub invariant-displays::comprehension-loop-turn : goal.invariant-displays::comprehension-loop-turn
invariant-displays::comprehension-loop-turn l = record {
  within : l.end ≤ length l.items;
  turns : l.turn ≤ suc (length l.items);
  rest : level l.fn.items l.fn.room Comprehension l.fn.at ≡ (comprehension_rest l.fn.items l.fn.room (suc (length l.fn.items) - l.turn) l.end >>= λ y. Some (clauses (l.kids ++ nodes_of y.0) ∷ [], y.1));
}
