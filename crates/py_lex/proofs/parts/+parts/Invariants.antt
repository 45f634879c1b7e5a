use Rattle.std.proofs.Common.{◌≡◌, ◌+◌, ◌*◌, length}
use Rattle.std.specs.Str.{chars}
use Rattle.py_lex.specs.Inside.{first, IsBounded}
use Rattle.py_lex.specs.Parts.{inside_language, HasParts}
use Rattle.py_lex.proofs.PartedReading.{IsAt}
use Rattle.py_lex.proofs.Looking.{count}
use Rattle.py_lex.proofs.parts.+parts.Given as goal

abbrev pub decreases-look : goal.decreases-look
decreases-look l = 8 * l.levels + 4 + count l.forms

abbrev pub decreases-parts_of : goal.decreases-parts_of
decreases-parts_of l = 8 * l.levels + 3

abbrev pub decreases-parts_within : goal.decreases-parts_within
decreases-parts_within l = 8 * l.levels + 8

abbrev pub invariant-parts_within-lexemes : goal.invariant-parts_within-lexemes
invariant-parts_within-lexemes l = record {
  place : l.inside.at + length l.rest ≡ l.fn.at + length l.fn.text;
  bounded : IsBounded l.inside;
  read : IsAt (HasParts l.fn.levels l.fn.mode) (inside_language l.fn.mode) (first l.fn.at) (chars l.fn.text) l.all l.inside l.rest;
}

abbrev pub decreases-parts_within-lexemes : goal.decreases-parts_within-lexemes
decreases-parts_within-lexemes l = length l.rest
