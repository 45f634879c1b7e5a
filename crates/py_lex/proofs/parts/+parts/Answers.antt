use Rattle.std.proofs.Common.{◌≡◌, ◌≢◌, ℕ, ◌+◌, ◌*◌, ◌-◌, ◌<◌, true, length, length-append, refl, sym, ap, ◌∙◌, subst, arith}
use Rattle.std.specs.Prelude.{None, Err}
use Rattle.std.specs.Str.{chars}
use Rattle.std.proofs.lemmas.List.{append-nil}
use Rattle.std.proofs.lemmas.Result.{err_from_is_err_and}
use Rattle.node_tree.specs.declared.fault.LexFault.{LexFault}
use Rattle.py_lex.specs.Classes.{class_of}
use Rattle.py_lex.specs.Inside.{finish_at}
use Rattle.py_lex.specs.Lexing.{Gives}
use Rattle.py_lex.specs.Starts.{rules_of, fewer}
use Rattle.py_lex.specs.Parts.{is_f_string, HasParts, Looks, IsFound}
use Rattle.py_lex.specs.declared.class.Class.{Class}
use Rattle.py_lex.specs.declared.class.Forms.{Forms}
use Rattle.py_lex.specs.declared.class.Forms.TheVariants.{Both}
use Rattle.py_lex.specs.declared.inside.Place.{Place}
use Rattle.py_lex.specs.declared.inside.Place.TheVariants as places
use Rattle.py_lex.specs.declared.parts.Lexemes.{Lexemes}
use Rattle.py_lex.proofs.Looking.{count, smaller, passed_over}
use Rattle.py_lex.proofs.Between.{has_between, given_between, inside_between}
use Rattle.py_lex.proofs.PartedReading.{turned, not_found, failed, given, only, unfinished}
use Rattle.py_lex.proofs.parts.+parts.Goals as goal

less : (n a b : ℕ) → a < b → n + a < n + b
less n a b h = omega arith

pub look-look-requires : goal.look-look-requires
look-look-requires t c =
    let p = c.in-Some.ensures.takes _ c.automaton.ensures in
    let is : is_f_string (class_of c.in-Some.piece.word) ≡ true = subst (λ (k : Class). is_f_string k ≡ true) c.class_at-class.ensures (sym c.if-not-is_f_string.ensures) in
    let forms : c.fewer.result ≡ fewer (class_of c.in-Some.piece.word) c.args.forms = c.fewer.ensures ∙ ap (λ (k : Class). fewer k c.args.forms) c.class_at-class.ensures in
    let falls = less (8 * c.args.levels + 4) (count c.fewer.result) (count c.args.forms)
    (subst (λ (f : Forms). count f < count c.args.forms) (sym forms) (smaller c.args.lexemes c.args.mode c.args.forms c.in-Some.piece.word (chars c.in-Some.piece.text.now) p.begins.spells is)) in
    (subst (λ (k : ℕ). 8 * c.args.levels + 4 + count c.fewer.result < k) c.requires.1.0 falls, c.requires.1.1)

pub look-returns-in-NoTokens : goal.look-returns-in-NoTokens
look-returns-in-NoTokens t c =
    let p = c.in-Some.ensures.takes _ c.automaton.ensures in
    let w = c.in-Some.piece.word in
    let P = HasParts c.args.levels c.args.mode in
    let is : is_f_string (class_of w) ≡ true = subst (λ (k : Class). is_f_string k ≡ true) c.class_at-class.ensures (sym c.if-not-is_f_string.ensures) in
    let forms : c.fewer.result ≡ fewer (class_of w) c.args.forms = c.fewer.ensures ∙ ap (λ (k : Class). fewer k c.args.forms) c.class_at-class.ensures in
    passed_over P c.args.lexemes c.args.mode c.args.forms c.args.at c.args.text.now w c.in-Some.piece.text.now c.in-Some.piece.rest.now c.look.result p is
    (λ xs h. subst (λ (e : LexFault). Gives xs (Err e)) c.in-NoTokens.is (c.in-Err.ensures.only xs (subst (λ (k : Class). P c.args.at k (chars c.in-Some.piece.text.now) xs) (sym c.class_at-class.ensures) h)))
    (subst (λ (f : Forms). Looks P (rules_of c.args.lexemes c.args.mode f) c.args.at c.args.text.now c.look.result) forms c.look.ensures)

-- in `parts_of`, `c.requires.0` has a fact on each argument, and the fourth is that the text is UTF-8
pub parts_of-returns-in_default-clause-only : goal.parts_of-returns-in_default-clause-only
parts_of-returns-in_default-clause-only t c = λ xs h. c.in_default.ensures.cases (has_between c.args.levels (c.args.levels - 1) c.args.mode c.args.at c.args.class c.args.text.now xs c.requires.0.1.1.1.0 (grind (arith, c.if-levels-eq0.false)) h).0

pub parts_of-returns-clause-given : goal.parts_of-returns-clause-given
parts_of-returns-clause-given t c =
    given_between c.args.levels (c.args.levels - 1) c.args.mode c.args.at c.args.class c.args.text.now _ c.in-Some.inner.now c.parts_within.result c.requires.0.1.1.1.0 (grind (arith, c.if-levels-eq0.false)) c.in-Some.ensures.cases.0 (omega (arith, c.inside_start.ensures.value)) c.in-Some.ensures.cases.1
    c.parts_within.ensures.given

pub parts_of-returns-clause-only : goal.parts_of-returns-clause-only
parts_of-returns-clause-only t c = λ xs h.
    c.parts_within.ensures.only xs
    (inside_between c.args.levels (c.args.levels - 1) c.args.mode c.args.at c.args.class c.args.text.now _ c.in-Some.inner.now xs c.requires.0.1.1.1.0 (grind (arith, c.if-levels-eq0.false)) (omega (arith, c.inside_start.ensures.value)) c.in-Some.ensures.cases.1 h)

pub parts_within-returns-in-Err-clause-only : goal.parts_within-returns-in-Err-clause-only
parts_within-returns-in-Err-clause-only t c =
    not_found c.in-Err.fault c.lexemes.invariant.read c.lexemes-test.ensures
    (subst (λ (l : Lexemes). Looks (HasParts c.args.levels c.args.mode) (rules_of l c.args.mode Both) c.lexemes.inside.at c.lexemes.rest.now (Err c.in-Err.fault)) c.lexemes_at-lexemes.ensures c.in-Err.ensures)

pub parts_within-returns-in_err-step-clause-only : goal.parts_within-returns-in_err-step-clause-only
parts_within-returns-in_err-step-clause-only t c = λ xs is.
    let r = err_from_is_err_and c.from_residual.result c.from_residual.ensures.1 in
    rw (r.1, r.2) (failed c.step.new.inside c.step.new.all c.in_err-step.field-0.0 c.lexemes.invariant.read c.lexemes-test.ensures
    (subst (λ (l : Lexemes). IsFound (HasParts c.args.levels c.args.mode) (rules_of l c.args.mode Both) c.lexemes.inside.at c.lexemes.rest.now c.in-Ok.found) c.lexemes_at-lexemes.ensures c.in-Ok.ensures)
    c.in_err-step.ensures.turns xs is)

pub parts_within-lexemes-preserved : goal.parts_within-lexemes-preserved
parts_within-lexemes-preserved t c =
    let k = c.in_ok-step.ensures.turns in
    let found = subst (λ (l : Lexemes). IsFound (HasParts c.args.levels c.args.mode) (rules_of l c.args.mode Both) c.lexemes.inside.at c.lexemes.rest.now c.in-Ok.found) c.lexemes_at-lexemes.ensures c.in-Ok.ensures in
    record {
      place = omega (arith, ap length found.whole, length-append c.in-Ok.found.text.now c.in-Ok.found.rest.now, c.lexemes.invariant.place, c.in_ok-step.ensures.moves);
      bounded = c.in_ok-step.ensures.bounded;
      read = turned c.lexemes.invariant.read c.lexemes-test.ensures found k.1 k.2;
    }

pub parts_within-returns-in-Plain-clause-given : goal.parts_within-returns-in-Plain-clause-given
parts_within-returns-in-Plain-clause-given t c = given c.lexemes.invariant.read c.lexemes-test.ensures (ap finish_at c.in-Plain.is) (sym (append-nil c.lexemes.all))

pub parts_within-returns-in-Plain-clause-only : goal.parts_within-returns-in-Plain-clause-only
parts_within-returns-in-Plain-clause-only t c = only c.lexemes.invariant.read c.lexemes-test.ensures (ap finish_at c.in-Plain.is) (sym (append-nil c.lexemes.all))

not_at_end : (place : Place) → place ≢ places.Plain → finish_at place ≡ None
not_at_end places.Plain ne = absurd (ne refl)
not_at_end _ ne = refl

pub parts_within-returns-in_default : goal.parts_within-returns-in_default
parts_within-returns-in_default t c = record { given = tt; only = unfinished c.lexemes.invariant.read c.lexemes-test.ensures (not_at_end c.lexemes.inside.place c.in_default.not-Plain) }
