use Rattle.std.proofs.Common.{◌≡◌, Bool, true, false, length, refl, sym, ap, ◌∙◌, subst, arith}
use Rattle.std.specs.Prelude.{Option, Some, None}
use Rattle.std.specs.Str.{chars}
use Rattle.std.proofs.lemmas.Iterator.{YieldsList-from_chars}
use Rattle.std.proofs.lemmas.Iterator.Consumers.{YieldsList-turn, YieldsList-end}
use Rattle.std.proofs.lemmas.List.{length_push}
use Rattle.json_check.specs.fronts.Moves.{Takes}
use Rattle.json_check.specs.fronts.Fronts.{Front, held}
use Rattle.json_check.proofs.Bad.{IsAt, stops_here, ends_whole, ends_early, goes_on}
use Rattle.json_check.proofs.front.first_bad.Goals as goal

taken : (b : Bool) (o : Option Front) (f : Front) → Takes b o f → b ≡ true → o ≡ Some f
taken true o f h e = h
taken false o f h e = absurd cc

not_taken : (b : Bool) (o : Option Front) (f : Front) → Takes b o f → b ≡ false → o ≡ None
not_taken true o f h e = absurd cc
not_taken false o f h e = h

pub returns-then-not-branch : goal.returns-then-not-branch
returns-then-not-branch c =
    let t = YieldsList-turn (YieldsList-from_chars c.without_mark-rest.result.now c.without_mark-rest.utf8 cc) c.loop-c.yielded _ c.loop-c.yielded_by _ _ c.in-Some.c c.in-Some.is c.next.ensures.steps in
    stops_here c.args.text.now (chars c.without_mark-rest.result.now) (length c.loop-c.yielded) c.in-Some.c c.loop-c.at (held c.loop-c.front) c.utf8.text c.without_mark-rest.ensures.chars t c.loop-c.invariant.at (not_taken c.in_ok-read.field-0 _ _ c.in_ok-read.ensures.read c.if-not-branch.true)

pub loop-c-preserved : goal.loop-c-preserved
loop-c-preserved c =
    let t = YieldsList-turn (YieldsList-from_chars c.without_mark-rest.result.now c.without_mark-rest.utf8 cc) c.loop-c.yielded _ c.loop-c.yielded_by _ _ c.in-Some.c c.in-Some.is c.next.ensures.steps in
    let g = goes_on c.args.text.now c.without_mark-rest.result.now (length c.loop-c.yielded) c.in-Some.c c.loop-c.at c.len_utf8.result (held c.loop-c.front) (held c.read.new.self) c.without_mark-rest.utf8 c.without_mark-rest.ensures.chars c.without_mark-rest.ensures.len t c.loop-c.invariant.at c.len_utf8.ensures.value (taken c.in_ok-read.field-0 _ _ c.in_ok-read.ensures.read c.if-not-branch.false) in
    record {
      row = c.in_ok-read.ensures.row;
      within = g.within;
      at = rw (length_push c.loop-c.yielded c.in-Some.c) g.at;
    }

pub returns-then-is_whole_text : goal.returns-then-is_whole_text
returns-then-is_whole_text c =
    let t = YieldsList-end (YieldsList-from_chars c.without_mark-rest.result.now c.without_mark-rest.utf8 cc) c.loop-c.yielded _ c.loop-c.yielded_by _ _ c.in-None.is c.next.ensures.steps in
    ends_whole c.args.text.now (length c.loop-c.yielded) c.loop-c.at (held c.loop-c.front) (omega (arith, t.1, ap length c.without_mark-rest.ensures.chars)) c.loop-c.invariant.at (sym c.is_whole_text.ensures ∙ c.if-is_whole_text.true)

pub returns : goal.returns
returns c =
    let t = YieldsList-end (YieldsList-from_chars c.without_mark-rest.result.now c.without_mark-rest.utf8 cc) c.loop-c.yielded _ c.loop-c.yielded_by _ _ c.in-None.is c.next.ensures.steps in
    ends_early c.args.text.now (length c.loop-c.yielded) c.loop-c.at (held c.loop-c.front) c.utf8.text (omega (arith, t.1, ap length c.without_mark-rest.ensures.chars)) c.loop-c.invariant.at (sym c.is_whole_text.ensures ∙ c.if-is_whole_text.false)
