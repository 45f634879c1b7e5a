use Rattle.std.proofs.Common.{◌+◌, length, sym, ◌∙◌, arith, subst}
use Rattle.std.proofs.lemmas.Iterator.{YieldsList-from_chars}
use Rattle.std.proofs.lemmas.List.{length_push}
use Rattle.std.proofs.lemmas.Iterator.Consumers.{YieldsList-turn, YieldsList-end}
use Rattle.std.specs.Str.{chars}
use Rattle.lexing.specs.declared.automaton.Best.{Best}
use Rattle.lexing.specs.Automaton.{Started, accepted, IsBest}
use Rattle.lexing.specs.View.{started}
use Rattle.lexing.proofs.Scanning.{scan_is_best, stepped, better_some, better_none, ends, scan_end, len_at}
use Rattle.lexing.proofs.automaton.Automaton.longest.Goals as goal

pub returns-then-state-eq0-clause-best : goal.returns-then-state-eq0-clause-best
returns-then-state-eq0-clause-best c =
    let t = YieldsList-turn (YieldsList-from_chars c.args.text.now c.utf8.text cc) c.loop-c.yielded _ c.loop-c.yielded_by _ _ c.in-Some.c c.in-Some.is c.next.ensures.steps in
    let a = started c.self.inside in
    let e = stepped a.table c.loop-c.state c.loop-c.len c.loop-c.best (chars c.args.text.now) (length c.loop-c.yielded) c.in-Some.c c.symbol.result c.len_utf8-len.result _ t c.symbol.ensures.value c.len_utf8-len.ensures.value c.loop-c.invariant.read in
    let d = ends a.table _ 0 _ c.loop-c.best 0 _ _ c.self.invariant.whole c.if-state-eq0.true e in
    subst (λ (x : Started). IsBest (accepted x.table x.start) (chars c.args.text.now) c.loop-c.best) c.self.view_is
    (subst (λ (b : Best). IsBest (accepted a.table a.start) (chars c.args.text.now) b) d (scan_is_best a.table a.start (chars c.args.text.now) c.self.invariant.begins.nothing))

pub loop-c-preserved-then-word-ne0 : goal.loop-c-preserved-then-word-ne0
loop-c-preserved-then-word-ne0 c =
    let t = YieldsList-turn (YieldsList-from_chars c.args.text.now c.utf8.text cc) c.loop-c.yielded _ c.loop-c.yielded_by _ _ c.in-Some.c c.in-Some.is c.next.ensures.steps in
    let a = started c.self.inside in
    let e = stepped a.table c.loop-c.state c.loop-c.len c.loop-c.best (chars c.args.text.now) (length c.loop-c.yielded) c.in-Some.c c.symbol.result c.len_utf8-len.result _ t c.symbol.ensures.value c.len_utf8-len.ensures.value c.loop-c.invariant.read in
    let n = length_push c.loop-c.yielded c.in-Some.c in
    let b = better_some c.loop-c.best _ (c.loop-c.len + c.len_utf8-len.result) c.if-word-ne0.true in
    record {
      row = c.self.invariant.whole.rows _;
      len = rw n (len_at c.args.text.now (length c.loop-c.yielded) c.loop-c.len c.in-Some.c c.len_utf8-len.result c.utf8.text t c.loop-c.invariant.len c.len_utf8-len.ensures.value).is;
      read = rw n (rw (← b) e);
    }

pub loop-c-preserved : goal.loop-c-preserved
loop-c-preserved c =
    let t = YieldsList-turn (YieldsList-from_chars c.args.text.now c.utf8.text cc) c.loop-c.yielded _ c.loop-c.yielded_by _ _ c.in-Some.c c.in-Some.is c.next.ensures.steps in
    let a = started c.self.inside in
    let e = stepped a.table c.loop-c.state c.loop-c.len c.loop-c.best (chars c.args.text.now) (length c.loop-c.yielded) c.in-Some.c c.symbol.result c.len_utf8-len.result _ t c.symbol.ensures.value c.len_utf8-len.ensures.value c.loop-c.invariant.read in
    let n = length_push c.loop-c.yielded c.in-Some.c in
    let b = better_none c.loop-c.best _ (c.loop-c.len + c.len_utf8-len.result) c.if-word-ne0.false in
    record {
      row = c.self.invariant.whole.rows _;
      len = rw n (len_at c.args.text.now (length c.loop-c.yielded) c.loop-c.len c.in-Some.c c.len_utf8-len.result c.utf8.text t c.loop-c.invariant.len c.len_utf8-len.ensures.value).is;
      read = rw n (rw b at e);
    }

pub returns-clause-best : goal.returns-clause-best
returns-clause-best c =
    let t = YieldsList-end (YieldsList-from_chars c.args.text.now c.utf8.text cc) c.loop-c.yielded _ c.loop-c.yielded_by _ _ c.in-None.is c.next.ensures.steps in
    let a = started c.self.inside in
    let d = sym c.loop-c.invariant.read ∙ scan_end a.table c.loop-c.state c.loop-c.len c.loop-c.best (chars c.args.text.now) (length c.loop-c.yielded) (omega (arith, t.1)) in
    subst (λ (x : Started). IsBest (accepted x.table x.start) (chars c.args.text.now) c.loop-c.best) c.self.view_is
    (subst (λ (b : Best). IsBest (accepted a.table a.start) (chars c.args.text.now) b) d (scan_is_best a.table a.start (chars c.args.text.now) c.self.invariant.begins.nothing))

pub overflow_add-len : goal.overflow_add-len
overflow_add-len c =
    let t = YieldsList-turn (YieldsList-from_chars c.args.text.now c.utf8.text cc) c.loop-c.yielded _ c.loop-c.yielded_by _ _ c.in-Some.c c.in-Some.is c.next.ensures.steps in
    let l = len_at c.args.text.now (length c.loop-c.yielded) c.loop-c.len c.in-Some.c c.len_utf8-len.result c.utf8.text t c.loop-c.invariant.len c.len_utf8-len.ensures.value in
    omega (arith, l.within, c.chars-c-items.ensures.len)
