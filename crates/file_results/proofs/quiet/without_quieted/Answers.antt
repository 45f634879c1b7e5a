use Rattle.std.proofs.Common.{◌≡◌, Bool, List, map, sym, ap, ◌∙◌, subst}
use Rattle.quieting.specs.declared.quiet.Quiet.{Quiet}
use Rattle.report_form.specs.declared.report.Reported.{Reported}
use Rattle.file_results.specs.Quieted.{HasWord, AreUnquieted, is_quieted_by, unmarked}
use Rattle.file_results.proofs.Hits.{if_reported}
use Rattle.file_results.proofs.Quieted.{are_unquieted, none_found, unworded}
use Rattle.file_results.proofs.quiet.without_quieted.Goals.{then-is_empty-via-then-is_empty, then-is_empty-via-else-is_empty+then-not-has_word}
use Rattle.file_results.proofs.quiet.without_quieted.Goals as goal

pub returns-then-is_empty : goal.returns-then-is_empty
returns-then-is_empty g c =
    let comments = g.R.CommentReader.comments c.args.reader.now in
    let lang = c.args.view.now.lang in
    let text = c.args.view.now.bytes in
    let found = c.args.found in
    elim c.then-is_empty.branch [
      | then-is_empty-via-then-is_empty w ↦ none_found comments lang text found (c.is_empty.ensures.0 w.if-is_empty.true)
      | then-is_empty-via-else-is_empty+then-not-has_word w ↦ unworded comments lang text found (λ has.
          let e = w.has_word.ensures.1 (subst HasWord (sym w.as_slice.ensures) has) in
          let f = w.if-not-has_word.true in
          absurd cc)
    ]

pub returns : goal.returns
returns g c =
    let comments = g.R.CommentReader.comments c.args.reader.now in
    let lang = c.args.view.now.lang in
    let text = c.args.view.now.bytes in
    let found = c.args.found in
    let quiets = c.in_ok-quiets.quiets in
    let marks : c.as_slice-4.result.now ≡ map (is_quieted_by quiets) found =
    c.as_slice-4.ensures.value ∙ c.in_ok-marks.ensures ∙ ap (λ (rs : List Reported). map (is_quieted_by c.as_slice-2.result.now) rs) c.as_slice-3.ensures ∙ ap (λ (qs : List Quiet). map (is_quieted_by qs) found) c.as_slice-2.ensures in
    if_reported (λ kept. kept ≡ unmarked c.as_slice-4.result.now found) (AreUnquieted comments lang text found) c.keep_unmarked.result
    (λ kept e. are_unquieted comments lang text quiets c.in_ok-quiets.ensures found kept (e ∙ ap (λ (ms : List Bool). unmarked ms found) marks)) c.keep_unmarked.ensures
