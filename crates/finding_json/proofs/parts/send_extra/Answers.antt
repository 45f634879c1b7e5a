use Rattle.std.proofs.Common.{List, ℕ, codes, subst}
use Rattle.std.proofs.lemmas.Result.{on_ok_weaker}
use Rattle.serde_json.specs.Data.{string, object}
use Rattle.graph_form.specs.declared.graph.Role.{Role}
use Rattle.meta_bind.specs.declared.bound.Bound.{Bound}
use Rattle.finding_json.specs.Reports.{metavar_members, severity_word, SendsMember, SendsTrace}
use Rattle.finding_json.proofs.Sent.{extra_sent}
use Rattle.finding_json.proofs.parts.send_extra.Goals as goal

pub returns : goal.returns
returns g c =
    let r = c.args.reported.now in
    let told = g.S.Serializer.written c.send_text.new.out in
    let bound = g.S.Serializer.written c.send_metavars.new.out in
    let judged = g.S.Serializer.written c.send_word.new.out in
    let binds = subst (λ (bs : List Bound). SendsMember (codes "metavars") (object (metavar_members bs)) told bound) c.bounds.ensures.bounds c.in_ok-send_metavars.ensures in
    let judges = subst (λ (word : List ℕ). SendsMember (codes "severity") (string word) bound judged) c.word_of.ensures c.in_ok-send_word.ensures in
    let traced = subst (λ (stops : List (ℕ × Role)). SendsTrace stops (g.S.Serializer.written c.send_source.new.out) (g.S.Serializer.written c.send_trace.new.out)) c.as_slice.ensures c.in_ok-send_trace.ensures in
    on_ok_weaker c.end_map.result
    (λ e. (
      _,
      c.in_ok-key.ensures,
      extra_sent r.fix r.message (metavar_members r.finding.binding) (severity_word r.severity) r.finding.source r.trace _ _ _ _ _ _ _ _ _ _
          c.extra_len.ensures c.in_ok-begin_map.ensures c.in_ok-send_fix.ensures c.in_ok-send_text.ensures binds judges c.in_ok-send_source.ensures traced e,
    )) c.end_map.ensures
