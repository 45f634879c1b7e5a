use Rattle.std.proofs.Common.{◌≡◌, ◌∙◌, ℕ, List, ap, sym, subst}
use Rattle.std.specs.Prelude.{None}
use Rattle.std_collections.specs.Layout.BTreeMap.{seek}
use Rattle.scan_world.specs.Files.{Files, path_cmp}
use Rattle.rule_files.specs.declared.rule_file.RuleFile.{RuleFile}
use Rattle.file_map.specs.FileMap.{File, with_file}
use Rattle.rule_map.specs.RuleMap.{size_over}
use Rattle.rule_map.specs.Kept.{IsOnly, HaveEntries, IsKept, put_at}
use Rattle.rule_map.proofs.Places.{place_in}
use Rattle.rule_map.proofs.Keeping.{they_are, as_many, put_only, kept_put}
use Rattle.rule_map.proofs.Ends.{few_files, few_entries, entries_end}
use Rattle.rule_map.proofs.rule_map.RuleMap.put.Goals as goal

pub put_both-requires-clause-beside : goal.put_both-requires-clause-beside
put_both-requires-clause-beside g c =
    let W = g.R.PatternReader.writes c.self.inside.reader.now in
    let fs = c.self.inside.texts.items in
    let cs = c.self.inside.contents.items in
    let e : c.place_of-place.result ≡ seek (path_cmp c.args.name.now) c.self.inside.texts.items = c.place_of-place.ensures ∙ ap (seek (path_cmp c.args.name.now)) c.as_slice.ensures.value in
    place_in c.args.name.now fs cs c.place_of-place.result e (as_many W fs cs c.self.invariant.read)

pub invariant_of-self-2 : goal.invariant_of-self-2
invariant_of-self-2 g c =
    let W = g.R.PatternReader.writes c.self.inside.reader.now in
    let fs = c.self.inside.texts.items in
    let cs = c.self.inside.contents.items in
    let e : c.place_of-place.result ≡ seek (path_cmp c.args.name.now) c.self.inside.texts.items = c.place_of-place.ensures ∙ ap (seek (path_cmp c.args.name.now)) c.as_slice.ensures.value in
    let f : File = (c.args.name.now, c.args.bytes.now) in
    let rules = c.in_ok-rules.rules in
    let o : IsOnly (g.R.PatternReader.writes c.self.inside.reader.now) (c.args.name.now, c.args.bytes.now) c.in_ok-rules.rules = rw (← c.self.view_is) at c.in_ok-rules.ensures.read in
    let h : HaveEntries (g.R.PatternReader.writes c.self.inside.reader.now) (with_file c.self.inside.texts.items (c.args.name.now, c.args.bytes.now)) c.in_ok-rules.entries = rw (← c.self.view_is) at c.in_ok-rules.ensures.entries in
    let size : size_over c.self.inside.texts.items (c.args.name.now, c.args.bytes.now) ≡ None = rw (← c.self.view_is) at c.in_ok-rules.ensures.size in
    let m = c.in_ok-rules.entries in
    let k = kept_put W fs cs f rules c.self.inside.entries m c.place_of-place.result e c.self.invariant o h (few_files fs f size) c.in_ok-rules.ensures.few in
    let named = ap (λ (x : List ℕ). with_file c.self.inside.texts.items (x, c.in_ok-from_slice.field-0)) c.in_ok-from_str.ensures ∙ ap (λ (x : List ℕ). with_file c.self.inside.texts.items (c.args.name.now, x)) c.in_ok-from_slice.ensures in
    let texts = c.in_ok-put_both.ensures.texts ∙ named in
    subst (λ (l : Files). IsKept W l c.put_both.new.contents.items m) (sym texts) (subst (λ (l : List RuleFile). IsKept W (with_file fs f) l m) (sym c.in_ok-put_both.ensures.contents) k)

pub returns-clause-ends : goal.returns-clause-ends
returns-clause-ends g c =
    let W = g.R.PatternReader.writes c.self.inside.reader.now in
    let fs = c.self.inside.texts.items in
    let cs = c.self.inside.contents.items in
    let e : c.place_of-place.result ≡ seek (path_cmp c.args.name.now) c.self.inside.texts.items = c.place_of-place.ensures ∙ ap (seek (path_cmp c.args.name.now)) c.as_slice.ensures.value in
    let f : File = (c.args.name.now, c.args.bytes.now) in
    let rules = c.in_ok-rules.rules in
    let o : IsOnly (g.R.PatternReader.writes c.self.inside.reader.now) (c.args.name.now, c.args.bytes.now) c.in_ok-rules.rules = rw (← c.self.view_is) at c.in_ok-rules.ensures.read in
    let h : HaveEntries (g.R.PatternReader.writes c.self.inside.reader.now) (with_file c.self.inside.texts.items (c.args.name.now, c.args.bytes.now)) c.in_ok-rules.entries = rw (← c.self.view_is) at c.in_ok-rules.ensures.entries in
    let size : size_over c.self.inside.texts.items (c.args.name.now, c.args.bytes.now) ≡ None = rw (← c.self.view_is) at c.in_ok-rules.ensures.size in
    let p = put_only W fs cs f rules c.place_of-place.result e c.self.invariant.read o in
    let now = put_at c.place_of-place.result cs rules in
    let m = h now (they_are W (with_file fs f) now p) in
    rw (← c.self.view_is) (entries_end W fs f now None size p (few_entries now c.in_ok-rules.entries m c.in_ok-rules.ensures.few))
