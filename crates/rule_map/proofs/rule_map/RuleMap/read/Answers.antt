use Rattle.std.proofs.Common.{◌≡◌, ◌∙◌, ◌+◌, ℕ, List, ap, sym, subst, length, arith}
use Rattle.std.specs.Prelude.{Some}
use Rattle.std_collections.specs.Layout.BTreeMap.{seek}
use Rattle.scan_world.specs.Files.{Files, path_cmp}
use Rattle.rule_files.specs.declared.rule_file.RuleFile.{RuleFile}
use Rattle.file_map.specs.declared.limit.LimitKind.TheVariants as kinds
use Rattle.file_map.specs.FileMap.{File, with_file}
use Rattle.rule_map.specs.RuleMap.{count_of, entries_of}
use Rattle.rule_map.specs.Kept.{put_at, IsPlaceIn}
use Rattle.rule_map.proofs.Places.{place_in}
use Rattle.rule_map.proofs.Keeping.{as_many, only_this, put_only, have_put}
use Rattle.rule_map.proofs.Ends.{too_many, too_large, fits, many_entries, size_ends, size_only, entries_end, entries_only}
use Rattle.rule_map.proofs.rule_map.RuleMap.read.Goals as goal

pub returns-then-files-gt-MOST_FILES-clause-over : goal.returns-then-files-gt-MOST_FILES-clause-over
returns-then-files-gt-MOST_FILES-clause-over g c =
    let W = g.R.PatternReader.writes c.self.inside.reader.now in
    let fs = c.self.inside.texts.items in
    let f : File = (c.args.name.now, c.args.bytes.now) in
    let e : c.args.place ≡ seek (path_cmp c.args.name.now) c.self.inside.texts.items = rw (← c.self.view_is) at c.requires.place in
    let told = subst (λ (l : Files). (file : File) → c.args.place ≡ seek (path_cmp file.0) l → length (with_file l file) ≡ c.files_with-files.result) c.as_slice.ensures.value c.files_with-files.ensures in
    let n : length (with_file c.self.inside.texts.items (c.args.name.now, c.args.bytes.now)) ≡ c.files_with-files.result = told f e in
    rw (← c.self.view_is) (size_ends W fs f (kinds.RuleFiles, c.files_with-files.result) (too_many fs f c.files_with-files.result n (omega (arith, c.if-files-gt-MOST_FILES.true))))

pub returns-then-files-gt-MOST_FILES-clause-only : goal.returns-then-files-gt-MOST_FILES-clause-only
returns-then-files-gt-MOST_FILES-clause-only g c = λ over h.
    let W = g.R.PatternReader.writes c.self.inside.reader.now in
    let fs = c.self.inside.texts.items in
    let f : File = (c.args.name.now, c.args.bytes.now) in
    let e : c.args.place ≡ seek (path_cmp c.args.name.now) c.self.inside.texts.items = rw (← c.self.view_is) at c.requires.place in
    let told = subst (λ (l : Files). (file : File) → c.args.place ≡ seek (path_cmp file.0) l → length (with_file l file) ≡ c.files_with-files.result) c.as_slice.ensures.value c.files_with-files.ensures in
    let n : length (with_file c.self.inside.texts.items (c.args.name.now, c.args.bytes.now)) ≡ c.files_with-files.result = told f e in
    size_only W fs f (kinds.RuleFiles, c.files_with-files.result) over (too_many fs f c.files_with-files.result n (omega (arith, c.if-files-gt-MOST_FILES.true))) (rw (← c.self.view_is) at h)

pub returns-then-bytes-gt-MOST_RULE_BYTES-clause-over : goal.returns-then-bytes-gt-MOST_RULE_BYTES-clause-over
returns-then-bytes-gt-MOST_RULE_BYTES-clause-over g c =
    let W = g.R.PatternReader.writes c.self.inside.reader.now in
    let fs = c.self.inside.texts.items in
    let f : File = (c.args.name.now, c.args.bytes.now) in
    let e : c.args.place ≡ seek (path_cmp c.args.name.now) c.self.inside.texts.items = rw (← c.self.view_is) at c.requires.place in
    let told = subst (λ (l : Files). (file : File) → c.args.place ≡ seek (path_cmp file.0) l → length (with_file l file) ≡ c.files_with-files.result) c.as_slice.ensures.value c.files_with-files.ensures in
    let n : length (with_file c.self.inside.texts.items (c.args.name.now, c.args.bytes.now)) ≡ c.files_with-files.result = told f e in
    rw (← c.self.view_is) (size_ends W fs f (kinds.RuleBytes, 262145) (too_large fs f (omega (arith, n, c.if-files-gt-MOST_FILES.false)) (omega (arith, c.if-bytes-gt-MOST_RULE_BYTES.true))))

pub returns-then-bytes-gt-MOST_RULE_BYTES-clause-only : goal.returns-then-bytes-gt-MOST_RULE_BYTES-clause-only
returns-then-bytes-gt-MOST_RULE_BYTES-clause-only g c = λ over h.
    let W = g.R.PatternReader.writes c.self.inside.reader.now in
    let fs = c.self.inside.texts.items in
    let f : File = (c.args.name.now, c.args.bytes.now) in
    let e : c.args.place ≡ seek (path_cmp c.args.name.now) c.self.inside.texts.items = rw (← c.self.view_is) at c.requires.place in
    let told = subst (λ (l : Files). (file : File) → c.args.place ≡ seek (path_cmp file.0) l → length (with_file l file) ≡ c.files_with-files.result) c.as_slice.ensures.value c.files_with-files.ensures in
    let n : length (with_file c.self.inside.texts.items (c.args.name.now, c.args.bytes.now)) ≡ c.files_with-files.result = told f e in
    size_only W fs f (kinds.RuleBytes, 262145) over (too_large fs f (omega (arith, n, c.if-files-gt-MOST_FILES.false)) (omega (arith, c.if-bytes-gt-MOST_RULE_BYTES.true))) (rw (← c.self.view_is) at h)

pub entries_besides-others-requires-clause-place : goal.entries_besides-others-requires-clause-place
entries_besides-others-requires-clause-place g c =
    let W = g.R.PatternReader.writes c.self.inside.reader.now in
    let fs = c.self.inside.texts.items in
    let f : File = (c.args.name.now, c.args.bytes.now) in
    let e : c.args.place ≡ seek (path_cmp c.args.name.now) c.self.inside.texts.items = rw (← c.self.view_is) at c.requires.place in
    subst (λ (l : List RuleFile). IsPlaceIn l c.args.place) (sym c.as_slice-2.ensures.value) (place_in c.args.name.now fs c.self.inside.contents.items c.args.place e (as_many W fs c.self.inside.contents.items c.self.invariant.read))

pub returns-then-entries-gt-MOST_RULES-clause-over : goal.returns-then-entries-gt-MOST_RULES-clause-over
returns-then-entries-gt-MOST_RULES-clause-over g c =
    let W = g.R.PatternReader.writes c.self.inside.reader.now in
    let fs = c.self.inside.texts.items in
    let f : File = (c.args.name.now, c.args.bytes.now) in
    let e : c.args.place ≡ seek (path_cmp c.args.name.now) c.self.inside.texts.items = rw (← c.self.view_is) at c.requires.place in
    let told = subst (λ (l : Files). (file : File) → c.args.place ≡ seek (path_cmp file.0) l → length (with_file l file) ≡ c.files_with-files.result) c.as_slice.ensures.value c.files_with-files.ensures in
    let n : length (with_file c.self.inside.texts.items (c.args.name.now, c.args.bytes.now)) ≡ c.files_with-files.result = told f e in
    let cs = c.self.inside.contents.items in
    let o = only_this W f c.in_ok-rules.rules c.in_ok-rules.ensures.file c.in_ok-rules.ensures.only in
    let put = subst (λ (l : List RuleFile). count_of (put_at c.args.place l c.in_ok-rules.rules) ≡ c.entries_besides-others.result + entries_of c.in_ok-rules.rules) c.as_slice-2.ensures.value (c.entries_besides-others.ensures.put c.in_ok-rules.rules) in
    let m = c.in-Some.ensures.1 ∙ ap (λ (k : ℕ). c.entries_besides-others.result + k) c.entries.ensures ∙ sym put in
    let size = fits fs f (omega (arith, n, c.if-files-gt-MOST_FILES.false)) (omega (arith, c.if-bytes-gt-MOST_RULE_BYTES.false)) in
    let p = put_only W fs cs f c.in_ok-rules.rules c.args.place e c.self.invariant.read o in
    let now = put_at c.args.place cs c.in_ok-rules.rules in
    rw (← c.self.view_is) (entries_end W fs f now (Some (kinds.Rules, c.in-Some.entries)) size p (many_entries now c.in-Some.entries m (omega (arith, c.if-entries-gt-MOST_RULES.true))))

pub returns-then-entries-gt-MOST_RULES-clause-only : goal.returns-then-entries-gt-MOST_RULES-clause-only
returns-then-entries-gt-MOST_RULES-clause-only g c = λ over h.
    let W = g.R.PatternReader.writes c.self.inside.reader.now in
    let fs = c.self.inside.texts.items in
    let f : File = (c.args.name.now, c.args.bytes.now) in
    let e : c.args.place ≡ seek (path_cmp c.args.name.now) c.self.inside.texts.items = rw (← c.self.view_is) at c.requires.place in
    let told = subst (λ (l : Files). (file : File) → c.args.place ≡ seek (path_cmp file.0) l → length (with_file l file) ≡ c.files_with-files.result) c.as_slice.ensures.value c.files_with-files.ensures in
    let n : length (with_file c.self.inside.texts.items (c.args.name.now, c.args.bytes.now)) ≡ c.files_with-files.result = told f e in
    let cs = c.self.inside.contents.items in
    let o = only_this W f c.in_ok-rules.rules c.in_ok-rules.ensures.file c.in_ok-rules.ensures.only in
    let put = subst (λ (l : List RuleFile). count_of (put_at c.args.place l c.in_ok-rules.rules) ≡ c.entries_besides-others.result + entries_of c.in_ok-rules.rules) c.as_slice-2.ensures.value (c.entries_besides-others.ensures.put c.in_ok-rules.rules) in
    let m = c.in-Some.ensures.1 ∙ ap (λ (k : ℕ). c.entries_besides-others.result + k) c.entries.ensures ∙ sym put in
    let size = fits fs f (omega (arith, n, c.if-files-gt-MOST_FILES.false)) (omega (arith, c.if-bytes-gt-MOST_RULE_BYTES.false)) in
    let p = put_only W fs cs f c.in_ok-rules.rules c.args.place e c.self.invariant.read o in
    let now = put_at c.args.place cs c.in_ok-rules.rules in
    entries_only W fs f now (Some (kinds.Rules, c.in-Some.entries)) over size p (many_entries now c.in-Some.entries m (omega (arith, c.if-entries-gt-MOST_RULES.true))) (rw (← c.self.view_is) at h)

pub returns-clause-read : goal.returns-clause-read
returns-clause-read g c =
    let W = g.R.PatternReader.writes c.self.inside.reader.now in
    let f : File = (c.args.name.now, c.args.bytes.now) in
    let o = only_this W f c.in_ok-rules.rules c.in_ok-rules.ensures.file c.in_ok-rules.ensures.only in
    rw (← c.self.view_is) o

pub returns-clause-size : goal.returns-clause-size
returns-clause-size g c =
    let fs = c.self.inside.texts.items in
    let f : File = (c.args.name.now, c.args.bytes.now) in
    let e : c.args.place ≡ seek (path_cmp c.args.name.now) c.self.inside.texts.items = rw (← c.self.view_is) at c.requires.place in
    let told = subst (λ (l : Files). (file : File) → c.args.place ≡ seek (path_cmp file.0) l → length (with_file l file) ≡ c.files_with-files.result) c.as_slice.ensures.value c.files_with-files.ensures in
    let n : length (with_file c.self.inside.texts.items (c.args.name.now, c.args.bytes.now)) ≡ c.files_with-files.result = told f e in
    let size = fits fs f (omega (arith, n, c.if-files-gt-MOST_FILES.false)) (omega (arith, c.if-bytes-gt-MOST_RULE_BYTES.false)) in
    rw (← c.self.view_is) size

pub returns-clause-entries : goal.returns-clause-entries
returns-clause-entries g c =
    let W = g.R.PatternReader.writes c.self.inside.reader.now in
    let fs = c.self.inside.texts.items in
    let f : File = (c.args.name.now, c.args.bytes.now) in
    let e : c.args.place ≡ seek (path_cmp c.args.name.now) c.self.inside.texts.items = rw (← c.self.view_is) at c.requires.place in
    let cs = c.self.inside.contents.items in
    let o = only_this W f c.in_ok-rules.rules c.in_ok-rules.ensures.file c.in_ok-rules.ensures.only in
    let put = subst (λ (l : List RuleFile). count_of (put_at c.args.place l c.in_ok-rules.rules) ≡ c.entries_besides-others.result + entries_of c.in_ok-rules.rules) c.as_slice-2.ensures.value (c.entries_besides-others.ensures.put c.in_ok-rules.rules) in
    let m = c.in-Some.ensures.1 ∙ ap (λ (k : ℕ). c.entries_besides-others.result + k) c.entries.ensures ∙ sym put in
    rw (← c.self.view_is) (have_put W fs cs f c.in_ok-rules.rules c.args.place c.in-Some.entries e c.self.invariant.read o m)
