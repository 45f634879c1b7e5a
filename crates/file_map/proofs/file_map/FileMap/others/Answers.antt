use Rattle.std.proofs.Common.{◌≡◌, ◌∙◌, length, sym, ap, arith}
use Rattle.std.specs.Option.{option_copied}
use Rattle.file_map.specs.FileMap.{with_file, all_bytes}
use Rattle.file_map.specs.Seen.{files_of}
use Rattle.file_map.proofs.Shown.{held, lacked, sorted_shown, count_shown}
use Rattle.file_map.proofs.Counts.{others_held, others_lacked, rest_held, some_there}
use Rattle.file_map.proofs.file_map.FileMap.others.Goals as goal

pub overflow_sub-result-in-Some : goal.overflow_sub-result-in-Some
overflow_sub-result-in-Some c =
    let found = held c.args.path.now c.self.inside.by_path c.in-Some.old.now (ap option_copied (sym c.in-Some.is) ∙ c.get.ensures.value) in
    let rest = rest_held (files_of c.self.inside.by_path) c.args.path.now c.in-Some.old.now.value found in
    let size : c.len-in-Some.result ≡ length c.in-Some.old.now.value = c.len-in-Some.ensures ∙ ap length c.as_ref.ensures in
    omega (arith, rest, size, c.self.invariant.0)

pub returns-in-Some-clause-files : goal.returns-in-Some-clause-files
returns-in-Some-clause-files c = λ bytes.
    let found = held c.args.path.now c.self.inside.by_path c.in-Some.old.now (ap option_copied (sym c.in-Some.is) ∙ c.get.ensures.value) in
    let sizes = others_held (files_of c.self.inside.by_path) c.args.path.now c.in-Some.old.now.value bytes (sorted_shown c.self.inside.by_path.entries c.len.ensures.ordered) found in
    let same : length (with_file (files_of c.self.inside.by_path) (c.args.path.now, bytes)) ≡ length (with_file c.args.self.now (c.args.path.now, bytes)) = ap (λ fs. length (with_file fs (c.args.path.now, bytes))) c.self.view_is in
    let pos = some_there (files_of c.self.inside.by_path) c.args.path.now c.in-Some.old.now.value found in
    omega (arith, sizes.0, same, c.len.ensures.len, count_shown c.self.inside.by_path, pos)

pub returns-in-Some-clause-bytes : goal.returns-in-Some-clause-bytes
returns-in-Some-clause-bytes c = λ bytes.
    let found = held c.args.path.now c.self.inside.by_path c.in-Some.old.now (ap option_copied (sym c.in-Some.is) ∙ c.get.ensures.value) in
    let sizes = others_held (files_of c.self.inside.by_path) c.args.path.now c.in-Some.old.now.value bytes (sorted_shown c.self.inside.by_path.entries c.len.ensures.ordered) found in
    let rest = rest_held (files_of c.self.inside.by_path) c.args.path.now c.in-Some.old.now.value found in
    let size : c.len-in-Some.result ≡ length c.in-Some.old.now.value = c.len-in-Some.ensures ∙ ap length c.as_ref.ensures in
    let same : all_bytes (with_file (files_of c.self.inside.by_path) (c.args.path.now, bytes)) ≡ all_bytes (with_file c.args.self.now (c.args.path.now, bytes)) = ap (λ fs. all_bytes (with_file fs (c.args.path.now, bytes))) c.self.view_is in
    omega (arith, sizes.1, rest, size, same, c.self.invariant.0)

pub returns-in-None-clause-files : goal.returns-in-None-clause-files
returns-in-None-clause-files c = λ bytes.
    let found = lacked c.args.path.now c.self.inside.by_path (ap option_copied (sym c.in-None.is) ∙ c.get.ensures.value) in
    let sizes = others_lacked (files_of c.self.inside.by_path) c.args.path.now bytes (sorted_shown c.self.inside.by_path.entries c.len-in-None.ensures.ordered) found in
    let same : length (with_file (files_of c.self.inside.by_path) (c.args.path.now, bytes)) ≡ length (with_file c.args.self.now (c.args.path.now, bytes)) = ap (λ fs. length (with_file fs (c.args.path.now, bytes))) c.self.view_is in
    omega (arith, sizes.0, same, c.len-in-None.ensures.len, count_shown c.self.inside.by_path)

pub returns-in-None-clause-bytes : goal.returns-in-None-clause-bytes
returns-in-None-clause-bytes c = λ bytes.
    let found = lacked c.args.path.now c.self.inside.by_path (ap option_copied (sym c.in-None.is) ∙ c.get.ensures.value) in
    let sizes = others_lacked (files_of c.self.inside.by_path) c.args.path.now bytes (sorted_shown c.self.inside.by_path.entries c.len-in-None.ensures.ordered) found in
    let same : all_bytes (with_file (files_of c.self.inside.by_path) (c.args.path.now, bytes)) ≡ all_bytes (with_file c.args.self.now (c.args.path.now, bytes)) = ap (λ fs. all_bytes (with_file fs (c.args.path.now, bytes))) c.self.view_is in
    omega (arith, sizes.1, same, c.self.invariant.0)
