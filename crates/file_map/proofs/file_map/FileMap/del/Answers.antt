use Rattle.std.proofs.Common.{◌≡◌, ◌∙◌, length, sym, ap, map, arith}
use Rattle.std.specs.Option.{is_some}
use Rattle.file_map.specs.FileMap.{bytes_at, without_file, all_bytes}
use Rattle.file_map.specs.Seen.{files_of, shown}
use Rattle.file_map.proofs.Shown.{held, lacked, remove_shown}
use Rattle.file_map.proofs.Counts.{rest_held, files_without, fewer}
use Rattle.file_map.proofs.file_map.FileMap.del.Goals as goal

pub overflow_sub-self : goal.overflow_sub-self
overflow_sub-self c =
    let found = held c.args.path.now c.self.inside.by_path c.in-Some.old (sym c.in-Some.is ∙ c.remove.ensures.value) in
    let rest = rest_held (files_of c.self.inside.by_path) c.args.path.now c.in-Some.old.value found in
    let size : c.len.result ≡ length c.in-Some.old.value = c.len.ensures ∙ ap length c.as_ref.ensures in
    omega (arith, rest, size, c.self.invariant.0)

pub invariant_of-self : goal.invariant_of-self
invariant_of-self c =
    let found = held c.args.path.now c.self.inside.by_path c.in-Some.old (sym c.in-Some.is ∙ c.remove.ensures.value) in
    let rest = rest_held (files_of c.self.inside.by_path) c.args.path.now c.in-Some.old.value found in
    let size : c.len.result ≡ length c.in-Some.old.value = c.len.ensures ∙ ap length c.as_ref.ensures in
    let new : files_of c.remove.new.self ≡ without_file c.args.path.now (files_of c.self.inside.by_path) = ap (map shown) c.remove.ensures.entries ∙ remove_shown c.args.path.now c.self.inside.by_path.entries in
    let all : all_bytes (files_of c.remove.new.self) ≡ all_bytes (without_file c.args.path.now (files_of c.self.inside.by_path)) = ap all_bytes new in
    let count : length (files_of c.remove.new.self) ≡ length (without_file c.args.path.now (files_of c.self.inside.by_path)) = ap length new in
    let less = files_without (files_of c.self.inside.by_path) c.args.path.now in
    (omega (arith, rest, size, all, c.self.invariant.0), fewer (files_of c.self.inside.by_path) (length (files_of c.remove.new.self)) (all_bytes (files_of c.remove.new.self)) c.self.invariant.1 (omega (arith, count, less)) (omega (arith, all, rest)))

pub returns-in-Some-clause-removed : goal.returns-in-Some-clause-removed
returns-in-Some-clause-removed c = ap (map shown) c.remove.ensures.entries ∙ remove_shown c.args.path.now c.self.inside.by_path.entries ∙ ap (without_file c.args.path.now) c.self.view_is

pub returns-in-Some-clause-was_there : goal.returns-in-Some-clause-was_there
returns-in-Some-clause-was_there c =
    ap is_some (held c.args.path.now c.self.inside.by_path c.in-Some.old (sym c.in-Some.is ∙ c.remove.ensures.value) ∙ ap (bytes_at c.args.path.now) c.self.view_is)

pub returns-in-None-clause-removed : goal.returns-in-None-clause-removed
returns-in-None-clause-removed c = ap (map shown) c.remove.ensures.entries ∙ remove_shown c.args.path.now c.self.inside.by_path.entries ∙ ap (without_file c.args.path.now) c.self.view_is

pub returns-in-None-clause-was_there : goal.returns-in-None-clause-was_there
returns-in-None-clause-was_there c = ap is_some (lacked c.args.path.now c.self.inside.by_path (sym c.in-None.is ∙ c.remove.ensures.value) ∙ ap (bytes_at c.args.path.now) c.self.view_is)
