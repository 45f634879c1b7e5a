use Rattle.std.proofs.Common.{◌≡◌, ℕ, List, refl, sym, ap, ◌∙◌, subst}
use Rattle.std.specs.Prelude.{Option, IfOk}
use Rattle.std.specs.Option.{unwrap_or}
use Rattle.node_tree.specs.declared.view.Lang.{Lang}
use Rattle.node_tree.specs.declared.view.Lang.TheVariants.{Regex}
use Rattle.file_open.specs.Opening.{IsOpened, HasOnlyTree}
use Rattle.kept_leaves.specs.Growth.{Meets}
use Rattle.kept_leaves.specs.Kept.{map_of}
use Rattle.packed_view.specs.Opened.{HasText}
use Rattle.file_results.specs.Shown.{lang_at}
use Rattle.file_results.proofs.OneFile.{opened_as, only_as}
use Rattle.seen_files.specs.Findings.{seen_of}
use Rattle.seen_files.specs.Needs.{IsNeededAt}
use Rattle.seen_files.specs.Seen.{file_of}
use Rattle.seen_files.proofs.Found.{opened_so, opened_bare, opened_text}
use Rattle.seen_files.proofs.finding.find_anew.Goals as goal

pub find-requires : goal.find-requires
find-requires g c =
    let same : c.in_ok-own.own ≡ c.in_ok-shared.shared.value = c.in_ok-own.ensures ∙ c.as_ref.ensures ∙ sym c.in_ok-shared.ensures.cases in
    let T : List ℕ → Type 0 = λ b. HasText b c.in_ok-opened.opened in
    subst T same (opened_text (g.R.TreeReader.spells c.args.reader.now) c.unwrap_or-lang.result c.in_ok-own.own c.in_ok-opened.opened c.in_ok-opened.ensures.opened)

pub returns-clause-file : goal.returns-clause-file
returns-clause-file g c = let P : List ℕ → Type 0 = λ b. IfOk c.find.result (λ f. file_of (seen_of f) ≡ (c.args.path.now, b)) in subst P c.in_ok-shared.ensures.cases c.find.ensures.file

pub returns-clause-seen : goal.returns-clause-seen
returns-clause-seen g c apart =
    let spells = g.R.TreeReader.spells c.args.reader.now in
    let path = c.args.path.now in
    let o = c.in_ok-opened.opened in
    let e : c.unwrap_or-lang.result ≡ lang_at path = c.unwrap_or-lang.ensures ∙ ap (λ (l : Option Lang). unwrap_or l Regex) c.lang_of.ensures in
    let same : c.in_ok-own.own ≡ c.in_ok-shared.shared.value = c.in_ok-own.ensures ∙ c.as_ref.ensures ∙ sym c.in_ok-shared.ensures.cases in
    let P : List ℕ → Type 0 = λ b. IsOpened spells (lang_at path) b o in
    let Q : List ℕ → Type 0 = λ b. HasOnlyTree spells (lang_at path) b o in
    let is = subst P same (opened_as spells path c.in_ok-own.own c.unwrap_or-lang.result o o e refl c.in_ok-opened.ensures.opened) in
    let only = subst Q same (only_as spells path c.in_ok-own.own c.unwrap_or-lang.result o o e refl c.in_ok-opened.ensures.only) in
    c.find.ensures.seen (opened_so spells (path, c.in_ok-shared.shared.value) o is only) (opened_bare spells (g.R.TreeReader.knows c.args.reader.now) (lang_at path) c.in_ok-shared.shared.value o is) apart

pub returns-clause-kept : goal.returns-clause-kept
returns-clause-kept g c =
    let P : ℕ → Type 0 = λ n. IfOk c.find.result (λ f. Meets (IsNeededAt c.args.running.now (seen_of f)) (map_of c.args.kept.now) n (map_of c.find.new.kept) c.find.new.steps) in
    subst P c.in_ok-opened.ensures.one_step c.find.ensures.kept
