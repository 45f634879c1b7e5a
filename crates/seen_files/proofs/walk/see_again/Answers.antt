use Rattle.std.proofs.Common.{◌≡◌, List, ℕ, sym, ap, ◌∙◌, subst}
use Rattle.std.specs.Prelude.{Option, IfOk}
use Rattle.std.proofs.lemmas.Slice.Eq.{bytes_eq-Decides}
use Rattle.rule_form.specs.declared.rule.Rule.{Rule}
use Rattle.file_open.specs.declared.opened.Opened.{Opened}
use Rattle.kept_leaves.specs.Kept.{map_of}
use Rattle.packed_view.specs.Opened.{HasText}
use Rattle.file_results.specs.Quieted.{grammars_of}
use Rattle.file_results.specs.Shown.{File}
use Rattle.seen_files.specs.More.{IsMore}
use Rattle.seen_files.specs.Seen.{file_of, HasOwnNames, IsOpenedSo}
use Rattle.seen_files.proofs.Found.{seen_own}
use Rattle.seen_files.proofs.Walking.{opened_again, looked_again}
use Rattle.seen_files.proofs.walk.see_again.Goals as goal

pub returns-then-not-has_bytes-clause-seen : goal.returns-then-not-has_bytes-clause-seen
returns-then-not-has_bytes-clause-seen g c before since apart seen = c.see_anew.ensures.seen apart

pub returns-then-not-has_bytes-clause-kept : goal.returns-then-not-has_bytes-clause-kept
returns-then-not-has_bytes-clause-kept g c before since needed =
    opened_again c.args.running.now c.args.was c.args.bytes.now.value (map_of c.args.kept.now) c.args.steps.now c.see_anew.result (map_of c.see_anew.new.kept) c.see_anew.new.steps
    (sym c.has_bytes.ensures ∙ c.if-not-has_bytes.true) c.see_anew.ensures.kept

pub returns-in-Some-clause-file : goal.returns-in-Some-clause-file
returns-in-Some-clause-file g c =
    let same : c.args.was.bytes.value ≡ c.args.bytes.now.value = (bytes_eq-Decides c.args.was.bytes.value c.args.bytes.now.value).0 (sym c.has_bytes.ensures ∙ c.if-not-has_bytes.false) in
    let F : List ℕ → File = λ p. (p, c.args.was.bytes.value) in
    let G : List ℕ → File = λ b. (c.args.path.now, b) in
    let P : File → Type 0 = λ f. IfOk c.see_more.result (λ s. file_of s ≡ f) in
    subst P (ap F c.requires ∙ ap G same) c.see_more.ensures.file

pub returns-in-Some-clause-seen : goal.returns-in-Some-clause-seen
returns-in-Some-clause-seen g c before since apart seen =
    let M : Option (List Rule) → Type 0 = IsMore before c.args.running.now in
    c.see_more.ensures.seen before (subst M c.in-Some.is since) apart seen

pub returns-in-Some-clause-kept : goal.returns-in-Some-clause-kept
returns-in-Some-clause-kept g c before since needed =
    let M : Option (List Rule) → Type 0 = IsMore before c.args.running.now in
    looked_again c.args.running.now c.args.was c.args.bytes.now.value (map_of c.args.kept.now) c.args.steps.now c.see_more.result (map_of c.see_more.new.kept) c.see_more.new.steps
    (sym c.has_bytes.ensures ∙ c.if-not-has_bytes.false) (c.see_more.ensures.kept before (subst M c.in-Some.is since) needed)

pub see_opened-requires : goal.see_opened-requires
see_opened-requires g c = let T : Opened → Type 0 = HasText c.args.was.bytes.value in subst T (sym c.in_ok-opened-in-None.ensures) c.args.was.text

pub returns-in_ok-opened-in-None-clause-file : goal.returns-in_ok-opened-in-None-clause-file
returns-in_ok-opened-in-None-clause-file g c =
    let same : c.args.was.bytes.value ≡ c.args.bytes.now.value = (bytes_eq-Decides c.args.was.bytes.value c.args.bytes.now.value).0 (sym c.has_bytes.ensures ∙ c.if-not-has_bytes.false) in
    let P : List ℕ → Type 0 = λ b. IfOk c.see_opened.result (λ s. file_of s ≡ (c.args.path.now, b)) in
    subst P same c.see_opened.ensures.file

pub returns-in_ok-opened-in-None-clause-seen : goal.returns-in_ok-opened-in-None-clause-seen
returns-in_ok-opened-in-None-clause-seen g c before since apart seen =
    let spells = g.R.TreeReader.spells c.args.reader.now in
    let grammars = grammars_of spells (g.R.TreeReader.knows c.args.reader.now) (g.R.CommentReader.comments c.args.reader.now) c.args.traced in
    let P : List ℕ → Type 0 = λ p. IsOpenedSo spells (p, c.args.was.bytes.value) c.args.was.opened in
    let S : Opened → Type 0 = IsOpenedSo spells (c.args.path.now, c.args.was.bytes.value) in
    let N : Opened → Type 0 = HasOwnNames (g.R.TreeReader.knows c.args.reader.now) in
    let unpacked = sym c.in_ok-opened-in-None.ensures in
    c.see_opened.ensures.seen (subst S unpacked (subst P c.requires seen.opened)) (subst N unpacked (seen_own grammars before c.args.was seen)) apart

pub returns-in_ok-opened-in-None-clause-kept : goal.returns-in_ok-opened-in-None-clause-kept
returns-in_ok-opened-in-None-clause-kept g c before since needed =
    looked_again c.args.running.now c.args.was c.args.bytes.now.value (map_of c.args.kept.now) c.args.steps.now c.see_opened.result (map_of c.see_opened.new.kept) c.see_opened.new.steps
    (sym c.has_bytes.ensures ∙ c.if-not-has_bytes.false) c.see_opened.ensures.kept
