use Rattle.std.proofs.Common.{◌≡◌, List, true, false, sym, ◌∙◌, subst, rules}
use Rattle.std.specs.List.{Contains}
use Rattle.tree_match.specs.Ascending.{IsAscending}
use Rattle.store_file.specs.declared.entry.Entry.{Entry}
use Rattle.store_file.specs.StoreText.{entry_cmp}
use Rattle.store_file.specs.Found.{IsWith, IsAbsent, LeafLiesIn}
use Rattle.store_file.proofs.Keys.{only_one}
use Rattle.store_file.proofs.saved.Saved.find.Goals as goal

pub returns-in_default-clause-found : goal.returns-in_default-clause-found
returns-in_default-clause-found c = λ e there with lies.
    let same : c.as_slice-entries.result.now ≡ c.args.self.now = search rules in
    subst (IsAbsent c.args.piece.now c.args.pattern.now) same c.in_default.ensures e there with

pub returns-then-not-leaf_lies_in-clause-found : goal.returns-then-not-leaf_lies_in-clause-found
returns-then-not-leaf_lies_in-clause-found c = λ e there with lies.
    let es = c.as_slice-entries.result.now in
    let same : c.args.self.now ≡ es = search rules in
    let up : IsAscending entry_cmp es = search rules in
    let one : e ≡ c.index-entries-at.result = only_one es up c.args.piece.now c.args.pattern.now c.in-Some.at c.index-entries-at.result e c.in-Some.ensures.0 c.index-entries-at.is
    (subst (IsWith c.args.piece.now c.args.pattern.now) (sym c.index-entries-at.is) (c.in-Some.ensures.1 c.index-entries-at.result)) (subst (λ (xs : List Entry). Contains xs e) same there) with in
    absurd (let no : false ≡ true = sym c.if-not-leaf_lies_in.true ∙ c.leaf_lies_in.ensures.1 (subst (λ (x : Entry). LeafLiesIn c.args.bytes.now x.leaf) (one ∙ c.index-entries-at.is) lies) in cc)
