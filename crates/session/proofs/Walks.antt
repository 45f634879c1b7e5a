-- Walks over files.
use Rattle.std.proofs.Common.{◌≡◌, ◌⊎◌, inl, inr, ℕ, ◌+◌, ◌<◌, ◌≤◌, List, [], ◌∷◌, ◌++◌, length, take, map, get_or, refl, sym, ap, ◌∙◌, subst, arith}
use Rattle.std.specs.Prelude.{All}
use Rattle.std.proofs.lemmas.List.{take_more, take_all, map-append, append-nil}
use Rattle.std.proofs.lemmas.List.Elements.{All-nil, All-push, All-cons, All-head, All-tail}
use Rattle.report_form.specs.declared.edit.Edit.{Edit}
use Rattle.report_form.specs.declared.report.Reported.{Reported}
use Rattle.fix_apply.specs.Applied.{LieIn}
use Rattle.fix_apply.specs.Choices.{EndBy, AreFit, AreChosen}
use Rattle.fix_apply.specs.declared.fixed.FixedFile.{FixedFile}
use Rattle.workspace.specs.Fixes.{IsFixed, AreFixed}
use Rattle.scan_session.specs.Quieted.{Grammars}
use Rattle.scan_session.specs.Shown.{File}
use Rattle.scan_session.specs.declared.scanner.Scanner.{Scanner}
use Rattle.scan_session.specs.Scans.{HasScanned, Scans}
use Rattle.scan_session.proofs.Scans.{scans_then}
use Rattle.rule_files.specs.declared.rule_file.RuleFile.{RuleFile}
use Rattle.session.specs.Sessions.{EndWithin, AddsFixed}

-- ---- lists by their first items

module _ {X : Type 0} (items : List X) (i : ℕ) (x d : X) (lt : i < length items) (is : x ≡ get_or items i d) where
  pub one_taken : take (i + 1) items ≡ take i items ++ x ∷ []
  one_taken = take_more items i d lt ∙ ap (λ (y : X). take i items ++ y ∷ []) (sym is)

  pub one_mapped : {Y : Type 0} (f : X → Y) (old new : List Y) (y : Y) → old ≡ map f (take i items) → new ≡ old ++ y ∷ [] → y ≡ f x → new ≡ map f (take (i + 1) items)
  one_mapped f old new y h push e =
      push ∙ ap (λ l. l ++ y ∷ []) h ∙ ap (λ z. map f (take i items) ++ z ∷ []) e ∙ sym (map-append f (take i items) (x ∷ [])) ∙ ap (map f) (sym one_taken)

pub all_mapped : {X Y : Type 0} (f : X → Y) (items : List X) (i : ℕ) (new : List Y) → length items ≤ i → new ≡ map f (take i items) → new ≡ map f items
all_mapped f items i new end h = h ∙ ap (map f) (take_all i items end)

-- ---- edits that end within a text

pub one_within : (size : ℕ) (edits : List Edit) (i : ℕ) (e d : Edit) → i < length edits → e ≡ get_or edits i d → EndWithin size (take i edits) → e.span.to ≤ size → EndWithin size (take (i + 1) edits)
one_within size edits i e d lt is h within =
    let P : List Edit → Type 0 = λ es. EndWithin size es in
    subst P (sym (one_taken edits i e d lt is)) (All-push (λ (x : Edit). x.span.to ≤ size) (take i edits) e h within)

pub all_within : (size : ℕ) (edits : List Edit) (i : ℕ) → length edits ≤ i → EndWithin size (take i edits) → EndWithin size edits
all_within size edits i end h = let P : List Edit → Type 0 = λ es. EndWithin size es in subst P (take_all i edits end) h

-- ---- files that are scanned

module _ {R : Type 0} (grammars : Grammars) where
  pub scans_none : (s : Scanner R) → Scans grammars [] s s
  scans_none s refused rule_files most files up h = let P : List File → Type 0 = λ fs. HasScanned grammars refused rule_files most fs s in subst P (sym (append-nil files)) h

  module _ {X : Type 0} (f : X → File) (items : List X) (i : ℕ) (x d : X) (lt : i < length items) (is : x ≡ get_or items i d) (a b c : Scanner R) (so_far : Scans grammars (map f (take i items)) a b) where
    pub scans_more : (path bytes : List ℕ) → (path, bytes) ≡ f x → Scans grammars ((path, bytes) ∷ []) b c → Scans grammars (map f (take (i + 1) items)) a c
    scans_more path bytes e h =
        let P : File → Type 0 = λ y. Scans grammars (y ∷ []) b c in
        let Q : List File → Type 0 = λ fs. Scans grammars fs a c in
        let joined : map f (take i items) ++ f x ∷ [] ≡ map f (take (i + 1) items) = sym (map-append f (take i items) (x ∷ [])) ∙ ap (map f) (sym (one_taken items i x d lt is)) in
        subst Q joined (scans_then grammars (map f (take i items)) (f x ∷ []) a b c so_far (subst P e h))

  pub scans_all : {X : Type 0} (f : X → File) (items : List X) (i : ℕ) (files : List File) (a b : Scanner R) → length items ≤ i → map f items ≡ files → Scans grammars (map f (take i items)) a b → Scans grammars files a b
  scans_all f items i files a b end same h =
      let Q : List File → Type 0 = λ fs. Scans grammars fs a b in
      subst Q (ap (map f) (take_all i items end) ∙ same) h

-- ---- edits that lie in a text

narrowed : (from big size : ℕ) (es : List Edit) → from ≤ size → LieIn from big es → EndWithin size es → LieIn from size es
narrowed from big size [] small lie within = small
narrowed from big size (e ∷ es) small lie within = (lie.0, lie.1, narrowed e.span.to big size es (All-head (λ (x : Edit). x.span.to ≤ size) e es within) lie.2 (All-tail (λ (x : Edit). x.span.to ≤ size) e es within))

raised : (low high : ℕ) → low ≤ high → (results : List Reported) → EndBy low results → EndBy high results
raised low high le [] h = All-nil (λ (r : Reported). r.finding.span.to ≤ high)
raised low high le (r ∷ rs) h =
    All-cons (λ (x : Reported). x.finding.span.to ≤ high) r rs (omega (arith, le, All-head (λ (x : Reported). x.finding.span.to ≤ low) r rs h))
    (raised low high le rs (All-tail (λ (x : Reported). x.finding.span.to ≤ low) r rs h))

-- however many results there are, all end by some place
some_end : (results : List Reported) → (size : ℕ) × EndBy size results
some_end [] = (0, All-nil (λ (r : Reported). r.finding.span.to ≤ 0))
some_end (r ∷ rs) =
    let rest = some_end rs in
    (r.finding.span.to + rest.0, All-cons (λ (x : Reported). x.finding.span.to ≤ r.finding.span.to + rest.0) r rs (omega arith) (raised rest.0 (r.finding.span.to + rest.0) (omega arith) rs rest.1))

pub they_lie : (size : ℕ) (results : List Reported) (edits : List Edit) → AreFit results edits → EndWithin size edits → LieIn 0 size edits
they_lie size results edits fit within = let end = some_end results in narrowed 0 end.0 size edits (omega arith) (fit end.0 end.1) within

-- ---- files that fixes change

fixed_on : (results : List Reported) (files : List File) (xs : List FixedFile) (f : File) (x : FixedFile) → AreFixed results files xs → IsFixed results f x → AreFixed results (files ++ f ∷ []) (xs ++ x ∷ [])
fixed_on results [] xs f x h is = inr (x, is, ([], ap (λ (l : List FixedFile). l ++ x ∷ []) h, refl))
fixed_on results (g ∷ gs) xs f x (inl (none, r)) is = inl (none, fixed_on results gs xs f x r is)
fixed_on results (g ∷ gs) xs f x (inr (one, at, (rest, e, r))) is = inr (one, at, (rest ++ x ∷ [], ap (λ (l : List FixedFile). l ++ x ∷ []) e, fixed_on results gs rest f x r is))

same_on : (results : List Reported) (files : List File) (xs : List FixedFile) (f : File) → AreFixed results files xs → AreChosen f.0 results [] → AreFixed results (files ++ f ∷ []) xs
same_on results [] xs f h none = inl (none, h)
same_on results (g ∷ gs) xs f (inl (n, r)) none = inl (n, same_on results gs xs f r none)
same_on results (g ∷ gs) xs f (inr (one, at, (rest, e, r))) none = inr (one, at, (rest, e, same_on results gs rest f r none))

module _ {X : Type 0} (f : X → File) (results : List Reported) (items : List X) (i : ℕ) (x d : X) (lt : i < length items) (is : x ≡ get_or items i d) (old new : List FixedFile) (so_far : AreFixed results (map f (take i items)) old) where
  joined : map f (take i items) ++ f x ∷ [] ≡ map f (take (i + 1) items)
  joined = sym (map-append f (take i items) (x ∷ [])) ∙ ap (map f) (sym (one_taken items i x d lt is))

  added : (file : File) → file ≡ f x → AddsFixed results file old new → AreFixed results (map f (take i items) ++ f x ∷ []) new
  added file e (inl (same, none)) =
      let P : List FixedFile → Type 0 = λ l. AreFixed results (map f (take i items) ++ f x ∷ []) l in
      let Q : File → Type 0 = λ y. AreChosen y.0 results [] in
      subst P (sym same) (same_on results (map f (take i items)) old (f x) so_far (subst Q e none))
  added file e (inr (one, at, push)) =
      let P : List FixedFile → Type 0 = λ l. AreFixed results (map f (take i items) ++ f x ∷ []) l in
      let Q : File → Type 0 = λ y. IsFixed results y one in
      subst P (sym push) (fixed_on results (map f (take i items)) old (f x) one so_far (subst Q e at))

  pub fixed_more : (file : File) → file ≡ f x → AddsFixed results file old new → AreFixed results (map f (take (i + 1) items)) new
  fixed_more file e adds = let P : List File → Type 0 = λ fs. AreFixed results fs new in subst P joined (added file e adds)

pub fixed_all : {X : Type 0} (f : X → File) (results : List Reported) (items : List X) (i : ℕ) (files : List File) (new : List FixedFile) → length items ≤ i → map f items ≡ files → AreFixed results (map f (take i items)) new → AreFixed results files new
fixed_all f results items i files new end same h = let P : List File → Type 0 = λ fs. AreFixed results fs new in subst P (ap (map f) (take_all i items end) ∙ same) h
