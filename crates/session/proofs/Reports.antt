-- A report of the rule files that a map holds is one of their bytes.
use Rattle.std.proofs.Common.{◌≡◌, ◌⊎◌, inl, inr, ℕ, List, [], ◌∷◌, ◌++◌, true, false, refl, sym, ap, ◌∙◌, subst}
use Rattle.std.specs.Prelude.{Result, Ok, Err, OnOk, IfOk, IfErr, Option, None}
use Rattle.scan_world.specs.Files.{Files}
use Rattle.file_map.specs.declared.limit.LimitKind.{LimitKind}
use Rattle.file_map.specs.declared.fault.PutFault.{PutFault}
use Rattle.file_map.specs.FileMap.{TellsPut}
use Rattle.rule_entries.specs.Finds.{Writes}
use Rattle.rule_files.specs.declared.rule_file.RuleFile.{RuleFile}
use Rattle.rule_map.specs.RuleMap.{AreRuleFiles, TellsEnd}
use Rattle.node_match.specs.Sets.{Among}
use Rattle.report_form.specs.declared.report.Report.{Report}
use Rattle.decided_texts.specs.Decided.{Decisions, AreDecided, AreUndecided, is_decided}
use Rattle.decided_texts.specs.Deciding.{Grows}
use Rattle.scan_session.specs.declared.fault.ScanFault.{ScanFault}
use Rattle.scan_session.specs.Sets.{HasMore}
use Rattle.scan_session.specs.Reports.{reported_cmp}
use Rattle.running_rules.specs.Running.{running, texts_of, stated, AreTextsOf}
use Rattle.scan_session.specs.Fresh.{IsFresh, IsResult}
use Rattle.workspace.specs.Reports.{Readings, IsReport, HasMoreResults, AreAsked, AreAllDecided, AreReadOnce, GainsSome}

-- what holds of every value with this holds of an answer with it
pub if_ok : {X F : Type 0} (P Q : X → Type 0) → ((x : X) → P x → Q x) → (r : Result X F) → IfOk r P → IfOk r Q
if_ok P Q f (Ok x) h = f x h
if_ok P Q f (Err e) h = tt

-- a put that tells how it ends tells so where it succeeds, and where it doesn't
pub within : {X : Type 0} (Holds : Option (LimitKind × ℕ) → Type 0) (r : Result X PutFault) → TellsEnd Holds r → OnOk r (Holds None)
within Holds (Ok x) h = h
within Holds (Err e) h = tt

pub over : {X : Type 0} (Holds : Option (LimitKind × ℕ) → Type 0) (r : Result X PutFault) → TellsEnd Holds r → IfErr r (TellsPut Holds)
over Holds (Ok x) h = tt
over Holds (Err e) h = h

among_front : (xs ys : List (List ℕ)) (x : List ℕ) → Among xs x → Among (xs ++ ys) x
among_front [] ys x h = absurd h
among_front (z ∷ zs) ys x (inl e) = inl e
among_front (z ∷ zs) ys x (inr h) = inr (among_front zs ys x h)

-- decisions that grow gain some of the texts that the builder's list gained
pub gains_some : (old new : Decisions) (texts : List (List ℕ)) → Grows old new texts → GainsSome old new texts
gains_some old new texts g = record {
  more = g.first;
  is = g.refused;
  among = λ text h. let P : List (List ℕ) → Type 0 = λ ts. Among ts text in subst P (sym g.parts) (among_front g.first g.rest text h);
}

-- there is one way to read the rule files where each way is this one
pub read_once : (writes : Writes) (rules : Files) (contents : List RuleFile) → ((others : List RuleFile) → AreRuleFiles writes rules others → others ≡ contents) → AreReadOnce writes rules
read_once writes rules contents only c d h k = only d k ∙ sym (only c h)

-- The reader with which files are scanned is that of the rules.
module _ {R : Type 0} (readings : R → Readings) (used reader : R) (same : used ≡ reader) (files rules : Files) (contents : List RuleFile) (are : AreRuleFiles (readings reader).writes rules contents) where
  pub is_report : (refused : List (List ℕ)) (report : Report) → IsFresh (readings used).grammars refused files contents report → IsReport (readings reader) refused files rules report
  is_report refused report h =
      let P : R → Type 0 = λ r. IsFresh (readings r).grammars refused files contents report in
      record { contents = contents; are = are; fresh = subst P same h }

  pub has_more : (refused : List (List ℕ)) (most n : ℕ) → (n ≡ most) × HasMore reported_cmp (IsResult (readings used).grammars (running refused contents) files) most → (n ≡ most) × HasMoreResults (readings reader) refused files rules n
  has_more refused most n h =
      let P : R → Type 0 = λ r. HasMore reported_cmp (IsResult (readings r).grammars (running refused contents) files) most in
      let Q : ℕ → Type 0 = λ m. HasMoreResults (readings reader) refused files rules m in
      (h.0, subst Q (sym h.0) (record { contents = contents; are = are; more = subst P same h.1 }))

  module _ (one : (others : List RuleFile) → AreRuleFiles (readings reader).writes rules others → others ≡ contents) where
    pub only_report : (refused : List (List ℕ)) (report : Report) → ((r : Report) → IsFresh (readings used).grammars refused files contents r → r ≡ report) → (r : Report) → IsReport (readings reader) refused files rules r → r ≡ report
    only_report refused report h r is =
        let P : R → Type 0 = λ x. IsFresh (readings x).grammars refused files contents r in
        let Q : List RuleFile → Type 0 = λ cs. IsFresh (readings reader).grammars refused files cs r in
        h r (subst P (sym same) (subst Q (one is.contents is.are) is.fresh))

    pub all_decided : (decided : Decisions) → AreDecided decided (texts_of (stated contents)) → AreAllDecided (readings reader).writes rules decided
    all_decided decided h others text they among =
        let P : List RuleFile → Type 0 = λ cs. Among (texts_of (stated cs)) text in
        h text (subst P (one others they) among)

    pub are_asked : (before : Decisions) (texts : List (List ℕ)) → AreTextsOf contents texts → AreUndecided before texts → AreAsked (readings reader).writes rules before texts
    are_asked before texts h undecided text among =
        let P : List RuleFile → Type 0 = λ cs. Among (texts_of (stated cs)) text in
        ((λ others they. subst P (sym (one others they)) (h text among)), undecided text among)
