use Rattle.std.proofs.Common.{◌↔◌, ℕ, List, subst}
use Rattle.std.specs.Borrow.{Bor}
use Rattle.std.proofs.lemmas.List.{take_all}
use Rattle.graph_form.specs.Sets.{Among}
use Rattle.flow_reach.proofs.Steps.{either_way}
use Rattle.taint_tables.specs.Censuses.{texts}
use Rattle.taint_tables.proofs.CensusLists.{names_more}
use Rattle.taint_tables.proofs.CensusLoops.{text_more}
use Rattle.taint_tables.proofs.counting.name_table.Goals as goal

pub loop-name-init : goal.loop-name-init
loop-name-init c = record {
  numbers = c.new-table.ensures.numbers;
  same = λ n. (λ h. (let P : List (Bor (List ℕ)) → Type 0 = λ ks. Among (texts ks) n in subst P c.new-table.ensures.empty h), λ none. absurd none);
}

pub loop-name-preserved : goal.loop-name-preserved
loop-name-preserved c =
    let table = c.loop-name.table in
    record {
      numbers = c.in_ok-add.ensures.numbers;
      same = λ n. either_way _ _ _ _ _ _ (names_more table.numbers table.keys.items c.add.new.self.keys.items _ c.loop-name.invariant.numbers c.in_ok-add.ensures.keys n) (c.loop-name.invariant.same n) (λ h. h, λ h. h)
          (text_more c.args.names.now c.loop-name.name-index _ c.loop-name-test.true n);
    }

pub returns-clause-same : goal.returns-clause-same
returns-clause-same c n =
    let P : List (Bor (List ℕ)) → Type 0 = λ xs. Among (texts c.loop-name.table.keys.items) n ↔ Among (texts xs) n in
    subst P (take_all c.loop-name.name-index c.args.names.now c.loop-name-test.false) (c.loop-name.invariant.same n)
