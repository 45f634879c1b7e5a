use Rattle.std.proofs.Common.{◌↔◌, List, subst}
use Rattle.std.proofs.lemmas.Result.{err_from_is_err_and}
use Rattle.node_match.specs.Sets.{Among}
use Rattle.node_match.proofs.Sets.{chain}
use Rattle.member_join.specs.declared.state.State.{State}
use Rattle.sorted_sets.specs.Sizes.{Any}
use Rattle.member_join.specs.Operands.{IsGivenBy}
use Rattle.member_join.proofs.Given.{given_both}
use Rattle.member_join.proofs.choice.met_members.Goals as goal

pub returns-clause-exact : goal.returns-clause-exact
returns-clause-exact c m =
    let P : List State → Type 0 = λ xs. Among c.in_ok-met.field-0.items m ↔ Any (IsGivenBy m) xs in
    chain _ _ _ (subst P c.as_slice.ensures.value (c.in_ok-met.ensures m)) (given_both c.args.plains.now c.args.insides.now c.in_ok-states.states.items c.in_ok-states.ensures.exact m)

pub returns-in_err-states-clause-crowded : goal.returns-in_err-states-clause-crowded
returns-in_err-states-clause-crowded c =
    let p = err_from_is_err_and c.from_residual.result c.from_residual.ensures.1 in
    rw (p.1, p.2) c.in_err-states.ensures.crowded
