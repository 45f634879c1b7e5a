use Rattle.std.proofs.Common.{◌∙◌}
use Rattle.std.proofs.lemmas.Result.{IfOk-weaker}
use Rattle.rx_text.proofs.Matches.{first_of}
use Rattle.rx_text.proofs.rx.Rx.at_start.Goals as goal

pub returns-clause-found : goal.returns-clause-found
returns-clause-found c =
    IfOk-weaker c.starts.result _ _
    (λ found is. is ∙ first_of _ _ _ _ c.as_ref.ensures c.self.view_is c.self.invariant (λ k. (c.type_inv.text k).fits))
    c.starts.ensures
