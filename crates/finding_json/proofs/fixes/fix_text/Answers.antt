use Rattle.std.proofs.Common.{◌≡◌, ◌∷◌, [], ◌++◌, ℕ, List, ap, ◌∙◌}
use Rattle.std.proofs.lemmas.Result.{IfOk-weaker}
use Rattle.serde_json.specs.Written.{compact_text}
use Rattle.serde_json.proofs.FreeTexts.{text_of_value}
use Rattle.finding_json.specs.Reports.{fix_data}
use Rattle.finding_json.proofs.Floats.{in_fixes}
use Rattle.finding_json.proofs.fixes.fix_text.Goals as goal

pub returns : goal.returns
returns c =
    let d = fix_data c.args.fixed.now in
    let sent = c.in-Ok.ensures.events in
    let text : c.in-Ok.text.items ≡ compact_text d = text_of_value d sent.0 c.in-Ok.text.items sent.1 sent.2 (in_fixes c.args.fixed.now) in
    IfOk-weaker c.ended.result _ _ (λ (line : List ℕ) (is : line ≡ c.in-Ok.text.items ++ 10 ∷ []). is ∙ ap (λ (xs : List ℕ). xs ++ 10 ∷ []) text) c.ended.ensures
