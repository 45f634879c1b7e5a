use Rattle.std.proofs.Common.{◌<◌, List, All, subst}
use Rattle.std.proofs.lemmas.List.Elements.{All-from_get_or}
use Rattle.std.proofs.lemmas.Str.{IsUtf8-had}
use Rattle.regex.specs.Strings.{regex_pattern}
use Rattle.node_tree.specs.declared.span.Span.{Span}
use Rattle.node_tree.specs.Span.{LiesIn}
use Rattle.rx_text.proofs.Matches.{all_of}
use Rattle.rx_text.proofs.Places.{spans_lie}
use Rattle.rx_text.proofs.rx.Rx.keeps_characters.Goals as goal

pub returns : goal.returns
returns c =
    let text = c.args.text.now in
    let r = c.as_ref-compiled.result.now in
    let P : List Span → Type 0 = All (LiesIn text) in
    let bytes = All-from_get_or (λ b. b < 256) text 0 (λ k _. (c.type_inv.text k).fits) in
    subst P (all_of _ _ _ text c.as_ref-compiled.ensures c.self.view_is c.self.invariant (λ k. (c.type_inv.text k).fits))
    (spans_lie (regex_pattern r) text bytes r.whole_characters (IsUtf8-had text c.requires))
