-- Which parts of rules follow data.
use Rattle.node_tree.specs.declared.view.Lang.{Lang}
use Rattle.rule_form.specs.declared.rule.Body.{Body}
use Rattle.rule_form.specs.declared.rule.Body.TheVariants as bodies
use Rattle.rule_form.specs.declared.rule.Part.{Part}
use Rattle.file_results.specs.Looking.{LooksAt}

abbrev pub Follows : Body → Type 0
Follows (bodies.Search formula) = ⊥
Follows (bodies.Taint rule) = Unit {0}

-- the part follows data in files of the language
abbrev pub FollowsIn : Lang → Part → Type 0
FollowsIn lang part = Follows part.body × LooksAt part lang
