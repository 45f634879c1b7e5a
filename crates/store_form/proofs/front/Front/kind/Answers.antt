use Rattle.std.proofs.Common.{ℕ, ◌++◌, sym, ap, ◌∙◌, rules}
use denote.Enum.Bare.{tag_one}
use Rattle.node_tree.specs.contracts.kind.Kind.{the_type}
use Rattle.node_tree.specs.Order.{kind_place}
use Rattle.store_form.specs.Form.{kind_bytes, number_bytes}
use Rattle.store_form.proofs.KindLaws.{place_fits}
use Rattle.store_form.proofs.front.Front.kind.Goals as goal

pub returns-in_err-place-clause-found : goal.returns-in_err-place-clause-found
unfolding kind_bytes
returns-in_err-place-clause-found c = λ x left is e. let h = c.in_err-place.ensures.found (kind_place x) left (place_fits x) e in search rules

pub returns-in-None-clause-found : goal.returns-in-None-clause-found
unfolding kind_bytes
returns-in-None-clause-found c = λ x left is e. c.in-None.ensures x is (sym (c.in_ok-place.ensures.found (kind_place x) left (place_fits x) e).0)

pub returns-in-Some-clause-given : goal.returns-in-Some-clause-given
unfolding kind_bytes
returns-in-Some-clause-given c = (c.in-Some.ensures.0, c.in_ok-place.ensures.given.1 ∙ ap (λ (n : ℕ). number_bytes n ++ c.number.new.self.rest.now) (sym c.in-Some.ensures.1))

pub returns-in-Some-clause-found : goal.returns-in-Some-clause-found
unfolding kind_bytes
returns-in-Some-clause-found c = λ x left is e.
    let there = c.in_ok-place.ensures.found (kind_place x) left (place_fits x) e in
    (tag_one the_type tt c.in-Some.kind x (c.in-Some.ensures.1 ∙ there.0), there.1)
