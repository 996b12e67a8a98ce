use Rattle.std.proofs.Common.{rules, tests, ap, ◌∙◌}
use Rattle.std.proofs.lemmas.Iterator.Adapters.{YieldsList-from_rev_slice}
use Rattle.std.proofs.lemmas.Iterator.Search.{find_from_yields_List}
use Rattle.tip_journal.specs.Pass.{is_of}
use Rattle.tip_journal.proofs.pass.Pass.last.Goals as goal

pub returns : goal.returns
returns g c =
    find_from_yields_List (is_of c.args.realm c.args.epoch) _ _ _ c.find.ensures.ran
    (YieldsList-from_rev_slice c.args.self.now.noted (ap (λ it. it.rest.now) c.rev.ensures.source ∙ c.iter.ensures.rest ∙ c.deref.ensures.value ∙ ap (λ p. p.noted) c.self.view_is))
    (λ x b q k. search (rules, tests))
