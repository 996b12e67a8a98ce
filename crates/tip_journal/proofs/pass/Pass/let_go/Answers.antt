use Rattle.std.proofs.Common.{◌∙◌, ap, rules}
use Rattle.std.specs.Prelude.{not}
use Rattle.std.proofs.lemmas.Fn.{filter_same}
use Rattle.tip_journal.specs.Pass.{is_of, others}
use Rattle.tip_journal.proofs.pass.Pass.let_go.Goals as goal

pub returns : goal.returns
returns g c =
    filter_same _ (λ one. not (is_of c.args.realm c.args.epoch one)) _ (λ x b f' k. search rules) _ _ c.retain.ensures.filtered
    ∙ ap (λ p. others c.args.realm c.args.epoch p.noted) c.self.view_is
