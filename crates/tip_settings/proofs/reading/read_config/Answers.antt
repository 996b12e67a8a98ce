use Rattle.std.proofs.Common.{rules}
use Rattle.std.proofs.lemmas.Bool.{true≢false}
use Rattle.tip_settings.proofs.Refusing.{read_refused, why}
use Rattle.tip_settings.proofs.Texts.{document, is_document, no_configuration, no_document}
use Rattle.tip_settings.specs.Configurations.{configuration_in}
use Rattle.toml.specs.View.{table_view}
use Rattle.tip_settings.proofs.reading.read_config.Goals as goal

pub returns-in-Ok-clause-ok : goal.returns-in-Ok-clause-ok
returns-in-Ok-clause-ok c = rw (document c.args.bytes.now _ c.in-Ok.ensures.ok.0 c.in-Ok.ensures.ok.1) c.config_in.ensures.ok

pub returns-in-Ok-clause-refused : goal.returns-in-Ok-clause-refused
returns-in-Ok-clause-refused c =
    rw (document c.args.bytes.now _ c.in-Ok.ensures.ok.0 c.in-Ok.ensures.ok.1)
    (read_refused c.config_in.result (configuration_in (table_view c.in-Ok.table)) c.config_in.ensures.wrong)

pub returns-in-Ok-clause-why : goal.returns-in-Ok-clause-why
returns-in-Ok-clause-why c =
    why c.config_in.result c.args.bytes.now (table_view c.in-Ok.table) (is_document c.args.bytes.now _ c.in-Ok.ensures.ok.0 c.in-Ok.ensures.ok.1) c.config_in.ensures.why

pub returns-in-Some-clause-refused : goal.returns-in-Some-clause-refused
returns-in-Some-clause-refused c =
    λ _. no_configuration c.args.bytes.now (no_document c.args.bytes.now (c.in-Err.ensures.refused (λ memory. true≢false (c.in-Some.ensures.none.1 memory))))

pub returns-in-Some-clause-why : goal.returns-in-Some-clause-why
returns-in-Some-clause-why c =
    let none = no_document c.args.bytes.now (c.in-Err.ensures.refused (λ memory. true≢false (c.in-Some.ensures.none.1 memory))) in
    (none, (c.in-Some.span.start, search rules, c.line_of.ensures))
