use Rattle.std.proofs.Common.{◌∙◌, map, sym, ap, Some}
use Rattle.tip_settings.proofs.Items.{one_more_kept, not_read, all_read}
use Rattle.tip_settings.proofs.Refusing.{refused_by, wrong_by}
use Rattle.tip_settings.specs.Documents.{each_of}
use Rattle.tip_settings.specs.Realms.{realm_of, setting_of}
use Rattle.toml.proofs.Views.{get_item_within}
use Rattle.toml.specs.View.{items_view, view}
use Rattle.tip_settings.proofs.reading.each_realm.Goals as goal

pub returns-in_err-realm_of-clause-wrong : goal.returns-in_err-realm_of-clause-wrong
returns-in_err-realm_of-clause-wrong c =
    refused_by c.from_residual.result c.in_err-realm_of.field-0.0 (realm_of (view c.index-items-index.result)) (each_of realm_of (items_view c.args.items.now)) c.from_residual.ensures c.in_err-realm_of.ensures.wrong
    (not_read realm_of c.args.items.now c.loop-index.index c.index-items-index.result (map setting_of c.loop-index.realms.items) c.loop-index-test.true c.index-items-index.is c.loop-index.invariant)

pub returns-in_err-realm_of-clause-why : goal.returns-in_err-realm_of-clause-why
returns-in_err-realm_of-clause-why c =
    wrong_by c.from_residual.result c.in_err-realm_of.field-0.0 c.loop-index.index (items_view c.args.items.now) (view c.index-items-index.result) c.from_residual.ensures
    (sym (get_item_within c.args.items.now c.loop-index.index c.index-items-index.result c.loop-index-test.true) ∙ ap (λ v. Some (view v)) (sym c.index-items-index.is))
    c.in_err-realm_of.ensures.why

pub loop-index-preserved : goal.loop-index-preserved
loop-index-preserved c =
    one_more_kept setting_of realm_of c.args.items.now c.loop-index.index c.index-items-index.result c.loop-index.realms.items c.push.new.self.items c.in_ok-realm_of.field-0
    c.loop-index-test.true c.index-items-index.is c.in_ok-push.ensures.items c.loop-index.invariant c.in_ok-realm_of.ensures.ok

pub returns-clause-ok : goal.returns-clause-ok
returns-clause-ok c = all_read realm_of c.args.items.now c.loop-index.index (map setting_of c.loop-index.realms.items) c.loop-index-test.false c.loop-index.invariant
