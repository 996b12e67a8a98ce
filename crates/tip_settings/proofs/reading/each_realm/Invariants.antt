use Rattle.std.proofs.Common.{◌≡◌, drop, map}
use Rattle.tip_settings.proofs.Items.{behind}
use Rattle.tip_settings.specs.Realms.{realm_of, setting_of}
use Rattle.tip_settings.specs.Documents.{each_of}
use Rattle.toml.specs.View.{items_view}
use Rattle.tip_settings.proofs.reading.each_realm.Given as goal

abbrev pub invariant-loop-index : goal.invariant-loop-index
invariant-loop-index l = each_of realm_of (items_view l.items) ≡ behind (map setting_of l.realms.items) (each_of realm_of (items_view (drop l.index l.items)))
