-- The realms of a configuration, as they are to be hosted.
use Rattle.std.specs.Prelude.{Bool, ◌&&◌, true, not, List, [], ◌∷◌}
use Rattle.std.specs.List.{list_all}
use Rattle.std.specs.Str.{bytes_eq}
use Rattle.tip_settings.specs.declared.config.RealmConfig.{RealmConfig}
use Rattle.tip_stored.specs.declared.realm_spec.RealmSpec.{RealmSpec}

abbrev pub declared : RealmConfig → RealmSpec
declared realm = record { name = realm.name; address = realm.address; limits = realm.limits; branches = realm.branches }

-- no two of them have one name
abbrev pub are_apart : List RealmConfig → Bool
are_apart [] = true
are_apart (realm ∷ realms) = list_all (λ other. not (bytes_eq realm.name other.name)) realms && are_apart realms
