-- The realms of a configuration have the names with which they are declared.
use Rattle.std.proofs.Common.{◌≡◌, ◌&&◌, List, [], ◌∷◌, length, map, not, refl, ap, ap₂, suc, Bool}
use Rattle.std.specs.Str.{bytes_eq}
use Rattle.std.proofs.lemmas.List.Folds.{list_all-map}
use Rattle.tip_settings.specs.declared.config.RealmConfig.{RealmConfig}
use Rattle.tip_stored.specs.Loading.{names_differ}
use Rattle.tip_duties.specs.Declarations.{are_apart, declared}

pub declared_apart : (realms : List RealmConfig) → names_differ (map declared realms) ≡ are_apart realms
declared_apart [] = refl
declared_apart (realm ∷ realms) =
    let both : Bool → Bool → Bool = λ a b. a && b in
    ap₂ both (list_all-map (λ other. not (bytes_eq realm.name other.name)) declared realms) (declared_apart realms)

pub as_many_declared : (realms : List RealmConfig) → length (map declared realms) ≡ length realms
as_many_declared [] = refl
as_many_declared (realm ∷ realms) = ap (λ n. suc n) (as_many_declared realms)
