-- Whether a realm may be hosted as it is declared.
use Rattle.std.specs.Prelude.{Bool}
use Rattle.tip_stored.specs.Loading.{is_allowed}
use Rattle.tip_scene.specs.declared.declared.Declaration.{Declaration}

-- its limits are allowed, and its branches are one to eight, numbered from 1
abbrev pub may_be_hosted : Declaration → Bool
may_be_hosted declaration = is_allowed declaration.limits declaration.branches
