use Rattle.std.proofs.Common.{◌≡◌, true}
use Rattle.tip_line.specs.Words.{is_realm}
use Rattle.tip_outlook.proofs.Naming.{made_of_none}
use Rattle.tip_outlook.proofs.query.key_of.Goals as goal

-- it was given by nobody
pub returns-in_err-parts : goal.returns-in_err-parts
returns-in_err-parts c =
    let name : is_realm c.args.realm.now ≡ true = c.as_str-name.ensures.realm in
    rw c.from_residual.ensures (made_of_none c.args.id.now c.args.realm.now name c.in_err-parts.ensures.only)
