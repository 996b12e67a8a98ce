use Rattle.std.proofs.Common.{◌≡◌, ap, ◌∙◌, arith}
use Rattle.std.proofs.lemmas.List.{append_assoc}
use Rattle.std.specs.String.{string_bytes}
use Rattle.tip_line.specs.Words.{is_word}
use Rattle.tip_line.specs.Ids.{id_of}
use Rattle.tip_line.proofs.NumberLemmas.{id_is_word}
use Rattle.tip_line.proofs.id.Id.of.Goals as goal

pub from_text-requires : goal.from_text-requires
from_text-requires c =
    let said : string_bytes c.in_ok-text.text ≡ id_of c.args.realm.now c.args.epoch c.args.connection c.args.number = rw (c.in_ok-text.ensures.ok, c.as_str-name.ensures.same) (simp append_assoc) in
    ap is_word said ∙ id_is_word c.args.realm.now c.args.epoch c.args.connection c.args.number c.as_str-name.ensures.realm (omega arith) (omega arith) (omega arith)
