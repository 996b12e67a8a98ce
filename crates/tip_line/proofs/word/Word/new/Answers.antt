use Rattle.std.proofs.lemmas.Str.{IsUtf8-from_ascii}
use Rattle.tip_line.proofs.WordLemmas.{ascii_word}
use Rattle.tip_line.proofs.word.Word.new.Goals as goal

pub unreachable-requires : goal.unreachable-requires
unreachable-requires c =
    c.in-Err.ensures.cases.0 (IsUtf8-from_ascii c.args.octets.now (ascii_word c.args.octets.now cc))
