use Rattle.std.proofs.Common.{length}
use Rattle.settings_reader.proofs.read_all.Given as goal

abbrev pub decreases-loop-document : goal.decreases-loop-document
decreases-loop-document g l = length l.documents
