use Rattle.std.proofs.Common.{Some, None, ◌∙◌, refl, sym}
use Rattle.tip_txn.proofs.TallyLemmas.{promised-no, promised-yes}
use Rattle.tip_txn.specs.declared.answer.Ballot.TheVariants as answer
use Rattle.tip_txn.proofs.tally.Tally.willing.Goals as goal

pub returns : goal.returns
returns c = λ subordinates count. record {
  missing = sym (promised-no None refl subordinates);
  yes = sym (promised-yes subordinates ∙ count);
  no = sym (promised-no (Some answer.No) refl subordinates);
  lost = sym (promised-no (Some answer.Lost) refl subordinates);
}
