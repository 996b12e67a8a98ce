use Rattle.std.proofs.Common.{ap}
use Rattle.tip_machine.specs.Transactions.{standing_at}
use Rattle.tip_machine.specs.Types.{seen}
use Rattle.tip_rules.proofs.Works.{altered}
use Rattle.tip_rules.proofs.work.Work+Connection+Transaction+Making.take_party.Goals as goal

pub returns-clause-left : goal.returns-clause-left
returns-clause-left g c =
    let item = c.item_mut-transaction.result.now in
    altered c.args.self.now c.args.key (standing_at c.args.left) c.args.place item (record item { place = c.replace.new.dest }) c.requires.stands c.item_mut-transaction.ensures.value (ap (λ place. seen (record item { place = place })) c.replace.ensures.after)
