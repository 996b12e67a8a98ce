use Rattle.std.proofs.Common.{ap, refl}
use Rattle.tip_machine.specs.Transactions.{entering}
use Rattle.tip_machine.specs.Types.{seen}
use Rattle.tip_rules.proofs.Works.{altered, stays_at}
use Rattle.tip_rules.proofs.work.Work+Connection+Transaction+Making.enter.Goals as goal

pub returns-clause-does : goal.returns-clause-does
returns-clause-does g c =
    let item = c.item_mut-transaction.result.now in
    altered c.args.self.now c.args.key (entering c.args.phase) c.args.place item (record item { txn = c.enter.new.self }) c.requires c.item_mut-transaction.ensures.value (ap (λ txn. seen (record item { txn = txn })) c.enter.ensures)

pub returns-clause-stands : goal.returns-clause-stands
returns-clause-stands g c =
    let item = c.item_mut-transaction.result.now in
    stays_at c.args.self.now c.args.key c.args.place item (record item { txn = c.enter.new.self }) c.requires c.item_mut-transaction.ensures.value refl
