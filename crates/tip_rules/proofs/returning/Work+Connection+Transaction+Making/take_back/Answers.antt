use Rattle.std.proofs.Common.{ap, refl}
use Rattle.tip_machine.specs.Transactions.{standing_at}
use Rattle.tip_machine.specs.Types.{seen}
use Rattle.tip_machine.specs.declared.transaction.PartyPlace.TheVariants.{Here}
use Rattle.tip_rules.proofs.Works.{altered, stays_at}
use Rattle.tip_rules.proofs.returning.Work+Connection+Transaction+Making.take_back.Goals as goal

pub returns : goal.returns
returns g c =
    let item = c.item_mut-transaction.result.now in
    record {
      does = altered c.args.self.now c.args.key (standing_at (Here c.args.party)) c.args.place item (record item { place = c.replace.new.dest }) c.requires.stands c.item_mut-transaction.ensures.value (ap (λ place. seen (record item { place = place })) c.replace.ensures.after);
      stands = stays_at c.args.self.now c.args.key c.args.place item (record item { place = c.replace.new.dest }) c.requires.stands c.item_mut-transaction.ensures.value refl;
    }
