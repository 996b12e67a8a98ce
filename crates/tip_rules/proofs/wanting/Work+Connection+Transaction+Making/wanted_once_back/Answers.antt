use Rattle.std.proofs.Common.{◌≡◌, ◌∙◌, Option, ap, subst, sym}
use Rattle.std.proofs.lemmas.Option.{same_Some}
use Rattle.std.specs.Result.{IfOk}
use Rattle.tip_line.specs.declared.command.CommandName.{CommandName}
use Rattle.tip_machine.specs.Types.{Transaction, seen}
use Rattle.tip_machine.specs.Transactions.{standing_at}
use Rattle.tip_machine.specs.declared.transaction.PartyPlace.TheVariants.{Here}
use Rattle.tip_machine.specs.Proceeding.{owed_to_superior}
use Rattle.tip_outlook.specs.Endings.{Follows}
use Rattle.tip_outlook.specs.Wanting.{Outlook, outlook}
use Rattle.tip_rules.specs.Works.{work_of}
use Rattle.tip_rules.proofs.wanting.Work+Connection+Transaction+Making.wanted_once_back.Goals as goal

pub returns : goal.returns
returns g c = λ t party there same.
    let is : seen c.at-transaction.result.now ≡ t = same_Some (seen c.at-transaction.result.now) t (sym c.at-transaction.ensures.found ∙ there) in
    subst (λ (o : Outlook). IfOk c.next.result (Follows o (owed_to_superior c.args.key (work_of c.args.self.now).state)))
    (c.back.ensures party same ∙ ap (λ (u : Transaction). outlook (standing_at (Here party) u)) is)
    (subst (λ (o : Option CommandName). IfOk c.next.result (Follows c.back.result o)) c.owed_to_superior.ensures c.next.ensures)
