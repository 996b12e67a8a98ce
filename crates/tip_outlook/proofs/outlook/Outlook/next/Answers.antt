use Rattle.std.proofs.Common.{◌≡◌, ap, sym, subst, ◌∙◌, ◌⊎◌}
use Rattle.std.proofs.lemmas.Result.{IfOk-weaker}
use Rattle.tip_txn.specs.declared.answer.Phase.TheVariants.{Active, Asking}
use Rattle.tip_outlook.specs.Endings.{Follows}
use Rattle.tip_outlook.specs.Wanting.{Outlook}
use Rattle.tip_outlook.proofs.Nexts.{follows_aborted, follows_committed, follows_open, follows_prepared}
use Rattle.tip_outlook.proofs.outlook.Outlook.next.Goals as goal

pub returns-in-Active : goal.returns-in-Active
returns-in-Active g c =
    let undecided = subst (λ (o : Outlook). (o.phase ≡ Active) ⊎ (o.phase ≡ Asking)) c.self.view_is c.in-Active.is in
    IfOk-weaker c.conclude.result _ _ (λ next. follows_open c.args.self.now c.args.owed next undecided) c.conclude.ensures

pub returns-in-Prepared : goal.returns-in-Prepared
returns-in-Prepared g c = subst (Follows c.args.self.now c.args.owed) (sym c.done.ensures) (follows_prepared c.args.self.now c.args.owed (ap (λ (o : Outlook). o.phase) (sym c.self.view_is) ∙ c.in-Prepared.is))

pub returns-in-Committed : goal.returns-in-Committed
returns-in-Committed g c = follows_committed c.args.self.now c.args.owed c.remind.result (ap (λ (o : Outlook). o.phase) (sym c.self.view_is) ∙ c.in-Committed.is) c.remind.ensures

pub returns-in-Aborted : goal.returns-in-Aborted
returns-in-Aborted g c = subst (Follows c.args.self.now c.args.owed) (sym c.done-in-Aborted.ensures) (follows_aborted c.args.self.now c.args.owed (ap (λ (o : Outlook). o.phase) (sym c.self.view_is) ∙ c.in-Aborted.is))
