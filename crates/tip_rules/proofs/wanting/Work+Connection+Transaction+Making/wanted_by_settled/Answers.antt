use Rattle.std.proofs.Common.{◌∙◌, ap, sym}
use Rattle.std.proofs.lemmas.Result.{IfOk-weaker}
use Rattle.tip_branch.specs.Notes.{PartyNotes}
use Rattle.tip_machine.specs.Types.{seen}
use Rattle.tip_rules.proofs.Ahead.{back_aborted, back_spent, back_waiting}
use Rattle.tip_rules.specs.Works.{work_of}
use Rattle.tip_rules.proofs.wanting.Work+Connection+Transaction+Making.wanted_by_settled.Goals as goal

pub returns-then-is_aborting : goal.returns-then-is_aborting
returns-then-is_aborting g c = IfOk-weaker c.wanted_once_back.result _ _
    (λ next. back_aborted (work_of c.args.self.now).state c.args.party.now c.in-Some.key-1-given.0.0.0 (seen c.at.result.now) c.at.ensures.found c.in-Some.ensures.same next (sym c.if-is_aborting.ensures))
    (c.wanted_once_back.ensures (seen c.at.result.now) c.args.party.now c.at.ensures.found (c.members.ensures.same ∙ ap (λ (p : PartyNotes). p.members) c.party.ensures))

pub returns-then-has_ready : goal.returns-then-has_ready
returns-then-has_ready g c = IfOk-weaker c.wanted_once_back-then-has_ready.result _ _
    (λ next. back_waiting (work_of c.args.self.now).state c.args.party.now c.in-Some.key-1-given.0.0.0 (seen c.at.result.now) c.at.ensures.found c.in-Some.ensures.same next (sym c.if-not-is_committing.ensures) (sym c.if-has_ready.ensures))
    (c.wanted_once_back-then-has_ready.ensures (seen c.at.result.now) c.args.party.now c.at.ensures.found (c.members-then-has_ready.ensures.same ∙ ap (λ (p : PartyNotes). p.members) c.party-then-has_ready.ensures))

pub returns-else-has_ready : goal.returns-else-has_ready
returns-else-has_ready g c = IfOk-weaker c.wanted_once_spent.result _ _
    (λ next. back_spent (work_of c.args.self.now).state c.args.party.now c.in-Some.key-1-given.0.0.0 (seen c.at.result.now) c.at.ensures.found c.in-Some.ensures.same next (sym c.if-not-is_committing.ensures) (sym c.if-has_ready.ensures))
    (c.wanted_once_spent.ensures (seen c.at.result.now) c.at.ensures.found)
