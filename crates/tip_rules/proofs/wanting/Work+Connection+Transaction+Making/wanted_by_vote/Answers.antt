use Rattle.std.proofs.Common.{◌∙◌, ap, sym}
use Rattle.std.proofs.lemmas.Result.{IfOk-weaker}
use Rattle.tip_branch.specs.Notes.{PartyNotes}
use Rattle.tip_machine.specs.Types.{seen}
use Rattle.tip_rules.proofs.Ahead.{voted_ahead}
use Rattle.tip_rules.specs.Works.{work_of}
use Rattle.tip_rules.proofs.wanting.Work+Connection+Transaction+Making.wanted_by_vote.Goals as goal

pub returns-then-is_voting : goal.returns-then-is_voting
returns-then-is_voting g c = IfOk-weaker c.wanted_once_voted.result _ _
    (λ next. voted_ahead (work_of c.args.self.now).state c.args.party.now c.in-Some.key-1-given.0.0.0 (seen c.at.result.now) c.at.ensures.found c.in-Some.ensures.same next (sym c.if-is_voting.ensures) c.answer_of.result c.answer_of.ensures)
    (c.wanted_once_voted.ensures (seen c.at.result.now) c.args.party.now c.at.ensures.found (c.members.ensures.same ∙ ap (λ (p : PartyNotes). p.members) c.party.ensures))
