-- What the branches of a script answer, branches can answer.
use Rattle.std.proofs.Common.{◌≡◌, Bool, true, false, cond, List, [], ◌∷◌, Option, Some, None, refl}
use Rattle.std.specs.Prelude.{unwrap_or}
use Rattle.std.proofs.lemmas.Bool.{and_from}
use Rattle.tip_branch.specs.Members.{is_active, is_no, is_ready, promised_answer}
use Rattle.tip_branch.specs.Notes.{PartyNotes}
use Rattle.tip_branch.specs.Plans.{planned_vote}
use Rattle.tip_branch.specs.declared.branch.Settled.{Settled}
use Rattle.tip_branch.specs.declared.branch.Settled.TheVariants as settled
use Rattle.tip_branch.specs.declared.branch.Vote.{Vote}
use Rattle.tip_branch.specs.declared.branch.Vote.TheVariants as vote
use Rattle.tip_branch.specs.declared.member.Errand.{Errand}
use Rattle.tip_branch.specs.declared.member.Errand.TheVariants as errand
use Rattle.tip_branch.specs.declared.member.Member.{Member}
use Rattle.tip_machine.specs.Returns.{are_settlements, are_votes, can_answer, is_nil, is_settled, is_vote, keeps}
use Rattle.tip_actor.specs.Promises.{answers_of, answers_to, planned, settlements_of, vote_of, votes_of}

-- Votes

keeps_vote : (o : Option Vote) → keeps is_vote o (unwrap_or o vote.Yes) ≡ true
keeps_vote None = refl
keeps_vote (Some vote.Yes) = refl
keeps_vote (Some vote.No) = refl
keeps_vote (Some vote.ReadOnly) = refl

skipped : (votes : List Vote) (m : Member) (ms : List Member) → is_active m ≡ false → are_votes votes ms ≡ true → are_votes votes (m ∷ ms) ≡ true
skipped [] m ms ended can = rw ended can
skipped (v ∷ votes) m ms ended can = rw ended can

votes_can : (ms : List Member) → are_votes (votes_of ms) ms ≡ true
votes_can [] = refl
votes_can (m ∷ ms) = at (is_active m) refl (votes_can ms) where
  behind : (no : Bool) → are_votes (votes_of ms) ms ≡ true → cond no (is_nil (cond no [] (votes_of ms))) (are_votes (cond no [] (votes_of ms)) ms) ≡ true
  behind true can = refl
  behind false can = can

  at : (b : Bool) → is_active m ≡ b → are_votes (votes_of ms) ms ≡ true → are_votes (cond b (vote_of m ∷ cond (is_no (vote_of m)) [] (votes_of ms)) (votes_of ms)) (m ∷ ms) ≡ true
  at true active can = rw active (and_from (keeps is_vote (planned_vote m.standing.badge.plan) (vote_of m)) _ (keeps_vote (planned_vote m.standing.badge.plan)) (behind (is_no (vote_of m)) can))
  at false ended can = skipped (votes_of ms) m ms ended can

-- Answers to a commit

keeps_answer : (unasked : Bool) (o : Option Settled) → keeps is_settled (cond unasked None o) (unwrap_or o settled.Done) ≡ true
keeps_answer true o = refl
keeps_answer false None = refl
keeps_answer false (Some settled.Done) = refl
keeps_answer false (Some settled.Later) = refl

untold : (answers : List Settled) (m : Member) (ms : List Member) → is_ready m ≡ false → are_settlements answers ms ≡ true → are_settlements answers (m ∷ ms) ≡ true
untold [] m ms ended can = rw ended can
untold (s ∷ answers) m ms ended can = rw ended can

settlements_can : (ms : List Member) → are_settlements (settlements_of ms) ms ≡ true
settlements_can [] = refl
settlements_can (m ∷ ms) = at (is_ready m) refl (settlements_can ms) where
  at : (b : Bool) → is_ready m ≡ b → are_settlements (settlements_of ms) ms ≡ true → are_settlements (cond b (unwrap_or (planned m) settled.Done ∷ settlements_of ms) (settlements_of ms)) (m ∷ ms) ≡ true
  at true ready can = rw ready (and_from (keeps is_settled (promised_answer m) (unwrap_or (planned m) settled.Done)) _ (keeps_answer _ (planned m)) can)
  at false ended can = untold (settlements_of ms) m ms ended can

-- The party

answers_can : (e : Errand) (ms : List Member) → can_answer e (answers_to e ms) ms ≡ true
answers_can errand.Vote ms = votes_can ms
answers_can errand.Commit ms = settlements_can ms
answers_can errand.Abort ms = refl
answers_can errand.Idle ms = refl

pub can_be_answered : (party : PartyNotes) → can_answer party.errand (answers_of party) party.members ≡ true
can_be_answered party = answers_can party.errand party.members
