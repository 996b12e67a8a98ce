-- What a party answers whose branches have promised it.
use Rattle.std.proofs.Common.{◌≡◌, Bool, true, false, cond, List, [], ◌∷◌, Option, Some, None, refl, ap, sym, ◌∙◌}
use Rattle.std.specs.Prelude.{◌==◌, ◌&&◌, ◌||◌, not, is_some, unwrap_or, if◌then◌else◌}
use Rattle.std.specs.List.{list_all}
use Rattle.std.proofs.lemmas.Bool.{and_parts}
use Rattle.tip_branch.specs.Members.{is_active, is_late, is_no, is_ready, promised_answer}
use Rattle.tip_branch.specs.Notes.{PartyNotes}
use Rattle.tip_branch.specs.Plans.{planned_vote}
use Rattle.tip_branch.specs.declared.branch.Settled.{Settled}
use Rattle.tip_branch.specs.declared.branch.Settled.TheVariants as settled
use Rattle.tip_branch.specs.declared.branch.Vote.{Vote}
use Rattle.tip_branch.specs.declared.branch.Vote.TheVariants as vote
use Rattle.tip_branch.specs.declared.member.Errand.{Errand}
use Rattle.tip_branch.specs.declared.member.Errand.TheVariants as errand
use Rattle.tip_branch.specs.declared.member.Member.{Member}
use Rattle.tip_stored.specs.Errands.{was_done}
use Rattle.tip_machine.specs.Returns.{Back, are_settlements, are_votes, can_answer, event_of, is_nil, is_settled, is_vote, keeps}
use Rattle.tip_machine.specs.Types.{Event}
use Rattle.tip_actor.specs.Promises.{answers_of, answers_to, are_foretold, is_promised, planned, settlements_of, vote_of, votes_of}

-- Votes

nil_is : {T : Type 0} (xs : List T) → is_nil xs ≡ true → xs ≡ []
nil_is [] is = refl
nil_is (x ∷ xs) is = absurd (cc)

same_vote : (o : Option Vote) (v : Vote) → is_some o ≡ true → keeps is_vote o v ≡ true → v ≡ unwrap_or o vote.Yes
same_vote None v some kept = absurd (cc)
same_vote (Some vote.Yes) vote.Yes some kept = refl
same_vote (Some vote.Yes) vote.No some kept = absurd (cc)
same_vote (Some vote.Yes) vote.ReadOnly some kept = absurd (cc)
same_vote (Some vote.No) vote.Yes some kept = absurd (cc)
same_vote (Some vote.No) vote.No some kept = refl
same_vote (Some vote.No) vote.ReadOnly some kept = absurd (cc)
same_vote (Some vote.ReadOnly) vote.Yes some kept = absurd (cc)
same_vote (Some vote.ReadOnly) vote.No some kept = absurd (cc)
same_vote (Some vote.ReadOnly) vote.ReadOnly some kept = refl

votes_are : (votes : List Vote) (ms : List Member) → list_all (is_promised errand.Vote) ms ≡ true → are_votes votes ms ≡ true → votes ≡ votes_of ms
votes_are votes [] promised can = nil_is votes can
votes_are [] (m ∷ ms) promised can = at (is_active m) refl can (votes_are [] ms (and_parts (is_promised errand.Vote m) (list_all (is_promised errand.Vote) ms) promised).1) where
  at : (b : Bool) → is_active m ≡ b → not b && are_votes [] ms ≡ true → (are_votes [] ms ≡ true → [] ≡ votes_of ms) → [] ≡ cond b (vote_of m ∷ cond (is_no (vote_of m)) [] (votes_of ms)) (votes_of ms)
  at true is can next = absurd (cc)
  at false is can next = next can
votes_are (v ∷ votes) (m ∷ ms) promised can =
    let here = and_parts (is_promised errand.Vote m) (list_all (is_promised errand.Vote) ms) promised in
    at (is_active m) here.0 can (votes_are votes ms here.1) (votes_are (v ∷ votes) ms here.1) where
      after : (b : Bool) → cond b (is_nil votes) (are_votes votes ms) ≡ true → (are_votes votes ms ≡ true → votes ≡ votes_of ms) → votes ≡ cond b [] (votes_of ms)
      after true can next = nil_is votes can
      after false can next = next can

      at : (b : Bool) → is_promised errand.Vote m ≡ true → cond b (keeps is_vote (planned_vote m.standing.badge.plan) v && cond (is_no v) (is_nil votes) (are_votes votes ms)) (are_votes (v ∷ votes) ms) ≡ true → (are_votes votes ms ≡ true → votes ≡ votes_of ms) → (are_votes (v ∷ votes) ms ≡ true → v ∷ votes ≡ votes_of ms) → v ∷ votes ≡ cond b (vote_of m ∷ cond (is_no (vote_of m)) [] (votes_of ms)) (votes_of ms)
      at true promise can next same =
          let both = and_parts (keeps is_vote (planned_vote m.standing.badge.plan) v) (cond (is_no v) (is_nil votes) (are_votes votes ms)) can in
          let is = same_vote (planned_vote m.standing.badge.plan) v promise both.0 in
          ap (λ w. w ∷ votes) is ∙ ap (λ l. vote_of m ∷ l) (after (is_no v) both.1 next ∙ ap (λ w. cond (is_no w) [] (votes_of ms)) is)
      at false promise can next same = same can

-- Answers to a commit

same_answer : (o : Option Settled) (s : Settled) → is_some o ≡ true → keeps is_settled o s ≡ true → s ≡ unwrap_or o settled.Done
same_answer None s some kept = absurd (cc)
same_answer (Some settled.Done) settled.Done some kept = refl
same_answer (Some settled.Done) settled.Later some kept = absurd (cc)
same_answer (Some settled.Later) settled.Done some kept = absurd (cc)
same_answer (Some settled.Later) settled.Later some kept = refl

and_false : (b : Bool) → b && false ≡ false
and_false true = refl
and_false false = refl

-- a branch that has voted here, or is not late, promises what it plans
promise_is : (m : Member) (late : Bool) (voted : Option Vote) → is_late m.standing.badge.plan ≡ late → m.vote ≡ voted → not late || is_some voted ≡ true → promised_answer m ≡ planned m
promise_is m false voted late_is voted_is surely = rw late_is refl
promise_is m true (Some v) late_is voted_is surely = rw (late_is, voted_is, and_false (m.standing.told.commits == 0)) refl
promise_is m true None late_is voted_is surely = absurd (cc)

settlements_are : (answers : List Settled) (ms : List Member) → list_all (is_promised errand.Commit) ms ≡ true → are_settlements answers ms ≡ true → answers ≡ settlements_of ms
settlements_are answers [] promised can = nil_is answers can
settlements_are [] (m ∷ ms) promised can = at (is_ready m) can (settlements_are [] ms (and_parts (is_promised errand.Commit m) (list_all (is_promised errand.Commit) ms) promised).1) where
  at : (b : Bool) → not b && are_settlements [] ms ≡ true → (are_settlements [] ms ≡ true → [] ≡ settlements_of ms) → [] ≡ cond b (unwrap_or (planned m) settled.Done ∷ settlements_of ms) (settlements_of ms)
  at true can next = absurd (cc)
  at false can next = next can
settlements_are (s ∷ answers) (m ∷ ms) promised can =
    let here = and_parts (is_promised errand.Commit m) (list_all (is_promised errand.Commit) ms) promised in
    let surely = and_parts (is_some (planned m)) (not (is_late m.standing.badge.plan) || is_some m.vote) here.0 in
    at (is_ready m) surely.0 (promise_is m (is_late m.standing.badge.plan) m.vote refl refl surely.1) can (settlements_are answers ms here.1) (settlements_are (s ∷ answers) ms here.1) where
      at : (b : Bool) → is_some (planned m) ≡ true → promised_answer m ≡ planned m → cond b (keeps is_settled (promised_answer m) s && are_settlements answers ms) (are_settlements (s ∷ answers) ms) ≡ true → (are_settlements answers ms ≡ true → answers ≡ settlements_of ms) → (are_settlements (s ∷ answers) ms ≡ true → s ∷ answers ≡ settlements_of ms) → s ∷ answers ≡ cond b (unwrap_or (planned m) settled.Done ∷ settlements_of ms) (settlements_of ms)
      at true some promise can next same =
          let both = and_parts (keeps is_settled (promised_answer m) s) (are_settlements answers ms) can in
          ap (λ w. w ∷ answers) (same_answer (planned m) s some (ap (λ o. keeps is_settled o s) (sym promise) ∙ both.0)) ∙ ap (λ l. unwrap_or (planned m) settled.Done ∷ l) (next both.1)
      at false some promise can next same = same can

-- The party

answers_are : (e : Errand) (back : Back) (ms : List Member) → list_all (is_promised e) ms ≡ true → can_answer e back ms ≡ true → was_done e back ≡ true → back ≡ answers_to e ms
answers_are errand.Vote (Back.Votes votes) ms promised can called = ap Back.Votes (votes_are votes ms promised can)
answers_are errand.Vote (Back.Settlements answers) ms promised can called = absurd (cc)
answers_are errand.Vote Back.Aborted ms promised can called = absurd (cc)
answers_are errand.Vote Back.Undone ms promised can called = absurd (cc)
answers_are errand.Commit (Back.Votes votes) ms promised can called = absurd (cc)
answers_are errand.Commit (Back.Settlements answers) ms promised can called = ap Back.Settlements (settlements_are answers ms promised can)
answers_are errand.Commit Back.Aborted ms promised can called = absurd (cc)
answers_are errand.Commit Back.Undone ms promised can called = absurd (cc)
answers_are errand.Abort (Back.Votes votes) ms promised can called = absurd (cc)
answers_are errand.Abort (Back.Settlements answers) ms promised can called = absurd (cc)
answers_are errand.Abort Back.Aborted ms promised can called = refl
answers_are errand.Abort Back.Undone ms promised can called = absurd (cc)
answers_are errand.Idle (Back.Votes votes) ms promised can called = absurd (cc)
answers_are errand.Idle (Back.Settlements answers) ms promised can called = absurd (cc)
answers_are errand.Idle Back.Aborted ms promised can called = absurd (cc)
answers_are errand.Idle Back.Undone ms promised can called = refl

pub foretells : (party : PartyNotes) (event : Event) → are_foretold party ≡ true → ((back : Back) × (can_answer party.errand back party.members ≡ true) × (was_done party.errand back ≡ true) × (event ≡ event_of party back)) → Some event ≡ (if are_foretold party then Some (event_of party (answers_of party)) else None)
foretells party event told back =
    rw told (ap Some (back.3 ∙ ap (event_of party) (answers_are party.errand back.0 party.members told back.1 back.2)))

pub foretells_nothing : (party : PartyNotes) → are_foretold party ≡ false → None ≡ (if are_foretold party then Some (event_of party (answers_of party)) else None)
foretells_nothing party told = rw told refl

pub ruleset foretelling = (foretells, foretells_nothing)
