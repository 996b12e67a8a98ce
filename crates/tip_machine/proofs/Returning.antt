-- A party that is computed from what its branches answer comes back as its errand leaves it.
use Rattle.std.proofs.Common.{◌≡◌, Bool, true, false, cond, List, [], ◌∷◌, suc, None, Some, Option, map, refl, ap, sym, subst, arith}
use Rattle.std.specs.Prelude.{◌&&◌, not, IfSome}
use Rattle.std.specs.Bool.{MatchBool}
use Rattle.std.specs.List.{All}
use Rattle.std.proofs.lemmas.Bool.{and_parts}
use Rattle.tip_branch.specs.Errands.{IsAsked, IsCarriedOut, IsToldAbort, IsToldCommit, is_vote_of_no}
use Rattle.tip_branch.specs.Members.{aborting, committing, is_active, is_active_phase, is_no, is_ready, is_ready_phase, promised_answer, voting}
use Rattle.tip_branch.specs.Notes.{ComesBack, PartyNotes}
use Rattle.tip_branch.specs.Plans.{planned_vote}
use Rattle.tip_branch.specs.declared.branch.Phase.{Phase}
use Rattle.tip_branch.specs.declared.branch.Phase.TheVariants.{Active, Ready, Ended}
use Rattle.tip_branch.specs.declared.branch.Settled.{Settled}
use Rattle.tip_branch.specs.declared.branch.Settled.TheVariants as settled
use Rattle.tip_branch.specs.declared.branch.Vote.{Vote}
use Rattle.tip_branch.specs.declared.branch.Vote.TheVariants as vote
use Rattle.tip_branch.specs.declared.member.Errand.{Errand}
use Rattle.tip_branch.specs.declared.member.Errand.TheVariants as errand
use Rattle.tip_branch.specs.declared.member.Member.{Member}
use Rattle.tip_machine.specs.Returns.{Back, aborted_if_ready, are_settlements, are_votes, back_of, called, can_answer, is_done, is_nil, is_settled, is_vote, keeps, settled_by, voted_by}

-- nobody was called so far
abbrev Untold : List Member → Type 0
Untold members = All (λ m. m.call ≡ None) members

first : (m : Member) (ms : List Member) → Untold (m ∷ ms) → m.call ≡ None
first m ms untold = untold 0 m (omega arith)

rest : (m : Member) (ms : List Member) → Untold (m ∷ ms) → Untold ms
rest m ms untold k d lt = untold (suc k) d (omega arith)

-- a member that is left as it is, with what is made of the others
left : (e : Errand) (m : Member) (ms ns : List Member) → m.call ≡ None → IsCarriedOut e ms ns → MatchBool (is_vote_of_no m.call) (ns ≡ ms) (IsCarriedOut e ms ns)
left e m ms ns none others = subst (λ c. MatchBool (is_vote_of_no c) (ns ≡ ms) (IsCarriedOut e ms ns)) (sym none) others

not_asked : (f : Phase) (m : Member) → is_active_phase f ≡ false → IsAsked f m m
not_asked Active m is = absurd (cc)
not_asked Ready m is = refl
not_asked Ended m is = refl

vote_kept : (o : Option Vote) (v : Vote) → keeps is_vote o v ≡ true → IfSome o (λ w. v ≡ w)
vote_kept None v is = tt
vote_kept (Some vote.Yes) vote.Yes is = refl
vote_kept (Some vote.No) vote.No is = refl
vote_kept (Some vote.ReadOnly) vote.ReadOnly is = refl
vote_kept (Some vote.Yes) vote.No is = absurd (cc)
vote_kept (Some vote.Yes) vote.ReadOnly is = absurd (cc)
vote_kept (Some vote.No) vote.Yes is = absurd (cc)
vote_kept (Some vote.No) vote.ReadOnly is = absurd (cc)
vote_kept (Some vote.ReadOnly) vote.Yes is = absurd (cc)
vote_kept (Some vote.ReadOnly) vote.No is = absurd (cc)

asked : (f : Phase) (m : Member) (v : Vote) → is_active_phase f ≡ true → keeps is_vote (planned_vote m.standing.badge.plan) v ≡ true → IsAsked f m (voting m v)
asked Active m v is kept = (v, vote_kept (planned_vote m.standing.badge.plan) v kept, refl)
asked Ready m v is kept = absurd (cc)
asked Ended m v is kept = absurd (cc)

voted_none : (ms : List Member) → voted_by [] ms ≡ ms
voted_none [] = refl
voted_none (m ∷ ms) = refl

settled_none : (ms : List Member) → settled_by [] ms ≡ ms
settled_none [] = refl
settled_none (m ∷ ms) = refl

not_true : (b : Bool) → not b ≡ true → b ≡ false
not_true true is = absurd (cc)
not_true false is = refl

voted_carried : (votes : List Vote) (ms : List Member) → Untold ms → are_votes votes ms ≡ true → IsCarriedOut errand.Vote ms (voted_by votes ms)
voted_carried votes [] untold can = refl
voted_carried [] (m ∷ ms) untold can =
    let both = and_parts (not (is_active m)) (are_votes [] ms) can in
    let others : IsCarriedOut errand.Vote ms ms = subst (IsCarriedOut errand.Vote ms) (voted_none ms) (voted_carried [] ms (rest m ms untold) both.1) in
    (not_asked m.standing.phase m (not_true (is_active m) both.0), left errand.Vote m ms ms (first m ms untold) others)
voted_carried (v ∷ votes) (m ∷ ms) untold can =
    step (is_active m) refl can (voted_carried votes ms (rest m ms untold)) (voted_carried (v ∷ votes) ms (rest m ms untold)) where
      after : (c : Bool) → cond c (is_nil votes) (are_votes votes ms) ≡ true → (are_votes votes ms ≡ true → IsCarriedOut errand.Vote ms (voted_by votes ms)) → MatchBool c (cond c ms (voted_by votes ms) ≡ ms) (IsCarriedOut errand.Vote ms (cond c ms (voted_by votes ms)))
      after true can next = refl
      after false can next = next can

      step : (b : Bool) → is_active m ≡ b → cond b (keeps is_vote (planned_vote m.standing.badge.plan) v && cond (is_no v) (is_nil votes) (are_votes votes ms)) (are_votes (v ∷ votes) ms) ≡ true → (are_votes votes ms ≡ true → IsCarriedOut errand.Vote ms (voted_by votes ms)) → (are_votes (v ∷ votes) ms ≡ true → IsCarriedOut errand.Vote ms (voted_by (v ∷ votes) ms)) → IsCarriedOut errand.Vote (m ∷ ms) (cond b (voting m v ∷ cond (is_no v) ms (voted_by votes ms)) (m ∷ voted_by (v ∷ votes) ms))
      step true is can next same =
          let both = and_parts (keeps is_vote (planned_vote m.standing.badge.plan) v) (cond (is_no v) (is_nil votes) (are_votes votes ms)) can in
          (asked m.standing.phase m v is both.0, after (is_no v) both.1 next)
      step false is can next same = (not_asked m.standing.phase m is, left errand.Vote m ms (voted_by (v ∷ votes) ms) (first m ms untold) (same can))

not_told : (f : Phase) (m : Member) → is_ready_phase f ≡ false → IsToldCommit f m m
not_told Active m is = refl
not_told Ready m is = absurd (cc)
not_told Ended m is = refl

answer_kept : (o : Option Settled) (s : Settled) → keeps is_settled o s ≡ true → IfSome o (λ a. s ≡ a)
answer_kept None s is = tt
answer_kept (Some settled.Done) settled.Done is = refl
answer_kept (Some settled.Later) settled.Later is = refl
answer_kept (Some settled.Done) settled.Later is = absurd (cc)
answer_kept (Some settled.Later) settled.Done is = absurd (cc)

told : (f : Phase) (m : Member) (s : Settled) → is_ready_phase f ≡ true → keeps is_settled (promised_answer m) s ≡ true → IsToldCommit f m (committing m s)
told Active m s is kept = absurd (cc)
told Ready m s is kept = (s, answer_kept (promised_answer m) s kept, refl)
told Ended m s is kept = absurd (cc)

settled_carried : (answers : List Settled) (ms : List Member) → Untold ms → are_settlements answers ms ≡ true → IsCarriedOut errand.Commit ms (settled_by answers ms)
settled_carried answers [] untold can = refl
settled_carried [] (m ∷ ms) untold can =
    let both = and_parts (not (is_ready m)) (are_settlements [] ms) can in
    let others : IsCarriedOut errand.Commit ms ms = subst (IsCarriedOut errand.Commit ms) (settled_none ms) (settled_carried [] ms (rest m ms untold) both.1) in
    (not_told m.standing.phase m (not_true (is_ready m) both.0), left errand.Commit m ms ms (first m ms untold) others)
settled_carried (s ∷ answers) (m ∷ ms) untold can =
    step (is_ready m) refl can (settled_carried answers ms (rest m ms untold)) (settled_carried (s ∷ answers) ms (rest m ms untold)) where
      step : (b : Bool) → is_ready m ≡ b → cond b (keeps is_settled (promised_answer m) s && are_settlements answers ms) (are_settlements (s ∷ answers) ms) ≡ true → (are_settlements answers ms ≡ true → IsCarriedOut errand.Commit ms (settled_by answers ms)) → (are_settlements (s ∷ answers) ms ≡ true → IsCarriedOut errand.Commit ms (settled_by (s ∷ answers) ms)) → IsCarriedOut errand.Commit (m ∷ ms) (cond b (committing m s ∷ settled_by answers ms) (m ∷ settled_by (s ∷ answers) ms))
      step true is can next same =
          let both = and_parts (keeps is_settled (promised_answer m) s) (are_settlements answers ms) can in
          (told m.standing.phase m s is both.0, next both.1)
      step false is can next same = (not_told m.standing.phase m is, left errand.Commit m ms (settled_by (s ∷ answers) ms) (first m ms untold) (same can))

told_abort : (f : Phase) (m : Member) → IsToldAbort f m (cond (is_ready_phase f) (aborting m) m)
told_abort Active m = refl
told_abort Ready m = refl
told_abort Ended m = refl

no_vote : (b : Bool) (m : Member) → m.call ≡ None → is_vote_of_no (cond b (aborting m) m).call ≡ false
no_vote true m none = refl
no_vote false m none = ap is_vote_of_no none

aborted_carried : (ms : List Member) → Untold ms → IsCarriedOut errand.Abort ms (map aborted_if_ready ms)
aborted_carried [] untold = refl
aborted_carried (m ∷ ms) untold =
    let ns = map aborted_if_ready ms in
    (told_abort m.standing.phase m, subst (λ c. MatchBool c (ns ≡ ms) (IsCarriedOut errand.Abort ms ns)) (sym (no_vote (is_ready m) m (first m ms untold))) (aborted_carried ms (rest m ms untold)))

carried : (e : Errand) (back : Back) (ms : List Member) → Untold ms → can_answer e back ms ≡ true → is_done back ≡ true → IsCarriedOut e ms (called e back ms)
carried errand.Vote (Back.Votes votes) ms untold can done = voted_carried votes ms untold can
carried errand.Commit (Back.Settlements answers) ms untold can done = settled_carried answers ms untold can
carried errand.Abort Back.Aborted ms untold can done = aborted_carried ms untold
carried e Back.Undone ms untold can done = absurd (cc)
carried errand.Idle (Back.Votes votes) ms untold can done = absurd (cc)
carried errand.Idle (Back.Settlements answers) ms untold can done = absurd (cc)
carried errand.Idle Back.Aborted ms untold can done = absurd (cc)
carried errand.Vote (Back.Settlements answers) ms untold can done = absurd (cc)
carried errand.Vote Back.Aborted ms untold can done = absurd (cc)
carried errand.Commit (Back.Votes votes) ms untold can done = absurd (cc)
carried errand.Commit Back.Aborted ms untold can done = absurd (cc)
carried errand.Abort (Back.Votes votes) ms untold can done = absurd (cc)
carried errand.Abort (Back.Settlements answers) ms untold can done = absurd (cc)

pub comes_back : (party : PartyNotes) (back : Back) → All (λ m. m.call ≡ None) party.members → can_answer party.errand back party.members ≡ true → is_done back ≡ true → ComesBack party (back_of party back)
comes_back party back untold can done = record { carried_out = carried party.errand back party.members untold can done; rest = refl }
