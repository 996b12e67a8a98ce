-- A party that has carried out its errand comes back with answers that its branches can give.
use Rattle.std.proofs.Common.{◌≡◌, ℕ, Bool, true, false, cond, List, [], ◌∷◌, None, Some, Option, map, refl, ap, sym, subst, ◌∙◌, ◌⊎◌, inl, inr}
use Rattle.std.specs.Prelude.{IfSome, is_none}
use Rattle.std.proofs.lemmas.Bool.{and_parts}
use Rattle.std.specs.Bool.{MatchBool}
use Rattle.std.specs.List.{list_all}
use Rattle.tip_agreement.specs.Truth.{is_uncalled}
use Rattle.tip_branch.specs.Errands.{IsAsked, IsCarriedOut, IsToldAbort, IsToldCommit, is_vote_of_no}
use Rattle.tip_branch.specs.Members.{aborting, committing, is_active, is_active_phase, is_no, is_ready, is_ready_phase, promised_answer, voting}
use Rattle.tip_branch.specs.Notes.{ComesBack, PartyNotes}
use Rattle.tip_branch.specs.Plans.{planned_vote}
use Rattle.tip_branch.specs.declared.branch.Phase.{Phase}
use Rattle.tip_branch.specs.declared.branch.Phase.TheVariants.{Active, Ready, Ended}
use Rattle.tip_branch.specs.declared.branch.Settled.{Settled}
use Rattle.tip_branch.specs.declared.branch.Settled.TheVariants as settled
use Rattle.tip_branch.specs.declared.branch.Vote.{Vote}
use Rattle.tip_branch.specs.declared.branch.Vote.TheVariants as vote
use Rattle.tip_branch.specs.declared.member.Call.{Call}
use Rattle.tip_branch.specs.declared.member.Errand.{Errand}
use Rattle.tip_branch.specs.declared.member.Errand.TheVariants as errand
use Rattle.tip_branch.specs.declared.member.Member.{Member}
use Rattle.tip_stored.specs.Errands.{was_done}
use Rattle.tip_machine.specs.Types.{Event}
use Rattle.tip_machine.specs.declared.event.Event.TheVariants as event
use Rattle.tip_machine.specs.Returns.{Back, aborted_if_ready, are_settlements, are_votes, can_answer, event_of, is_settled, is_vote, keeps, settled_by, voted_by}

-- nobody of these was called since the errand was given
abbrev are_uncalled : List Member → Bool
are_uncalled members = list_all (λ member. is_none member.call) members

-- Votes

vote_keeps : (o : Option Vote) (v : Vote) → IfSome o (λ w. v ≡ w) → keeps is_vote o v ≡ true
vote_keeps None v is = refl
vote_keeps (Some vote.Yes) v is = rw is refl
vote_keeps (Some vote.No) v is = rw is refl
vote_keeps (Some vote.ReadOnly) v is = rw is refl

-- these votes make these members of those
record HasVotes (ms ns : List Member) : Type 0 where
  votes : List Vote
  can : are_votes votes ms ≡ true
  are : ns ≡ voted_by votes ms

no_votes : (ms : List Member) → voted_by [] ms ≡ ms
no_votes [] = refl
no_votes (m ∷ ms) = refl

-- a member that is not active is left
pass : (m : Member) (ms ns : List Member) → is_active m ≡ false → HasVotes ms ns → HasVotes (m ∷ ms) (m ∷ ns)
pass m ms ns idle others = by others.votes others.can others.are where
  by : (votes : List Vote) → are_votes votes ms ≡ true → ns ≡ voted_by votes ms → HasVotes (m ∷ ms) (m ∷ ns)
  by [] can are = record { votes = []; can = rw (idle, can) refl; are = ap (λ l. m ∷ l) (are ∙ no_votes ms) }
  by (v ∷ votes) can are = record { votes = v ∷ votes; can = rw idle can; are = rw idle (ap (λ l. m ∷ l) are) }

-- after a member without a call the others go on
others_go_on : (e : Errand) (o : Option Call) (ms ns : List Member) → is_none o ≡ true → MatchBool (is_vote_of_no o) (ns ≡ ms) (IsCarriedOut e ms ns) → IsCarriedOut e ms ns
others_go_on e None ms ns none rest = rest
others_go_on e (Some call) ms ns none rest = absurd (cc)

voted : (ms ns : List Member) → are_uncalled ms ≡ true → IsCarriedOut errand.Vote ms ns → HasVotes ms ns
voted [] ns uncalled carried = record { votes = []; can = refl; are = carried }
voted (m ∷ ms) [] uncalled carried = absurd carried
voted (m ∷ ms) (n ∷ ns) uncalled carried = at (and_parts (is_none m.call) (are_uncalled ms) uncalled).0 (voted ms ns (and_parts (is_none m.call) (are_uncalled ms) uncalled).1) m.standing.phase refl carried.0 carried.1 where
  Next : Type 0
  Next = IsCarriedOut errand.Vote ms ns → HasVotes ms ns

  asked : Next → (v : Vote) → is_active m ≡ true → IfSome (planned_vote m.standing.badge.plan) (λ w. v ≡ w) → (b : Bool) → is_no v ≡ b → MatchBool b (ns ≡ ms) (IsCarriedOut errand.Vote ms ns) → HasVotes (m ∷ ms) (voting m v ∷ ns)
  asked next v active promise true refused rest = record { votes = v ∷ []; can = rw (active, refused, vote_keeps (planned_vote m.standing.badge.plan) v promise) refl; are = rw (active, refused) (ap (λ l. voting m v ∷ l) rest) }
  asked next v active promise false accepted rest =
      let others = next rest in
      record { votes = v ∷ others.votes; can = rw (active, accepted, vote_keeps (planned_vote m.standing.badge.plan) v promise) others.can; are = rw (active, accepted) (ap (λ l. voting m v ∷ l) others.are) }

  left : is_none m.call ≡ true → Next → is_active m ≡ false → n ≡ m → MatchBool (is_vote_of_no n.call) (ns ≡ ms) (IsCarriedOut errand.Vote ms ns) → HasVotes (m ∷ ms) (n ∷ ns)
  left none next idle same rest = subst (λ k. HasVotes (m ∷ ms) (k ∷ ns)) (sym same) (pass m ms ns idle (next (others_go_on errand.Vote m.call ms ns none (subst (λ k. MatchBool (is_vote_of_no k.call) (ns ≡ ms) (IsCarriedOut errand.Vote ms ns)) same rest))))

  at : is_none m.call ≡ true → Next → (f : Phase) → m.standing.phase ≡ f → IsAsked f m n → MatchBool (is_vote_of_no n.call) (ns ≡ ms) (IsCarriedOut errand.Vote ms ns) → HasVotes (m ∷ ms) (n ∷ ns)
  at none next Active is told rest = subst (λ k. HasVotes (m ∷ ms) (k ∷ ns)) (sym told.2) (asked next told.0 (ap is_active_phase is) told.1 (is_no told.0) refl (subst (λ k. MatchBool (is_vote_of_no k.call) (ns ≡ ms) (IsCarriedOut errand.Vote ms ns)) told.2 rest))
  at none next Ready is told rest = left none next (ap is_active_phase is) told rest
  at none next Ended is told rest = left none next (ap is_active_phase is) told rest

-- Commits

answer_keeps : (o : Option Settled) (s : Settled) → IfSome o (λ a. s ≡ a) → keeps is_settled o s ≡ true
answer_keeps None s is = refl
answer_keeps (Some settled.Done) s is = rw is refl
answer_keeps (Some settled.Later) s is = rw is refl

-- these answers make these members of those
record HasAnswers (ms ns : List Member) : Type 0 where
  answers : List Settled
  can : are_settlements answers ms ≡ true
  are : ns ≡ settled_by answers ms

no_answers : (ms : List Member) → settled_by [] ms ≡ ms
no_answers [] = refl
no_answers (m ∷ ms) = refl

pass_over : (m : Member) (ms ns : List Member) → is_ready m ≡ false → HasAnswers ms ns → HasAnswers (m ∷ ms) (m ∷ ns)
pass_over m ms ns idle others = by others.answers others.can others.are where
  by : (answers : List Settled) → are_settlements answers ms ≡ true → ns ≡ settled_by answers ms → HasAnswers (m ∷ ms) (m ∷ ns)
  by [] can are = record { answers = []; can = rw (idle, can) refl; are = ap (λ l. m ∷ l) (are ∙ no_answers ms) }
  by (s ∷ answers) can are = record { answers = s ∷ answers; can = rw idle can; are = rw idle (ap (λ l. m ∷ l) are) }

committed : (ms ns : List Member) → are_uncalled ms ≡ true → IsCarriedOut errand.Commit ms ns → HasAnswers ms ns
committed [] ns uncalled carried = record { answers = []; can = refl; are = carried }
committed (m ∷ ms) [] uncalled carried = absurd carried
committed (m ∷ ms) (n ∷ ns) uncalled carried = at (and_parts (is_none m.call) (are_uncalled ms) uncalled).0 (committed ms ns (and_parts (is_none m.call) (are_uncalled ms) uncalled).1) m.standing.phase refl carried.0 carried.1 where
  Next : Type 0
  Next = IsCarriedOut errand.Commit ms ns → HasAnswers ms ns

  left : is_none m.call ≡ true → Next → is_ready m ≡ false → n ≡ m → MatchBool (is_vote_of_no n.call) (ns ≡ ms) (IsCarriedOut errand.Commit ms ns) → HasAnswers (m ∷ ms) (n ∷ ns)
  left none next idle same rest = subst (λ k. HasAnswers (m ∷ ms) (k ∷ ns)) (sym same) (pass_over m ms ns idle (next (others_go_on errand.Commit m.call ms ns none (subst (λ k. MatchBool (is_vote_of_no k.call) (ns ≡ ms) (IsCarriedOut errand.Commit ms ns)) same rest))))

  at : is_none m.call ≡ true → Next → (f : Phase) → m.standing.phase ≡ f → IsToldCommit f m n → MatchBool (is_vote_of_no n.call) (ns ≡ ms) (IsCarriedOut errand.Commit ms ns) → HasAnswers (m ∷ ms) (n ∷ ns)
  at none next Active is told rest = left none next (ap is_ready_phase is) told rest
  at none next Ready is told rest =
      let others = next (subst (λ k. MatchBool (is_vote_of_no k.call) (ns ≡ ms) (IsCarriedOut errand.Commit ms ns)) told.2 rest) in
      subst (λ k. HasAnswers (m ∷ ms) (k ∷ ns)) (sym told.2) (record {
        answers = told.0 ∷ others.answers;
        can = rw (ap is_ready_phase is, answer_keeps (promised_answer m) told.0 told.1) others.can;
        are = rw (ap is_ready_phase is) (ap (λ l. committing m told.0 ∷ l) others.are);
      })
  at none next Ended is told rest = left none next (ap is_ready_phase is) told rest

-- Aborts

abort_told : (f : Phase) (m n : Member) → IsToldAbort f m n → n ≡ cond (is_ready_phase f) (aborting m) m
abort_told Active m n told = told
abort_told Ready m n told = told
abort_told Ended m n told = told

no_vote : (b : Bool) (m : Member) → is_none m.call ≡ true → is_vote_of_no (cond b (aborting m) m).call ≡ false
no_vote true m none = refl
no_vote false m none = by m.call none where
  by : (o : Option Call) → is_none o ≡ true → is_vote_of_no o ≡ false
  by None is = refl
  by (Some call) is = absurd (cc)

aborted : (ms ns : List Member) → are_uncalled ms ≡ true → IsCarriedOut errand.Abort ms ns → ns ≡ map aborted_if_ready ms
aborted [] ns uncalled carried = carried
aborted (m ∷ ms) [] uncalled carried = absurd carried
aborted (m ∷ ms) (n ∷ ns) uncalled carried =
    let here = and_parts (is_none m.call) (are_uncalled ms) uncalled in
    let told = abort_told m.standing.phase m n carried.0 in
    let rest = subst (λ b. MatchBool b (ns ≡ ms) (IsCarriedOut errand.Abort ms ns)) (ap (λ (k : Member). is_vote_of_no k.call) told ∙ no_vote (is_ready m) m here.0) carried.1 in
    ap (λ k. k ∷ ns) told ∙ ap (λ l. aborted_if_ready m ∷ l) (aborted ms ns here.1 rest)

-- The party as it comes back

abbrev Returns : PartyNotes → Event → Type 0
Returns party event = (back : Back) × (can_answer party.errand back party.members ≡ true) × (was_done party.errand back ≡ true) × (event ≡ event_of party back)

pub returns_voted : (party later : PartyNotes) → is_uncalled party ≡ true → party.errand ≡ errand.Vote → ComesBack party later → Returns party (event.Voted later)
returns_voted party later uncalled errand_is back =
    let votes = voted party.members later.members uncalled (subst (λ e. IsCarriedOut e party.members later.members) errand_is back.carried_out) in (
      Back.Votes votes.votes,
      rw errand_is votes.can,
      rw errand_is refl,
      ap event.Voted (back.rest ∙ ap (λ ms. record party { errand = errand.Idle; members = ms }) votes.are) ∙ rw errand_is refl,
    )

pub returns_settled : (party later : PartyNotes) → is_uncalled party ≡ true → (party.errand ≡ errand.Commit) ⊎ (party.errand ≡ errand.Abort) → ComesBack party later → Returns party (event.Settled later)
returns_settled party later uncalled (inl errand_is) back =
    let answers = committed party.members later.members uncalled (subst (λ e. IsCarriedOut e party.members later.members) errand_is back.carried_out) in (
      Back.Settlements answers.answers,
      rw errand_is answers.can,
      rw errand_is refl,
      ap event.Settled (back.rest ∙ ap (λ ms. record party { errand = errand.Idle; members = ms }) answers.are) ∙ rw errand_is refl,
    )
returns_settled party later uncalled (inr errand_is) back = (
  Back.Aborted,
  rw errand_is refl,
  rw errand_is refl,
  ap event.Settled (back.rest ∙ ap (λ ms. record party { errand = errand.Idle; members = ms }) (aborted party.members later.members uncalled (subst (λ e. IsCarriedOut e party.members later.members) errand_is back.carried_out))) ∙ rw errand_is refl,
)

-- one that has nothing to do comes back as it is
idle : (realm : List ℕ) (epoch : ℕ) (id : List ℕ) (e : Errand) (ms : List Member) → e ≡ errand.Idle → event.Settled (record { realm = realm; epoch = epoch; id = id; errand = e; members = ms }) ≡ event_of (record { realm = realm; epoch = epoch; id = id; errand = e; members = ms }) Back.Undone
idle realm epoch id e ms is = rw is refl

pub returns_idle : (party : PartyNotes) → party.errand ≡ errand.Idle → Returns party (event.Settled party)
returns_idle party errand_is = (Back.Undone, rw errand_is refl, rw errand_is refl, idle party.realm party.epoch party.id party.errand party.members errand_is)

pub ruleset answering = (returns_voted, returns_settled, returns_idle)
