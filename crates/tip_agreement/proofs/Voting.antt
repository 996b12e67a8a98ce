-- What a party answers once its branches were called, and what is left of them.
use Rattle.std.proofs.Common.{◌≡◌, Bool, true, false, List, [], ◌∷◌, Option, Some, None, cond, refl, subst, sym, ◌∙◌}
use Rattle.std.specs.Prelude.{◌||◌, map, filter, is_none, is_some}
use Rattle.std.specs.List.{list_all, list_any}
use Rattle.std.proofs.lemmas.Bool.{and_from, and_parts, both_ways, or_from, or_parts}
use Rattle.tip_branch.specs.Members.{committing, is_active, is_no, is_ready, voting}
use Rattle.tip_branch.specs.Notes.{PartyNotes}
use Rattle.tip_branch.specs.Votes.{ballot}
use Rattle.tip_branch.specs.declared.branch.Phase.{Phase}
use Rattle.tip_branch.specs.declared.branch.Phase.TheVariants.{Active, Ready, Ended}
use Rattle.tip_branch.specs.declared.branch.Settled.{Settled}
use Rattle.tip_branch.specs.declared.branch.Settled.TheVariants.{Done, Later}
use Rattle.tip_branch.specs.declared.branch.Vote.{Vote}
use Rattle.tip_branch.specs.declared.branch.Vote.TheVariants as vote
use Rattle.tip_branch.specs.declared.member.Errand.TheVariants as errand
use Rattle.tip_branch.specs.declared.member.Member.{Member}
use Rattle.tip_txn.specs.Parts.{is_yes}
use Rattle.tip_txn.specs.declared.answer.Ballot.{Ballot}
use Rattle.tip_machine.specs.Invariants.Parties.{is_unasked}
use Rattle.tip_machine.specs.Returns.{Back, back_of, called, settled_by, voted_by}
use Rattle.tip_machine.specs.Transactions.{party_answer, refuses}
use Rattle.tip_machine.specs.declared.transaction.PartyPlace.TheVariants.{Here}
use Rattle.tip_agreement.proofs.Proceeding.{may_ask_party}

-- A member that voted is ready exactly where it voted yes
abbrev fits_vote : Phase → Option Vote → Bool
fits_vote Active vote = true
fits_vote Ready (Some vote.Yes) = true
fits_vote Ended (Some vote.No) = true
fits_vote Ended (Some vote.ReadOnly) = true
fits_vote phase vote = false

abbrev has_voted : Member → Bool
has_voted m = fits_vote m.standing.phase m.vote

-- Votes

unasked_fits : (ms : List Member) → list_all is_unasked ms ≡ true → list_all has_voted ms ≡ true
unasked_fits [] all = refl
unasked_fits (m ∷ ms) all = let parts = and_parts (is_unasked m) (list_all is_unasked ms) all in and_from _ _ (step m.standing.phase (and_parts (is_active m) (is_none m.vote) parts.0).0) (unasked_fits ms parts.1) where
  step : (phase : Phase) → is_active (record m { standing = record m.standing { phase = phase } }) ≡ true → fits_vote phase m.vote ≡ true
  step Active is = refl
  step Ready is = absurd (cc)
  step Ended is = absurd (cc)

voting_fits : (m : Member) (v : Vote) → has_voted (voting m v) ≡ true
voting_fits m vote.Yes = refl
voting_fits m vote.No = refl
voting_fits m vote.ReadOnly = refl

voted_fits : (votes : List Vote) (ms : List Member) → list_all is_unasked ms ≡ true → list_all has_voted (voted_by votes ms) ≡ true
voted_fits votes [] all = refl
voted_fits [] (m ∷ ms) all = unasked_fits (m ∷ ms) all
voted_fits (v ∷ votes) (m ∷ ms) all =
    let parts = and_parts (is_unasked m) (list_all is_unasked ms) all in
    step (is_active m) (is_no v) (and_parts (is_active m) (is_none m.vote) parts.0).0 (voted_fits votes ms parts.1) (unasked_fits ms parts.1) where
      step : (a b : Bool) → a ≡ true → list_all has_voted (voted_by votes ms) ≡ true → list_all has_voted ms ≡ true → list_all has_voted (cond a (voting m v ∷ cond b ms (voted_by votes ms)) (m ∷ voted_by (v ∷ votes) ms)) ≡ true
      step true true is rest left = and_from _ _ (voting_fits m v) left
      step true false is rest left = and_from _ _ (voting_fits m v) rest
      step false b is rest left = absurd (cc)

called_fits : (back : Back) (ms : List Member) → list_all is_unasked ms ≡ true → list_all has_voted (called errand.Vote back ms) ≡ true
called_fits (Back.Votes votes) ms all = voted_fits votes ms all
called_fits (Back.Settlements answers) ms all = unasked_fits ms all
called_fits Back.Aborted ms all = unasked_fits ms all
called_fits Back.Undone ms all = unasked_fits ms all

-- Ballots

abbrev said : List Member → List (Option Ballot)
said ms = filter is_some (map ballot ms)

-- one left active refuses
active_refuses : (ms : List Member) → list_any is_active ms ≡ true → list_any refuses (said ms) ≡ true
active_refuses [] is = absurd (cc)
active_refuses (m ∷ ms) is = step (is_active m) refl is (active_refuses ms) where
  step : (b : Bool) → is_active m ≡ b → b || list_any is_active ms ≡ true → (list_any is_active ms ≡ true → list_any refuses (said ms) ≡ true) → list_any refuses (said (m ∷ ms)) ≡ true
  step true active is later = rw active refl
  step false settled is later = more (ballot m) (later is) where
    more : (b : Option Ballot) → list_any refuses (said ms) ≡ true → list_any refuses (filter is_some (b ∷ map ballot ms)) ≡ true
    more None is = is
    more (Some ballot) is = or_second (refuses (Some ballot)) is where
      or_second : (b : Bool) → list_any refuses (said ms) ≡ true → b || list_any refuses (said ms) ≡ true
      or_second true is = refl
      or_second false is = is

-- who said yes is ready, and nobody else
ready_said : (ms : List Member) → list_any is_active ms ≡ false → list_all has_voted ms ≡ true → list_any is_yes (said ms) ≡ list_any is_ready ms
ready_said [] settled all = refl
ready_said (m ∷ ms) settled all =
    let none = or_parts (is_active m) (list_any is_active ms) settled in
    let parts = and_parts (has_voted m) (list_all has_voted ms) all in
    step m.standing.phase m.vote refl refl none.0 parts.0 (ready_said ms none.1 parts.1) where
      step : (phase : Phase) (v : Option Vote) → m.standing.phase ≡ phase → m.vote ≡ v → is_active m ≡ false → fits_vote m.standing.phase m.vote ≡ true → list_any is_yes (said ms) ≡ list_any is_ready ms → list_any is_yes (said (m ∷ ms)) ≡ list_any is_ready (m ∷ ms)
      step Ready (Some vote.Yes) at v settled fits rest = rw (at, v) refl
      step Ended (Some vote.No) at v settled fits rest = rw (at, v) rest
      step Ended (Some vote.ReadOnly) at v settled fits rest = rw (at, v) rest
      step Active v at is settled fits rest = absurd (let e : is_active m ≡ true = rw at refl in both_ways (is_active m) settled e)
      step Ready None at is settled fits rest = absurd (let e : false ≡ true = subst (λ v. fits_vote Ready v ≡ true) is (subst (λ p. fits_vote p m.vote ≡ true) at fits) in cc)
      step Ready (Some vote.No) at is settled fits rest = absurd (let e : false ≡ true = subst (λ v. fits_vote Ready v ≡ true) is (subst (λ p. fits_vote p m.vote ≡ true) at fits) in cc)
      step Ready (Some vote.ReadOnly) at is settled fits rest = absurd (let e : false ≡ true = subst (λ v. fits_vote Ready v ≡ true) is (subst (λ p. fits_vote p m.vote ≡ true) at fits) in cc)
      step Ended None at is settled fits rest = absurd (let e : false ≡ true = subst (λ v. fits_vote Ended v ≡ true) is (subst (λ p. fits_vote p m.vote ≡ true) at fits) in cc)
      step Ended (Some vote.Yes) at is settled fits rest = absurd (let e : false ≡ true = subst (λ v. fits_vote Ended v ≡ true) is (subst (λ p. fits_vote p m.vote ≡ true) at fits) in cc)

none_missing : (answers : List (Option Ballot)) → list_any is_none (filter is_some answers) ≡ false
none_missing [] = refl
none_missing (None ∷ answers) = none_missing answers
none_missing (Some ballot ∷ answers) = none_missing answers

-- the answer is a yes exactly where a branch waits for the outcome, and a no where one is left active
answers_so : (p : PartyNotes) → list_all has_voted p.members ≡ true → may_ask_party (Here p) (Some (party_answer p)) ≡ true
answers_so p all = step (list_any refuses (said p.members)) (list_any is_yes (said p.members)) (list_any is_active p.members) (list_any is_ready p.members) refl refl refl refl (none_missing (map ballot p.members)) where
  active_no : list_any refuses (said p.members) ≡ false → list_any is_active p.members ≡ true → ⊥
  active_no none active = both_ways (list_any refuses (said p.members)) none (active_refuses p.members active)

  step : (a b c d : Bool) → list_any refuses (said p.members) ≡ a → list_any is_yes (said p.members) ≡ b → list_any is_active p.members ≡ c → list_any is_ready p.members ≡ d → list_any is_none (said p.members) ≡ false → may_ask_party (Here p) (Some (party_answer p)) ≡ true
  step true b c d refused agreed active ready none = rw refused refl
  step false b true d refused agreed active ready none = absurd (active_no refused active)
  step false true false true refused agreed active ready none = rw (refused, none, agreed, active, ready) refl
  step false false false false refused agreed active ready none = rw (refused, none, agreed, active, ready) refl
  step false true false false refused agreed active ready none = absurd (both_ways (list_any is_ready p.members) ready (sym (ready_said p.members active all) ∙ agreed))
  step false false false true refused agreed active ready none = absurd (both_ways (list_any is_ready p.members) (sym (ready_said p.members active all) ∙ agreed) ready)

pub voted_so : (p : PartyNotes) (back : Back) → p.errand ≡ errand.Vote → list_all is_unasked p.members ≡ true → may_ask_party (Here (back_of p back)) (Some (party_answer (back_of p back))) ≡ true
voted_so p back is all = answers_so (back_of p back) (subst (λ e. list_all has_voted (called e back p.members) ≡ true) (sym is) (called_fits back p.members all))

-- COMMIT leaves none active

settled_none : (answers : List Settled) (ms : List Member) → list_any is_active ms ≡ false → list_any is_active (settled_by answers ms) ≡ false
settled_none answers [] none = refl
settled_none [] (m ∷ ms) none = none
settled_none (s ∷ answers) (m ∷ ms) none = let parts = or_parts (is_active m) (list_any is_active ms) none in step (is_ready m) parts.0 (settled_none answers ms parts.1) (settled_none (s ∷ answers) ms parts.1) where
  told : (s : Settled) → is_active (committing m s) ≡ false
  told Done = refl
  told Later = refl

  step : (b : Bool) → is_active m ≡ false → list_any is_active (settled_by answers ms) ≡ false → list_any is_active (settled_by (s ∷ answers) ms) ≡ false → list_any is_active (cond b (committing m s ∷ settled_by answers ms) (m ∷ settled_by (s ∷ answers) ms)) ≡ false
  step true first rest later = or_from _ _ (told s) rest
  step false first rest later = or_from _ _ first later

pub committed_none : (p : PartyNotes) (back : Back) → p.errand ≡ errand.Commit → list_any is_active p.members ≡ false → list_any is_active (back_of p back).members ≡ false
committed_none p back is none = subst (λ e. list_any is_active (called e back p.members) ≡ false) (sym is) (step back) where
  step : (back : Back) → list_any is_active (called errand.Commit back p.members) ≡ false
  step (Back.Settlements answers) = settled_none answers p.members none
  step (Back.Votes votes) = none
  step Back.Aborted = none
  step Back.Undone = none
