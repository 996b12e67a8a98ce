-- What a party tells its branches on an errand, and what is rolled back when it is let go.
use Rattle.std.proofs.Common.{◌≡◌, Bool, true, false, ℕ, List, [], ◌∷◌, Option, Some, None, cond, refl, subst, sym, ◌⊎◌, inl, inr}
use Rattle.std.specs.Prelude.{◌&&◌, ◌==◌, filter_map, is_none, map, not, option_map}
use Rattle.std.specs.List.{cons_option, list_all, list_any}
use Rattle.std.specs.Option.{option_map_or}
use Rattle.std.specs.Str.{bytes_eq}
use Rattle.std.proofs.lemmas.Bool.{and_from, and_parts, both_ways, not-true, or_cases}
use Rattle.tip_branch.specs.Members.{aborting, committing, is_active, is_no, is_ready, voting}
use Rattle.tip_branch.specs.Notes.{PartyNotes}
use Rattle.tip_branch.specs.declared.branch.Settled.{Settled}
use Rattle.tip_branch.specs.declared.branch.Vote.{Vote}
use Rattle.tip_branch.specs.declared.member.Call.{Call}
use Rattle.tip_branch.specs.declared.member.Call.TheVariants as call
use Rattle.tip_branch.specs.declared.member.Errand.{Errand}
use Rattle.tip_branch.specs.declared.member.Errand.TheVariants as errand
use Rattle.tip_branch.specs.declared.member.Member.{Member}
use Rattle.tip_machine.specs.Agreement.Verdicts.{Verdict, of_call}
use Rattle.tip_machine.specs.Invariants.Parties.{is_sent}
use Rattle.tip_machine.specs.Outputs.{Output, calls_of, drops_of}
use Rattle.tip_machine.specs.Returns.{Back, aborted_if_ready, back_of, called, settled_by, voted_by}
use Rattle.tip_machine.specs.Transactions.{has_ready}
use Rattle.tip_agreement.specs.Truth.{is_uncalled, verdict_of, will_tell, will_vote}
use Rattle.tip_agreement.proofs.Telling.{are_told, drops_told}
use Rattle.tip_agreement.proofs.Voting.{committed_none}

-- a call is one of the errand
abbrev is_of : Errand → Call → Bool
is_of errand.Vote (call.Vote vote) = true
is_of errand.Commit (call.Commit answer) = true
is_of errand.Abort call.Abort = true
is_of e other = false

abbrev fits_errand : Errand → Member → Bool
fits_errand e m = option_map_or (is_of e) m.call true

abbrev is_silent : Member → Bool
is_silent m = is_none m.call

silent_one : (e : Errand) (call : Option Call) → is_none call ≡ true → option_map_or (is_of e) call true ≡ true
silent_one e None is = refl
silent_one e (Some call) is = absurd (cc)

silent_fit : (e : Errand) (ms : List Member) → list_all is_silent ms ≡ true → list_all (fits_errand e) ms ≡ true
silent_fit e [] all = refl
silent_fit e (m ∷ ms) all = let parts = and_parts (is_silent m) (list_all is_silent ms) all in and_from _ _ (silent_one e m.call parts.0) (silent_fit e ms parts.1)

votes_fit : (votes : List Vote) (ms : List Member) → list_all is_silent ms ≡ true → list_all (fits_errand errand.Vote) (voted_by votes ms) ≡ true
votes_fit votes [] all = refl
votes_fit [] (m ∷ ms) all = silent_fit errand.Vote (m ∷ ms) all
votes_fit (v ∷ votes) (m ∷ ms) all = let parts = and_parts (is_silent m) (list_all is_silent ms) all in step (is_active m) (is_no v) (silent_one errand.Vote m.call parts.0) (silent_fit errand.Vote ms parts.1) (votes_fit votes ms parts.1) (votes_fit (v ∷ votes) ms parts.1) where
  step : (b c : Bool) → fits_errand errand.Vote m ≡ true → list_all (fits_errand errand.Vote) ms ≡ true → list_all (fits_errand errand.Vote) (voted_by votes ms) ≡ true → list_all (fits_errand errand.Vote) (voted_by (v ∷ votes) ms) ≡ true → list_all (fits_errand errand.Vote) (cond b (voting m v ∷ cond c ms (voted_by votes ms)) (m ∷ voted_by (v ∷ votes) ms)) ≡ true
  step true true first left rest later = left
  step true false first left rest later = rest
  step false c first left rest later = and_from _ _ first later

settled_fit : (answers : List Settled) (ms : List Member) → list_all is_silent ms ≡ true → list_all (fits_errand errand.Commit) (settled_by answers ms) ≡ true
settled_fit answers [] all = refl
settled_fit [] (m ∷ ms) all = silent_fit errand.Commit (m ∷ ms) all
settled_fit (s ∷ answers) (m ∷ ms) all = let parts = and_parts (is_silent m) (list_all is_silent ms) all in step (is_ready m) (silent_one errand.Commit m.call parts.0) (settled_fit answers ms parts.1) (settled_fit (s ∷ answers) ms parts.1) where
  step : (b : Bool) → fits_errand errand.Commit m ≡ true → list_all (fits_errand errand.Commit) (settled_by answers ms) ≡ true → list_all (fits_errand errand.Commit) (settled_by (s ∷ answers) ms) ≡ true → list_all (fits_errand errand.Commit) (cond b (committing m s ∷ settled_by answers ms) (m ∷ settled_by (s ∷ answers) ms)) ≡ true
  step true first rest later = rest
  step false first rest later = and_from _ _ first later

aborted_fit : (ms : List Member) → list_all is_silent ms ≡ true → list_all (fits_errand errand.Abort) (map aborted_if_ready ms) ≡ true
aborted_fit [] all = refl
aborted_fit (m ∷ ms) all = let parts = and_parts (is_silent m) (list_all is_silent ms) all in and_from _ _ (step (is_ready m) (silent_one errand.Abort m.call parts.0)) (aborted_fit ms parts.1) where
  step : (b : Bool) → fits_errand errand.Abort m ≡ true → fits_errand errand.Abort (cond b (aborting m) m) ≡ true
  step true first = refl
  step false first = first

called_fit : (e : Errand) (back : Back) (ms : List Member) → list_all is_silent ms ≡ true → list_all (fits_errand e) (called e back ms) ≡ true
called_fit errand.Vote (Back.Votes votes) ms all = votes_fit votes ms all
called_fit errand.Commit (Back.Settlements answers) ms all = settled_fit answers ms all
called_fit errand.Abort Back.Aborted ms all = aborted_fit ms all
called_fit e back ms all = silent_fit e ms all

module _ (test : Verdict → Bool) (realm id : List ℕ) (now : ℕ) where
  abbrev tells_so : Bool → Errand → ℕ → Bool
  tells_so named e epoch = named && option_map_or test (verdict_of now e epoch) false

  -- one call
  call_told : (named : Bool) (e : Errand) (epoch : ℕ) (c : Call) → is_of e c ≡ true → option_map_or test (cond named (of_call c) None) false ≡ true → tells_so named e epoch ≡ true
  call_told false e epoch c of is = absurd (cc)
  call_told true errand.Commit epoch (call.Commit answer) of is = is
  call_told true errand.Abort epoch call.Abort of is = is
  call_told true errand.Vote epoch (call.Vote vote) of is = absurd (cc)
  call_told true e epoch c of is = absurd (cc)

  each_told : (party : PartyNotes) (e : Errand) (epoch : ℕ) (ms : List Member) → list_all (fits_errand e) ms ≡ true → are_told test realm id (filter_map (λ (m : Member). option_map (Output.Called party.id m.number m.standing.badge) m.call) ms) ≡ true → tells_so (bytes_eq id party.id) e epoch ≡ true
  each_told party e epoch [] all is = absurd (cc)
  each_told party e epoch (m ∷ ms) all is = let parts = and_parts (fits_errand e m) (list_all (fits_errand e) ms) all in step m.call parts.0 is (each_told party e epoch ms parts.1) where
    step : (c : Option Call) → option_map_or (is_of e) c true ≡ true → are_told test realm id (cons_option (option_map (Output.Called party.id m.number m.standing.badge) c) (filter_map (λ (m : Member). option_map (Output.Called party.id m.number m.standing.badge) m.call) ms)) ≡ true → (are_told test realm id (filter_map (λ (m : Member). option_map (Output.Called party.id m.number m.standing.badge) m.call) ms) ≡ true → tells_so (bytes_eq id party.id) e epoch ≡ true) → tells_so (bytes_eq id party.id) e epoch ≡ true
    step None of is later = later is
    step (Some c) of is later = elim (or_cases (option_map_or test (cond (bytes_eq id party.id) (of_call c) None) false) (are_told test realm id (filter_map (λ (m : Member). option_map (Output.Called party.id m.number m.standing.badge) m.call) ms)) is) [
      | inl first ↦ call_told (bytes_eq id party.id) e epoch c of first
      | inr rest ↦ later rest
    ]

  -- what a party that comes back was told, it was to tell
  pub calls_told : (party : PartyNotes) (back : Back) → is_uncalled party ≡ true → are_told test realm id (calls_of (back_of party back)) ≡ true → will_tell test now id party ≡ true
  calls_told party back uncalled is = each_told (back_of party back) party.errand party.epoch (called party.errand back party.members) (called_fit party.errand back party.members uncalled) is

  -- what is rolled back
  rolled_so : (party : PartyNotes) (e : Errand) → party.errand ≡ e → is_sent e party ≡ true → (e ≡ errand.Commit → list_any is_active party.members ≡ false → ⊥) → test Verdict.Abort ≡ true → bytes_eq id party.id ≡ true → (will_tell test now id party ≡ true) ⊎ ((test Verdict.Abort ≡ true) × (will_vote now id party ≡ true))
  rolled_so party errand.Idle at sent never aborts named = absurd (cc)
  rolled_so party errand.Commit at sent never aborts named = absurd (never refl (not-true _ (and_parts (not (list_any is_active party.members)) (has_ready party) sent).0))
  rolled_so party errand.Abort at sent never aborts named = inl (and_from _ _ named (subst (λ e. option_map_or test (verdict_of now e party.epoch) false ≡ true) (sym at) aborts))
  rolled_so party errand.Vote at sent never aborts named = step (party.epoch == now) refl where
    step : (b : Bool) → (party.epoch == now) ≡ b → (will_tell test now id party ≡ true) ⊎ ((test Verdict.Abort ≡ true) × (will_vote now id party ≡ true))
    step true here = inr (aborts, and_from _ _ named (rw (here, at) refl))
    step false earlier = inl (and_from _ _ named (subst (λ e. option_map_or test (verdict_of now e party.epoch) false ≡ true) (sym at) (rw earlier aborts)))

  pub drops_back_told : (party : PartyNotes) (back : Back) → is_sent party.errand party ≡ true → are_told test realm id (drops_of (back_of party back)) ≡ true → (will_tell test now id party ≡ true) ⊎ ((test Verdict.Abort ≡ true) × (will_vote now id party ≡ true))
  drops_back_told party back sent is =
      let rolled = drops_told test realm id (back_of party back) is in
      rolled_so party party.errand refl sent (λ commit none. both_ways (list_any is_active (back_of party back).members) (committed_none party back commit none) rolled.active) rolled.aborts rolled.id_is

  -- the same, of one that does not come back
  pub drops_lost_told : (party : PartyNotes) → is_sent party.errand party ≡ true → are_told test realm id (drops_of party) ≡ true → (will_tell test now id party ≡ true) ⊎ ((test Verdict.Abort ≡ true) × (will_vote now id party ≡ true))
  drops_lost_told party sent is =
      let rolled = drops_told test realm id party is in
      rolled_so party party.errand refl sent (λ commit none. both_ways (list_any is_active party.members) none rolled.active) rolled.aborts rolled.id_is
