-- What is foreseen of a transaction whose party comes back.
use Rattle.std.proofs.Common.{◌≡◌, ◌≢◌, Bool, true, false, cond, ℕ, Option, Some, None, refl, ap, sym, subst, ◌∙◌, arith}
use Rattle.std.specs.Prelude.{find, if◌then◌else◌}
use Rattle.std.specs.Option.{option_and_then, option_map_or}
use Rattle.std.proofs.lemmas.Bool.Decides.{nat_tests}
use Rattle.tip_branch.specs.Notes.{PartyNotes}
use Rattle.tip_branch.specs.declared.member.Errand.TheVariants as errand
use Rattle.tip_line.specs.declared.command.CommandName.{CommandName}
use Rattle.tip_rows.specs.Keys.{Key}
use Rattle.tip_txn.specs.Parts.{answered}
use Rattle.tip_txn.specs.declared.answer.Ballot.{Ballot}
use Rattle.tip_machine.specs.Connections.{has_number, is_superior_of}
use Rattle.tip_machine.proofs.Walks.{on_found}
use Rattle.tip_machine.specs.Proceeding.{owed_to_superior}
use Rattle.tip_machine.specs.Requests.{owner}
use Rattle.tip_machine.specs.States.{State, transaction_of}
use Rattle.tip_machine.specs.Transactions.{has_ready, noting, party_answer, standing_at}
use Rattle.tip_machine.specs.Types.{Connection, PartyPlace, Transaction}
use Rattle.tip_machine.specs.declared.event.Event.TheVariants.{Settled, Voted}
use Rattle.tip_machine.specs.declared.transaction.PartyPlace.TheVariants.{Here, Out, Spent}
use Rattle.tip_table.proofs.Standing.{found as found_first}
use Rattle.tip_outlook.specs.Endings.{Follows, Meets}
use Rattle.tip_outlook.specs.Wanting.{Course, Outlook, back_at, foreseen, outlook, owed_then, settled_wanted, vote_wanted}
use Rattle.tip_outlook.specs.declared.next.Next.{Next}
use Rattle.tip_rules.specs.Works.{is_aborting, is_committing, is_voting}

-- What is owed later

module _ (command : CommandName) (number : ℕ) (key : Key) (state : State) where
  pub owed_none : find (is_superior_of key) state.connections ≡ None → owed_then command number key state ≡ None
  owed_none none = ap (λ (o : Option Connection). option_and_then (λ c. if has_number number c then Some command else c.owed) o) none

  pub owed_new : (connection : Connection) → find (is_superior_of key) state.connections ≡ Some connection → connection.number ≡ number → owed_then command number key state ≡ Some command
  owed_new connection there same =
      let own : has_number number connection ≡ true = grind (arith, nat_tests, same) in
      ap (λ (o : Option Connection). option_and_then (λ c. if has_number number c then Some command else c.owed) o) there ∙ ap (λ b. cond b (Some command) connection.owed) own

  pub owed_still : (connection : Connection) → find (is_superior_of key) state.connections ≡ Some connection → connection.number ≢ number → owed_then command number key state ≡ connection.owed
  owed_still connection there differ =
      let other : has_number number connection ≡ false = grind (arith, nat_tests, differ) in
      ap (λ (o : Option Connection). option_and_then (λ c. if has_number number c then Some command else c.owed) o) there ∙ ap (λ b. cond b (Some command) connection.owed) other

pub ruleset owed_later = (owed_none, owed_new, owed_still, found_first)

-- What a party wants that comes back

-- a transaction that goes on so
goes_on : (o : Outlook) (owed : Option CommandName) (next : Next) (course : Course) → Follows o owed next → course ≡ Course.GoesOn o owed → Meets course next
goes_on o owed next course follows is = subst (λ k. Meets k next) (sym is) (record { change = follows.change; endings = follows.endings })

stays : (next : Next) (course : Course) → Meets Course.Stays next → course ≡ Course.Stays → Meets course next
stays next course meets is = subst (λ k. Meets k next) (sym is) meets

module _ (state : State) (party : PartyNotes) (key : Key) (t : Transaction) (there : transaction_of key state ≡ Some t) (own : owner party state ≡ transaction_of key state) (next : Next) where
  keyed_so : key ≡ t.key
  keyed_so = on_found (λ k. key ≡ k) key state.transactions t there refl

  vote_at : (place : PartyPlace) → t.place ≡ place → foreseen (Voted party) state ≡ vote_wanted place party t state
  vote_at place is = ap (λ o. option_map_or (λ u. vote_wanted u.place party u state) o Course.Stays) (own ∙ there) ∙ ap (λ p. vote_wanted p party t state) is

  settled_at : (place : PartyPlace) → t.place ≡ place → foreseen (Settled party) state ≡ settled_wanted place party t state
  settled_at place is = ap (λ o. option_map_or (λ u. settled_wanted u.place party u state) o Course.Stays) (own ∙ there) ∙ ap (λ p. settled_wanted p party t state) is

  own_key : (o : Outlook) → Follows o (owed_to_superior key state) next → Follows o (owed_to_superior t.key state) next
  own_key o follows = subst (λ k. Follows o (owed_to_superior k state) next) keyed_so follows

  pub voted_ahead : is_voting t.place ≡ true → (said : Ballot) → said ≡ party_answer party → Follows (outlook (noting 0 (answered said) (standing_at (Here party) t))) (owed_to_superior key state) next → Meets (foreseen (Voted party) state) next
  voted_ahead out said same follows = step t.place refl out where
    step : (place : PartyPlace) → t.place ≡ place → is_voting place ≡ true → Meets (foreseen (Voted party) state) next
    step (Here other) at so = absurd (cc)
    step (Out errand.Idle) at so = absurd (cc)
    step (Out errand.Vote) at so =
        goes_on (outlook (noting 0 (answered (party_answer party)) (standing_at (Here party) t))) (owed_to_superior t.key state) next (foreseen (Voted party) state)
        (own_key (outlook (noting 0 (answered (party_answer party)) (standing_at (Here party) t))) (subst (λ s. Follows (outlook (noting 0 (answered s) (standing_at (Here party) t))) (owed_to_superior key state) next) same follows))
        (vote_at (Out errand.Vote) at)
    step (Out errand.Commit) at so = absurd (cc)
    step (Out errand.Abort) at so = absurd (cc)
    step Spent at so = absurd (cc)

  pub back_aborted : is_aborting t.place ≡ true → Follows (outlook (standing_at (Here party) t)) (owed_to_superior key state) next → Meets (foreseen (Settled party) state) next
  back_aborted out follows = step t.place refl out where
    step : (place : PartyPlace) → t.place ≡ place → is_aborting place ≡ true → Meets (foreseen (Settled party) state) next
    step (Here other) at so = absurd (cc)
    step (Out errand.Idle) at so = absurd (cc)
    step (Out errand.Vote) at so = absurd (cc)
    step (Out errand.Commit) at so = absurd (cc)
    step (Out errand.Abort) at so = goes_on (outlook (standing_at (Here party) t)) (owed_to_superior t.key state) next (foreseen (Settled party) state) (own_key (outlook (standing_at (Here party) t)) follows) (settled_at (Out errand.Abort) at)
    step Spent at so = absurd (cc)

  back_committed : (ready : Bool) → has_ready party ≡ ready → is_committing t.place ≡ true → Follows (outlook (standing_at (cond ready (Here party) Spent) t)) (owed_to_superior key state) next → Meets (foreseen (Settled party) state) next
  back_committed ready is_ready out follows = step t.place refl out where
    step : (place : PartyPlace) → t.place ≡ place → is_committing place ≡ true → Meets (foreseen (Settled party) state) next
    step (Here other) at so = absurd (cc)
    step (Out errand.Idle) at so = absurd (cc)
    step (Out errand.Vote) at so = absurd (cc)
    step (Out errand.Commit) at so =
        goes_on (outlook (standing_at (back_at party) t)) (owed_to_superior t.key state) next (foreseen (Settled party) state)
        (own_key (outlook (standing_at (back_at party) t)) (subst (λ r. Follows (outlook (standing_at (cond r (Here party) Spent) t)) (owed_to_superior key state) next) (sym is_ready) follows))
        (settled_at (Out errand.Commit) at)
    step (Out errand.Abort) at so = absurd (cc)
    step Spent at so = absurd (cc)

  pub back_waiting : is_committing t.place ≡ true → has_ready party ≡ true → Follows (outlook (standing_at (Here party) t)) (owed_to_superior key state) next → Meets (foreseen (Settled party) state) next
  back_waiting out ready follows = back_committed true ready out follows

  pub back_spent : is_committing t.place ≡ true → has_ready party ≡ false → Follows (outlook (standing_at Spent t)) (owed_to_superior key state) next → Meets (foreseen (Settled party) state) next
  back_spent out ready follows = back_committed false ready out follows

  pub voted_strange : is_voting t.place ≡ false → Meets Course.Stays next → Meets (foreseen (Voted party) state) next
  voted_strange out meets = step t.place refl out where
    step : (place : PartyPlace) → t.place ≡ place → is_voting place ≡ false → Meets (foreseen (Voted party) state) next
    step (Here other) at so = stays next (foreseen (Voted party) state) meets (vote_at (Here other) at)
    step (Out errand.Idle) at so = stays next (foreseen (Voted party) state) meets (vote_at (Out errand.Idle) at)
    step (Out errand.Vote) at so = absurd (cc)
    step (Out errand.Commit) at so = stays next (foreseen (Voted party) state) meets (vote_at (Out errand.Commit) at)
    step (Out errand.Abort) at so = stays next (foreseen (Voted party) state) meets (vote_at (Out errand.Abort) at)
    step Spent at so = stays next (foreseen (Voted party) state) meets (vote_at Spent at)

  pub settled_strange : is_committing t.place ≡ false → is_aborting t.place ≡ false → Meets Course.Stays next → Meets (foreseen (Settled party) state) next
  settled_strange commits aborts meets = step t.place refl commits aborts where
    step : (place : PartyPlace) → t.place ≡ place → is_committing place ≡ false → is_aborting place ≡ false → Meets (foreseen (Settled party) state) next
    step (Here other) at c a = stays next (foreseen (Settled party) state) meets (settled_at (Here other) at)
    step (Out errand.Idle) at c a = stays next (foreseen (Settled party) state) meets (settled_at (Out errand.Idle) at)
    step (Out errand.Vote) at c a = stays next (foreseen (Settled party) state) meets (settled_at (Out errand.Vote) at)
    step (Out errand.Commit) at c a = absurd (cc)
    step (Out errand.Abort) at c a = absurd (cc)
    step Spent at c a = stays next (foreseen (Settled party) state) meets (settled_at Spent at)

module _ (state : State) (party : PartyNotes) (none : owner party state ≡ None) (next : Next) where
  pub voted_nowhere : Meets Course.Stays next → Meets (foreseen (Voted party) state) next
  voted_nowhere meets = stays next (foreseen (Voted party) state) meets (ap (λ o. option_map_or (λ u. vote_wanted u.place party u state) o Course.Stays) none)

  pub settled_nowhere : Meets Course.Stays next → Meets (foreseen (Settled party) state) next
  settled_nowhere meets = stays next (foreseen (Settled party) state) meets (ap (λ o. option_map_or (λ u. settled_wanted u.place party u state) o Course.Stays) none)

pub ruleset voting_ahead = (voted_ahead, voted_strange, voted_nowhere)

pub ruleset settling_ahead = (back_aborted, back_waiting, back_spent, settled_strange, settled_nowhere)
