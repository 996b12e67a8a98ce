-- What responses come to, case by case.
use Rattle.std.proofs.Common.{◌≡◌, ◌≤◌, ◌<◌, ◌+◌, Bool, true, false, cond, ℕ, suc, zero, List, [], ◌∷◌, Option, Some, None, length, refl, ap, arith, sym, subst, ◌∙◌}
use Rattle.std.specs.Prelude.{filter, nat_le}
use Rattle.std.proofs.lemmas.Bool.Decides.{nat_tests}
use Rattle.std.specs.Option.{IfSome, option_and_then, option_map_or}
use Rattle.std.proofs.lemmas.Option.{none-some, same_Some}
use Rattle.tip_conn.specs.Table.{next_of}
use Rattle.tip_conn.specs.declared.state.Side.TheVariants.{Primary}
use Rattle.tip_conn.specs.declared.state.State.{State as ConnectionState}
use Rattle.tip_conn.specs.declared.state.State.TheVariants as state
use Rattle.tip_conn.specs.declared.state.Turn.{Turn}
use Rattle.tip_line.specs.declared.command.CommandName.{CommandName}
use Rattle.tip_line.specs.declared.command.CommandName.TheVariants as command
use Rattle.tip_line.specs.declared.response.Response.{Response as AResponse}
use Rattle.tip_line.specs.declared.response.Response.TheVariants as response
use Rattle.tip_line.specs.declared.response.ResponseName.{ResponseName}
use Rattle.tip_line.specs.declared.response.ResponseName.TheVariants as names
use Rattle.tip_rows.specs.Keys.{Key}
use Rattle.tip_table.specs.Lists.{changed}
use Rattle.tip_txn.specs.Parts.{changed_at}
use Rattle.tip_txn.specs.declared.part.Participant.{Participant}
use Rattle.tip_machine.proofs.Walks.{found-number}
use Rattle.tip_machine.specs.Changes.{alter, change}
use Rattle.tip_machine.specs.Connections.{advanced, advanced_to, has_number, is_on, key_queried, role_in}
use Rattle.tip_machine.specs.Connections.{names as is_named_in}
use Rattle.tip_machine.specs.Failing.{wrong}
use Rattle.tip_machine.specs.Proceeding.{owed_to_superior, proceed}
use Rattle.tip_machine.specs.Requests.{hear}
use Rattle.tip_machine.specs.Responses.{abort_as, answered_by, go_on, greeted, responded}
use Rattle.tip_machine.specs.States.{Attempt, Work, connection_of, transaction_of}
use Rattle.tip_machine.specs.Steps.{chosen}
use Rattle.tip_machine.specs.Transactions.{has_key, noting}
use Rattle.tip_machine.specs.Types.{Connection, Transaction}
use Rattle.tip_machine.specs.declared.connection.Awaited.{Awaited}
use Rattle.tip_machine.specs.declared.connection.Awaited.TheVariants as awaited
use Rattle.tip_machine.specs.declared.connection.Purpose.{Purpose}
use Rattle.tip_machine.specs.declared.connection.Purpose.TheVariants as purposes
use Rattle.tip_machine.specs.declared.connection.Role.{Role}
use Rattle.tip_machine.specs.declared.connection.Role.TheVariants.{Subordinate, Superior}
use Rattle.tip_machine.specs.declared.event.Heard.TheVariants.{Response}
use Rattle.tip_machine.specs.declared.event.Outcome.{Outcome}
use Rattle.tip_outlook.specs.Endings.{EndsBy, EndsSo, ended, ending_on}
use Rattle.tip_outlook.specs.Wanting.{Course, answer_wanted, outlook, said_wanted, wanted_noting, wanted_of_part}
use Rattle.tip_rules.proofs.Losing.{same_room, still_idle}
use Rattle.tip_rules.proofs.Outcomes.{altered_next, proceeds_none}
use Rattle.tip_rules.proofs.Owing.{owed_after}
use Rattle.tip_rules.proofs.Works.{may_idle, nothing, then, unaltered}
use Rattle.tip_outlook.specs.Noting.{awaits_of, exists_of, identifying, note_of, noted, noting_as, part_of, pulled_of, pulling, querying, responding, version_of}
use Rattle.tip_outlook.specs.declared.noting.Awaits.{Awaits}
use Rattle.tip_outlook.specs.declared.noting.Awaits.TheVariants as awaits
use Rattle.tip_rules.specs.Pursuing.{aimed_at, asked_for}
use Rattle.tip_rules.specs.Works.{ContinuesAs, Does, Held, IsIdle, lines_as, lines_at, lines_for, lines_queried, work_of}
use Rattle.tip_outlook.specs.declared.noting.Note.{Note}
use Rattle.tip_outlook.specs.declared.noting.Note.TheVariants as note

-- What a response is to

abbrev command_in : Awaits → Option CommandName
command_in awaits.Nothing = None
command_in (awaits.OfPart name) = Some name
command_in awaits.Identified = None
command_in awaits.ToAsk = None
command_in awaits.ToReach = None
command_in awaits.Pulled = None
command_in (awaits.Queried key) = None

responds_to : (a : Awaited) (said : AResponse) (c : Connection) (w : Work) → IfSome (command_in (awaits_of (Some a))) (λ name. responded a said c w ≡ responding (note_of (Some a) said) name said c w)
responds_to awaited.Push (response.Pushed id) c w = refl
responds_to awaited.Push (response.AlreadyPushed id) c w = refl
responds_to awaited.Push response.NotPushed c w = refl
responds_to awaited.Push response.NeedTls c w = refl
responds_to awaited.Push response.Error c w = refl
responds_to awaited.Push said c w = refl
responds_to awaited.Prepare response.Prepared c w = refl
responds_to awaited.Prepare response.Aborted c w = refl
responds_to awaited.Prepare response.ReadOnly c w = refl
responds_to awaited.Prepare response.NeedTls c w = refl
responds_to awaited.Prepare response.Error c w = refl
responds_to awaited.Prepare said c w = refl
responds_to awaited.Commit response.Committed c w = refl
responds_to awaited.Commit response.NeedTls c w = refl
responds_to awaited.Commit response.Error c w = refl
responds_to awaited.Commit said c w = refl
responds_to awaited.Abort response.Aborted c w = refl
responds_to awaited.Abort response.NeedTls c w = refl
responds_to awaited.Abort response.Error c w = refl
responds_to awaited.Abort said c w = refl
responds_to awaited.Reconnect response.Reconnected c w = refl
responds_to awaited.Reconnect response.NotReconnected c w = refl
responds_to awaited.Reconnect response.NeedTls c w = refl
responds_to awaited.Reconnect response.Error c w = refl
responds_to awaited.Reconnect said c w = refl
responds_to (awaited.Identify purposes.Plain) said c w = tt
responds_to (awaited.Identify (purposes.Query id)) said c w = tt
responds_to (awaited.Identify (purposes.Reconnect id place)) said c w = tt
responds_to awaited.Pull said c w = tt
responds_to (awaited.Query key) said c w = tt

responds_if : (found : Option CommandName) (name : CommandName) (P : CommandName → Type 0) → found ≡ Some name → IfSome found P → P name
responds_if None name P is all = absurd (none-some name is)
responds_if (Some other) name P is all = subst P (same_Some other name is) all

pulls : (said : AResponse) (c : Connection) (w : Work) → responded awaited.Pull said c w ≡ pulling (pulled_of said) said c w
pulls response.Pulled c w = refl
pulls response.NotPulled c w = refl
pulls response.NeedTls c w = refl
pulls response.Error c w = refl
pulls said c w = refl

queries : (key : Key) (said : AResponse) (c : Connection) (w : Work) → responded (awaited.Query key) said c w ≡ querying (exists_of said) key said c w
queries key response.QueriedExists c w = refl
queries key response.QueriedNotFound c w = refl
queries key response.NeedTls c w = refl
queries key response.Error c w = refl
queries key said c w = refl

identifies : (purpose : Purpose) (said : AResponse) (c : Connection) (w : Work) → responded (awaited.Identify purpose) said c w ≡ identifying (version_of said) purpose said c w
identifies purpose (response.Identified version) c w = refl
identifies purpose response.NeedTls c w = refl
identifies purpose response.Error c w = refl
identifies purpose said c w = refl

abbrev key_in : Awaits → Option Key
key_in awaits.Nothing = None
key_in (awaits.OfPart name) = None
key_in awaits.Identified = None
key_in awaits.ToAsk = None
key_in awaits.ToReach = None
key_in awaits.Pulled = None
key_in (awaits.Queried key) = Some key

module _ (said : AResponse) (c : Connection) (w : Work) where
  hears_at : (a : Option Awaited) → c.awaited ≡ a → hear Primary (Response said) c w ≡ answered_by a said c w
  hears_at a is = ap (λ b. answered_by b said c w) is

  pub hears_part : (name : CommandName) → awaits_of c.awaited ≡ awaits.OfPart name → hear Primary (Response said) c w ≡ responding (note_of c.awaited said) name said c w
  hears_part name so = step c.awaited refl where
    as_asked : (a : Awaited) → c.awaited ≡ Some a → hear Primary (Response said) c w ≡ responding (note_of c.awaited said) name said c w
    as_asked a is =
        hears_at (Some a) is
        ∙ responds_if (command_in (awaits_of (Some a))) name (λ n. responded a said c w ≡ responding (note_of (Some a) said) n said c w) (ap command_in (sym (ap awaits_of is) ∙ so)) (responds_to a said c w)
        ∙ sym (ap (λ b. responding (note_of b said) name said c w) is)

    step : (a : Option Awaited) → c.awaited ≡ a → hear Primary (Response said) c w ≡ responding (note_of c.awaited said) name said c w
    step None is = absurd (none-some name (ap command_in (sym (ap awaits_of is) ∙ so)))
    step (Some (awaited.Identify purposes.Plain)) is = absurd (none-some name (ap command_in (sym (ap awaits_of is) ∙ so)))
    step (Some (awaited.Identify (purposes.Query id))) is = absurd (none-some name (ap command_in (sym (ap awaits_of is) ∙ so)))
    step (Some (awaited.Identify (purposes.Reconnect id place))) is = absurd (none-some name (ap command_in (sym (ap awaits_of is) ∙ so)))
    step (Some awaited.Push) is = as_asked awaited.Push is
    step (Some awaited.Pull) is = absurd (none-some name (ap command_in (sym (ap awaits_of is) ∙ so)))
    step (Some awaited.Prepare) is = as_asked awaited.Prepare is
    step (Some awaited.Commit) is = as_asked awaited.Commit is
    step (Some awaited.Abort) is = as_asked awaited.Abort is
    step (Some (awaited.Query key)) is = absurd (none-some name (ap command_in (sym (ap awaits_of is) ∙ so)))
    step (Some awaited.Reconnect) is = as_asked awaited.Reconnect is

  pub hears_pull : awaits_of c.awaited ≡ awaits.Pulled → hear Primary (Response said) c w ≡ pulling (pulled_of said) said c w
  hears_pull so = step c.awaited refl where
    step : (a : Option Awaited) → c.awaited ≡ a → hear Primary (Response said) c w ≡ pulling (pulled_of said) said c w
    step None is = absurd (let no = sym (ap awaits_of is) ∙ so in cc)
    step (Some (awaited.Identify purposes.Plain)) is = absurd (let no = sym (ap awaits_of is) ∙ so in cc)
    step (Some (awaited.Identify (purposes.Query id))) is = absurd (let no = sym (ap awaits_of is) ∙ so in cc)
    step (Some (awaited.Identify (purposes.Reconnect id place))) is = absurd (let no = sym (ap awaits_of is) ∙ so in cc)
    step (Some awaited.Push) is = absurd (let no = sym (ap awaits_of is) ∙ so in cc)
    step (Some awaited.Pull) is = hears_at (Some awaited.Pull) is ∙ pulls said c w
    step (Some awaited.Prepare) is = absurd (let no = sym (ap awaits_of is) ∙ so in cc)
    step (Some awaited.Commit) is = absurd (let no = sym (ap awaits_of is) ∙ so in cc)
    step (Some awaited.Abort) is = absurd (let no = sym (ap awaits_of is) ∙ so in cc)
    step (Some (awaited.Query key)) is = absurd (let no = sym (ap awaits_of is) ∙ so in cc)
    step (Some awaited.Reconnect) is = absurd (let no = sym (ap awaits_of is) ∙ so in cc)

  pub hears_query : (key : Key) → awaits_of c.awaited ≡ awaits.Queried key → hear Primary (Response said) c w ≡ querying (exists_of said) key said c w
  hears_query key so = step c.awaited refl where
    no : (a : Option Awaited) → c.awaited ≡ a → key_in (awaits_of a) ≡ None → {T : Type 0} → T
    no a is none = absurd (none-some key (sym none ∙ ap key_in (sym (ap awaits_of is) ∙ so)))

    step : (a : Option Awaited) → c.awaited ≡ a → hear Primary (Response said) c w ≡ querying (exists_of said) key said c w
    step None is = no None is refl
    step (Some (awaited.Identify purposes.Plain)) is = no (Some (awaited.Identify purposes.Plain)) is refl
    step (Some (awaited.Identify (purposes.Query id))) is = no (Some (awaited.Identify (purposes.Query id))) is refl
    step (Some (awaited.Identify (purposes.Reconnect id place))) is = no (Some (awaited.Identify (purposes.Reconnect id place))) is refl
    step (Some awaited.Push) is = no (Some awaited.Push) is refl
    step (Some awaited.Pull) is = no (Some awaited.Pull) is refl
    step (Some awaited.Prepare) is = no (Some awaited.Prepare) is refl
    step (Some awaited.Commit) is = no (Some awaited.Commit) is refl
    step (Some awaited.Abort) is = no (Some awaited.Abort) is refl
    step (Some (awaited.Query other)) is = hears_at (Some (awaited.Query other)) is ∙ queries other said c w ∙ ap (λ k. querying (exists_of said) k said c w) (same_Some other key (ap key_in (sym (ap awaits_of is) ∙ so)))
    step (Some awaited.Reconnect) is = no (Some awaited.Reconnect) is refl

  pub hears_identified : awaits_of c.awaited ≡ awaits.Identified → hear Primary (Response said) c w ≡ identifying (version_of said) purposes.Plain said c w
  hears_identified so = step c.awaited refl where
    step : (a : Option Awaited) → c.awaited ≡ a → hear Primary (Response said) c w ≡ identifying (version_of said) purposes.Plain said c w
    step None is = absurd (let no = sym (ap awaits_of is) ∙ so in cc)
    step (Some (awaited.Identify purposes.Plain)) is = hears_at (Some (awaited.Identify purposes.Plain)) is ∙ identifies purposes.Plain said c w
    step (Some (awaited.Identify (purposes.Query id))) is = absurd (let no = sym (ap awaits_of is) ∙ so in cc)
    step (Some (awaited.Identify (purposes.Reconnect id place))) is = absurd (let no = sym (ap awaits_of is) ∙ so in cc)
    step (Some awaited.Push) is = absurd (let no = sym (ap awaits_of is) ∙ so in cc)
    step (Some awaited.Pull) is = absurd (let no = sym (ap awaits_of is) ∙ so in cc)
    step (Some awaited.Prepare) is = absurd (let no = sym (ap awaits_of is) ∙ so in cc)
    step (Some awaited.Commit) is = absurd (let no = sym (ap awaits_of is) ∙ so in cc)
    step (Some awaited.Abort) is = absurd (let no = sym (ap awaits_of is) ∙ so in cc)
    step (Some (awaited.Query key)) is = absurd (let no = sym (ap awaits_of is) ∙ so in cc)
    step (Some awaited.Reconnect) is = absurd (let no = sym (ap awaits_of is) ∙ so in cc)

  pub hears_to_ask : awaits_of c.awaited ≡ awaits.ToAsk → (id : List ℕ) × ((asked_for c.awaited ≡ Some id) × (hear Primary (Response said) c w ≡ identifying (version_of said) (purposes.Query id) said c w))
  hears_to_ask so = step c.awaited refl where
    step : (a : Option Awaited) → c.awaited ≡ a → (id : List ℕ) × ((asked_for c.awaited ≡ Some id) × (hear Primary (Response said) c w ≡ identifying (version_of said) (purposes.Query id) said c w))
    step None is = absurd (let no = sym (ap awaits_of is) ∙ so in cc)
    step (Some (awaited.Identify purposes.Plain)) is = absurd (let no = sym (ap awaits_of is) ∙ so in cc)
    step (Some (awaited.Identify (purposes.Query id))) is = (id, (ap asked_for is, hears_at (Some (awaited.Identify (purposes.Query id))) is ∙ identifies (purposes.Query id) said c w))
    step (Some (awaited.Identify (purposes.Reconnect id place))) is = absurd (let no = sym (ap awaits_of is) ∙ so in cc)
    step (Some awaited.Push) is = absurd (let no = sym (ap awaits_of is) ∙ so in cc)
    step (Some awaited.Pull) is = absurd (let no = sym (ap awaits_of is) ∙ so in cc)
    step (Some awaited.Prepare) is = absurd (let no = sym (ap awaits_of is) ∙ so in cc)
    step (Some awaited.Commit) is = absurd (let no = sym (ap awaits_of is) ∙ so in cc)
    step (Some awaited.Abort) is = absurd (let no = sym (ap awaits_of is) ∙ so in cc)
    step (Some (awaited.Query key)) is = absurd (let no = sym (ap awaits_of is) ∙ so in cc)
    step (Some awaited.Reconnect) is = absurd (let no = sym (ap awaits_of is) ∙ so in cc)

  pub hears_to_reach : awaits_of c.awaited ≡ awaits.ToReach → (aim : List ℕ × ℕ) × ((aimed_at c.awaited ≡ Some aim) × (hear Primary (Response said) c w ≡ identifying (version_of said) (purposes.Reconnect aim.0 aim.1) said c w))
  hears_to_reach so = step c.awaited refl where
    step : (a : Option Awaited) → c.awaited ≡ a → (aim : List ℕ × ℕ) × ((aimed_at c.awaited ≡ Some aim) × (hear Primary (Response said) c w ≡ identifying (version_of said) (purposes.Reconnect aim.0 aim.1) said c w))
    step None is = absurd (let no = sym (ap awaits_of is) ∙ so in cc)
    step (Some (awaited.Identify purposes.Plain)) is = absurd (let no = sym (ap awaits_of is) ∙ so in cc)
    step (Some (awaited.Identify (purposes.Query id))) is = absurd (let no = sym (ap awaits_of is) ∙ so in cc)
    step (Some (awaited.Identify (purposes.Reconnect id place))) is = ((id, place), (ap aimed_at is, hears_at (Some (awaited.Identify (purposes.Reconnect id place))) is ∙ identifies (purposes.Reconnect id place) said c w))
    step (Some awaited.Push) is = absurd (let no = sym (ap awaits_of is) ∙ so in cc)
    step (Some awaited.Pull) is = absurd (let no = sym (ap awaits_of is) ∙ so in cc)
    step (Some awaited.Prepare) is = absurd (let no = sym (ap awaits_of is) ∙ so in cc)
    step (Some awaited.Commit) is = absurd (let no = sym (ap awaits_of is) ∙ so in cc)
    step (Some awaited.Abort) is = absurd (let no = sym (ap awaits_of is) ∙ so in cc)
    step (Some (awaited.Query key)) is = absurd (let no = sym (ap awaits_of is) ∙ so in cc)
    step (Some awaited.Reconnect) is = absurd (let no = sym (ap awaits_of is) ∙ so in cc)

  pub hears_nothing : c.awaited ≡ None → hear Primary (Response said) c w ≡ Attempt.Done w
  hears_nothing is = hears_at None is

  pub nothing_awaited : (a : Option Awaited) → awaits_of a ≡ awaits.Nothing → a ≡ None
  nothing_awaited None so = refl
  nothing_awaited (Some (awaited.Identify purposes.Plain)) so = absurd (let no = so in cc)
  nothing_awaited (Some (awaited.Identify (purposes.Query id))) so = absurd (let no = so in cc)
  nothing_awaited (Some (awaited.Identify (purposes.Reconnect id place))) so = absurd (let no = so in cc)
  nothing_awaited (Some awaited.Push) so = absurd (let no = so in cc)
  nothing_awaited (Some awaited.Pull) so = absurd (let no = so in cc)
  nothing_awaited (Some awaited.Prepare) so = absurd (let no = so in cc)
  nothing_awaited (Some awaited.Commit) so = absurd (let no = so in cc)
  nothing_awaited (Some awaited.Abort) so = absurd (let no = so in cc)
  nothing_awaited (Some (awaited.Query key)) so = absurd (let no = so in cc)
  nothing_awaited (Some awaited.Reconnect) so = absurd (let no = so in cc)

module _ (a b : Held) (said : AResponse) (c : Connection) (outcome : Outcome) where
  pub answered_part : (name : CommandName) → awaits_of c.awaited ≡ awaits.OfPart name → Does a b (chosen (responding (note_of c.awaited said) name said c (work_of a)) outcome) → Does a b (chosen (hear Primary (Response said) c (work_of a)) outcome)
  answered_part name is does = subst (λ t. Does a b (chosen t outcome)) (sym (hears_part said c (work_of a) name is)) does

  pub answered_pull : awaits_of c.awaited ≡ awaits.Pulled → Does a b (chosen (pulling (pulled_of said) said c (work_of a)) outcome) → Does a b (chosen (hear Primary (Response said) c (work_of a)) outcome)
  answered_pull is does = subst (λ t. Does a b (chosen t outcome)) (sym (hears_pull said c (work_of a) is)) does

  pub answered_query : (key : Key) → awaits_of c.awaited ≡ awaits.Queried key → Does a b (chosen (querying (exists_of said) key said c (work_of a)) outcome) → Does a b (chosen (hear Primary (Response said) c (work_of a)) outcome)
  answered_query key is does = subst (λ t. Does a b (chosen t outcome)) (sym (hears_query said c (work_of a) key is)) does

  pub answered_identified : awaits_of c.awaited ≡ awaits.Identified → Does a b (chosen (identifying (version_of said) purposes.Plain said c (work_of a)) outcome) → Does a b (chosen (hear Primary (Response said) c (work_of a)) outcome)
  answered_identified is does = subst (λ t. Does a b (chosen t outcome)) (sym (hears_identified said c (work_of a) is)) does

  pub answered_to_ask : awaits_of c.awaited ≡ awaits.ToAsk → ((id : List ℕ) → asked_for c.awaited ≡ Some id → Does a b (chosen (identifying (version_of said) (purposes.Query id) said c (work_of a)) outcome)) → Does a b (chosen (hear Primary (Response said) c (work_of a)) outcome)
  answered_to_ask is does = let heard = hears_to_ask said c (work_of a) is in subst (λ t. Does a b (chosen t outcome)) (sym heard.1.1) (does heard.0 heard.1.0)

  pub answered_to_reach : awaits_of c.awaited ≡ awaits.ToReach → ((id : List ℕ) (place : ℕ) → aimed_at c.awaited ≡ Some (id, place) → Does a b (chosen (identifying (version_of said) (purposes.Reconnect id place) said c (work_of a)) outcome)) → Does a b (chosen (hear Primary (Response said) c (work_of a)) outcome)
  answered_to_reach is does = let heard = hears_to_reach said c (work_of a) is in subst (λ t. Does a b (chosen t outcome)) (sym heard.1.1) (does heard.0.0 heard.0.1 heard.1.0)

pub answered_nothing : (a : Held) (said : AResponse) (c : Connection) → awaits_of c.awaited ≡ awaits.Nothing → Does a a (chosen (hear Primary (Response said) c (work_of a)) a.outcome)
answered_nothing a said c is = subst (λ t. Does a a (chosen t a.outcome)) (sym (hears_nothing said c (work_of a) (nothing_awaited said c (work_of a) c.awaited is))) (nothing a)

-- what was decided of a response to what a part was asked
pub part_next : (held : Held) (number : ℕ) (said : AResponse) (here c : Connection) (name : CommandName) → connection_of number (work_of held).state ≡ Some here → awaits_of here.awaited ≡ awaits.OfPart name → connection_of number (work_of held).state ≡ Some c →
    EndsBy (said_wanted (awaits_of c.awaited) said c (work_of held).state) held.endings → EndsBy (answer_wanted (note_of c.awaited said) c (work_of held).state) held.endings
part_next held number said here c name there is found ends = subst (λ a. EndsBy (said_wanted a said c (work_of held).state) held.endings) (ap (λ (d : Connection). awaits_of d.awaited) (same_Some c here (sym found ∙ there)) ∙ is) ends

pub note_next : (held : Held) (number : ℕ) (said : AResponse) (n : Note) (here c : Connection) → connection_of number (work_of held).state ≡ Some here → note_of here.awaited said ≡ Some n → connection_of number (work_of held).state ≡ Some c →
    EndsBy (answer_wanted (note_of c.awaited said) c (work_of held).state) held.endings → EndsBy (wanted_of_part n (part_of c.role) (work_of held).state) held.endings
note_next held number said n here c there is found ends = subst (λ a. EndsBy (answer_wanted a c (work_of held).state) held.endings) (ap (λ (d : Connection). note_of d.awaited said) (same_Some c here (sym found ∙ there)) ∙ is) ends

-- the lines of the transaction that is asked for
pub queried_lines : (held : Held) (number : ℕ) (c : Connection) (key : Key) → connection_of number (work_of held).state ≡ Some c → awaits_of c.awaited ≡ awaits.Queried key → lines_queried number (work_of held).state ≤ held.making.free → lines_for key (work_of held).state ≤ held.making.free
queried_lines held number c key found is enough = subst (λ n. n ≤ held.making.free) (ap (λ o. option_map_or (λ k. lines_for k (work_of held).state) (option_and_then (λ (d : Connection). key_queried d.awaited) o) 0) found ∙ ap (λ o. option_map_or (λ k. lines_for k (work_of held).state) o 0) (step c.awaited is)) enough where
  step : (a : Option Awaited) → awaits_of a ≡ awaits.Queried key → key_queried a ≡ Some key
  step None so = ap key_in so
  step (Some (awaited.Identify purposes.Plain)) so = ap key_in so
  step (Some (awaited.Identify (purposes.Query id))) so = ap key_in so
  step (Some (awaited.Identify (purposes.Reconnect id place))) so = ap key_in so
  step (Some awaited.Push) so = ap key_in so
  step (Some awaited.Pull) so = ap key_in so
  step (Some awaited.Prepare) so = ap key_in so
  step (Some awaited.Commit) so = ap key_in so
  step (Some awaited.Abort) so = ap key_in so
  step (Some (awaited.Query other)) so = ap key_in so
  step (Some awaited.Reconnect) so = ap key_in so

-- The connection goes on

kept_role : (key : Key) (at : ConnectionState) (role : Option Role) → is_named_in key (role_in at role) ≡ true → is_named_in key role ≡ true
kept_role key state.Initial role is = is
kept_role key state.Idle role is = absurd (cc)
kept_role key state.Begun role is = is
kept_role key state.Enlisted role is = is
kept_role key state.Prepared role is = is
kept_role key state.Error role is = is

on_before : (key : Key) (to : Option (ConnectionState × Turn)) (c : Connection) → is_on key (advanced_to to c) ≡ true → is_on key c ≡ true
on_before key None c is = is
on_before key (Some place) c is = kept_role key place.0 c.role is

-- no more connections are on a transaction than before
fewer_on : (key : Key) (number : ℕ) (command : CommandName) (name : ResponseName) (cs : List Connection) → length (filter (is_on key) (changed (has_number number) (advanced command name) cs)) ≤ length (filter (is_on key) cs)
fewer_on key number command name [] = omega arith
fewer_on key number command name (x ∷ xs) = step (has_number number x) (is_on key x) refl (is_on key (advanced command name x)) refl (fewer_on key number command name xs) where
  step : (this : Bool) → (on : Bool) → is_on key x ≡ on → (still : Bool) → is_on key (advanced command name x) ≡ still → length (filter (is_on key) (changed (has_number number) (advanced command name) xs)) ≤ length (filter (is_on key) xs) →
      length (filter (is_on key) (cond this (advanced command name x ∷ xs) (x ∷ changed (has_number number) (advanced command name) xs))) ≤ length (cond on (x ∷ filter (is_on key) xs) (filter (is_on key) xs))
  step true true at true after rest = rw after (omega arith)
  step true true at false after rest = rw after (omega arith)
  step true false at true after rest = absurd (differ (is_on key x) (on_before key (next_of command x.state name) x after) at) where
    differ : (b : Bool) → b ≡ true → b ≡ false → ⊥
    differ true is not = absurd (cc)
    differ false is not = absurd (cc)
  step true false at false after rest = rw after (omega arith)
  step false true at still after rest = rw at (omega (arith, rest))
  step false false at still after rest = rw at rest

module _ (a b : Held) (number : ℕ) (command : CommandName) (name : ResponseName) (first : Does a b (change number (advanced command name) (work_of a))) where
  pub gone_idle : IsIdle a.making.answer → IsIdle b.making.answer
  gone_idle idle = record { work = ap (λ w. w.answer.work) first.own ∙ idle.work; spent = ap (λ w. w.answer.spent) first.own ∙ idle.spent }

  pub gone_lines : (c : Connection) (role : Role) → connection_of number (work_of a).state ≡ Some c → c.role ≡ Some role → lines_at number (work_of a).state + 2 ≤ a.making.free → lines_as (Some role) (work_of b).state ≤ b.making.free
  gone_lines c role found is enough =
      let before : lines_at number (work_of a).state ≡ lines_as (Some role) (work_of a).state = ap (λ o. option_map_or (λ (d : Connection). lines_as d.role (work_of a).state) o 0) found ∙ ap (λ r. lines_as r (work_of a).state) is in
      let less = fewer role in
      let free = same_room a b (change number (advanced command name) (work_of a)) first refl in
      omega (arith, before, less, free, enough) where
        fewer : (r : Role) → lines_as (Some r) (work_of b).state ≤ lines_as (Some r) (work_of a).state
        fewer (Superior key) = subst (λ n. n ≤ lines_for key (work_of a).state) (sym (ap (λ w. lines_for key w.state) first.own)) (fewer_on key number command name (work_of a).state.connections)
        fewer (Subordinate key part) = subst (λ n. n ≤ lines_for key (work_of a).state) (sym (ap (λ w. lines_for key w.state) first.own)) (fewer_on key number command name (work_of a).state.connections)

  pub gone_key : (key : Key) → lines_for key (work_of a).state ≤ a.making.free → lines_for key (work_of b).state ≤ b.making.free
  gone_key key enough =
      let free = same_room a b (change number (advanced command name) (work_of a)) first refl in
      let less : lines_for key (work_of b).state ≤ lines_for key (work_of a).state = subst (λ n. n ≤ lines_for key (work_of a).state) (sym (ap (λ w. lines_for key w.state) first.own)) (fewer_on key number command name (work_of a).state.connections) in
      omega (arith, free, less, enough)

  pub gone_lines_as : (c : Connection) (role : Option Role) → connection_of number (work_of a).state ≡ Some c → role ≡ c.role → lines_at number (work_of a).state + 2 ≤ a.making.free → lines_as role (work_of b).state + 1 ≤ b.making.free
  gone_lines_as c role found is enough =
      let before : lines_at number (work_of a).state ≡ lines_as role (work_of a).state = ap (λ o. option_map_or (λ (d : Connection). lines_as d.role (work_of a).state) o 0) found ∙ sym (ap (λ r. lines_as r (work_of a).state) is) in
      let less = fewer role in
      let free = same_room a b (change number (advanced command name) (work_of a)) first refl in
      omega (arith, before, less, free, enough) where
        fewer : (r : Option Role) → lines_as r (work_of b).state ≤ lines_as r (work_of a).state
        fewer None = omega arith
        fewer (Some (Superior key)) = subst (λ n. n ≤ lines_for key (work_of a).state) (sym (ap (λ w. lines_for key w.state) first.own)) (fewer_on key number command name (work_of a).state.connections)
        fewer (Some (Subordinate key part)) = subst (λ n. n ≤ lines_for key (work_of a).state) (sym (ap (λ w. lines_for key w.state) first.own)) (fewer_on key number command name (work_of a).state.connections)

-- The part is noted

still_parts : (f : Participant → Participant) (same : (p : Participant) → f p ≡ p) (part : ℕ) (parts : List Participant) → changed_at part f parts ≡ parts
still_parts f same part [] = refl
still_parts f same zero (p ∷ parts) = ap (λ q. q ∷ parts) (same p)
still_parts f same (suc part) (p ∷ parts) = ap (λ ps. p ∷ ps) (still_parts f same part parts)

pub still_noting : (part : ℕ) (t : Transaction) → noting part (noted note.Nothing) t ≡ t
still_noting part t = ap (λ parts. record t { parts = parts }) (still_parts (noted note.Nothing) (λ p. refl) part t.parts)

still_changed : {T : Type 0} (test : T → Bool) (f : T → T) (same : (item : T) → f item ≡ item) (items : List T) → changed test f items ≡ items
still_changed test f same [] = refl
still_changed test f same (x ∷ xs) = step (test x) (still_changed test f same xs) where
  step : (b : Bool) → changed test f xs ≡ xs → cond b (f x ∷ xs) (x ∷ changed test f xs) ≡ x ∷ xs
  step true rest = ap (λ y. y ∷ xs) (same x)
  step false rest = ap (λ ys. x ∷ ys) rest

still_altered : (key : Key) (part : ℕ) (w : Work) → alter key (noting part (noted note.Nothing)) w ≡ w
still_altered key part w = ap (λ ts. record w { state = record w.state { transactions = ts } }) (still_changed (has_key key) (noting part (noted note.Nothing)) (still_noting part) w.state.transactions)

pub noted_nothing : (a : Held) (key : Key) (part : ℕ) → Does a a (alter key (noting part (noted note.Nothing)) (work_of a))
noted_nothing a key part = subst (Does a a) (sym (still_altered key part (work_of a))) (nothing a)

pub ruleset taking_note = (noted_nothing)

-- All in a row

pub noting_nobody : (n : Note) (role : Option Role) (w : Work) → part_of role ≡ None → noting_as n role w ≡ Attempt.Done w
noting_nobody note.Nothing None w is = refl
noting_nobody note.Nothing (Some (Superior key)) w is = refl
noting_nobody note.Nothing (Some (Subordinate key part)) w is = absurd (cc)
noting_nobody (note.Answered said) None w is = refl
noting_nobody (note.Answered said) (Some (Superior key)) w is = refl
noting_nobody (note.Answered said) (Some (Subordinate key part)) w is = absurd (cc)
noting_nobody (note.Named id) None w is = refl
noting_nobody (note.Named id) (Some (Superior key)) w is = refl
noting_nobody (note.Named id) (Some (Subordinate key part)) w is = absurd (cc)
noting_nobody note.Acknowledged None w is = refl
noting_nobody note.Acknowledged (Some (Superior key)) w is = refl
noting_nobody note.Acknowledged (Some (Subordinate key part)) w is = absurd (cc)

noting_someone : (n : Note) (key : Key) (part : ℕ) (w : Work) → noting_as n (Some (Subordinate key part)) w ≡ proceed key (alter key (noting part (noted n)) w)
noting_someone note.Nothing key part w = ap (proceed key) (sym (still_altered key part w))
noting_someone (note.Answered said) key part w = refl
noting_someone note.Acknowledged key part w = refl
noting_someone (note.Named id) key part w = refl

pub noting_part_of : (n : Note) (role : Option Role) (key : Key) (part : ℕ) (w : Work) → part_of role ≡ Some (key, part) → noting_as n role w ≡ proceed key (alter key (noting part (noted n)) w)
noting_part_of n None key part w is = absurd (cc)
noting_part_of n (Some (Superior other)) key part w is = absurd (cc)
noting_part_of n (Some (Subordinate other place)) key part w is = noting_someone n other place w ∙ ap (λ (s : Key × ℕ). proceed s.0 (alter s.0 (noting s.1 (noted n)) w)) (same_Some (other, place) (key, part) is)

module _ (a b : Held) (number : ℕ) (command : CommandName) (name : ResponseName) (n : Note) (c : Connection) (found : connection_of number (work_of a).state ≡ Some c) (first : Does a b (change number (advanced command name) (work_of a))) where
  pub goes_on : Does a b (go_on command name c (work_of a))
  goes_on = subst (λ m. Does a b (change m (advanced command name) (work_of a))) (sym (found-number number (work_of a).state.connections c found)) first

  pub notes_nobody : c.role ≡ None → Does a b (chosen (noting_as n c.role (go_on command name c (work_of a))) a.outcome)
  notes_nobody is = subst (λ t. Does a b (chosen t a.outcome)) (sym (noting_nobody n c.role (go_on command name c (work_of a)) (ap part_of is))) goes_on

  pub notes_someone : (d : Held) (role : Role) → c.role ≡ Some role → Does b d (chosen (noting_as n (Some role) (work_of b)) b.outcome) → Does a d (chosen (noting_as n c.role (go_on command name c (work_of a))) a.outcome)
  notes_someone d role is second =
      subst (λ r. Does a d (chosen (noting_as n r (go_on command name c (work_of a))) a.outcome)) (sym is)
      (subst (λ o. Does a d (chosen (noting_as n (Some role) (go_on command name c (work_of a))) o)) first.outcome
      (then a b d (λ w. chosen (noting_as n (Some role) w) b.outcome) _ goes_on second))

-- what was decided of the part's transaction is decided of it still
pub went_next : (a b : Held) (number : ℕ) (command : CommandName) (name : ResponseName) (n : Note) (c : Connection) → connection_of number (work_of a).state ≡ Some c → Does a b (change number (advanced command name) (work_of a)) → (role : Role) → c.role ≡ Some role →
    EndsBy (wanted_of_part n (part_of c.role) (work_of a).state) a.endings → EndsBy (wanted_of_part n (part_of (Some role)) (work_of b).state) b.endings
went_next a b number command name n c found first role is ends = at (part_of (Some role)) (ap part_of is) (subst (λ r. EndsBy (wanted_of_part n (part_of r) (work_of a).state) a.endings) is ends) where
  there : connection_of c.number (work_of a).state ≡ Some c
  there = subst (λ m. connection_of m (work_of a).state ≡ Some c) (sym (found-number number (work_of a).state.connections c found)) found

  own : work_of b ≡ go_on command name c (work_of a)
  own = (goes_on a b number command name n c found first).own

  by : (place : Key × ℕ) → part_of c.role ≡ Some place → (o : Option Transaction) → EndsBy (option_map_or (wanted_noting n place.1 (work_of a).state) o Course.Stays) a.endings → EndsBy (option_map_or (wanted_noting n place.1 (work_of b).state) o Course.Stays) b.endings
  by place so None ends = ends
  by place so (Some t) ends =
      subst (λ e. EndsSo (outlook (noting place.1 (noted n) t)) (owed_to_superior t.key (work_of b).state) e) (sym first.endings)
      (subst (λ owed. EndsSo (outlook (noting place.1 (noted n) t)) owed a.endings) (sym (ap (λ w. owed_to_superior t.key w.state) own ∙ owed_after (work_of a) c there command name t.key place so)) ends)

  at : (place : Option (Key × ℕ)) → part_of c.role ≡ place → EndsBy (wanted_of_part n place (work_of a).state) a.endings → EndsBy (wanted_of_part n place (work_of b).state) b.endings
  at None so ends = ends
  at (Some place) so ends =
      subst (λ o. EndsBy (option_map_or (wanted_noting n place.1 (work_of b).state) o Course.Stays) b.endings) (sym (ap (λ w. transaction_of place.0 w.state) first.own))
      (by place so (transaction_of place.0 (work_of a).state) ends)

pub ruleset noting_one = (gone_idle, gone_lines, notes_nobody, notes_someone, went_next)

-- The transaction goes on

pub noted_lines : (a b : Held) (key : Key) (part : ℕ) (f : Participant → Participant) → Does a b (alter key (noting part f) (work_of a)) → lines_for key (work_of a).state ≤ a.making.free → lines_for key (work_of b).state ≤ b.making.free
noted_lines a b key part f does enough =
    let free = same_room a b (alter key (noting part f) (work_of a)) does refl in
    let same : lines_for key (work_of b).state ≡ lines_for key (work_of a).state = ap (λ w. lines_for key w.state) does.own in
    omega (arith, free, same, enough)

pub noted_none : (a : Held) (n : Note) (key : Key) (part : ℕ) → transaction_of key (work_of a).state ≡ None → Does a a (chosen (proceed key (alter key (noting part (noted n)) (work_of a))) a.outcome)
noted_none a n key part none = subst (λ w. Does a a (chosen (proceed key w) a.outcome)) (unaltered a key (noting part (noted n)) none).own (proceeds_none a key a.outcome none)

pub noted_some : (a b c : Held) (n : Note) (key : Key) (part : ℕ) → Does a b (alter key (noting part (noted n)) (work_of a)) → Does b c (chosen (proceed key (work_of b)) b.outcome) → Does a c (chosen (proceed key (alter key (noting part (noted n)) (work_of a))) a.outcome)
noted_some a b c n key part first second =
    subst (λ o. Does a c (chosen (proceed key (alter key (noting part (noted n)) (work_of a))) o)) first.outcome
    (then a b c (λ w. chosen (proceed key w) b.outcome) _ first second)

pub noted_next : (a b : Held) (n : Note) (key : Key) (part : ℕ) (t : Transaction) → transaction_of key (work_of a).state ≡ Some t → EndsBy (wanted_of_part n (Some (key, part)) (work_of a).state) a.endings → Does a b (alter key (noting part (noted n)) (work_of a)) →
    chosen (proceed key (work_of b)) b.outcome ≡ ended key (ending_on b.outcome b.endings) (work_of b)
noted_next a b n key part t found ends does =
    altered_next a b key (noting part (noted n)) (λ u. refl)
    (subst (λ o. ContinuesAs o (noting part (noted n)) a) (sym found) (subst (λ o. EndsBy (option_map_or (wanted_noting n part (work_of a).state) o Course.Stays) a.endings) found ends)) does

pub ruleset noting_part = (noted_lines, noted_none, noted_some, noted_next, still_idle, may_idle)

pub noted_on : (a b : Held) (n : Note) (key : Key) (part : ℕ) → Does a b (chosen (proceed key (alter key (noting part (noted n)) (work_of a))) a.outcome) → Does a b (chosen (noting_as n (Some (Subordinate key part)) (work_of a)) a.outcome)
noted_on a b n key part does = subst (λ t. Does a b (chosen t a.outcome)) (sym (noting_someone n key part (work_of a))) does

pub noted_off : (a : Held) (n : Note) (key : Key) → Does a a (chosen (noting_as n (Some (Superior key)) (work_of a)) a.outcome)
noted_off a n key = subst (λ t. Does a a (chosen t a.outcome)) (sym (noting_nobody n (Some (Superior key)) (work_of a) refl)) (nothing a)

pub ruleset noting_role = (noted_on, noted_off)

-- PULL

module _ (a b : Held) (number : ℕ) (c : Connection) (said : AResponse) (found : connection_of number (work_of a).state ≡ Some c) where
  pub pull_came : (came : Bool) → came ≡ true → Does a b (change number (advanced command.Pull names.Pulled) (work_of a)) → Does a b (chosen (pulling (Some came) said c (work_of a)) a.outcome)
  pull_came came is first = subst (λ y. Does a b (chosen (pulling (Some y) said c (work_of a)) a.outcome)) (sym is) (goes_on a b number command.Pull names.Pulled note.Nothing c found first)

  pull_refused : (came : Bool) (d : Held) → came ≡ false → Does a d (abort_as c.role (go_on command.Pull names.NotPulled c (work_of a))) → Does a d (chosen (pulling (Some came) said c (work_of a)) a.outcome)
  pull_refused came d is does = subst (λ y. Does a d (chosen (pulling (Some y) said c (work_of a)) a.outcome)) (sym is) does

  pub pull_alone : (came : Bool) → came ≡ false → c.role ≡ None → Does a b (change number (advanced command.Pull names.NotPulled) (work_of a)) → Does a b (chosen (pulling (Some came) said c (work_of a)) a.outcome)
  pull_alone came is none first = pull_refused came b is (subst (λ r. Does a b (abort_as r (go_on command.Pull names.NotPulled c (work_of a)))) (sym none) (goes_on a b number command.Pull names.NotPulled note.Nothing c found first))

  pub pull_aborts : (came : Bool) (d : Held) (role : Role) → came ≡ false → c.role ≡ Some role → Does a b (change number (advanced command.Pull names.NotPulled) (work_of a)) → Does b d (abort_as (Some role) (work_of b)) → Does a d (chosen (pulling (Some came) said c (work_of a)) a.outcome)
  pull_aborts came d role is on first second = pull_refused came d is (subst (λ r. Does a d (abort_as r (go_on command.Pull names.NotPulled c (work_of a)))) (sym on) (then a b d (abort_as (Some role)) _ (goes_on a b number command.Pull names.NotPulled note.Nothing c found first) second))

pub ruleset ending_pull = (gone_idle, gone_lines, pull_came, pull_alone, pull_aborts)

-- IDENTIFY

greets_so : (version : ℕ) (c : Connection) (w : Work) (spoken : Bool) → nat_le 3 version ≡ spoken → greeted version purposes.Plain c w ≡ cond spoken (go_on command.Identify names.Identified c w) (wrong c w)
greets_so version c w spoken is = ap (λ b. cond b (go_on command.Identify names.Identified c w) (wrong c w)) is

module _ (a b : Held) (number version : ℕ) (c : Connection) (found : connection_of number (work_of a).state ≡ Some c) where
  pub greets : 3 ≤ version → Does a b (change number (advanced command.Identify names.Identified) (work_of a)) → Does a b (greeted version purposes.Plain c (work_of a))
  greets le first = let spoken : nat_le 3 version ≡ true = grind (arith, nat_tests, le) in subst (Does a b) (sym (greets_so version c (work_of a) true spoken)) (goes_on a b number command.Identify names.Identified note.Nothing c found first)

  pub greets_not : version < 3 → Does a b (wrong c (work_of a)) → Does a b (greeted version purposes.Plain c (work_of a))
  greets_not less does = let spoken : nat_le 3 version ≡ false = grind (arith, nat_tests, less) in subst (Does a b) (sym (greets_so version c (work_of a) false spoken)) does

pub ruleset greeting_back = (greets, greets_not)
