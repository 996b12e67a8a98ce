-- A transaction that is aborted is answered as one that never was.
use Rattle.std.proofs.Common.{◌≡◌, Bool, true, false, ℕ, List, Option, Some, None, cond, refl, ap}
use Rattle.std.specs.Prelude.{◌&&◌, not}
use Rattle.std.specs.Option.{option_map_or}
use Rattle.tip_line.specs.declared.command.CommandName.TheVariants as command
use Rattle.tip_txn.specs.Parts.{is_enlisted}
use Rattle.tip_txn.specs.Transactions.{exists_in}
use Rattle.tip_txn.specs.declared.answer.Phase.TheVariants.{Aborted}
use Rattle.tip_machine.specs.Types.{Connection, Transaction}
use Rattle.tip_machine.specs.Transactions.{is_active, is_committed, is_prepared}
use Rattle.tip_machine.specs.States.{Work, identified_by}
use Rattle.tip_machine.specs.Changes.{refuse, reply}
use Rattle.tip_machine.specs.Failing.{closed}
use Rattle.tip_machine.specs.Requests.{push_part, resume}
use Rattle.tip_machine.specs.Responses.{pursue, query_for, reconnect_for}
use Rattle.tip_machine.specs.declared.connection.Purpose.TheVariants as purpose
use Rattle.tip_line.specs.declared.refusal.Refusal.TheVariants.{NotActive}
use Rattle.tip_machine.specs.Commands.{exists, pull, pull_into, query, reconnect, reconnect_to}
use Rattle.tip_machine.specs.Steps.{IsForgotten}
use Rattle.tip_machine.specs.declared.answer.Said.{Said}
use Rattle.tip_machine.specs.declared.answer.Said.TheVariants as said

not_so : {T : Type 0} (b : Bool) (this that : T) → b ≡ false → cond b this that ≡ that
not_so true this that is = absurd (cc)
not_so false this that is = refl

no_and : (b c : Bool) → b ≡ false → b && c ≡ false
no_and true c is = absurd (cc)
no_and false c is = refl

-- what is found is nothing, or aborted
IsGone : Option Transaction → Type 0
IsGone found = (t : Transaction) → found ≡ Some t → t.phase ≡ Aborted

query_of : (n : ℕ) (found : Option Transaction) (w : Work) → IsGone found → reply n command.Query (cond (option_map_or exists found false) said.QueriedExists said.QueriedNotFound) w ≡ reply n command.Query said.QueriedNotFound w
unfolding IsGone
query_of n None w gone = refl
query_of n (Some t) w gone = ap (λ (s : Said). reply n command.Query s w) (not_so (exists t) said.QueriedExists said.QueriedNotFound (ap exists_in (gone t refl)))

pull_of : (n : ℕ) (found : Option Transaction) (peer : Option (List ℕ)) (subordinate : List ℕ) (w : Work) → IsGone found → pull_into found peer subordinate n w ≡ reply n command.Pull said.NotPulled w
unfolding IsGone
pull_of n None peer subordinate w gone = refl
pull_of n (Some t) None subordinate w gone = refl
pull_of n (Some t) (Some address) subordinate w gone = not_so (is_active t.phase && not (is_enlisted t.parts address (Some subordinate))) _ _ (no_and (is_active t.phase) _ (ap is_active (gone t refl)))

reconnect_of : (n : ℕ) (found : Option Transaction) (w : Work) → IsGone found → reconnect_to found n w ≡ reply n command.Reconnect said.NotReconnected w
unfolding IsGone
reconnect_of n None w gone = refl
reconnect_of n (Some t) w gone = not_so (is_prepared t.phase) _ _ (ap is_prepared (gone t refl))

pub queried : (id : List ℕ) (connection : Connection) (work : Work) → IsForgotten id work.state → query id connection work ≡ reply connection.number command.Query said.QueriedNotFound work
unfolding query IsGone
queried id connection work gone = query_of connection.number (identified_by id work.state) work gone

pub pulled : (id subordinate : List ℕ) (connection : Connection) (work : Work) → IsForgotten id work.state → pull id subordinate connection work ≡ reply connection.number command.Pull said.NotPulled work
unfolding pull IsGone
pulled id subordinate connection work gone = pull_of connection.number (identified_by id work.state) connection.peer subordinate work gone

pub reconnected : (id : List ℕ) (connection : Connection) (work : Work) → IsForgotten id work.state → reconnect id connection work ≡ reply connection.number command.Reconnect said.NotReconnected work
unfolding reconnect IsGone
reconnected id connection work gone = reconnect_of connection.number (identified_by id work.state) work gone

pushed_of : (found : Option Transaction) (peer : Option (List ℕ)) (n : ℕ) (w : Work) → IsGone found → push_part found peer n w ≡ refuse NotActive w
unfolding IsGone
pushed_of None peer n w gone = refl
pushed_of (Some t) None n w gone = refl
pushed_of (Some t) (Some address) n w gone = not_so (is_active t.phase) _ _ (ap is_active (gone t refl))

resumed_of : (found : Option Transaction) (w : Work) → IsGone found → resume found w ≡ resume None w
unfolding resume IsGone
resumed_of None w gone = refl
resumed_of (Some t) w gone = not_so (is_committed t.phase) _ _ (ap is_committed (gone t refl))

asked_of : (found : Option Transaction) (c : Connection) (w : Work) → IsGone found → query_for found c w ≡ closed c w
unfolding IsGone
asked_of None c w gone = refl
asked_of (Some t) c w gone = not_so _ _ _ (no_and _ _ (no_and (is_prepared t.phase) _ (ap is_prepared (gone t refl))))

reached_of : (found : Option Transaction) (place : ℕ) (c : Connection) (w : Work) → IsGone found → reconnect_for found place c w ≡ closed c w
unfolding IsGone
reached_of None place c w gone = refl
reached_of (Some t) place c w gone = not_so (is_committed t.phase) _ _ (ap is_committed (gone t refl))

pub pushed : (id : List ℕ) (peer : Option (List ℕ)) (number : ℕ) (work : Work) → IsForgotten id work.state → push_part (identified_by id work.state) peer number work ≡ refuse NotActive work
unfolding IsGone
pushed id peer number work gone = pushed_of (identified_by id work.state) peer number work gone

pub resumed : (id : List ℕ) (work : Work) → IsForgotten id work.state → resume (identified_by id work.state) work ≡ resume None work
unfolding IsGone
resumed id work gone = resumed_of (identified_by id work.state) work gone

pub dialled_to_ask : (id : List ℕ) (c : Connection) (work : Work) → IsForgotten id work.state → pursue (purpose.Query id) c work ≡ closed c work
unfolding IsGone
dialled_to_ask id c work gone = asked_of (identified_by id work.state) c work gone

pub dialled_to_reconnect : (id : List ℕ) (place : ℕ) (c : Connection) (work : Work) → IsForgotten id work.state → pursue (purpose.Reconnect id place) c work ≡ closed c work
unfolding IsGone
dialled_to_reconnect id place c work gone = reached_of (identified_by id work.state) place c work gone
