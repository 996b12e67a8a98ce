-- Two-phase commit (RFC 2371, section 13). The rules of commands, responses and failures say what was asked and answered;
-- `proceed` alone says what follows, by the transaction's phase. It may be called again and again: what was said is not said
-- twice. In one table, where a row is stored or removed before anything goes out:
--
-- phase      what happened                             next phase   row               what goes out
-- active     PREPARE from an address, or COMMIT        asking                         the party to vote; PREPARE
-- active     PREPARE from no address, ABORT,           aborted                        ABORTED to who asked; ABORT; the party
--            NOTPULLED, or a superior or a part lost
-- asking     an answer is missing                      asking                         PREPARE to who can be asked now
-- asking     a no, or a superior or a part lost        aborted                        ABORTED; ABORT; the party
-- asking     all read-only                             over                           READONLY to PREPARE, COMMITTED to COMMIT
-- asking     all agree, and PREPARE was asked          prepared     put, in doubt     PREPARED
-- asking     all agree, and COMMIT was asked           committed    put, committed    COMMITTED; COMMIT; the party
-- asking     all agree, and the store refuses          aborted                        ABORTED; ABORT; the party
-- prepared   COMMIT                                    committed    put, committed    COMMITTED; COMMIT; the party
-- prepared   ABORT, or QUERIEDNOTFOUND                 aborted      removed           ABORTED to who asked; ABORT; the party
-- prepared   the same, and the store refuses           prepared                       a closing, to who asked or answered
-- prepared   a superior or a part lost                 prepared
-- committed  a part is reached again                   committed                      COMMIT
-- committed  all have acknowledged, and the party too  over         removed
-- committed  the same, and the store refuses           committed                      (until it is resumed)
-- aborted    anything, and the party is spent and      over
--            no connection is left
use Rattle.std.specs.Prelude.{◌&&◌, not, Option, Some, find, if◌then◌else◌}
use Rattle.std.specs.List.{list_any}
use Rattle.std.specs.Option.{option_and_then}
use Rattle.tip_branch.specs.Notes.{PartyNotes, given}
use Rattle.tip_branch.specs.declared.member.Errand.{Errand}
use Rattle.tip_branch.specs.declared.member.Errand.TheVariants as errand
use Rattle.tip_line.specs.declared.command.CommandName.{CommandName}
use Rattle.tip_line.specs.declared.command.CommandName.TheVariants as command
use Rattle.tip_rows.specs.Keys.{Key}
use Rattle.tip_txn.specs.declared.answer.Decision.{Decision}
use Rattle.tip_txn.specs.declared.answer.Decision.TheVariants as decision
use Rattle.tip_txn.specs.declared.answer.Phase.{Phase}
use Rattle.tip_txn.specs.declared.answer.Phase.TheVariants.{Active, Asking, Prepared, Committed, Aborted}
use Rattle.tip_machine.specs.Types.{PartyPlace, Transaction}
use Rattle.tip_machine.specs.Connections.{is_on, is_superior_of}
use Rattle.tip_machine.specs.Transactions.{decision_of, entering, has_ready, is_done, is_spent, row_committed, row_in_doubt, standing_at}
use Rattle.tip_machine.specs.States.{Attempt, State, Work}
use Rattle.tip_machine.specs.Changes.{alter, attempt_on_key, end, on_key}
use Rattle.tip_machine.specs.Reactions.{aborts, asks, commits, needs_nothing, promises, react}
use Rattle.tip_machine.specs.declared.event.Change.TheVariants.{Put, Remove}
use Rattle.tip_machine.specs.declared.transaction.Origin.{Origin}
use Rattle.tip_machine.specs.declared.transaction.Origin.TheVariants as origin
use Rattle.tip_machine.specs.declared.transaction.PartyPlace.TheVariants.{Here, Out, Spent}

-- The local party

-- the party goes out for an errand (ours)
abbrev pub give_out : Errand → PartyNotes → Key → Work → Work
give_out errand party key work =
    let work = alter key (standing_at (Out errand)) work in
    record work { answer = record work.answer { work = Some (given party errand) } }

-- the party is let go: branches that are still active are rolled back (ours)
abbrev pub let_go : PartyNotes → Key → Work → Work
let_go party key work =
    let work = alter key (standing_at Spent) work in
    record work { answer = record work.answer { spent = Some party } }

-- what a party is told in this phase (ours)
abbrev pub errand_in : Phase → Errand
errand_in Committed = errand.Commit
errand_in other = errand.Abort

-- a party that is here, by whether a branch waits for the outcome (ours)
abbrev pub dispatched : PartyPlace → Phase → Key → Work → Work
dispatched (Here party) phase key work = if has_ready party then give_out (errand_in phase) party key work else let_go party key work
dispatched (Out errand) phase key work = work
dispatched Spent phase key work = work

-- a party that is here goes out to be told the outcome, where a branch waits for it; else it is let go (ours)
unfoldable pub dispatch : Key → Work → Work
dispatch key work = on_key key (λ transaction. dispatched transaction.place transaction.phase key) work

-- Outcomes

-- the transaction enters a phase (section 13)
abbrev pub enter : Phase → Key → Work → Work
enter phase key work = alter key (entering phase) work

-- a transaction that is aborted is open until its party is spent and no connection is on it (ours)
unfoldable pub release : Key → Work → Work
release key work = on_key key (λ transaction work. if is_spent transaction.place && not (list_any (is_on key) work.state.connections) then end key work else work) work

-- abort: the superior is answered where it asked, each subordinate is told as soon as it can be, and the party (section 13, ABORT)
unfoldable pub abort : Key → Work → Work
abort key work = release key (dispatch key (react aborts key (enter Aborted key work)))

-- commit, the row being stored: the superior is answered, each subordinate that can be reached is told, and the party
-- (section 13, COMMIT)
unfoldable pub commit : Key → Work → Work
commit key work = dispatch key (react commits key (enter Committed key work))

-- the row in doubt is stored: we promise to do as we are told (section 13, PREPARE)
unfoldable pub promise : Key → Work → Work
promise key work = react promises key (enter Prepared key work)

-- nobody has anything to commit: all leave, and nothing is stored (section 13, READONLY)
unfoldable pub leave : Key → Work → Work
leave key work = end key (dispatch key (react needs_nothing key work))

-- The outcome of asking

-- the command that the superior waits for (section 13)
abbrev pub owed_to_superior : Key → State → Option CommandName
owed_to_superior key state = option_and_then (λ connection. connection.owed) (find (is_superior_of key) state.connections)

-- all agree: what is to be stored before anybody is told depends on what the superior asked. Refused, we abort (section 10)
abbrev pub agree : Option CommandName → Origin → Transaction → Work → Attempt
agree (Some command.Prepare) (origin.Subordinate (Some address) superior) transaction work =
    let key = transaction.key in Attempt.Asks (Put key (row_in_doubt address superior transaction)) (promise key work) (abort key work)
agree (Some command.Commit) origin transaction work =
    let key = transaction.key in Attempt.Asks (Put key (row_committed transaction)) (commit key work) (abort key work)
agree other origin transaction work = Attempt.Done work

-- while an answer is missing, subordinates are asked as soon as they can be (section 13, PREPARE)
abbrev pub wait : Phase → Key → Work → Work
wait Asking key work = react asks key work
wait other key work = work

-- the answers decide (section 13, PREPARE and COMMIT)
abbrev pub conclude : Decision → Transaction → Work → Attempt
conclude decision.Wait transaction work = Attempt.Done (wait transaction.phase transaction.key work)
conclude decision.Commit transaction work = agree (owed_to_superior transaction.key work.state) transaction.origin transaction work
conclude decision.Abort transaction work = Attempt.Done (abort transaction.key work)
conclude decision.ReadOnly transaction work = Attempt.Done (leave transaction.key work)

-- a committed transaction is forgotten once all have acknowledged it; refused, it stays until it is resumed (section 13, COMMIT)
unfoldable pub finish : Transaction → Work → Attempt
finish transaction work = if is_done transaction then Attempt.Asks (Remove transaction.key) (end transaction.key work) work else Attempt.Done work

-- what follows in each phase (section 13)
abbrev pub proceed_in : Phase → Transaction → Work → Attempt
proceed_in Active transaction work = conclude (decision_of transaction) transaction work
proceed_in Asking transaction work = conclude (decision_of transaction) transaction work
proceed_in Prepared transaction work = Attempt.Done work
proceed_in Committed transaction work = finish transaction (react commits transaction.key work)
proceed_in Aborted transaction work = Attempt.Done (abort transaction.key work)

-- WHAT FOLLOWS for a transaction, after something was asked or answered (section 13)
unfoldable pub proceed : Key → Work → Attempt
proceed key work = attempt_on_key key (λ transaction. proceed_in transaction.phase transaction) work

-- a party that is here goes out to vote (ours)
abbrev pub asked_for_votes : PartyPlace → Key → Work → Work
asked_for_votes (Here party) key work = give_out errand.Vote party key work
asked_for_votes (Out errand) key work = work
asked_for_votes Spent key work = work

-- all parties are asked whether they can commit (section 13, PREPARE and COMMIT)
unfoldable pub ask : Transaction → Work → Attempt
ask transaction work = proceed transaction.key (asked_for_votes transaction.place transaction.key (enter Asking transaction.key work))
