-- How a transaction goes on at the end of an event, in the words of the rules (RFC 2371, section 13).
use Rattle.std.specs.Prelude.{◌≡◌, Option, None, Some, ⊤}
use Rattle.tip_line.specs.declared.command.CommandName.{CommandName}
use Rattle.tip_rows.specs.Keys.{Key}
use Rattle.tip_machine.specs.Changes.{end}
use Rattle.tip_txn.specs.declared.answer.Phase.{Phase}
use Rattle.tip_txn.specs.declared.answer.Phase.TheVariants.{Asking}
use Rattle.tip_machine.specs.Proceeding.{abort, agree, commit, conclude, finish, leave, owed_to_superior, proceed, promise}
use Rattle.tip_machine.specs.Reactions.{asks, commits, react}
use Rattle.tip_machine.specs.States.{Work, transaction_of}
use Rattle.tip_machine.specs.Steps.{chosen}
use Rattle.tip_machine.specs.Types.{Transaction}
use Rattle.tip_machine.specs.declared.event.Outcome.{Outcome}
use Rattle.tip_machine.specs.declared.event.Outcome.TheVariants.{NoChange, Refused, Stored}
use Rattle.tip_outlook.specs.Wanting.{Course, Outlook, agreed_change, change_of, concluded, finished, outlook, wished}
use Rattle.tip_outlook.specs.declared.next.Ending.{Ending}
use Rattle.tip_outlook.specs.declared.next.Ending.TheVariants as ending
use Rattle.tip_outlook.specs.declared.next.Endings.{Endings}
use Rattle.tip_outlook.specs.declared.next.Next.{Next}

-- the transaction of a key goes on so
abbrev pub ended : Key → Ending → Work → Work
ended key ending.Nothing work = work
ended key ending.Ask work = react asks key work
ended key ending.Leave work = leave key work
ended key ending.Promise work = promise key work
ended key ending.Commit work = commit key work
ended key ending.Abort work = abort key work
ended key ending.Remind work = react commits key work
ended key ending.Finish work = end key (react commits key work)

-- by what became of the change
abbrev pub ending_on : Outcome → Endings → Ending
ending_on Stored endings = endings.stored
ending_on Refused endings = endings.refused
ending_on NoChange endings = endings.refused

-- no change is asked for, so one ending is as the other
abbrev pub done : Ending → Next
done how = record { change = None; endings = record { stored = how; refused = how } }

abbrev pub no_endings : Endings
no_endings = record { stored = ending.Nothing; refused = ending.Nothing }

-- while an answer is missing, subordinates are asked as soon as they can be
abbrev pub waiting : Phase → Ending
waiting Asking = ending.Ask
waiting other = ending.Nothing

-- it is what the rules come to for a transaction that is so, where this is owed to its superior
abbrev pub EndsSo : Outlook → Option CommandName → Endings → Type 0
EndsSo o owed endings = (t : Transaction) (work : Work) (outcome : Outcome) → outlook t ≡ o → owed_to_superior t.key work.state ≡ owed → transaction_of t.key work.state ≡ Some t →
    chosen (proceed t.key work) outcome ≡ ended t.key (ending_on outcome endings) work

-- WHAT FOLLOWS for it: the change of its row, and how it goes on
pub record Follows (o : Outlook) (owed : Option CommandName) (next : Next) : Type 0 where
  pub change : next.change ≡ wished owed o
  pub endings : EndsSo o owed next.endings

-- the same once the answers decide
pub record Concludes (o : Outlook) (owed : Option CommandName) (next : Next) : Type 0 where
  pub change : next.change ≡ concluded o.decision owed o
  pub endings : (t : Transaction) (work : Work) (outcome : Outcome) → outlook t ≡ o → owed_to_superior t.key work.state ≡ owed →
      chosen (conclude o.decision t work) outcome ≡ ended t.key (ending_on outcome next.endings) work

-- once all agree
pub record Agrees (o : Outlook) (owed : Option CommandName) (next : Next) : Type 0 where
  pub change : next.change ≡ agreed_change owed o.origin o
  pub endings : (t : Transaction) (work : Work) (outcome : Outcome) → outlook t ≡ o →
      chosen (agree owed t.origin t work) outcome ≡ ended t.key (ending_on outcome next.endings) work

-- and of one that is committed
pub record Reminds (o : Outlook) (next : Next) : Type 0 where
  pub change : next.change ≡ finished o
  pub endings : (t : Transaction) (work : Work) (outcome : Outcome) → outlook t ≡ o →
      chosen (finish t (react commits t.key work)) outcome ≡ ended t.key (ending_on outcome next.endings) work

-- What is foreseen of an event

-- a transaction that goes on does so
abbrev pub EndsBy : Course → Endings → Type 0
EndsBy Course.Stays endings = ⊤
EndsBy (Course.GoesOn o owed) endings = EndsSo o owed endings
EndsBy (Course.Asks change) endings = ⊤

-- the change, and how a transaction goes on that does
pub record Meets (course : Course) (next : Next) : Type 0 where
  pub change : next.change ≡ change_of course
  pub endings : EndsBy course next.endings
