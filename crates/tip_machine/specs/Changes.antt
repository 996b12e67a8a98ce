-- Steps of work, of which the rules are made.
use Rattle.std.specs.Prelude.{ℕ, [], ◌∷◌, ◌++◌, Option, Some, None}
use Rattle.tip_line.specs.declared.command.CommandName.{CommandName}
use Rattle.tip_line.specs.declared.refusal.Refusal.{Refusal}
use Rattle.tip_rows.specs.Keys.{Key}
use Rattle.tip_table.specs.Lists.{changed, without}
use Rattle.tip_machine.specs.Types.{Connection, Transaction}
use Rattle.tip_machine.specs.Answers.{response_name}
use Rattle.tip_machine.specs.Connections.{awaiting, has_number, advanced}
use Rattle.tip_machine.specs.Transactions.{has_key}
use Rattle.tip_machine.specs.States.{Attempt, Work, transaction_of}
use Rattle.tip_machine.specs.declared.connection.Awaited.{Awaited}
use Rattle.tip_machine.specs.declared.answer.Asked.{Asked}
use Rattle.tip_machine.specs.declared.answer.Item.{Item}
use Rattle.tip_machine.specs.declared.answer.Item.TheVariants.{Say, Ask}
use Rattle.tip_machine.specs.declared.answer.Said.{Said}

-- this goes out on a connection, after what went out so far
abbrev pub tell : ℕ → Item → Work → Work
tell number item work = record work { answer = record work.answer { sent = work.answer.sent ++ record { connection = number; item = item } ∷ [] } }

abbrev pub refuse : Refusal → Work → Work
refuse why work = record work { answer = record work.answer { refusal = Some why } }

-- the connection of this number is changed
abbrev pub change : ℕ → (Connection → Connection) → Work → Work
change number f work = record work { state = record work.state { connections = changed (has_number number) f work.state.connections } }

-- the transaction of this key is changed
abbrev pub alter : Key → (Transaction → Transaction) → Work → Work
alter key f work = record work { state = record work.state { transactions = changed (has_key key) f work.state.transactions } }

-- the transaction of this key is open no more
abbrev pub end : Key → Work → Work
end key work = record work { state = record work.state { transactions = without (has_key key) work.state.transactions } }

-- a command is answered, and its connection goes by the connection table (section 13)
unfoldable pub reply : ℕ → CommandName → Said → Work → Work
reply number command said work = change number (advanced command (response_name said)) (tell number (Say said) work)

-- a command is said, and its response awaited (section 13)
unfoldable pub send : ℕ → Awaited → Asked → Work → Work
send number awaited asked work = change number (awaiting awaited) (tell number (Ask asked) work)

-- what a rule makes of the transaction of a key; where none is open, nothing
abbrev pub on : Option Transaction → (Transaction → Work → Work) → Work → Work
on None rule work = work
on (Some transaction) rule work = rule transaction work

abbrev pub on_key : Key → (Transaction → Work → Work) → Work → Work
on_key key rule work = on (transaction_of key work.state) rule work

-- the same, of a rule that may ask for a change of the rows
abbrev pub attempt_on : Option Transaction → (Transaction → Work → Attempt) → Work → Attempt
attempt_on None rule work = Attempt.Done work
attempt_on (Some transaction) rule work = rule transaction work

abbrev pub attempt_on_key : Key → (Transaction → Work → Attempt) → Work → Attempt
attempt_on_key key rule work = attempt_on (transaction_of key work.state) rule work
