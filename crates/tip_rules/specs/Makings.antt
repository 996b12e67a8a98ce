-- What is seen of an answer in the making.
use Rattle.std.specs.Prelude.{ℕ, ◌≡◌, ◌-◌, ◌++◌, List, Option, length, map}
use Rattle.tip_machine.specs.declared.answer.Item.{Item}
use Rattle.tip_machine.specs.declared.answer.Sent.{Sent}
use Rattle.tip_machine.specs.Types.{Answer}
use Rattle.tip_rules.specs.Rooms.{TransactionRoom}

pub record Made : Type 0 where
  pub answer : Answer
  -- how many lines and closings can still go out
  pub free : ℕ
  -- room for a transaction, where the event may begin one
  pub room : Option TransactionRoom
  -- where the other side of the event's connection is, for what is made of it
  pub peer : Option (List ℕ)
  -- where we are, for a connection that we open
  pub ours : Option (List ℕ)
  -- the identifier that goes into a question
  pub word : Option (List ℕ)

-- these items on a connection
abbrev pub items_on : ℕ → List Item → List Sent
items_on number items = map (λ item. record { connection = number; item = item }) items

-- with these lines and closings more
abbrev pub telling : Made → List Sent → Made
telling made said = record made { answer = record made.answer { sent = made.answer.sent ++ said }; free = made.free - length said }

-- these lines and closings more go out
abbrev pub GoOut : Made → Made → List Sent → Type 0
GoOut old new said = new ≡ telling old said
