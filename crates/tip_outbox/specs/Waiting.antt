-- WHAT WAITS TO GO OUT on each connection of each realm (ours, for RFC 2371, section 12).
use Rattle.std.specs.Prelude.{◌≡◌, ◌==◌, ◌++◌, ℕ, List, [], map, filter, if◌then◌else◌}
use Rattle.std.specs.Option.{option_map_or}
use Rattle.std.specs.BTreeMap.{BTreeMap, get}
use Rattle.std.specs.Ordering.{nat_cmp}
use Rattle.std.specs.VecDeque.{deque_items}
use Rattle.tip_machine.specs.Steps.{is_for}
use Rattle.tip_machine.specs.declared.answer.Item.{Item}
use Rattle.tip_machine.specs.declared.answer.Sent.{Sent}
use Rattle.tip_outbox.specs.declared.outboxes.Outboxes.{Outboxes}
use Rattle.tip_outbox.specs.declared.realm_outboxes.RealmOutboxes.{RealmOutboxes}

-- of what is sent, what goes to a connection, in order
abbrev pub sent_to : ℕ → List Sent → List Item
sent_to number sent = map (λ one. one.item) (filter (is_for number) sent)

-- what is in the outbox of a connection, of its realm's; nothing where it has none
abbrev pub queued : RealmOutboxes → ℕ → List Item
queued own number = option_map_or deque_items (get nat_cmp own.queues number) []

-- and of all realms'
abbrev pub boxed : BTreeMap ℕ RealmOutboxes → ℕ → ℕ → List Item
boxed realms realm number = option_map_or (λ own. queued own number) (get nat_cmp realms realm) []

-- of what the last event has sent in a realm and is in no outbox yet, what goes to a connection
abbrev pub unsorted : ℕ → List Sent → ℕ → ℕ → List Item
unsorted last_realm last realm number = if last_realm == realm then sent_to number last else []

-- ALL THAT WAITS FOR A CONNECTION of a realm, in the order in which it is to go out
abbrev pub waiting : Outboxes → ℕ → ℕ → List Item
waiting outboxes realm number = boxed outboxes.realms realm number ++ unsorted outboxes.realm (deque_items outboxes.last) realm number

-- all that was sent is in outboxes
abbrev pub IsSettled : Outboxes → Type 0
IsSettled outboxes = deque_items outboxes.last ≡ []
