-- What a transcript says of what a realm shows, one line for each output (ours).
use Rattle.std.specs.Prelude.{ℕ, List, [], ◌∷◌, ◌++◌, Option, Some, None, codes, if◌then◌else◌}
use Rattle.std.specs.Fmt.{decimal}
use Rattle.std.specs.List.{flat_map}
use Rattle.tip_branch.specs.Members.{is_active}
use Rattle.tip_branch.specs.declared.branch.Settled.TheVariants as settled
use Rattle.tip_branch.specs.declared.branch.Vote.TheVariants as vote
use Rattle.tip_branch.specs.declared.member.Call.{Call}
use Rattle.tip_branch.specs.declared.member.Call.TheVariants as call
use Rattle.tip_branch.specs.declared.member.Errand.{Errand}
use Rattle.tip_branch.specs.declared.member.Errand.TheVariants as errand
use Rattle.tip_branch.specs.declared.member.Member.{Member}
use Rattle.tip_line.specs.Refusal as refusal
use Rattle.tip_line.specs.Command as command
use Rattle.tip_line.specs.Response as response
use Rattle.tip_line.specs.declared.refusal.Refusal.{Refusal}
use Rattle.tip_line.specs.declared.refusal.Refusal.TheVariants.{NoRealm}
use Rattle.tip_rows.specs.Rows.{written}
use Rattle.tip_machine.specs.Answers.{command_of, identifier, response_of}
use Rattle.tip_machine.specs.Outputs.{Output}
use Rattle.tip_machine.specs.declared.answer.Item.{Item}
use Rattle.tip_machine.specs.declared.answer.Item.TheVariants.{Say, Ask, Close}
use Rattle.tip_machine.specs.declared.answer.Sent.{Sent}
use Rattle.tip_machine.specs.declared.event.Change.{Change}
use Rattle.tip_machine.specs.declared.event.Change.TheVariants.{Put, Remove}
use Rattle.tip_machine.specs.declared.event.Outcome.{Outcome}
use Rattle.tip_machine.specs.declared.event.Outcome.TheVariants.{Stored}
use Rattle.tip_machine.specs.Steps.{key_changed}
use Rattle.tip_machine.specs.declared.event.Seat.{Seat}

-- REALM refused NUMBER NAME
abbrev pub refusal_text : List ℕ → Refusal → List ℕ
refusal_text realm why = realm ++ codes " refused " ++ refusal.printed why ++ codes "\n"

-- REALM CONNECTION open
abbrev pub opened_text : List ℕ → Seat → List ℕ
opened_text realm seat = realm ++ codes " " ++ decimal seat.number ++ codes " open\n"

-- REALM CONNECTION say TEXT, or REALM CONNECTION close
abbrev pub item_text : List ℕ → ℕ → Item → List ℕ
item_text realm connection (Say said) = realm ++ codes " " ++ decimal connection ++ codes " say " ++ response.printed (response_of realm said) ++ codes "\n"
item_text realm connection (Ask asked) = realm ++ codes " " ++ decimal connection ++ codes " say " ++ command.printed (command_of realm asked) ++ codes "\n"
item_text realm connection Close = realm ++ codes " " ++ decimal connection ++ codes " close\n"

abbrev pub sent_text : List ℕ → Sent → List ℕ
sent_text realm sent = item_text realm sent.connection sent.item

-- a call, and its answer
abbrev pub call_word : Call → List ℕ
call_word (call.Vote vote.Yes) = codes "vote yes"
call_word (call.Vote vote.No) = codes "vote no"
call_word (call.Vote vote.ReadOnly) = codes "vote read"
call_word (call.Commit settled.Done) = codes "commit done"
call_word (call.Commit settled.Later) = codes "commit later"
call_word call.Abort = codes "abort"

-- REALM call ID MEMBER WHAT
abbrev pub call_text : List ℕ → List ℕ → ℕ → Call → List ℕ
call_text realm id member called = realm ++ codes " call " ++ id ++ codes " " ++ decimal member ++ codes " " ++ call_word called ++ codes "\n"

-- REALM call ID MEMBER drop
abbrev pub drop_text : List ℕ → List ℕ → ℕ → List ℕ
drop_text realm id member = realm ++ codes " call " ++ id ++ codes " " ++ decimal member ++ codes " drop\n"

-- REALM put ID ROW, REALM remove ID, or REALM store refused ID
abbrev pub change_text : List ℕ → Outcome → Change → List ℕ
change_text realm Stored (Put key row) = realm ++ codes " put " ++ identifier realm key ++ codes " " ++ written row ++ codes "\n"
change_text realm Stored (Remove key) = realm ++ codes " remove " ++ identifier realm key ++ codes "\n"
change_text realm other change = realm ++ codes " store refused " ++ identifier realm (key_changed change) ++ codes "\n"

abbrev pub errand_word : Errand → List ℕ
errand_word errand.Idle = codes "idle"
errand_word errand.Vote = codes "vote"
errand_word errand.Commit = codes "commit"
errand_word errand.Abort = codes "abort"

-- REALM work ERRAND ID
abbrev pub work_text : List ℕ → List ℕ → Errand → List ℕ
work_text realm id errand = realm ++ codes " work " ++ errand_word errand ++ codes " " ++ id ++ codes "\n"

abbrev pub output_text : List ℕ → Output → List ℕ
output_text realm (Output.Refused why) = refusal_text realm why
output_text realm (Output.Opened seat) = opened_text realm seat
output_text realm (Output.Called id member badge call) = call_text realm id member call
output_text realm (Output.Changed change outcome) = change_text realm outcome change
output_text realm (Output.Sent sent) = sent_text realm sent
output_text realm (Output.Works id errand) = work_text realm id errand
output_text realm (Output.Dropped id member badge) = drop_text realm id member

-- WHAT A REALM SHOWS, as it stands in the transcript
abbrev pub shown_text : List ℕ → List Output → List ℕ
shown_text realm shown = flat_map (output_text realm) shown

-- for a realm that was not declared
abbrev pub nowhere_text : List ℕ → List ℕ
nowhere_text realm = refusal_text realm NoRealm

-- REALM idle: no party is out
abbrev pub idle_text : List ℕ → List ℕ
idle_text realm = realm ++ codes " idle\n"

-- REALM epoch EPOCH
abbrev pub start_text : List ℕ → ℕ → List ℕ
start_text realm epoch = realm ++ codes " epoch " ++ decimal epoch ++ codes "\n"

-- a further number in a list of them
abbrev pub number_text : ℕ × List ℕ → List ℕ
number_text branch = codes "," ++ decimal branch.0

-- REALM adopt ID NUMBERS: the branches of a row have their boxes, where there are some; their numbers are joined by commas
abbrev pub adopted_text : List ℕ → List ℕ → List (ℕ × List ℕ) → List ℕ
adopted_text realm id [] = []
adopted_text realm id (first ∷ more) = realm ++ codes " adopt " ++ id ++ codes " " ++ decimal first.0 ++ flat_map number_text more ++ codes "\n"

-- Members one by one

-- the call of a member, if there was one
abbrev pub called_text : List ℕ → List ℕ → ℕ → Option Call → List ℕ
called_text realm id member None = []
called_text realm id member (Some call) = call_text realm id member call

abbrev pub member_text : List ℕ → List ℕ → Member → List ℕ
member_text realm id member = called_text realm id member.number member.call

-- a member that is let go while it is active
abbrev pub left_text : List ℕ → List ℕ → Member → List ℕ
left_text realm id member = if is_active member then drop_text realm id member.number else []
