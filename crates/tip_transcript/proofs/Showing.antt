-- What is printed part by part is printed of what an event shows, one output after another.
use Rattle.std.proofs.Common.{◌≡◌, ℕ, Bool, true, false, List, [], ◌∷◌, ◌++◌, Option, Some, None, map, refl, ap, sym, ◌∙◌, append-nil, append_assoc}
use Rattle.std.specs.Prelude.{codes, filter, filter_map, option_map, if◌then◌else◌}
use Rattle.std.specs.List.{cons_option, flat_map}
use Rattle.std.specs.Option.{option_map_or, option_to_list}
use Rattle.std.proofs.lemmas.Grind.{flat_map-append}
use Rattle.std.proofs.lemmas.List.Concat.{flat_map-cons}
use Rattle.tip_branch.specs.Members.{is_active}
use Rattle.tip_branch.specs.Notes.{PartyNotes}
use Rattle.tip_branch.specs.declared.member.Call.{Call}
use Rattle.tip_branch.specs.declared.member.Member.{Member}
use Rattle.tip_line.specs.declared.refusal.Refusal.{Refusal}
use Rattle.tip_machine.specs.Outputs.{Output, brought, calls_of, drops_of, outputs}
use Rattle.tip_machine.specs.Types.{Answer, Event}
use Rattle.tip_machine.specs.declared.answer.Sent.{Sent}
use Rattle.tip_machine.specs.declared.event.Change.{Change}
use Rattle.tip_machine.specs.declared.event.Outcome.{Outcome}
use Rattle.tip_machine.specs.declared.event.Seat.{Seat}
use Rattle.tip_transcript.specs.Printing.{change_text, left_text, member_text, opened_text, output_text, refusal_text, sent_text, shown_text, work_text}

module _ (realm : List ℕ) where
  one : (output : Output) → shown_text realm (output ∷ []) ≡ output_text realm output
  one output = flat_map-cons (output_text realm) output [] ∙ append-nil _

  pub refused : (why : Refusal) → shown_text realm (option_to_list (option_map Output.Refused (Some why))) ≡ refusal_text realm why
  refused why = one (Output.Refused why)

  pub opened : (seat : Seat) → shown_text realm (option_to_list (option_map Output.Opened (Some seat))) ≡ opened_text realm seat
  opened seat = one (Output.Opened seat)

  pub changed : (change : Change) (outcome : Outcome) → shown_text realm (option_to_list (option_map (λ c. Output.Changed c outcome) (Some change))) ≡ change_text realm outcome change
  changed change outcome = one (Output.Changed change outcome)

  pub works : (party : PartyNotes) → shown_text realm (option_to_list (option_map (λ (p : PartyNotes). Output.Works p.id p.errand) (Some party))) ≡ work_text realm party.id party.errand
  works party = one (Output.Works party.id party.errand)

  pub lines : (sent : List Sent) → shown_text realm (map Output.Sent sent) ≡ flat_map (sent_text realm) sent
  lines [] = refl
  lines (x ∷ xs) = flat_map-cons (output_text realm) (Output.Sent x) (map Output.Sent xs) ∙ (ap (λ rest. sent_text realm x ++ rest) (lines xs) ∙ sym (flat_map-cons (sent_text realm) x xs))

  heard : (id : List ℕ) (m : Member) (call : Option Call) (rest : List Output) → m.call ≡ call → shown_text realm (cons_option (option_map (Output.Called id m.number m.standing.badge) call) rest) ≡ member_text realm id m ++ shown_text realm rest
  heard id m None rest is = rw is refl
  heard id m (Some call) rest is = rw is (flat_map-cons (output_text realm) (Output.Called id m.number m.standing.badge call) rest)

  called : (id : List ℕ) (members : List Member) → shown_text realm (filter_map (λ member. option_map (Output.Called id member.number member.standing.badge) member.call) members) ≡ flat_map (member_text realm id) members
  called id [] = refl
  called id (m ∷ ms) = heard id m m.call (filter_map (λ member. option_map (Output.Called id member.number member.standing.badge) member.call) ms) refl ∙ (ap (λ rest. member_text realm id m ++ rest) (called id ms) ∙ sym (flat_map-cons (member_text realm id) m ms))

  pub calls : (party : PartyNotes) → shown_text realm (calls_of party) ≡ flat_map (member_text realm party.id) party.members
  calls party = called party.id party.members

  dropping : (id : List ℕ) → Member → Output
  dropping id member = Output.Dropped id member.number member.standing.badge

  let_go : (id : List ℕ) (m : Member) (ms : List Member) (active : Bool) → is_active m ≡ active → shown_text realm (map (λ member. Output.Dropped id member.number member.standing.badge) (if active then m ∷ filter is_active ms else filter is_active ms)) ≡ left_text realm id m ++ shown_text realm (map (λ member. Output.Dropped id member.number member.standing.badge) (filter is_active ms))
  let_go id m ms true is = rw is (flat_map-cons (output_text realm) (Output.Dropped id m.number m.standing.badge) (map (λ member. Output.Dropped id member.number member.standing.badge) (filter is_active ms)))
  let_go id m ms false is = rw is refl

  dropped : (id : List ℕ) (members : List Member) → shown_text realm (map (λ member. Output.Dropped id member.number member.standing.badge) (filter is_active members)) ≡ flat_map (left_text realm id) members
  dropped id [] = refl
  dropped id (m ∷ ms) = let_go id m ms (is_active m) refl ∙ (ap (λ rest. left_text realm id m ++ rest) (dropped id ms) ∙ sym (flat_map-cons (left_text realm id) m ms))

  pub drops : (party : PartyNotes) → shown_text realm (drops_of party) ≡ flat_map (left_text realm party.id) party.members
  drops party = dropped party.id party.members

  pub joined : (xs ys : List Output) → shown_text realm (xs ++ ys) ≡ shown_text realm xs ++ shown_text realm ys
  joined xs ys = flat_map-append (output_text realm) xs ys

pub ruleset showing = (refused, opened, changed, works, lines, calls, drops)

-- The whole, from its parts in order

next : (a b c x : List ℕ) → x ≡ a ++ b → x ++ c ≡ a ++ (b ++ c)
next a b c x is = ap (λ y. y ++ c) is ∙ append_assoc a b c

pub shown_in_order : (realm : List ℕ) (event : Event) (change : Option Change) (outcome : Outcome) (answer : Answer) (start first second third fourth last : List ℕ) →
    first ≡ start ++ (shown_text realm (option_to_list (option_map Output.Refused answer.refusal)) ++ shown_text realm (option_to_list (option_map Output.Opened answer.opened))) →
    second ≡ first ++ shown_text realm (brought event) →
    third ≡ second ++ shown_text realm (option_to_list (option_map (λ c. Output.Changed c outcome) change)) →
    fourth ≡ third ++ flat_map (sent_text realm) answer.sent →
    last ≡ fourth ++ (shown_text realm (option_to_list (option_map (λ (party : PartyNotes). Output.Works party.id party.errand) answer.work)) ++ shown_text realm (option_map_or drops_of answer.spent [])) →
    last ≡ start ++ shown_text realm (outputs event change outcome answer)
shown_in_order realm event change outcome answer start first second third fourth last f s t l e =
    let text = shown_text realm in
    let refusal = option_to_list (option_map Output.Refused answer.refusal) in
    let connection = option_to_list (option_map Output.Opened answer.opened) in
    let calls_brought = brought event in
    let row = option_to_list (option_map (λ c. Output.Changed c outcome) change) in
    let sent = map Output.Sent answer.sent in
    let work = option_to_list (option_map (λ (party : PartyNotes). Output.Works party.id party.errand) answer.work) in
    let spent = option_map_or drops_of answer.spent [] in
    let told = flat_map (sent_text realm) answer.sent in
    let parties = text work ++ text spent in
    let behind = text calls_brought ++ (text row ++ (told ++ parties)) in
    let tells : text (sent ++ (work ++ spent)) ≡ told ++ parties = joined realm sent (work ++ spent) ∙ (ap (λ x. x ++ text (work ++ spent)) (lines realm answer.sent) ∙ ap (λ x. told ++ x) (joined realm work spent)) in
    let rest : text (calls_brought ++ (row ++ (sent ++ (work ++ spent)))) ≡ behind = joined realm calls_brought (row ++ (sent ++ (work ++ spent))) ∙ ap (λ x. text calls_brought ++ x) (joined realm row (sent ++ (work ++ spent)) ∙ ap (λ x. text row ++ x) tells) in
    let whole : text (outputs event change outcome answer) ≡ text refusal ++ (text connection ++ behind) = joined realm refusal (connection ++ (calls_brought ++ (row ++ (sent ++ (work ++ spent))))) ∙ ap (λ x. text refusal ++ x) (joined realm connection (calls_brought ++ (row ++ (sent ++ (work ++ spent)))) ∙ ap (λ x. text connection ++ x) rest) in
    e ∙ next third told parties fourth l ∙ next second (text row) (told ++ parties) third t ∙ next first (text calls_brought) (text row ++ (told ++ parties)) second s ∙ next start (text refusal ++ text connection) behind first f
    ∙ ap (λ x. start ++ x) (append_assoc (text refusal) (text connection) behind ∙ sym whole)

-- what is printed of a change that was refused
pub spelled : (realm id : List ℕ) → realm ++ (codes " store refused " ++ (id ++ codes "\n")) ≡ realm ++ codes " store refused " ++ id ++ codes "\n"
spelled realm id = sym (append_assoc (realm ++ codes " store refused ") id (codes "\n") ∙ append_assoc realm (codes " store refused ") (id ++ codes "\n"))
