-- The parts are printed in the order of what an event shows.
use Rattle.std.proofs.Common.{◌++◌, ◌∙◌, List, ℕ, ap, string_bytes, option_map, []}
use Rattle.std.specs.List.{flat_map}
use Rattle.std.specs.Option.{option_map_or, option_to_list}
use Rattle.std.proofs.lemmas.Result.{on_ok_weaker}
use Rattle.tip_branch.specs.Notes.{PartyNotes}
use Rattle.tip_machine.specs.Outputs.{Output, drops_of}
use Rattle.tip_transcript.proofs.Showing.{shown_in_order}
use Rattle.tip_transcript.specs.Printing.{sent_text, shown_text}
use Rattle.tip_transcript.proofs.printing.print.Goals as goal

pub returns : goal.returns
returns g c = λ event came.
    let answer = c.args.happened.now.answer in
    let front = λ (n : List ℕ). string_bytes c.args.printed.now ++ (shown_text n (option_to_list (option_map Output.Refused answer.refusal)) ++ shown_text n (option_to_list (option_map Output.Opened answer.opened))) in
    let parties = λ (n : List ℕ). string_bytes c.print_sent.new.printed ++ (shown_text n (option_to_list (option_map (λ (party : PartyNotes). Output.Works party.id party.errand) answer.work)) ++ shown_text n (option_map_or drops_of answer.spent [])) in
    on_ok_weaker c.print_parties.result (λ e. shown_in_order c.args.realm.now event c.args.happened.now.change c.args.happened.now.outcome answer
    (string_bytes c.args.printed.now) (string_bytes c.print_front.new.printed) (string_bytes c.push_str.new.self) (string_bytes c.print_change.new.printed) (string_bytes c.print_sent.new.printed) (string_bytes c.print_parties.new.printed)
    (c.in_ok-print_front.ensures ∙ ap front c.as_str.ensures.same)
    (c.in_ok-push_str.ensures.bytes ∙ ap (λ t. string_bytes c.print_front.new.printed ++ t) came)
    c.in_ok-print_change.ensures
    (c.in_ok-print_sent.ensures ∙ ap (λ l. string_bytes c.print_change.new.printed ++ flat_map (sent_text c.args.realm.now) l) c.as_slice.ensures)
    (e ∙ ap parties c.as_str-2.ensures.same)) c.print_parties.ensures
