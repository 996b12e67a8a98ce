-- What is asked of a realm with words of its own, octets that come, or a refusal that is asked for.
use Rattle.std.proofs.Common.{◌≡◌, ◌∙◌, [], Some, ap, string_bytes, subst, true}
use Rattle.tip_machine.specs.declared.event.Event.TheVariants.{Open}
use Rattle.tip_actor.proofs.Connecting.{feeds_so}
use Rattle.tip_actor.proofs.Halting.{all_done}
use Rattle.tip_actor.specs.Acting.{boxes_of, happens, refuses}
use Rattle.tip_actor.specs.Halting.{Halts, around}
use Rattle.tip_script.specs.Moves.{move_by, octets_of}
use Rattle.tip_script.specs.Scripts.{plans_of, plans_with}
use Rattle.tip_scene.specs.Acts.{may_say}
use Rattle.tip_scene.proofs.playing.obey.Goals as goal

pub returns-in-Dial-clause-tells : goal.returns-in-Dial-clause-tells
returns-in-Dial-clause-tells g c = λ acting is may boxes. rw c.in-Dial.is (c.dial.ensures.tells acting [] (plans_of c.in-Dial.kinds.now) is (boxes ∙ ap (λ i. boxes_of (plans_with (move_by i))) c.in-Dial.is))

pub returns-in_ok-feed-in-Feed-clause-tells : goal.returns-in_ok-feed-in-Feed-clause-tells
returns-in_ok-feed-in-Feed-clause-tells g c = λ acting is may boxes. rw c.in-Feed.is (feeds_so g.S.RowLog.keeping c.args.stored_core.now c.args.place c.args.actor.now c.feed.new.self (string_bytes c.args.printed.now) acting c.in-Feed.connection (octets_of c.in-Feed.octets) c.in_ok-feed-in-Feed.field-0 is c.feed.ensures.same.0 c.feed.ensures.same.1 c.feed.ensures.same.2 (c.in_ok-feed-in-Feed.ensures.fed acting.readings is.own.readings))

pub returns-in-Push-clause-tells : goal.returns-in-Push-clause-tells
returns-in-Push-clause-tells g c = λ acting is may boxes. rw c.in-Push.is (c.push.ensures.tells acting [] is)

pub returns-in-Pull-clause-tells : goal.returns-in-Pull-clause-tells
returns-in-Pull-clause-tells g c = λ acting is may boxes. rw c.in-Pull.is (c.pull.ensures.tells acting [] is)

pub returns-in-Resume-clause-tells : goal.returns-in-Resume-clause-tells
returns-in-Resume-clause-tells g c = λ acting is may boxes. rw c.in-Resume.is (c.resume.ensures.tells acting [] is)

pub returns-in-Refuse-clause-tells : goal.returns-in-Refuse-clause-tells
returns-in-Refuse-clause-tells g c = λ acting is may boxes. rw c.in-Refuse.is (c.refuse.ensures.refuses (subst (λ i. may_say g.R.Refuser.may (move_by i) ≡ true) c.in-Refuse.is may) c.args.place (string_bytes c.args.printed.now) acting is)

-- However far it has come

pub returns-in_err-happen-in-Open-clause-halts : goal.returns-in_err-happen-in-Open-clause-halts
returns-in_err-happen-in-Open-clause-halts g c = λ acting is may boxes. rw c.in-Open.is (subst (λ b. Halts g.S.RowLog.keeping c.args.stored_core.now.store c.happen.new.stored_core.store c.args.actor.now.name (around (Some (happens (Open b) acting)) acting)) (boxes ∙ ap (λ i. boxes_of (plans_with (move_by i))) c.in-Open.is) (c.happen.ensures.halts acting is))

pub returns-in_ok-happen-in-Open-clause-halts : goal.returns-in_ok-happen-in-Open-clause-halts
returns-in_ok-happen-in-Open-clause-halts g c = λ acting is may boxes. rw c.in-Open.is (subst (λ b. Halts g.S.RowLog.keeping c.args.stored_core.now.store c.happen.new.stored_core.store c.args.actor.now.name (around (Some (happens (Open b) acting)) acting)) (boxes ∙ ap (λ i. boxes_of (plans_with (move_by i))) c.in-Open.is) (c.happen.ensures.halts acting is))

pub returns-in-Dial-clause-halts : goal.returns-in-Dial-clause-halts
returns-in-Dial-clause-halts g c = λ acting is may boxes. rw c.in-Dial.is (c.dial.ensures.halts acting [] (plans_of c.in-Dial.kinds.now) is (boxes ∙ ap (λ i. boxes_of (plans_with (move_by i))) c.in-Dial.is))

pub returns-in-Lost-clause-halts : goal.returns-in-Lost-clause-halts
returns-in-Lost-clause-halts g c = λ acting is may boxes. rw c.in-Lost.is (c.lose_connection.ensures.halts acting is)

pub returns-in-Push-clause-halts : goal.returns-in-Push-clause-halts
returns-in-Push-clause-halts g c = λ acting is may boxes. rw c.in-Push.is (c.push.ensures.halts acting [] is)

pub returns-in-Pull-clause-halts : goal.returns-in-Pull-clause-halts
returns-in-Pull-clause-halts g c = λ acting is may boxes. rw c.in-Pull.is (c.pull.ensures.halts acting [] is)

pub returns-in-Go-clause-halts : goal.returns-in-Go-clause-halts
returns-in-Go-clause-halts g c = λ acting is may boxes. rw c.in-Go.is (c.go.ensures.halts acting is)

pub returns-in-Resume-clause-halts : goal.returns-in-Resume-clause-halts
returns-in-Resume-clause-halts g c = λ acting is may boxes. rw c.in-Resume.is (c.resume.ensures.halts acting [] is)

pub returns-in-Refuse-clause-halts : goal.returns-in-Refuse-clause-halts
returns-in-Refuse-clause-halts g c = λ acting is may boxes. rw c.in-Refuse.is (all_done g.S.RowLog.keeping c.args.stored_core.now c.refuse.new.stored_core c.args.place c.args.actor.now c.refuse.new.self (string_bytes c.args.printed.now) (string_bytes c.args.printed.now) acting (refuses acting) (c.refuse.ensures.refuses (subst (λ i. may_say g.R.Refuser.may (move_by i) ≡ true) c.in-Refuse.is may) c.args.place (string_bytes c.args.printed.now) acting is))
