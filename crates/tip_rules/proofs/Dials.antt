-- A connection that we open.
use Rattle.std.proofs.Common.{◌≡◌, ◌+◌, ℕ, List, Bool, true, false, cond, Option, Some, None, length, ap, sym, subst, ◌∙◌}
use Rattle.std.proofs.lemmas.Option.{same_Some}
use Rattle.tip_branch.specs.declared.branch.Badge.{Badge}
use Rattle.tip_line.specs.declared.refusal.Refusal.TheVariants.{Full}
use Rattle.tip_machine.specs.Changes.{refuse, tell}
use Rattle.tip_machine.specs.Connections.{dialled}
use Rattle.tip_machine.specs.Requests.{added, dial, hand_back}
use Rattle.tip_machine.specs.States.{Work, has_place}
use Rattle.tip_machine.specs.declared.answer.Asked.TheVariants as asked
use Rattle.tip_machine.specs.declared.answer.Item.TheVariants.{Ask}
use Rattle.tip_machine.specs.declared.connection.Purpose.{Purpose}
use Rattle.tip_machine.specs.declared.event.Seat.{Seat}
use Rattle.tip_rules.proofs.Works.{then}
use Rattle.tip_rules.specs.Makings.{Made}
use Rattle.tip_rules.specs.Works.{counting, Does, Held, joining, showing, work_of}

pub connected : (a b c d e : Held) (ours theirs address : List ℕ) (purpose : Purpose) (boxes : List Badge) (seat : Seat) → seat ≡ record { epoch = (work_of a).state.head.epoch; number = (work_of a).state.head.given + 1 } →
    Does a b (counting (work_of a)) → Does b c (joining (dialled address purpose boxes seat.number) (work_of b)) → Does c d (showing seat (work_of c)) → Does d e (tell seat.number (Ask (asked.Identify ours theirs)) (work_of d)) →
    Does a e (tell ((work_of a).state.head.given + 1) (Ask (asked.Identify ours theirs)) (added (dialled address purpose boxes) (work_of a)))
unfolding added
connected a b c d e ours theirs address purpose boxes seat next first second third fourth =
    subst (λ s. Does a e (tell s.number (Ask (asked.Identify ours theirs)) (showing s (joining (dialled address purpose boxes s.number) (counting (work_of a)))))) next
    (then a d e (tell seat.number (Ask (asked.Identify ours theirs))) _ (then a c d (showing seat) _ (then a b c (joining (dialled address purpose boxes seat.number)) _ first second) third) fourth)

pub ruleset connecting = (connected)

-- words were taken before
module _ (a : Held) (made : Made) (peer ours word : Option (List ℕ)) (left : made ≡ record a.making { peer = peer; ours = ours; word = word }) where
  pub took_words : (b : Held) (rule : Work → Work) → Does (record a { making = made }) b (rule (work_of (record a { making = made }))) → Does a b (rule (work_of a))
  took_words b rule does =
      let d : Does (record a { making = record a.making { peer = peer; ours = ours; word = word } }) b (rule (work_of a)) = subst (λ m. Does (record a { making = m }) b (rule (work_of (record a { making = m })))) left does in
      record { own = d.own; others = d.others; realm = d.realm; count = d.count; connections = d.connections; transactions = d.transactions; lines = d.lines; outcome = d.outcome; endings = d.endings }

dials_so : (address : List ℕ) (purpose : Purpose) (boxes : List Badge) (w : Work) (room : Bool) → has_place (length boxes) w.state ≡ room → dial address purpose boxes w ≡ cond room (tell (w.state.head.given + 1) (Ask (asked.Identify w.state.head.address address)) (added (dialled address purpose boxes) w)) (hand_back boxes (refuse Full w))
unfolding dial
dials_so address purpose boxes w room is = ap (λ b. cond b (tell (w.state.head.given + 1) (Ask (asked.Identify w.state.head.address address)) (added (dialled address purpose boxes) w)) (hand_back boxes (refuse Full w))) is

module _ (a b : Held) (address : List ℕ) (purpose : Purpose) (boxes : List Badge) where
  pub dials_not : has_place (length boxes) (work_of a).state ≡ false → Does a b (hand_back boxes (refuse Full (work_of a))) → Does a b (dial address purpose boxes (work_of a))
  dials_not is does = subst (Does a b) (sym (dials_so address purpose boxes (work_of a) false is)) does

  pub dials : (made : Made) (ours theirs : List ℕ) → has_place (length boxes) (work_of a).state ≡ true → made ≡ record a.making { peer = None; ours = None } → a.making.peer ≡ Some address → a.making.peer ≡ Some theirs → a.making.ours ≡ Some (work_of a).state.head.address → a.making.ours ≡ Some ours →
      Does (record a { making = made }) b (tell ((work_of (record a { making = made })).state.head.given + 1) (Ask (asked.Identify ours theirs)) (added (dialled address purpose boxes) (work_of (record a { making = made })))) → Does a b (dial address purpose boxes (work_of a))
  dials made ours theirs is left peer taken own mine does =
      subst (Does a b) (sym (dials_so address purpose boxes (work_of a) true is))
      (subst (λ o. Does a b (tell ((work_of a).state.head.given + 1) (Ask (asked.Identify o address)) (added (dialled address purpose boxes) (work_of a)))) (same_Some ours (work_of a).state.head.address (sym mine ∙ own))
      (subst (λ t. Does a b (tell ((work_of a).state.head.given + 1) (Ask (asked.Identify ours t)) (added (dialled address purpose boxes) (work_of a)))) (same_Some theirs address (sym taken ∙ peer))
      (took_words a made None None a.making.word left b (λ w. tell (w.state.head.given + 1) (Ask (asked.Identify ours theirs)) (added (dialled address purpose boxes) w)) does)))

pub ruleset dialling = (dials_not, dials)
