-- A transaction's progress changes no connection but those on it, and moves none to another.
use Rattle.std.proofs.Common.{◌≡◌, ◌≢◌, ◌-◌, ◌∙◌, false, ℕ, Option, Some, None, ap, arith, refl, inl, inr}
use Rattle.std.specs.Prelude.{option_map}
use Rattle.std.proofs.lemmas.Bool.{cases_Bool}
use Rattle.std.proofs.lemmas.List.{append-nil}
use Rattle.tip_conn.specs.declared.state.State.{State}
use Rattle.tip_conn.specs.declared.state.State.TheVariants.{Initial, Idle, Begun, Enlisted, Prepared, Error}
use Rattle.tip_conn.specs.declared.state.Turn.{Turn}
use Rattle.tip_conn.specs.Table.{next_of}
use Rattle.tip_rows.specs.Keys.{Key}
use Rattle.tip_machine.specs.Connections.{advanced_to, is_on, key_of, link_of, role_in}
use Rattle.tip_machine.specs.Reactions.{Reaction, reacted, sent_by}
use Rattle.tip_machine.specs.Types.{Connection}
use Rattle.tip_machine.specs.declared.connection.Role.{Role}
use Rattle.tip_machine.proofs.Others.{reacted-keeps}
use Rattle.tip_outlook.proofs.Aims.{on}
use Rattle.tip_rules.specs.Makings.{Made, telling}

abbrev link_on : Connection → Option ℕ
link_on connection = option_map link_of (key_of connection.role)

module _ (reaction : Reaction) (key : Key) where
  off : (connection : Connection) → link_on connection ≢ Some (link_of key) → is_on key connection ≡ false
  off connection differ = elim (cases_Bool (is_on key connection)) [
    | inl is ↦ absurd (differ (on key connection tt is))
    | inr not ↦ not
  ]

  pub stays_as : (connection : Connection) → link_on connection ≢ Some (link_of key) → (reacted reaction key connection).connection ≡ connection
  stays_as connection differ = simp (off connection differ) refl

  pub says_nothing : (connection : Connection) (making : Made) → link_on connection ≢ Some (link_of key) → telling making (sent_by reaction key connection) ≡ making
  says_nothing connection making differ =
      let all : making.free - 0 ≡ making.free = omega arith in
      simp (off connection differ) (ap (λ sent. record making { answer = record making.answer { sent = sent }; free = making.free - 0 }) (append-nil making.answer.sent) ∙ ap (λ n. record making { free = n }) all)

  -- it keeps its role or loses it
  keeps-in : (state : State) (role : Option Role) (link : ℕ) → option_map link_of (key_of (role_in state role)) ≡ Some link → option_map link_of (key_of role) ≡ Some link
  keeps-in Initial role link is = is
  keeps-in Idle role link is = absurd (cc)
  keeps-in Begun role link is = is
  keeps-in Enlisted role link is = is
  keeps-in Prepared role link is = is
  keeps-in Error role link is = is

  keeps-to : (place : Option (State × Turn)) (connection : Connection) (link : ℕ) → link_on (advanced_to place connection) ≡ Some link → link_on connection ≡ Some link
  keeps-to None connection link is = is
  keeps-to (Some place) connection link is = keeps-in place.0 connection.role link is

  pub keeps_link : (connection : Connection) (link : ℕ) → link_on (reacted reaction key connection).connection ≡ Some link → link_on connection ≡ Some link
  keeps_link connection link = reacted-keeps (λ d. link_on d ≡ Some link → link_on connection ≡ Some link) connection (λ is. is) reaction key (λ command response is. keeps-to (next_of command connection.state response) connection link is) (λ awaited is. is)

pub ruleset progressing = (stays_as, says_nothing, keeps_link)
