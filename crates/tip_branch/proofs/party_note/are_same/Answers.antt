use Rattle.std.proofs.Common.{rules, ◌≡◌, ◌∙◌, Bool, Option, Some, None, ap, eq-eqb, eqb-true, refl}
use Rattle.std.proofs.lemmas.Bool.{and_from, and_parts}
use Rattle.std.proofs.lemmas.Option.{same_Some}
use Rattle.std.specs.Option.{option_eq}
use Rattle.std.specs.Prelude.{◌==◌, Decides}
use Rattle.std.proofs.lemmas.Slice.Eq.{slice_eq-Decides}
use Rattle.tip_branch.specs.contracts.branch.BadgePartialEq.TheImpl as badges
use Rattle.tip_branch.specs.contracts.branch.ToldPartialEq.TheImpl as tolds
use Rattle.tip_branch.specs.contracts.branch.VotePartialEq.TheImpl as votes
use Rattle.tip_branch.specs.contracts.branch.PhasePartialEq.TheImpl as phases
use Rattle.tip_branch.specs.contracts.branch.SettledPartialEq.TheImpl as settleds
use Rattle.tip_branch.specs.contracts.branch.StandingPartialEq.TheImpl as standings
use Rattle.tip_branch.specs.contracts.member.CallPartialEq.TheImpl as calls
use Rattle.tip_branch.specs.contracts.member.MemberPartialEq.TheImpl as equality
use Rattle.tip_branch.specs.declared.branch.Badge.{Badge}
use Rattle.tip_branch.specs.declared.branch.Told.{Told}
use Rattle.tip_branch.specs.declared.branch.Vote.{Vote}
use Rattle.tip_branch.specs.declared.branch.Phase.{Phase}
use Rattle.tip_branch.specs.declared.branch.Settled.{Settled}
use Rattle.tip_branch.specs.declared.branch.Standing.{Standing}
use Rattle.tip_branch.specs.declared.member.Call.{Call}
use Rattle.tip_branch.specs.declared.member.Member.{Member}
use Rattle.tip_branch.proofs.party_note.are_same.Goals as goal

badge : (a b : Badge) → Decides (badges.eq-value.it a b) (a ≡ b)
badge a b = search rules

told : (a b : Told) → Decides (tolds.eq-value.it a b) (a ≡ b)
told a b = search rules

vote : (a b : Vote) → Decides (votes.eq-value.it a b) (a ≡ b)
vote a b = search rules

phase : (a b : Phase) → Decides (phases.eq-value.it a b) (a ≡ b)
phase a b = search rules

settled : (a b : Settled) → Decides (settleds.eq-value.it a b) (a ≡ b)
settled a b = search rules

so_standing : (a b : Standing) → a.badge ≡ b.badge → a.phase ≡ b.phase → a.told ≡ b.told → a ≡ b
so_standing a b badge phase told = ap (λ x. record a { badge = x }) badge ∙ ap (λ x. record a { badge = b.badge; phase = x }) phase ∙ ap (λ x. record b { told = x }) told

standing : (a b : Standing) → Decides (standings.eq-value.it a b) (a ≡ b)
standing a b = (
  λ e.
      let first = and_parts (badges.eq-value.it a.badge b.badge) _ e in
      let second = and_parts (phases.eq-value.it a.phase b.phase) _ first.1 in
      so_standing a b ((badge a.badge b.badge).0 first.0) ((phase a.phase b.phase).0 second.0) ((told a.told b.told).0 second.1),
  λ e.
      and_from _ _ ((badge a.badge b.badge).1 (ap (λ (s : Standing). s.badge) e))
      (and_from _ _ ((phase a.phase b.phase).1 (ap (λ (s : Standing). s.phase) e)) ((told a.told b.told).1 (ap (λ (s : Standing). s.told) e))),
)

call : (a b : Call) → Decides (calls.eq-value.it a b) (a ≡ b)
call a b = search (vote, settled, rules)

optional : {A : Type 0} (E : A → A → Bool) → ((a b : A) → Decides (E a b) (a ≡ b)) → (x y : Option A) → Decides (option_eq E x y) (x ≡ y)
optional E decides None None = (λ e. refl, λ e. refl)
optional E decides None (Some y) = (λ e. absurd (cc), λ e. absurd (cc))
optional E decides (Some x) None = (λ e. absurd (cc), λ e. absurd (cc))
optional E decides (Some x) (Some y) = (λ e. ap Some ((decides x y).0 e), λ e. (decides x y).1 (same_Some x y e))

alike : (a b : Member) → a.number ≡ b.number → a.standing ≡ b.standing → a.vote ≡ b.vote → a.call ≡ b.call → a ≡ b
alike a b number standing vote call = ap (λ n. record a { number = n }) number ∙ ap (λ s. record a { number = b.number; standing = s }) standing ∙ ap (λ v. record b { vote = v; call = a.call }) vote ∙ ap (λ c. record b { call = c }) call

decides : (a b : Member) → Decides (equality.eq-value.it a b) (a ≡ b)
decides a b =
    let votes_same = optional votes.eq-value.it vote in
    let calls_same = optional calls.eq-value.it call in (
      λ e.
          let first = and_parts (a.number == b.number) _ e in
          let second = and_parts (standings.eq-value.it a.standing b.standing) _ first.1 in
          let third = and_parts (option_eq votes.eq-value.it a.vote b.vote) _ second.1 in
          alike a b (eqb-true _ _ first.0) ((standing a.standing b.standing).0 second.0) ((votes_same a.vote b.vote).0 third.0) ((calls_same a.call b.call).0 third.1),
      λ e.
          and_from _ _ (eq-eqb _ _ (ap (λ (m : Member). m.number) e))
          (and_from _ _ ((standing a.standing b.standing).1 (ap (λ (m : Member). m.standing) e))
          (and_from _ _ ((votes_same a.vote b.vote).1 (ap (λ (m : Member). m.vote) e)) ((calls_same a.call b.call).1 (ap (λ (m : Member). m.call) e)))),
    )

pub returns : goal.returns
returns c = slice_eq-Decides {E = equality.eq-value.it} decides c.args.one.now c.args.others.now c.eq.result c.eq.ensures
