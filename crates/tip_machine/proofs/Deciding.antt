-- The decision that is computed is the decision of two-phase commit.
use Rattle.std.proofs.Common.{◌≡◌, Bool, true, false, ℕ, zero, suc, List, [], ◌∷◌, Option, Some, None, cond, refl, ap, ◌∙◌, subst, ◌⊎◌, inl, inr}
use Rattle.std.specs.Prelude.{◌||◌, map, is_none}
use Rattle.std.specs.List.{list_any}
use Rattle.std.proofs.lemmas.Option.{same_Some, none-some}
use Rattle.tip_txn.specs.Decisions.{Decides, Refuses, Says}
use Rattle.tip_txn.specs.Parts.{answers_of, is_yes}
use Rattle.tip_txn.specs.declared.answer.Ballot.{Ballot}
use Rattle.tip_txn.specs.declared.answer.Ballot.TheVariants as answers
use Rattle.tip_txn.specs.declared.answer.Decision.TheVariants as decisions
use Rattle.tip_txn.specs.declared.part.Participant.{Participant}
use Rattle.tip_machine.specs.Transactions.{decision, refuses}

-- what the parts answer
abbrev said_by : List Participant → List (Option Ballot)
said_by parts = map (λ part. part.answer) parts

either_or : (b c : Bool) → b || c ≡ true → (b ≡ true) ⊎ (c ≡ true)
either_or true c is = inl refl
either_or false c is = inr is

or_right : (b c : Bool) → c ≡ true → b || c ≡ true
or_right true c is = refl
or_right false c is = is

or_left : (b c : Bool) → b ≡ true → b || c ≡ true
or_left true c is = refl
or_left false c is = absurd (cc)

-- one that passes is said by some part
pub record Passes (test : Option Ballot → Bool) (parts : List Participant) : Type 0 where
  pub said : Option Ballot
  pub so : test said ≡ true
  pub says : Says (answers_of parts) said

passes : (test : Option Ballot → Bool) (parts : List Participant) → list_any test (said_by parts) ≡ true → Passes test parts
passes test [] is = absurd (cc)
passes test (part ∷ parts) is = elim (either_or (test part.answer) (list_any test (said_by parts)) is) [
  | inl here ↦ record { said = part.answer; so = here; says = (0, refl) }
  | inr later ↦ let rest = passes test parts later in record { said = rest.said; so = rest.so; says = (suc rest.says.0, rest.says.1) }
]

-- and what some part says passes
says_any : (test : Option Ballot → Bool) (said : Option Ballot) (parts : List Participant) (part : ℕ) → answers_of parts part said → test said ≡ true → list_any test (said_by parts) ≡ true
says_any test said [] part is so = absurd (none-some said is)
says_any test said (p ∷ parts) zero is so = or_left (test p.answer) (list_any test (said_by parts)) (ap test (same_Some p.answer said is) ∙ so)
says_any test said (p ∷ parts) (suc part) is so = or_right (test p.answer) (list_any test (said_by parts)) (says_any test said parts part is so)

not_both : (b : Bool) → b ≡ true → b ≡ false → ⊥
not_both true is not = absurd (cc)
not_both false is not = absurd (cc)

silent : (test : Option Ballot → Bool) (said : Option Ballot) (parts : List Participant) → test said ≡ true → list_any test (said_by parts) ≡ false → ¬ Says (answers_of parts) said
silent test said parts so none = λ says. not_both (list_any test (said_by parts)) (says_any test said parts says.0 says.1 so) none

refusing : (said : Option Ballot) → refuses said ≡ true → (said ≡ Some answers.No) ⊎ (said ≡ Some answers.Lost)
refusing None is = absurd (cc)
refusing (Some answers.Yes) is = absurd (cc)
refusing (Some answers.No) is = inl refl
refusing (Some answers.ReadOnly) is = absurd (cc)
refusing (Some answers.Lost) is = inr refl

missing : (said : Option Ballot) → is_none said ≡ true → said ≡ None
missing None is = refl
missing (Some said) is = absurd (cc)

agreeing : (said : Option Ballot) → is_yes said ≡ true → said ≡ Some answers.Yes
agreeing None is = absurd (cc)
agreeing (Some answers.Yes) is = refl
agreeing (Some answers.No) is = absurd (cc)
agreeing (Some answers.ReadOnly) is = absurd (cc)
agreeing (Some answers.Lost) is = absurd (cc)

refused : (parts : List Participant) → list_any refuses (said_by parts) ≡ true → Refuses (answers_of parts)
refused parts is =
    let one = passes refuses parts is in
    elim (refusing one.said one.so) [
      | inl same ↦ inl (subst (Says (answers_of parts)) same one.says)
      | inr same ↦ inr (subst (Says (answers_of parts)) same one.says)
    ]

not_refused : (parts : List Participant) → list_any refuses (said_by parts) ≡ false → ¬ Refuses (answers_of parts)
not_refused parts none (inl says) = silent refuses (Some answers.No) parts refl none says
not_refused parts none (inr says) = silent refuses (Some answers.Lost) parts refl none says

third : (parts : List Participant) (b : Bool) → list_any is_yes (said_by parts) ≡ b → ¬ Refuses (answers_of parts) → ¬ Says (answers_of parts) None → Decides (answers_of parts) (cond b decisions.Commit decisions.ReadOnly)
third parts true is none all = (none, all, let one = passes is_yes parts is in subst (Says (answers_of parts)) (agreeing one.said one.so) one.says)
third parts false is none all = (none, all, silent is_yes (Some answers.Yes) parts refl is)

second : (parts : List Participant) (b : Bool) → list_any is_none (said_by parts) ≡ b → ¬ Refuses (answers_of parts) → Decides (answers_of parts) (cond b decisions.Wait (cond (list_any is_yes (said_by parts)) decisions.Commit decisions.ReadOnly))
second parts true is none = (none, let one = passes is_none parts is in subst (Says (answers_of parts)) (missing one.said one.so) one.says)
second parts false is none = third parts (list_any is_yes (said_by parts)) refl none (silent is_none None parts refl is)

first : (parts : List Participant) (b : Bool) → list_any refuses (said_by parts) ≡ b → Decides (answers_of parts) (cond b decisions.Abort (cond (list_any is_none (said_by parts)) decisions.Wait (cond (list_any is_yes (said_by parts)) decisions.Commit decisions.ReadOnly)))
first parts true is = refused parts is
first parts false is = second parts (list_any is_none (said_by parts)) refl (not_refused parts is)

pub decides : (parts : List Participant) → Decides (answers_of parts) (decision (map (λ part. part.answer) parts))
decides parts = first parts (list_any refuses (said_by parts)) refl
