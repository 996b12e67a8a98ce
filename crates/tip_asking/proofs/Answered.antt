-- What a dialogue has answered, part by part.
use Rattle.std.proofs.Common.{◌≡◌, ℕ, List, [], ◌∷◌, ◌++◌, Option, inl, inr, refl, sym, ap, subst, subst₂}
use Rattle.std.specs.Io.KnownBytes.{Appends}
use Rattle.std.specs.List.{flat_map}
use Rattle.std.proofs.KnownBytes.{Appends-trans}
use Rattle.std.proofs.lemmas.Grind.{flat_map-append}
use Rattle.tip_line.specs.declared.command.Command.{Command}
use Rattle.tip_line.specs.declared.command.Command.TheVariants as command
use Rattle.tip_line.specs.declared.response.Response.{Response}
use Rattle.tip_line.specs.declared.response.Response.TheVariants as response
use Rattle.tip_client.specs.Dialogues.{Completes}
use Rattle.tip_asking.specs.Asking.{IsAnswered, IsEnded, IsJudged, Tells, ending, identify, told}
use Rattle.tip_asking.specs.Dialogues.{Continues}
use Rattle.tip_asking.specs.declared.asked.Asked.{Asked}
use Rattle.tip_asking.specs.declared.asked.Asked.TheVariants.{Presence, Transaction, End}
use Rattle.tip_asking.specs.declared.asked.Decision.{Decision}
use Rattle.tip_asking.specs.declared.asked.Verdict.{Verdict}
use Rattle.tip_asking.specs.declared.asked.Verdict.TheVariants.{Yes, No}
use Rattle.tip_asking.proofs.Parts.{completes, goes_on}

pub both_told : (heard heard' : List Response) (o0 o1 o2 : Option (List ℕ)) → Tells heard o0 o1 → Tells heard' o1 o2 → Tells (heard ++ heard') o0 o2
both_told heard heard' o0 o1 o2 first next = subst (Appends o0 o2) (sym (flat_map-append told heard heard')) (Appends-trans o0 o1 o2 (flat_map told heard) (flat_map told heard') first next)

-- A command was said and answered, and what waits then is `l1`.
module _ (l0 l1 : List ℕ) (a0 a1 w0 w1 : Option (List ℕ)) where
  -- RECONNECT, and nothing behind it
  pub ended_not : (o0 o1 : Option (List ℕ)) (first : Command) (id : List ℕ) (decision : Decision) → first ≡ command.Reconnect id → (found : Verdict) → found ≡ No
      → IsJudged (Continues l0 l1 a0 a1 w0 w1) first found o0 o1 → IsEnded (Continues l0 l1 a0 a1 w0 w1) id decision No o0 o1
  ended_not o0 o1 first id decision is found none judged = inl (refl, subst₂ (λ c v. IsJudged (Continues l0 l1 a0 a1 w0 w1) c v o0 o1) is none judged)

  module _ (l2 : List ℕ) (a2 w2 : Option (List ℕ)) where
    -- RECONNECT, and then the decision
    pub ended_so : (o0 o1 o2 : Option (List ℕ)) (first last : Command) (id : List ℕ) (decision : Decision) → first ≡ command.Reconnect id → last ≡ ending decision
        → (found : Verdict) → found ≡ Yes → IsJudged (Continues l0 l1 a0 a1 w0 w1) first found o0 o1
        → (verdict : Verdict) → IsJudged (Continues l1 l2 a1 a2 w1 w2) last verdict o1 o2 → IsEnded (Continues l0 l2 a0 a2 w0 w2) id decision verdict o0 o2
    ended_so o0 o1 o2 first last id decision is ends found there judged verdict so =
        let begun = subst₂ (λ c v. IsJudged (Continues l0 l1 a0 a1 w0 w1) c v o0 o1) is there judged in
        let ended = subst (λ c. IsJudged (Continues l1 l2 a1 a2 w1 w2) c verdict o1 o2) ends so in
        inr (begun.0, ended.0, begun.1, ended.1, goes_on l0 l1 a0 a1 w0 w1 l2 a2 w2 _ _ _ _ begun.2 ended.2, both_told (begun.0 ∷ []) (ended.0 ∷ []) o0 o1 o2 begun.3 ended.3)

    module _ (first : Command) (identified : Response) (version : ℕ) (is : first ≡ identify) (says : identified ≡ response.Identified version) (empty : l0 ≡ [])
        (begun : Continues l0 l1 a0 a1 w0 w1 (first ∷ []) (identified ∷ [])) where
      begins : Continues l0 l1 a0 a1 w0 w1 (identify ∷ []) (response.Identified version ∷ [])
      begins = subst₂ (λ c r. Continues l0 l1 a0 a1 w0 w1 (c ∷ []) (r ∷ [])) is says begun

      behind : (said : List Command) (heard : List Response) → Continues l1 l2 a1 a2 w1 w2 said heard → Completes (identify ∷ said) (response.Identified version ∷ heard) a0 w0 w2
      behind said heard so = completes l0 l2 a0 a2 w0 w2 (identify ∷ said) (response.Identified version ∷ heard) empty (goes_on l0 l1 a0 a1 w0 w1 l2 a2 w2 _ _ _ _ begins so)

      pub answered_transaction : (asked : Asked) (o0 o1 : Option (List ℕ)) (query : Command) (verdict : Verdict) → (id : _) → asked ≡ Transaction id → query ≡ command.Query id.now
          → IsJudged (Continues l1 l2 a1 a2 w1 w2) query verdict o0 o1 → IsAnswered (λ said heard. Completes said heard a0 w0 w2) asked verdict o0 o1
      answered_transaction asked o0 o1 query verdict id one asks judged =
          let so = subst (λ c. IsJudged (Continues l1 l2 a1 a2 w1 w2) c verdict o0 o1) asks judged in
          subst (λ (asked : Asked). IsAnswered (λ said heard. Completes said heard a0 w0 w2) asked verdict o0 o1) (sym one) (version, (so.0, so.1, behind _ _ so.2, so.3))

      pub answered_end : (asked : Asked) (o0 o1 : Option (List ℕ)) (verdict : Verdict) → (id : _) (decision : Decision) → asked ≡ End id decision
          → IsEnded (Continues l1 l2 a1 a2 w1 w2) id.now decision verdict o0 o1 → IsAnswered (λ said heard. Completes said heard a0 w0 w2) asked verdict o0 o1
      answered_end asked o0 o1 verdict id decision one ended =
          subst (λ (asked : Asked). IsAnswered (λ said heard. Completes said heard a0 w0 w2) asked verdict o0 o1) (sym one) (version, by ended)
        where
          by : IsEnded (Continues l1 l2 a1 a2 w1 w2) id.now decision verdict o0 o1 → IsEnded (λ said heard. Completes (identify ∷ said) (response.Identified version ∷ heard) a0 w0 w2) id.now decision verdict o0 o1
          by (inl none) = inl (none.0, (none.1.0, none.1.1, behind _ _ none.1.2, none.1.3))
          by (inr so) = inr (so.0, so.1, so.2, so.3, behind _ _ so.4, so.5)

  pub answered_presence : (asked : Asked) (o0 o1 : Option (List ℕ)) (first : Command) (identified : Response) (version : ℕ) → asked ≡ Presence → first ≡ identify → identified ≡ response.Identified version → l0 ≡ []
      → Continues l0 l1 a0 a1 w0 w1 (first ∷ []) (identified ∷ []) → Tells (identified ∷ []) o0 o1 → IsAnswered (λ said heard. Completes said heard a0 w0 w1) asked Yes o0 o1
  answered_presence asked o0 o1 first identified version one is says empty begun tells =
      subst (λ (asked : Asked). IsAnswered (λ said heard. Completes said heard a0 w0 w1) asked Yes o0 o1) (sym one)
      (version, refl, completes l0 l1 a0 a1 w0 w1 _ _ empty (subst₂ (λ c r. Continues l0 l1 a0 a1 w0 w1 (c ∷ []) (r ∷ [])) is says begun), subst (λ r. Tells (r ∷ []) o0 o1) says tells)
