-- Why the store is blamed, from one line to the next.
use Rattle.std.proofs.Common.{◌≡◌, ◌∙◌, Result, Ok, Err, inl, inr, sym, ap, subst}
use Rattle.std.specs.Prelude.{IfErr, IsErrOf}
use Rattle.tip_rows.specs.Logs.{Keeping}
use Rattle.tip_scene.proofs.Blaming.{refused_since}
use Rattle.tip_scene.specs.Acts.{Basis}
use Rattle.tip_scene.specs.Blaming.{Accuses, Blames, HasRefused, IsBlamed, Spares}
use Rattle.tip_scene.specs.Stages.{Trusts}
use Rattle.tip_play.specs.Endings.{unflushed}
use Rattle.tip_play.specs.declared.fault.PlayFault.{PlayFault}
use Rattle.tip_play.specs.declared.fault.PlayFault.TheVariants as fault

pub is_err_of : {T E : Type 0} (result : Result T E) (why blame : E) → result ≡ Err why → why ≡ blame → IsErrOf result blame
is_err_of result why blame is same = subst (λ r. IsErrOf r blame) (sym is) (ap Err same)

module _ {S : Type 0} (kept : Keeping S) where
  pub refused_here : (old mid new left : S) → kept.faults mid ≡ kept.faults old → left ≡ new → HasRefused kept mid new → HasRefused kept old left
  refused_here old mid new left before is since = subst (HasRefused kept old) (sym is) (refused_since kept old mid new before since)

module _ {S : Type 0} (kept : Keeping S) (basis : Basis) where
  since_first : (old mid new : S) → kept.faults mid ≡ kept.faults old → IsBlamed kept basis mid new → IsBlamed kept basis old new
  since_first old mid new same (inl since) = inl (refused_since kept old mid new same since)
  since_first old mid new same (inr unfit) = inr unfit

  pub blames_back_err : (old mid : S) (why : PlayFault × S) → (kept.is_true why.1 → kept.is_true mid) → kept.faults mid ≡ kept.faults old → (kept.is_true mid → Accuses kept fault.Store (IsBlamed kept basis mid) why) → Accuses kept fault.Store (IsBlamed kept basis old) why
  blames_back_err old mid why trusts same blames = λ is truth. since_first old mid why.1 same (blames (trusts truth) is truth)

  pub blames_back : {T : Type 0} (old mid : S) (store : T → S) (result : Result T (PlayFault × S)) → Trusts kept mid store result → kept.faults mid ≡ kept.faults old → (kept.is_true mid → Blames kept fault.Store (IsBlamed kept basis mid) result) → Blames kept fault.Store (IsBlamed kept basis old) result
  blames_back old mid store (Ok x) trusts same blames = tt
  blames_back old mid store (Err why) trusts same blames = blames_back_err old mid why trusts same blames

-- Memory has ended, and nothing was refused

module _ {S : Type 0} (kept : Keeping S) where
  pub spares_back : {T : Type 0} (old mid : S) (result : Result T (PlayFault × S)) → kept.faults mid ≡ kept.faults old → Spares kept fault.Memory mid result → Spares kept fault.Memory old result
  spares_back old mid (Ok x) same spares = tt
  spares_back old mid (Err why) same spares = λ short. spares short ∙ same

-- An end that was not flushed

-- what is known of each fault, and of a fault in writing, is known of it
pub kept_unflushed : {S : Type 0} (known : PlayFault × S → Type 0) (result : Result S (PlayFault × S)) → ((store : S) → known (fault.Write, store)) → IfErr result known → IfErr (unflushed result) known
kept_unflushed known (Ok store) write is = write store
kept_unflushed known (Err (fault.Script line, store)) write is = write store
kept_unflushed known (Err (fault.Read, store)) write is = is
kept_unflushed known (Err (fault.Write, store)) write is = is
kept_unflushed known (Err (fault.Memory, store)) write is = is
kept_unflushed known (Err (fault.Store, store)) write is = is
