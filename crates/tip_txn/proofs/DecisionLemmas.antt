-- Laws of the decision.
use Rattle.std.proofs.Common.{◌≡◌, ℕ, Option, refl}
use Rattle.tip_txn.specs.Decisions.{Decides}
use Rattle.tip_txn.specs.declared.answer.Ballot.{Ballot}
use Rattle.tip_txn.specs.declared.answer.Decision.{Decision}
use Rattle.tip_txn.specs.declared.answer.Decision.TheVariants.{Wait, Commit, Abort, ReadOnly}

-- answers decide one thing
pub decides_one : (answers : ℕ → Option Ballot → Type 0) (d e : Decision) → Decides answers d → Decides answers e → d ≡ e
decides_one answers Abort Abort p q = refl
decides_one answers Abort Wait p q = absurd (q.0 p)
decides_one answers Abort Commit p q = absurd (q.0 p)
decides_one answers Abort ReadOnly p q = absurd (q.0 p)
decides_one answers Wait Abort p q = absurd (p.0 q)
decides_one answers Wait Wait p q = refl
decides_one answers Wait Commit p q = absurd (q.1 p.1)
decides_one answers Wait ReadOnly p q = absurd (q.1 p.1)
decides_one answers Commit Abort p q = absurd (p.0 q)
decides_one answers Commit Wait p q = absurd (p.1 q.1)
decides_one answers Commit Commit p q = refl
decides_one answers Commit ReadOnly p q = absurd (q.2 p.2)
decides_one answers ReadOnly Abort p q = absurd (p.0 q)
decides_one answers ReadOnly Wait p q = absurd (p.1 q.1)
decides_one answers ReadOnly Commit p q = absurd (p.2 q.2)
decides_one answers ReadOnly ReadOnly p q = refl
