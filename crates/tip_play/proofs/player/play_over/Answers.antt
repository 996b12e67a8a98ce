-- What was written stays, and is not known to be there where it was not flushed.
use Rattle.std.proofs.Common.{◌≡◌, subst, sym, true}
use Rattle.std.specs.Prelude.{IfOk, IfSome}
use Rattle.tip_play.specs.Transcripts.{TranscribesOn, covers_all}
use Rattle.tip_scene.specs.Blaming.{Accuses, Blames, IsBlamed, Spares}
use Rattle.tip_play.specs.declared.fault.PlayFault.TheVariants.{Memory, Store}
use Rattle.tip_play.proofs.Blaming.{kept_unflushed}
use Rattle.tip_play.specs.Leaving.{Leaves, LeavesAtFault}
use Rattle.tip_play.proofs.Leaving.{fault_unflushed}
use Rattle.tip_play.proofs.Ending.{all_kept, all_unflushed, never_unflushed}
use Rattle.tip_play.proofs.player.play_over.Goals as goal

pub returns-in-Ok-clause-transcribes : goal.returns-in-Ok-clause-transcribes
returns-in-Ok-clause-transcribes g c = λ basis may on.
    all_kept g.S.RowLog.keeping basis (g.R.Read.remaining c.args.input.now) (g.R.Read.remaining c.play_lines-end.new.input) (g.W.Write.contents c.args.output.now) (g.W.Write.contents c.play_lines-end.new.output) (g.W.Write.contents c.flush.new.self) c.play_lines-end.result c.flush.ensures.bytes
    (c.play_lines-end.ensures.transcribes basis may on)

pub returns-in-Err-clause-transcribes : goal.returns-in-Err-clause-transcribes
returns-in-Err-clause-transcribes g c = λ basis may on.
    subst (λ r. IfSome (g.R.Read.remaining c.args.input.now) (λ script. covers_all basis script ≡ true → TranscribesOn g.S.RowLog.keeping basis script (g.R.Read.remaining c.play_lines-end.new.input) (g.W.Write.contents c.args.output.now) (g.W.Write.contents c.flush.new.self) r)) (sym c.unflushed.ensures)
    (all_unflushed g.S.RowLog.keeping basis (g.R.Read.remaining c.args.input.now) (g.R.Read.remaining c.play_lines-end.new.input) (g.W.Write.contents c.args.output.now) (g.W.Write.contents c.flush.new.self) c.play_lines-end.result
    (all_kept g.S.RowLog.keeping basis (g.R.Read.remaining c.args.input.now) (g.R.Read.remaining c.play_lines-end.new.input) (g.W.Write.contents c.args.output.now) (g.W.Write.contents c.play_lines-end.new.output) (g.W.Write.contents c.flush.new.self) c.play_lines-end.result c.flush.ensures.bytes
    (c.play_lines-end.ensures.transcribes basis may on)))

pub returns-in-Err-clause-blames : goal.returns-in-Err-clause-blames
returns-in-Err-clause-blames g c = λ asks basis may on script whole covers.
    subst (Blames g.S.RowLog.keeping Store (IsBlamed g.S.RowLog.keeping basis c.args.store)) (sym c.unflushed.ensures)
    (kept_unflushed (Accuses g.S.RowLog.keeping Store (IsBlamed g.S.RowLog.keeping basis c.args.store)) c.play_lines-end.result (λ store is. absurd cc) (c.play_lines-end.ensures.blames asks basis may on script whole covers))

pub returns-in-Err-clause-leaves : goal.returns-in-Err-clause-leaves
returns-in-Err-clause-leaves g c = λ basis may on script whole covers.
    subst (λ r. IfOk r (λ left. g.S.RowLog.keeping.is_true left → Leaves g.S.RowLog.keeping basis script c.args.store left)) (sym c.unflushed.ensures) (never_unflushed (λ left. g.S.RowLog.keeping.is_true left → Leaves g.S.RowLog.keeping basis script c.args.store left) c.play_lines-end.result)

pub returns-in-Err-clause-faults : goal.returns-in-Err-clause-faults
returns-in-Err-clause-faults g c = λ basis may on script is covers. subst (LeavesAtFault g.S.RowLog.keeping basis script c.args.store) (sym c.unflushed.ensures) (fault_unflushed g.S.RowLog.keeping basis script c.args.store c.play_lines-end.result (c.play_lines-end.ensures.leaves basis may on script is covers) (c.play_lines-end.ensures.faults basis may on script is covers))

pub returns-in-Err-clause-spares : goal.returns-in-Err-clause-spares
returns-in-Err-clause-spares g c = λ asks.
    subst (Spares g.S.RowLog.keeping Memory c.args.store) (sym c.unflushed.ensures)
    (kept_unflushed (λ fault. fault.0 ≡ Memory → g.S.RowLog.keeping.faults fault.1 ≡ g.S.RowLog.keeping.faults c.args.store) c.play_lines-end.result (λ store is. absurd cc) (c.play_lines-end.ensures.spares asks))
