use Rattle.std.proofs.Common.{◌∙◌, Bool, ℕ, List, [], ◌∷◌, IfSome, ap, sym, subst}
use Rattle.std.specs.Io.KnownBytes.{Appends}
use Rattle.tip_control.specs.Asking.{Hears, IsAnswered, verdict_of}
use Rattle.tip_control.specs.declared.asking.Verdict.{Verdict}
use Rattle.tip_control.proofs.Told.{answered}
use Rattle.tip_control.proofs.asking.tell.Goals as goal

pub returns-in-Ok : goal.returns-in-Ok
returns-in-Ok g c =
    let known = g.R.Read.remaining c.args.reader.now in
    let later = g.R.Read.remaining c.hear.new.reader in
    let before = g.O.Write.contents c.args.output.now in
    let next = g.O.Write.contents c.write_front.new.output in
    let after = g.O.Write.contents c.tell_rest.new.output in
    let line = c.hear.new.line.items in
    let hears = subst (λ (more : Bool). IfSome known (Hears more line later)) c.if-not-branch.false c.in_ok-hear.ensures in
    let first = subst (λ (text : List ℕ). Appends before next text) c.deref-2.ensures.value c.in_ok-write_front.ensures.ok in
    let same = c.verdict_of-verdict.ensures ∙ ap (λ (text : List ℕ). verdict_of (text ∷ [])) c.deref.ensures.value in
    subst (λ (verdict : Verdict). IfSome known (λ octets. IsAnswered octets verdict before after)) (sym same) (answered known later before next after line hears first c.in-Ok.ensures)
