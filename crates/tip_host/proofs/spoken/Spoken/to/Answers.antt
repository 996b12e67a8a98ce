-- Behind those before it, this one goes out too.
use Rattle.std.proofs.Common.{◌++◌, ◌∷◌, ◌∙◌, [], ap, subst, sym}
use Rattle.std.specs.Prelude.{take}
use Rattle.std.proofs.lemmas.List.{take_more}
use Rattle.tip_host.specs.Speaking.{Speaks}
use Rattle.tip_host.proofs.spoken.Spoken.to.Goals as goal

pub loop-one-preserved : goal.loop-one-preserved
loop-one-preserved c =
    let sent = c.args.sent.now in
    let before = take c.loop-one.one-index sent in
    let more = take_more sent c.loop-one.one-index c.one-item.result c.loop-one-test.true ∙ ap (λ one. before ++ one ∷ []) (sym c.one-item.is) in
    subst (λ behind. Speaks behind c.note.new.self) (sym more) (c.note.ensures before c.loop-one.invariant)
