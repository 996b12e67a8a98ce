use Rattle.std.proofs.Common.{◌≡◌, ◌∷◌, [], ◌++◌, ◌+◌, ◌<◌, take, length, sym, ap, ◌∙◌, arith, to_z-of_z, to_z, of_z, w64}
use Rattle.std.proofs.lemmas.List.{take_more}
use Rattle.sqlite.specs.declared.types.Value.TheVariants.{Int}
use Rattle.tip_sql.proofs.Shapes.{more_ids}
use Rattle.tip_sql.proofs.opening.are_ids.Goals as goal

pub loop-row-preserved : goal.loop-row-preserved
loop-row-preserved c =
    let rows = c.args.rows.now in
    let i = c.loop-row.row-index in
    let inside : i < length rows = omega arith in
    let back : to_z w64 (of_z w64 c.in-Int.id) ≡ c.in-Int.id = grind (arith, to_z-of_z) in
    let more : take (i + 1) rows ≡ take i rows ++ c.row-item.result ∷ [] = take_more rows i c.row-item.result inside ∙ ap (λ x. take i rows ++ x ∷ []) (sym c.row-item.is) in
    rw more (more_ids (take i rows) c.loop-row.last c.row-item.result (to_z w64 (of_z w64 c.in-Int.id)) c.loop-row.invariant (sym c.in-Int.ensures ∙ ap Int (sym back)) (sym c.may_follow.ensures ∙ c.if-not-may_follow.false))
