-- A realm more.
use Rattle.std.proofs.Common.{rules, ◌≡◌, ◌∙◌, ◌++◌, ◌∷◌, [], Some, ap, arith, ◌<◌, ◌≤◌, length, sym, true}
use Rattle.std.specs.List.{list_all}
use Rattle.std.proofs.lemmas.Bool.Decides.{nat_tests}
use Rattle.tip_machine.specs.Heads.{are_allowed}
use Rattle.tip_scene.specs.Acts.{is_count, is_other}
use Rattle.tip_scene.specs.Hosting.{may_be_hosted}
use Rattle.tip_scene.proofs.Hosting.{more_hostable}
use Rattle.tip_scene.proofs.Staging.{declares}
use Rattle.tip_scene.proofs.declared.Declared+S+Core.add.Goals as goal

pub returns-clause-declares : goal.returns-clause-declares
returns-clause-declares g c =
    let before = c.args.self.now.declarations.items in
    let declaration = c.in_ok-declaration.ensures.ok in
    let new : list_all (is_other c.args.name.now) before ≡ true = search rules in
    let few : length before < 64 = grind (arith, nat_tests) in
    let some : is_count c.args.branches ≡ true = search rules in
    let allowed : are_allowed c.args.limits ≡ true = search rules in
    declares before c.args.name.now c.args.address.now c.args.branches c.args.limits new few some allowed declaration.1 declaration.2 ∙ ap Some (ap (λ d. before ++ d ∷ []) (sym declaration.0) ∙ sym c.in_ok-push.ensures.items)

pub returns-clause-hostable : goal.returns-clause-hostable
returns-clause-hostable g c = λ all.
    let some : is_count c.args.branches ≡ true = search rules in
    let few : c.args.branches ≤ 8 = grind (arith, nat_tests) in
    let allowed : are_allowed c.args.limits ≡ true = search rules in
    ap (list_all may_be_hosted) (c.in_ok-push.ensures.items ∙ ap (λ d. c.args.self.now.declarations.items ++ d ∷ []) c.in_ok-declaration.ensures.ok.0) ∙ more_hostable c.args.self.now.declarations.items c.args.name.now c.args.address.now c.args.branches c.args.limits all few some allowed
