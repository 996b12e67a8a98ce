-- What a query over one table shows.
use Rattle.std.proofs.Common.{◌≡◌, inl, inr, ℕ, List, [], ◌∷◌, map, filter, Bool, if◌then◌else◌, refl, sym, ap, subst, ◌∙◌}
use Rattle.std.specs.List.{list_all, flat_map}
use Rattle.std.specs.List.Sorted.{IsPermutation}
use Rattle.std.proofs.lemmas.List.Sorted.{IsPermutation-map, Contains-permutation}
use Rattle.std.proofs.lemmas.Bool.{cases_Bool}
use Rattle.sqlite.specs.declared.types.Value.TheVariants.{Null}
use Rattle.sqlite_value.specs.declared.keys.Key.{Key}
use Rattle.sqlite.specs.Order.{Row}
use Rattle.sqlite.specs.Term.{Term, holds, eval_all}
use Rattle.sqlite.specs.Query.{IsAnswer, IsSureAnswer, output, Output}
use Rattle.sqlite.specs.Program.{overlay}
use Rattle.sqlite.specs.Tree.{Trees}
use Rattle.sqlite_rules.specs.Lists.{Has}
use Rattle.sqlite_rules.proofs.ListLemmas.{has_contained, contains_had}
use Rattle.tip_sql.proofs.Texts.{plain_query}

chosen : {X Y : Type 0} (p : X → Bool) (f : X → Y) (xs : List X) → flat_map (λ x. if p x then f x ∷ [] else []) xs ≡ map f (filter p xs)
chosen p f [] = refl
chosen p f (x ∷ xs) = elim (cases_Bool (p x)) [
  | inl is_so ↦ rw is_so (ap (λ l. f x ∷ l) (chosen p f xs))
  | inr not_so ↦ rw not_so (chosen p f xs)
]

pub map_map : {X Y Z : Type 0} (f : X → Y) (g : Y → Z) (xs : List X) → map g (map f xs) ≡ map (λ x. g (f x)) xs
map_map f g [] = refl
map_map f g (x ∷ xs) = ap (λ l. g (f x) ∷ l) (map_map f g xs)

-- whether a row passes, and what is shown of it
abbrev pub passes : List Term → Row → Row → Bool
passes terms params r = list_all (holds (params ∷ r ∷ [])) terms

abbrev pub shows : List Term → Row → Row → Row
shows terms params r = eval_all terms (params ∷ r ∷ [])

pub plain_answer : (t : ℕ) (terms shown : List Term) (order : List (Term × Key)) (db : Trees) (params : Row) (rows : List Row) → overlay db [] t ≡ db t
    → IsSureAnswer (plain_query t terms shown order) (overlay db []) params rows → IsPermutation (map (shows shown params) (filter (passes terms params) (db t))) rows
plain_answer t terms shown order db params rows whole h =
    let q = plain_query t terms shown order in
    let a : IsAnswer q (overlay db []) params rows = h Null in
    let staged : a.staged ≡ map (λ r. params ∷ r ∷ []) (filter (passes terms params) (db t)) = a.grouped ∙ chosen (passes terms params) (λ r. params ∷ r ∷ []) (overlay db [] t) ∙ ap (λ rs. map (λ r. params ∷ r ∷ []) (filter (passes terms params) rs)) whole in
    let kept : a.kept ≡ map (λ r. output q (params ∷ r ∷ [])) (filter (passes terms params) (db t)) = a.distinct ∙ ap (map (output q)) staged ∙ map_map (λ r. params ∷ r ∷ []) (output q) (filter (passes terms params) (db t)) in
    let moved = IsPermutation-map (λ (o : Output). o.1) a.kept a.ordered a.same in
    let out : map (λ (o : Output). o.1) a.kept ≡ map (shows shown params) (filter (passes terms params) (db t)) = ap (map (λ (o : Output). o.1)) kept ∙ map_map (λ r. output q (params ∷ r ∷ [])) (λ (o : Output). o.1) (filter (passes terms params) (db t)) in
    let all : rows ≡ map (λ (o : Output). o.1) a.ordered = a.shown in
    subst (λ xs. IsPermutation xs rows) out (subst (IsPermutation (map (λ (o : Output). o.1) a.kept)) (sym all) moved)

pub has_moved : {X : Type 0} (xs ys : List X) (x : X) → IsPermutation xs ys → Has xs x → Has ys x
has_moved xs ys x moved has = has_contained ys x (Contains-permutation xs ys x moved (contains_had xs x has))
