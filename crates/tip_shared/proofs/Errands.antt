-- Errands that are done one after the other, as a pass shows them.
use Rattle.std.proofs.Common.{◌≡◌, ◌⊎◌, ◌∙◌, true, List, [], ◌∷◌, ◌++◌, Option, Some, None, ap, inl, inr, refl, subst, sym}
use Rattle.std.specs.Prelude.{option_map}
use Rattle.std.proofs.lemmas.List.{append_assoc, append-nil}
use Rattle.tip_session.specs.Desks.{Name, Step, Line, Lost, Back}
use Rattle.tip_session.specs.Ends.{only_back}
use Rattle.tip_shared.specs.Sessions.{BringsBack, OnlyBack}

-- none came back yet, and the first is out; or it came back, and others behind it
abbrev pub Came : Option Name → List Step → List Step → Option Name → Type 0
Came first before now out = ((out ≡ first) × (now ≡ before)) ⊎ ((name : Name) × (backs : List Step) × (first ≡ Some name) × (now ≡ before ++ Back name ∷ backs) × (only_back backs ≡ true))

back_last : (xs : List Step) (name : Name) → only_back xs ≡ true → only_back (xs ++ Back name ∷ []) ≡ true
back_last [] name only = refl
back_last (Line heard ∷ xs) name only = only
back_last (Lost ∷ xs) name only = only
back_last (Back other ∷ xs) name only = back_last xs name only

pub came_nothing : (first : Option Name) (before : List Step) → Came first before before first
came_nothing first before = inl (refl, refl)

pub came_on : (first : Option Name) (before now later : List Step) (name : Name) (more : Option Name) → Came first before now (Some name) → later ≡ now ++ Back name ∷ [] → Came first before later more
came_on first before now later name more (inl none) is = inr (name, [], sym none.0, is ∙ ap (λ l. l ++ Back name ∷ []) none.1, refl)
came_on first before now later name more (inr (one, backs, first_is, now_is, only)) is = inr (one, backs ++ Back name ∷ [], first_is, is ∙ ap (λ l. l ++ Back name ∷ []) now_is ∙ append_assoc before (Back one ∷ backs) (Back name ∷ []), back_last backs name only)

pub came_all : (first : Option Name) (before now : List Step) → Came first before now None → BringsBack first before now
came_all first before now (inl none) = subst (λ f. BringsBack f before now) none.0 none.1
came_all first before now (inr (one, backs, first_is, now_is, only)) = subst (λ f. BringsBack f before now) (sym first_is) (backs, now_is, only)

pub came_alone : (first : Option Name) (before now : List Step) (out : Option Name) → Came first before now out → OnlyBack before now
came_alone first before now out (inl none) = ([], none.1 ∙ sym (append-nil before), refl)
came_alone first before now out (inr (one, backs, first_is, now_is, only)) = (Back one ∷ backs, now_is, only)

pub came_next : {W : Type 0} (work : W) (next more : Option W) (name : W → Name) (first : Option Name) (before now later : List Step) → next ≡ Some work → Came first before now (option_map name next) → later ≡ now ++ Back (name work) ∷ [] → Came first before later (option_map name more)
came_next work next more name first before now later is came gain = came_on first before now later (name work) (option_map name more) (subst (λ n. Came first before now (option_map name n)) is came) gain

pub ruleset coming = (came_nothing, came_on, came_all, came_alone)
