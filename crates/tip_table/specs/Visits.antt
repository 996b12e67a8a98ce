-- A visit of the items of a list, one after another.
use Rattle.std.specs.Prelude.{List, [], ◌∷◌}

-- what becomes of the notes
abbrev pub notes_of : {N T : Type 0} → (noted : N → T → N) → N → List T → N
notes_of noted notes [] = notes
notes_of noted notes (item ∷ items) = notes_of noted (noted notes item) items

-- have the notes room for each, as they are by then?
abbrev pub MayVisit : {N T : Type 0} → (may : N → T → Type 0) → (noted : N → T → N) → N → List T → Type 0
MayVisit may noted notes [] = Unit {0}
MayVisit may noted notes (item ∷ items) = may notes item × MayVisit may noted (noted notes item) items
