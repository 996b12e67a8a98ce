-- How far an answer was told.
use Rattle.std.proofs.Common.{◌≡◌, ◌∙◌, ℕ, List, [], ◌∷◌, ◌++◌, Option, Some, None, true, false, IfSome, refl, sym, subst, append-nil, append_assoc}
use Rattle.std.specs.Io.BufRead.{drop_through}
use Rattle.std.specs.Io.KnownBytes.{Appends}
use Rattle.std.specs.List.{concat}
use Rattle.std.proofs.KnownBytes.{Appends-nil, Appends-trans}
use Rattle.tip_control.specs.Asking.{Answers, Hears, IsAnswered, Tells, verdict_of}
use Rattle.tip_control.specs.declared.asking.Verdict.TheVariants.{Done}

-- this text was told, and what is left goes on where it ends
pub record HasTold (octets : List ℕ) (remaining before after : Option (List ℕ)) : Type 0 where
  pub text : List ℕ
  pub left : List ℕ
  pub rest : remaining ≡ Some left
  pub all : (lines : List (List ℕ)) → Answers lines left → (whole : List (List ℕ)) × Answers whole octets × (concat whole ≡ text ++ concat lines)
  pub told : Appends before after text

abbrev pub IsTelling : Option (List ℕ) → Option (List ℕ) → Option (List ℕ) → Option (List ℕ) → Type 0
IsTelling known remaining before after = IfSome known (λ octets. HasTold octets remaining before after)

pub begins : (known before : Option (List ℕ)) → IsTelling known known before before
begins None before = tt
begins (Some octets) before = record { text = []; left = octets; rest = refl; all = λ lines are. (lines, are, refl); told = Appends-nil before }

pub one_more : (known remaining later before after next : Option (List ℕ)) (line : List ℕ) → IsTelling known remaining before after → IfSome remaining (Hears true line later) → Appends after next line → IsTelling known later before next
one_more None remaining later before after next line so hears appended = tt
one_more (Some octets) remaining later before after next line so hears appended =
    let heard : Hears true line later so.left = subst (λ (o : Option (List ℕ)). IfSome o (Hears true line later)) so.rest hears in
    record {
      text = so.text ++ line;
      left = drop_through 10 so.left;
      rest = heard.2;
      all = λ lines are. let whole = so.all (line ∷ lines) (heard.0, heard.1, are) in (whole.0, whole.1, whole.2 ∙ sym (append_assoc so.text line (concat lines)));
      told = Appends-trans before after next so.text line so.told appended;
    }

pub ended : (known remaining later before after : Option (List ℕ)) (line : List ℕ) → IsTelling known remaining before after → IfSome remaining (Hears false line later) → IfSome known (λ octets. Tells octets before after)
ended None remaining later before after line so hears = tt
ended (Some octets) remaining later before after line so hears =
    let heard : Hears false line later so.left = subst (λ (o : Option (List ℕ)). IfSome o (Hears false line later)) so.rest hears in
    let whole = so.all [] heard in
    (whole.0, whole.1, subst (λ (t : List ℕ). Appends before after t) (sym (whole.2 ∙ append-nil so.text)) so.told)

-- an answer of no line
pub nothing : (known later before : Option (List ℕ)) (line : List ℕ) → IfSome known (Hears false line later) → IfSome known (λ octets. IsAnswered octets Done before before)
nothing None later before line hears = tt
nothing (Some octets) later before line hears = ([], hears, refl, Appends-nil before)

-- a first line, and those behind it
pub answered : (known later before next after : Option (List ℕ)) (line : List ℕ) → IfSome known (Hears true line later) → Appends before next line → IfSome later (λ octets. Tells octets next after) → IfSome known (λ octets. IsAnswered octets (verdict_of (line ∷ [])) before after)
answered None later before next after line hears first rest = tt
answered (Some octets) later before next after line hears first rest =
    let told : Tells (drop_through 10 octets) next after = subst (λ (o : Option (List ℕ)). IfSome o (λ octets. Tells octets next after)) hears.2 rest in
    (line ∷ told.0, (hears.0, hears.1, told.1), refl, Appends-trans before next after line (concat told.0) first told.2)
