-- REQUESTS at a control port (ours): words with one space between them.
use Rattle.std.specs.Prelude.{◌≡◌, ◌⊎◌, ◌&&◌, ℕ, Bool, true, List, [], ◌∷◌, Option, Some, None, codes, if◌then◌else◌}
use Rattle.std.specs.List.{list_any}
use Rattle.std.specs.Str.{bytes_eq}
use Rattle.tip_line.specs.Fields.{fields_of}
use Rattle.tip_line.specs.Words.{is_address, is_word}
use Rattle.tip_line.specs.declared.fault.WordFault.{WordFault}
use Rattle.tip_line.specs.declared.fault.WordFault.TheVariants as word_fault
use Rattle.tip_script.specs.Scripts.{are_kinds}
use Rattle.tip_control.specs.declared.request.Request.{Request}
use Rattle.tip_control.specs.declared.request.Request.TheVariants as request
use Rattle.tip_control.specs.declared.fault.RequestFault.{RequestFault}
use Rattle.tip_control.specs.declared.fault.RequestFault.TheVariants.{Unknown, Missing, NotWord, Memory}

abbrev pub words_of : List ℕ → List (List ℕ)
words_of line = fields_of 32 line

-- the words of a request
abbrev pub spelled : Request → List (List ℕ)
spelled request.Status = codes "status" ∷ []
spelled request.Doubts = codes "doubts" ∷ []
spelled request.Retry = codes "retry" ∷ []
spelled request.Renew = codes "renew" ∷ []
spelled (request.Push address id) = codes "push" ∷ address ∷ id ∷ []
spelled (request.Pull address superior boxes) = codes "pull" ∷ address ∷ superior ∷ boxes ∷ []

-- the words behind its name are what they should be
abbrev pub is_good : Request → Bool
is_good (request.Push address id) = is_address address && is_word id
is_good (request.Pull address superior boxes) = are_kinds boxes && is_address address && is_word superior && is_word boxes
is_good other = true

-- A LINE IS A REQUEST
abbrev pub IsRequest : List ℕ → Request → Type 0
IsRequest line request = (words_of line ≡ spelled request) × (is_good request ≡ true)

-- why words behind a name are none of a request of that name
abbrev pub fault_of_push : List (List ℕ) → Option RequestFault
fault_of_push [] = Some Missing
fault_of_push (address ∷ []) = Some Missing
fault_of_push (address ∷ id ∷ []) = if is_good (request.Push address id) then None else Some NotWord
fault_of_push (address ∷ id ∷ more ∷ others) = Some Unknown

abbrev pub fault_of_pull : List (List ℕ) → Option RequestFault
fault_of_pull [] = Some Missing
fault_of_pull (address ∷ []) = Some Missing
fault_of_pull (address ∷ superior ∷ []) = Some Missing
fault_of_pull (address ∷ superior ∷ boxes ∷ []) = if is_good (request.Pull address superior boxes) then None else Some NotWord
fault_of_pull (address ∷ superior ∷ boxes ∷ more ∷ others) = Some Unknown

-- the names behind which nothing stands
abbrev pub is_single : List ℕ → Bool
is_single name = list_any (bytes_eq name) (codes "status" ∷ codes "doubts" ∷ codes "retry" ∷ codes "renew" ∷ [])

abbrev pub fault_of_single : List ℕ → List (List ℕ) → Option RequestFault
fault_of_single name [] = if is_single name then None else Some Unknown
fault_of_single name (more ∷ others) = Some Unknown

-- why words are no request, if they are none
abbrev pub fault_of : List (List ℕ) → Option RequestFault
fault_of [] = Some Unknown
fault_of (name ∷ words) = if bytes_eq name (codes "push") then fault_of_push words else if bytes_eq name (codes "pull") then fault_of_pull words else fault_of_single name words

-- a fault is that of words; memory is wanting only where they are as many as they should be
abbrev pub RefusesAs : Option RequestFault → RequestFault → Type 0
RefusesAs found Memory = (found ≡ None) ⊎ (found ≡ Some NotWord)
RefusesAs found Unknown = found ≡ Some Unknown
RefusesAs found Missing = found ≡ Some Missing
RefusesAs found NotWord = found ≡ Some NotWord

-- WHY A LINE IS REFUSED
abbrev pub Refuses : List ℕ → RequestFault → Type 0
Refuses line fault = RefusesAs (fault_of (words_of line)) fault

abbrev pub of_word_fault : WordFault → RequestFault
of_word_fault word_fault.NotWord = NotWord
of_word_fault word_fault.Memory = Memory
