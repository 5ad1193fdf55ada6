-- What loads and stores that fail leave of the files.
use Rattle.std.proofs.Common.{◌≡◌, ◌⊎◌, ℕ, List, ap, inl, inr}
use Rattle.command_steps.specs.FileWalks.{FailsToStore, NotKept, WantsToStore}
use Rattle.command_steps.specs.Leaves.{CannotLoad, HasFailed, IsAbsent, IsLong}
use Rattle.command_steps.specs.Notes.{Fault, NoWrite}
use Rattle.command_steps.specs.States.{Kept}
use Rattle.command_steps.specs.Walks.{BadFile, BadText, LacksGraph, LacksProgram, NoBoth, NoFile, NoGraph, NoProgram, NoText, WantsForFile, WantsForText}
use Rattle.symple_words.specs.declared.line.GraphForm.{GraphForm}

-- a store that fails blames a write, or it wanted memory and changed nothing
pub store_written : (name : List ℕ) (old new : Kept) (fault : Fault) → NotKept name old new fault →
    (fault ≡ NoWrite) ⊎ (new.files ≡ old.files)
store_written name old new fault (FailsToStore fails is) = inl is
store_written name old new fault (WantsToStore same is) = inr (ap (λ (k : Kept). k.files) same)

load_same : (name : List ℕ) (limit : ℕ) (too_long : Fault) (old new : Kept) (fault : Fault) →
    CannotLoad name limit too_long old new fault → new.files ≡ old.files
load_same name limit too_long old new fault (IsAbsent told under same is) = ap (λ (k : Kept). k.files) same
load_same name limit too_long old new fault (IsLong bytes under long same is) = ap (λ (k : Kept). k.files) same
load_same name limit too_long old new fault (HasFailed rose same is) = ap (λ (k : Kept). k.files) same

program_same : (old new : Kept) (name : List ℕ) (fault : Fault) → NoProgram old new name fault → new.files ≡ old.files
program_same old new name fault (NoText not) = load_same name _ _ old new fault not
program_same old new name fault (BadText text under within refusal refuses same is) = ap (λ (k : Kept). k.files) same
program_same old new name fault (WantsForText same is) = ap (λ (k : Kept). k.files) same

graph_same : (old new : Kept) (form : GraphForm) (name : List ℕ) (fault : Fault) → NoGraph old new form name fault →
    new.files ≡ old.files
graph_same old new form name fault (NoFile not) = load_same name _ _ old new fault not
graph_same old new form name fault (BadFile bytes under within why reads same is) = ap (λ (k : Kept). k.files) same
graph_same old new form name fault (WantsForFile same is) = ap (λ (k : Kept). k.files) same

-- loads change no file
pub both_same : (old new : Kept) (name : List ℕ) (form : GraphForm) (of : List ℕ) (fault : Fault) →
    NoBoth old new name form of fault → new.files ≡ old.files
both_same old new name form of fault (LacksProgram not) = program_same old new name fault not
both_same old new name form of fault (LacksGraph typed has not) = graph_same old new form of fault not
