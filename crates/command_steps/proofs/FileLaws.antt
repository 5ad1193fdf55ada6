-- Loads, tries and stores as parts of an order.
use Rattle.std.proofs.Common.{◌≡◌, ℕ, List, Option, Some, None, refl, ap, subst}
use Rattle.std.specs.Prelude.{option_map}
use Rattle.edge_reader.specs.EdgeList.{Graph}
use Rattle.outside.specs.Files.{with_file}
use Rattle.command_steps.specs.FileWalks.{FailsToStore, FailsToTry, HasBytes, HasTried, HasTriedNone, NoBytes, NotKept, NotThere, NotTried, WantsForBytes, WantsToStore, WantsToTry}
use Rattle.command_steps.specs.Leaves.{IsNone, IsThere, Leaves, Loaded, NotLoaded, NotStored, Stored, TryFailed, WantsAtLoad, WantsAtStore, WantsAtTry}
use Rattle.command_steps.specs.Notes.{Fault}
use Rattle.command_steps.specs.Orders.{Course, Loads, Order, Stores, Task, Tries}
use Rattle.command_steps.specs.States.{Held, Kept, Left, Outside, outside}
use Rattle.command_steps.specs.Walks.{HasGraph, HasProgram}
use Rattle.symple_words.specs.declared.line.GraphForm.{GraphForm}
use Rattle.vert_tree.specs.declared.typed.Typed.{Typed}

-- ---- loads

-- what was loaded of a shelf that is as before
abbrev pub text_from : (old new : Kept) (name : List ℕ) (typed : Typed) → HasProgram old new name typed →
    HasProgram old old name typed
text_from old new name typed has =
    record { text = has.text; under = has.under; within = has.within; says = has.says; same = refl }

-- a graph that was loaded behind another file
module _ (old mid new : Kept) (form : GraphForm) (name : List ℕ) (graph : Graph) (bytes : List ℕ) where
  pub bytes_from : mid ≡ old → ((has : HasGraph mid new form name graph) × (has.bytes ≡ bytes)) →
      (has : HasGraph old new form name graph) × (has.bytes ≡ bytes)
  bytes_from same found =
      let P : Kept → Type 0 = λ k. (has : HasGraph k new form name graph) × (has.bytes ≡ bytes) in subst P same found

module _ (courses : Task → Course → Type 0) where
  -- ---- files that must be there

  -- the file was loaded, and then the rest came; or it was not, and the command ended
  pub bytes_go :
      (old new : Kept) (name : List ℕ) (limit : ℕ) (too_long : Fault) (bytes : List ℕ) →
      HasBytes old new name limit bytes → (next : List ℕ → Order) (out : Held) (input : Left) (after : Outside)
      (outcome : Option Fault) → Leaves courses (next bytes) (outside new out input) after outcome →
      Leaves courses (Loads name limit too_long next) (outside old out input) after outcome
  bytes_go old new name limit too_long bytes has next out input after outcome rest =
      Loaded bytes has.under has.within
      (subst (λ (k : Kept). Leaves courses (next bytes) (outside k out input) after outcome) has.same rest)

  pub bytes_stop :
      (old new : Kept) (name : List ℕ) (limit : ℕ) (too_long fault : Fault) →
      NoBytes old new name limit too_long fault → (next : List ℕ → Order) (out : Held) (input : Left) →
      Leaves courses (Loads name limit too_long next) (outside old out input) (outside new out input) (Some fault)
  bytes_stop old new name limit too_long fault (NotThere why) next out input = NotLoaded fault why refl refl
  bytes_stop old new name limit too_long fault (WantsForBytes same is) next out input = WantsAtLoad
      (record { same = ap (λ (k : Kept). outside k out input) same; memory = ap Some is })

  -- ---- tries

  -- the file was loaded, and then the rest came
  module _ (old new : Kept) (name : List ℕ) (limit : ℕ) (bytes : List ℕ) where
    pub try_there : HasTried old new name limit bytes →
        (next : Option (List ℕ) → Order) (out : Held) (input : Left) (after : Outside) (outcome : Option Fault)
        → Leaves courses (next (Some bytes)) (outside new out input) after outcome →
        Leaves courses (Tries name limit next) (outside old out input) after outcome
    try_there has next out input after outcome rest =
        let P : Kept → Type 0 = λ k. Leaves courses (next (Some bytes)) (outside k out input) after outcome in
        IsThere bytes has.under has.within (subst P has.same rest)

  -- there is none, and then the rest came
  module _ (old new : Kept) (name : List ℕ) (limit : ℕ) where
    pub try_none : HasTriedNone old new name limit →
        (next : Option (List ℕ) → Order) (out : Held) (input : Left) (after : Outside) (outcome : Option Fault)
        → Leaves courses (next None) (outside new out input) after outcome →
        Leaves courses (Tries name limit next) (outside old out input) after outcome
    try_none has next out input after outcome rest =
        let P : Kept → Type 0 = λ k. Leaves courses (next None) (outside k out input) after outcome in
        IsNone new.loads has.none (subst P has.same rest)

  -- the shelf failed, or memory was wanting, and the command ended
  module _ (old new : Kept) (name : List ℕ) (limit : ℕ) (fault : Fault) where
    pub try_stops : NotTried old new name fault → (next : Option (List ℕ) → Order) (out : Held) (input : Left) →
        Leaves courses (Tries name limit next) (outside old out input) (outside new out input) (Some fault)
    try_stops (FailsToTry rose same is) next out input =
        TryFailed rose (ap (λ (k : Kept). outside k out input) same) (ap Some is)
    try_stops (WantsToTry same is) next out input =
        WantsAtTry (record { same = ap (λ (k : Kept). outside k out input) same; memory = ap Some is })

  -- ---- stores

  -- the bytes were stored, and then the rest came
  module _ (name bytes : List ℕ) (old new : Kept) where
    pub store_goes : new ≡ record old { files = option_map (with_file name bytes) old.files } →
        (next : Order) (out : Held) (input : Left) (after : Outside) (outcome : Option Fault) →
        Leaves courses next (outside new out input) after outcome →
        Leaves courses (Stores name bytes next) (outside old out input) after outcome
    store_goes stored next out input after outcome rest =
        Stored (subst (λ (k : Kept). Leaves courses next (outside k out input) after outcome) stored rest)

  -- they were not, and the command ended
  module _ (name bytes : List ℕ) (old new : Kept) (fault : Fault) where
    pub store_stops : NotKept name old new fault → (next : Order) (out : Held) (input : Left) →
        Leaves courses (Stores name bytes next) (outside old out input) (outside new out input) (Some fault)
    store_stops (FailsToStore fails is) next out input = NotStored fails refl (ap Some is)
    store_stops (WantsToStore same is) next out input =
        WantsAtStore (record { same = ap (λ (k : Kept). outside k out input) same; memory = ap Some is })
