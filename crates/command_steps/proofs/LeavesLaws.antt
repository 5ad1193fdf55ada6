-- What every order leaves: of files, of the input, and of the texts of a run.
use Rattle.std.proofs.Common.{◌≡◌, ◌≢◌, ◌⊎◌, inl, inr, ℕ, Bool, true, false, List, [], ◌∷◌, Option, Some, None, codes, refl, sym, ap, ◌∙◌, subst}
use Rattle.std.specs.Prelude.{bytes_eq, if◌then◌else◌, option_map}
use Rattle.std.proofs.lemmas.Slice.Eq.{bytes_eq-Decides}
use Rattle.outside.specs.Causes.{Rose}
use Rattle.outside.specs.Files.{File, SameBut, file_named, with_file}
use Rattle.program_reader.specs.declared.refusal.Refusal.{Refusal}
use Rattle.command_steps.specs.Leaves.{CannotLoad, Gained, HasFailed, IsAbsent, IsLong, IsNone, IsProgram, IsRefused, IsThere, Leaves, Loaded, NotLoaded, NotPut, NotServed, NotStored, PutFailed, Ran, Refused, Served, Stored, TakeFailed, TryFailed, WantsAtJudging, WantsAtLoad, WantsAtPut, WantsAtRefusal, WantsAtRun, WantsAtStore, WantsAtTry, WantsToServe}
use Rattle.command_steps.specs.Notes.{BadProgram, Fault, NoLoad, NoMemory, NoWrite}
use Rattle.command_steps.specs.Orders.{Course, Ends, Judges, Loads, Order, Task, Puts, Refuses, Runs, Serves, Stores, Tries}
use Rattle.command_steps.specs.Orders.{NoTask}
use Rattle.command_steps.specs.States.{Kept, Outside}
use Rattle.command_steps.specs.Quiet.{BlamesNoWrite, IsQuiet, SameAt, Spares}

-- an order leaves the same where more courses are allowed
module _ (courses others : Task → Course → Type 0) (more : (task : Task) (course : Course) → courses task course →
    others task course) where
  pub weaker : (order : Order) (w new : Outside) (outcome : Option Fault) → Leaves courses order w new outcome →
      Leaves others order w new outcome
  weaker Ends w new outcome done = done
  weaker (Refuses fault) w new outcome refused = refused
  weaker (Loads name limit too_long next) w new outcome (Loaded bytes under within rest) = Loaded bytes under within
      (weaker (next bytes) w new outcome rest)
  weaker (Loads name limit too_long next) w new outcome (NotLoaded fault why same is) = NotLoaded fault why same is
  weaker (Loads name limit too_long next) w new outcome (WantsAtLoad wants) = WantsAtLoad wants
  weaker (Tries name limit next) w new outcome (IsThere bytes under within rest) = IsThere bytes under within
      (weaker (next (Some bytes)) _ new outcome rest)
  weaker (Tries name limit next) w new outcome (IsNone loads lacks rest) = IsNone loads lacks
      (weaker (next None) _ new outcome rest)
  weaker (Tries name limit next) w new outcome (TryFailed rose same is) = TryFailed rose same is
  weaker (Tries name limit next) w new outcome (WantsAtTry wants) = WantsAtTry wants
  weaker (Judges text next) w new outcome (IsProgram program says rest) = IsProgram program says
      (weaker (next program) w new outcome rest)
  weaker (Judges text next) w new outcome (IsRefused refusal refuses ends) = IsRefused refusal refuses ends
  weaker (Judges text next) w new outcome (WantsAtJudging wants) = WantsAtJudging wants
  weaker (Runs task next) w new outcome (Ran course is rest) = Ran course (more task course is)
      (weaker (next course) w new outcome rest)
  weaker (Runs task next) w new outcome (WantsAtRun wants) = WantsAtRun wants
  weaker (Puts text next) w new outcome (Gained spare spared rest) = Gained spare spared
      (weaker next _ new outcome rest)
  weaker (Puts text next) w new outcome (NotPut fails same is) = NotPut fails same is
  weaker (Puts text next) w new outcome (WantsAtPut wants) = WantsAtPut wants
  weaker (Stores name bytes next) w new outcome (Stored rest) = Stored (weaker next _ new outcome rest)
  weaker (Stores name bytes next) w new outcome (NotStored fails same is) = NotStored fails same is
  weaker (Stores name bytes next) w new outcome (WantsAtStore wants) = WantsAtStore wants
  weaker (Serves used text next) w new outcome (Served bytes left spare spared rest) = Served bytes left spare spared
      (weaker (next bytes) _ new outcome rest)
  weaker (Serves used text next) w new outcome (NotServed bytes left part why) = NotServed bytes left part why

-- what is left without a run is left whatever runs are allowed
pub unplayed : (courses : Task → Course → Type 0) (order : Order) (w new : Outside) (outcome : Option Fault) →
    Leaves NoTask order w new outcome → Leaves courses order w new outcome
unplayed courses = weaker NoTask courses (λ task course none. absurd none)

-- the same files, count of stores and input
pub record SameBehind (w new : Outside) : Type 0 where
  pub files : new.shelf.files ≡ w.shelf.files
  pub stores : new.shelf.stores ≡ w.shelf.stores
  pub input : new.input ≡ w.input

same_behind : (w new : Outside) → new ≡ w → SameBehind w new
same_behind w new is = record {
  files = ap (λ (o : Outside). o.shelf.files) is;
  stores = ap (λ (o : Outside). o.shelf.stores) is;
  input = ap (λ (o : Outside). o.input) is;
}

module _ (w new : Outside) where
  after_load : (name : List ℕ) (limit : ℕ) (too_long fault : Fault) →
      CannotLoad name limit too_long w.shelf new.shelf fault → new ≡ record w { shelf = new.shelf } → SameBehind w new
  after_load name limit too_long fault (IsAbsent told under same is)
      kept = record {
        files = ap (λ (k : Kept). k.files) same;
        stores = ap (λ (k : Kept). k.stores) same;
        input = ap (λ (o : Outside). o.input) kept;
      }
  after_load name limit too_long fault (IsLong bytes under longer same is)
      kept = record {
        files = ap (λ (k : Kept). k.files) same;
        stores = ap (λ (k : Kept). k.stores) same;
        input = ap (λ (o : Outside). o.input) kept;
      }
  after_load name limit too_long fault (HasFailed rose same is)
      kept = record {
        files = ap (λ (k : Kept). k.files) same;
        stores = ap (λ (k : Kept). k.stores) same;
        input = ap (λ (o : Outside). o.input) kept;
      }

  after_try : new ≡ record w { shelf = record w.shelf { loads = new.shelf.loads } } → SameBehind w new
  after_try kept = record {
    files = ap (λ (o : Outside). o.shelf.files) kept;
    stores = ap (λ (o : Outside). o.shelf.stores) kept;
    input = ap (λ (o : Outside). o.input) kept;
  }

  after_put : new ≡ record w { out = new.out } → SameBehind w new
  after_put kept = record {
    files = ap (λ (o : Outside). o.shelf.files) kept;
    stores = ap (λ (o : Outside). o.shelf.stores) kept;
    input = ap (λ (o : Outside). o.input) kept;
  }

-- an order that stores nothing and leaves the input alone changes no file, no count of stores and no input
module _ (courses : Task → Course → Type 0) where
  pub quiet_leaves : (order : Order) → IsQuiet courses order → (w new : Outside) (outcome : Option Fault) →
      Leaves courses order w new outcome → SameBehind w new
  quiet_leaves Ends quiet w new outcome done = same_behind w new done.same
  quiet_leaves (Refuses fault) quiet w new outcome (Refused ends) = same_behind w new ends.same
  quiet_leaves (Refuses fault) quiet w new outcome (WantsAtRefusal wants) = same_behind w new wants.same
  quiet_leaves (Loads name limit too_long next) quiet w new outcome (Loaded bytes under within rest) = quiet_leaves
      (next bytes) (quiet bytes) w new outcome rest
  quiet_leaves (Loads name limit too_long next) quiet w new outcome (NotLoaded fault why same is) = after_load w new
      name limit too_long fault why same
  quiet_leaves (Loads name limit too_long next) quiet w new outcome (WantsAtLoad wants) = same_behind w new wants.same
  quiet_leaves (Tries name limit next) quiet w new outcome (IsThere bytes under within rest) =
      let b = quiet_leaves (next (Some bytes)) (quiet (Some bytes)) _ new outcome rest in
      record { files = b.files; stores = b.stores; input = b.input }
  quiet_leaves (Tries name limit next) quiet w new outcome (IsNone loads lacks rest) =
      let b = quiet_leaves (next None) (quiet None) _ new outcome rest in
      record { files = b.files; stores = b.stores; input = b.input }
  quiet_leaves (Tries name limit next) quiet w new outcome (TryFailed rose same is) = after_try w new same
  quiet_leaves (Tries name limit next) quiet w new outcome (WantsAtTry wants) = same_behind w new wants.same
  quiet_leaves (Judges text next) quiet w new outcome (IsProgram program says rest) = quiet_leaves (next program)
      (quiet program says) w new outcome rest
  quiet_leaves (Judges text next) quiet w new outcome (IsRefused refusal refuses ends) = same_behind w new ends.same
  quiet_leaves (Judges text next) quiet w new outcome (WantsAtJudging wants) = same_behind w new wants.same
  quiet_leaves (Runs task next) quiet w new outcome (Ran course is rest) = quiet_leaves (next course)
      (quiet course is) w new outcome rest
  quiet_leaves (Runs task next) quiet w new outcome (WantsAtRun wants) = same_behind w new wants.same
  quiet_leaves (Puts text next) quiet w new outcome (Gained spare spared rest) =
      let b = quiet_leaves next quiet _ new outcome rest in
      record { files = b.files; stores = b.stores; input = b.input }
  quiet_leaves (Puts text next) quiet w new outcome (NotPut fails same is) = after_put w new same
  quiet_leaves (Puts text next) quiet w new outcome (WantsAtPut wants) = same_behind w new wants.same
  quiet_leaves (Stores name bytes next) quiet w new outcome leaves = absurd quiet
  quiet_leaves (Serves used text next) quiet w new outcome leaves = absurd quiet

-- ---- files

same_at : (name : List ℕ) (old new : Option (List File)) → new ≡ old → SameAt name old new
same_at name old new is = let P : Option (List File) → Type 0 = λ fs. SameAt name old fs in
    subst P (sym is) (itself old)
  where
    itself : (fs : Option (List File)) → SameAt name fs fs
    itself None = tt
    itself (Some files) = refl

but_at : (name other : List ℕ) (old new : Option (List File)) → name ≢ other → SameBut other old new →
    SameAt name old new
but_at name other None new differs same = tt
but_at name other (Some old) None differs same = absurd same
but_at name other (Some old) (Some new) differs same = same name differs

not_same : (xs ys : List ℕ) → xs ≢ ys → bytes_eq xs ys ≡ false
not_same xs ys differs = by_test (bytes_eq xs ys) refl
  where
    by_test : (b : Bool) → bytes_eq xs ys ≡ b → bytes_eq xs ys ≡ false
    by_test true same = absurd (differs ((bytes_eq-Decides xs ys).0 same))
    by_test false same = same

-- a file of another name is where it was
module _ (name other bytes : List ℕ) (differs : name ≢ other) where
  past : (file : File) (files : List File) (named : Bool) → bytes_eq file.name other ≡ named →
      file_named name (with_file other bytes files) ≡ file_named name files →
      file_named name (if named then record file { bytes = bytes } ∷ files else file ∷ with_file other bytes files)
      ≡ file_named name (file ∷ files)
  past file files true is rest =
      let apart : file.name ≢ name = λ same. differs (sym same ∙ (bytes_eq-Decides file.name other).0 is) in
      let P : Bool → Type 0 = λ b. (if b then Some bytes else file_named name files)
      ≡ (if b then Some file.bytes else file_named name files) in
      subst P (sym (not_same file.name name apart)) refl
  past file files false is rest = ap (λ (found : Option (List ℕ)). if bytes_eq file.name name then Some file.bytes
      else found) rest

  file_behind : (files : List File) → file_named name (with_file other bytes files) ≡ file_named name files
  file_behind [] =
      let none : Option (List ℕ) = None in
      let P : Bool → Type 0 = λ b. (if b then Some bytes else none) ≡ none in
      subst P (sym (not_same other name (λ same. differs (sym same)))) refl
  file_behind (file ∷ files) = past file files (bytes_eq file.name other) refl (file_behind files)

  stored_at : (files : Option (List File)) → SameAt name files (option_map (with_file other bytes) files)
  stored_at None = tt
  stored_at (Some files) = file_behind files

-- the same at a name, and then again
same_again : (name : List ℕ) (old mid new : Option (List File)) → SameAt name old mid → SameAt name mid new →
    SameAt name old new
same_again name None mid new first second = tt
same_again name (Some old) None new first second = absurd first
same_again name (Some old) (Some mid) None first second = absurd second
same_again name (Some old) (Some mid) (Some new) first second = second ∙ first

-- an order leaves each file that it spares
module _ (courses : Task → Course → Type 0) (name : List ℕ) where
  abbrev At : Outside → Outside → Type 0
  At w new = SameAt name w.shelf.files new.shelf.files

  same_outside : (w new : Outside) → new ≡ w → At w new
  same_outside w new is = same_at name w.shelf.files new.shelf.files (ap (λ (o : Outside). o.shelf.files) is)

  by_behind : (w new : Outside) → SameBehind w new → At w new
  by_behind w new b = same_at name w.shelf.files new.shelf.files b.files

  pub spared_stays : (order : Order) → Spares courses name order → (w new : Outside) (outcome : Option Fault) →
      Leaves courses order w new outcome → At w new
  spared_stays Ends spares w new outcome done = same_outside w new done.same
  spared_stays (Refuses fault) spares w new outcome (Refused ends) = same_outside w new ends.same
  spared_stays (Refuses fault) spares w new outcome (WantsAtRefusal wants) = same_outside w new wants.same
  spared_stays (Loads other limit too_long next) spares w new outcome (Loaded bytes under within rest) = spared_stays
      (next bytes) (spares bytes) w new outcome rest
  spared_stays (Loads other limit too_long next) spares w new outcome (NotLoaded fault why same is) = by_behind w new
      (after_load w new other limit too_long fault why same)
  spared_stays (Loads other limit too_long next) spares w new outcome (WantsAtLoad wants) = same_outside w new
      wants.same
  spared_stays (Tries other limit next) spares w new outcome (IsThere bytes under within rest) = spared_stays
      (next (Some bytes)) (spares (Some bytes)) _ new outcome rest
  spared_stays (Tries other limit next) spares w new outcome (IsNone loads lacks rest) = spared_stays (next None)
      (spares None) _ new outcome rest
  spared_stays (Tries other limit next) spares w new outcome (TryFailed rose same is) = by_behind w new
      (after_try w new same)
  spared_stays (Tries other limit next) spares w new outcome (WantsAtTry wants) = same_outside w new wants.same
  spared_stays (Judges text next) spares w new outcome (IsProgram program says rest) = spared_stays (next program)
      (spares program says) w new outcome rest
  spared_stays (Judges text next) spares w new outcome (IsRefused refusal refuses ends) = same_outside w new ends.same
  spared_stays (Judges text next) spares w new outcome (WantsAtJudging wants) = same_outside w new wants.same
  spared_stays (Runs task next) spares w new outcome (Ran course is rest) = spared_stays (next course)
      (spares course is) w new outcome rest
  spared_stays (Runs task next) spares w new outcome (WantsAtRun wants) = same_outside w new wants.same
  spared_stays (Puts text next) spares w new outcome (Gained spare spared rest) = spared_stays next spares _ new
      outcome rest
  spared_stays (Puts text next) spares w new outcome (NotPut fails same is) = by_behind w new (after_put w new same)
  spared_stays (Puts text next) spares w new outcome (WantsAtPut wants) = same_outside w new wants.same
  spared_stays (Stores other bytes next) spares w new outcome (Stored rest) =
      same_again name w.shelf.files (option_map (with_file other bytes) w.shelf.files) new.shelf.files
      (stored_at name other bytes spares.0 w.shelf.files) (spared_stays next spares.1 _ new outcome rest)
  spared_stays (Stores other bytes next) spares w new outcome (NotStored fails same is) = but_at name other
      w.shelf.files new.shelf.files spares.0 fails.others
  spared_stays (Stores other bytes next) spares w new outcome (WantsAtStore wants) = same_outside w new wants.same
  spared_stays (Serves used text next) spares w new outcome (Served bytes left spare spared rest) = spared_stays
      (next bytes) (spares bytes) _ new outcome rest
  spared_stays (Serves used text next) spares w new outcome (NotServed bytes left part why) = same_at name
      w.shelf.files new.shelf.files (ap (λ (k : Kept). k.files) part.shelf)

-- ---- why a write fault comes

some_same : {fault : Fault} → Some NoWrite ≡ Some fault → NoWrite ≡ fault
some_same is = cc

not_none : {A : Type 0} → Some NoWrite ≡ None → A
not_none is = cc

not_memory : {A : Type 0} → Some NoWrite ≡ Some NoMemory → A
not_memory is = cc

not_load : {A : Type 0} (name : List ℕ) → Some NoWrite ≡ Some (NoLoad name) → A
not_load name is = cc

not_program : {A : Type 0} (refusal : Refusal) → Some NoWrite ≡ Some (BadProgram refusal) → A
not_program refusal is = cc

module _ (courses : Task → Course → Type 0) where
  -- a write fault that no refusal of the order gives comes only where the count of the sink or of stores rose
  pub write_cause : (order : Order) → BlamesNoWrite courses order → (w new : Outside) →
      Leaves courses order w new (Some NoWrite) →
      Rose w.out.faults new.out.faults ⊎ Rose w.shelf.stores new.shelf.stores
  write_cause Ends clear w new done = not_none done.fine
  write_cause (Refuses fault) clear w new (Refused ends) = absurd (clear (some_same ends.fault_is))
  write_cause (Refuses fault) clear w new (WantsAtRefusal wants) = not_memory wants.memory
  write_cause (Loads name limit too_long next) clear w new (Loaded bytes under within rest) = write_cause (next bytes)
      (clear.1 bytes) w new rest
  write_cause (Loads name limit too_long next) clear w new
      (NotLoaded fault (IsAbsent told under same why) kept is) = not_load name (is ∙ ap Some why)
  write_cause (Loads name limit too_long next) clear w new
      (NotLoaded fault (IsLong bytes under longer same why) kept is) = absurd (clear.0 (some_same (is ∙ ap Some why)))
  write_cause (Loads name limit too_long next) clear w new
      (NotLoaded fault (HasFailed rose same why) kept is) = not_load name (is ∙ ap Some why)
  write_cause (Loads name limit too_long next) clear w new (WantsAtLoad wants) = not_memory wants.memory
  write_cause (Tries name limit next) clear w new (IsThere bytes under within rest) = write_cause (next (Some bytes))
      (clear (Some bytes)) _ new rest
  write_cause (Tries name limit next) clear w new (IsNone loads lacks rest) = write_cause (next None) (clear None) _
      new rest
  write_cause (Tries name limit next) clear w new (TryFailed rose same is) = not_load name is
  write_cause (Tries name limit next) clear w new (WantsAtTry wants) = not_memory wants.memory
  write_cause (Judges text next) clear w new (IsProgram program says rest) = write_cause (next program)
      (clear program) w new rest
  write_cause (Judges text next) clear w new (IsRefused refusal refuses ends) = not_program refusal ends.fault_is
  write_cause (Judges text next) clear w new (WantsAtJudging wants) = not_memory wants.memory
  write_cause (Runs task next) clear w new (Ran course is rest) = write_cause (next course) (clear course is) w new rest
  write_cause (Runs task next) clear w new (WantsAtRun wants) = not_memory wants.memory
  write_cause (Puts text next) clear w new (Gained spare spared rest) = write_cause next clear _ new rest
  write_cause (Puts text next) clear w new (NotPut fails same is) = inl fails.rose
  write_cause (Puts text next) clear w new (WantsAtPut wants) = not_memory wants.memory
  write_cause (Stores name bytes next) clear w new (Stored rest) = write_cause next clear _ new rest
  write_cause (Stores name bytes next) clear w new (NotStored fails same is) = inr fails.rose
  write_cause (Stores name bytes next) clear w new (WantsAtStore wants) = not_memory wants.memory
  write_cause (Serves used text next) clear w new (Served bytes left spare spared rest) = write_cause (next bytes)
      (clear bytes) _ new rest
  write_cause (Serves used text next) clear w new (NotServed bytes left part (TakeFailed rose outs why)) = not_load
      (codes "input") why
  write_cause (Serves used text next) clear w new (NotServed bytes left part (PutFailed rose short ins why)) = inl rose
  write_cause (Serves used text next) clear w new (NotServed bytes left part (WantsToServe outs ins why)) = not_memory
      why
