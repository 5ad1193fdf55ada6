-- Completeness: how a command comes out over told files, but for want of memory, where no count rose.
use Rattle.std.proofs.Common.{◌≡◌, ◌⊎◌, inl, inr, ℕ, ◌+◌, ◌-◌, ◌<◌, ◌≤◌, Bool, List, Option, Some, None, length, refl, sym, ap, ◌∙◌, subst, arith}
use Rattle.std.specs.Prelude.{MatchBool, drop}
use Rattle.std.proofs.lemmas.Bool.{le-ltb, lt-ltb}
use Rattle.program_reader.specs.declared.refusal.Refusal.{Refusal}
use Rattle.program_reader.specs.Accepted.{Refuses as RefusesText, Says}
use Rattle.outside.specs.Causes.{Rose}
use Rattle.outside.specs.Files.{File, file_named, with_file}
use Rattle.command_steps.specs.Comes.{ByFile, Fits, OfInput}
use Rattle.command_steps.specs.Leaves.{CannotLoad, Gained, HasFailed, IsAbsent, IsLong, IsMore, IsNone, IsProgram, IsRefused, IsThere, Leaves, Loaded, NotLoaded, NotPut, NotServed, NotStored, PutFailed, Ran, Refused, Served, Stored, TakeFailed, TryFailed, Wants, WantsAtJudging, WantsAtLoad, WantsAtPut, WantsAtRefusal, WantsAtRun, WantsAtStore, WantsAtTry, WantsToServe, after_text}
use Rattle.command_steps.specs.Notes.{BadProgram, Fault, NoLoad, NoMemory}
use Rattle.command_steps.specs.Orders.{Course, Ends, Judges, Loads, Order, Task, Puts, Refuses, Runs, Serves, Stores, Tries}
use Rattle.command_steps.specs.States.{Held, Kept, Outside}
use Rattle.vert_tree.specs.declared.program.Program.{Program}

-- the order comes out so, whichever program a text says and whichever course a run takes
abbrev pub Must : (Task → Course → Type 0) → Order → List File → Option (List ℕ) → Option Fault → Type 0
Must courses Ends files input outcome = outcome ≡ None
Must courses (Refuses fault) files input outcome = outcome ≡ Some fault
Must courses (Loads name limit too_long next) files input outcome =
    ByFile limit (file_named name files) (outcome ≡ Some (NoLoad name)) (outcome ≡ Some too_long) (λ bytes.
    Must courses (next bytes) files input outcome)
Must courses (Tries name limit next) files input outcome =
    ByFile limit (file_named name files) (Must courses (next None) files input outcome)
    (Must courses (next None) files input outcome) (λ bytes. Must courses (next (Some bytes)) files input outcome)
Must courses (Judges text next) files input outcome =
    ((refusal : Refusal) → RefusesText text refusal → outcome ≡ Some (BadProgram refusal))
    × ((program : Program) → Says text program → Must courses (next program) files input outcome)
Must courses (Runs task next) files input outcome = (course : Course) → courses task course →
    Must courses (next course) files input outcome
Must courses (Puts text next) files input outcome = Must courses next files input outcome
Must courses (Stores name bytes next) files input outcome = Must courses next (with_file name bytes files) input outcome
Must courses (Serves used text next) files input outcome = OfInput input (λ bytes.
    Must courses (next bytes) files (Some (drop (used bytes) bytes)) outcome)

-- as it comes out, or memory was wanting
abbrev pub IsOrWants : Option Fault → Option Fault → Type 0
IsOrWants outcome expected = (outcome ≡ expected) ⊎ (outcome ≡ Some NoMemory)

wants : {w new : Outside} {outcome : Option Fault} (expected : Option Fault) → Wants w new outcome →
    IsOrWants outcome expected
wants expected w = inr w.memory

-- a fact by a file, at what stands there
module _ (limit : ℕ) (lacks long : Type 0) (within : List ℕ → Type 0) where
  by_none : (file : Option (List ℕ)) → file ≡ None → ByFile limit file lacks long within → lacks
  by_none file is fact = let P : Option (List ℕ) → Type 0 = λ f. ByFile limit f lacks long within in subst P is fact

  by_long : (file : Option (List ℕ)) (bytes : List ℕ) → file ≡ Some bytes → limit < length bytes →
      ByFile limit file lacks long within → long
  by_long file bytes is more fact =
      let P : Option (List ℕ) → Type 0 = λ f. ByFile limit f lacks long within in
      let Q : Bool → Type 0 = λ b. MatchBool b long (within bytes) in
      subst Q (lt-ltb limit (length bytes) more) (subst P is fact)

  by_bytes : (file : Option (List ℕ)) (bytes : List ℕ) → file ≡ Some bytes → length bytes ≤ limit →
      ByFile limit file lacks long within → within bytes
  by_bytes file bytes is most fact =
      let P : Option (List ℕ) → Type 0 = λ f. ByFile limit f lacks long within in
      let Q : Bool → Type 0 = λ b. MatchBool b long (within bytes) in
      subst Q (le-ltb limit (length bytes) most) (subst P is fact)

-- no count of a put rose, or the sink is sure to take all that the order puts
abbrev pub IsSafe : (Task → Course → Type 0) → Order → List File → Option (List ℕ) → ℕ → ℕ → ℕ → Type 0
IsSafe courses order files input faults after spare = (Rose faults after → ⊥) ⊎
    ((room : ℕ) × Fits courses order files input room × (room ≤ spare))

module _ (courses : Task → Course → Type 0) where
  module _ (first second : Order) (files others : List File) (input other : Option (List ℕ))
      (faults after spare : ℕ) where
    private_safe : ((room : ℕ) → Fits courses first files input room → Fits courses second others other room) →
        IsSafe courses first files input faults after spare →
        IsSafe courses second others other faults after spare
    private_safe step (inl calm) = inl calm
    private_safe step (inr (room, fits, most)) = inr (
      room,
      step room fits,
      most,
    )

  -- a put of a text that fits fails only where the count rose
  module _ (text : List ℕ) (next : Order) (files : List File) (input : Option (List ℕ)) (faults after spare : ℕ) where
    no_put : IsSafe courses (Puts text next) files input faults after spare → Rose faults after →
        spare ≤ length text → ⊥
    no_put (inl calm) rose short = calm rose
    no_put (inr (room, fits, most)) rose short = omega (
      arith,
      fits.0,
      most,
      short,
    )

  module _ (text : List ℕ) (next : Order) (files : List File) (input : Option (List ℕ))
      (faults after spare left : ℕ) where
    after_safe : spare ≤ left + length text → IsSafe courses (Puts text next) files input faults after spare →
        IsSafe courses next files input faults after left
    after_safe spared (inl calm) = inl calm
    after_safe spared (inr (room, fits, most)) = inr (
      room - length text,
      fits.1,
      omega (arith, spared, most),
    )

  -- the same where the input is served
  module _ (used : List ℕ → ℕ) (text : List ℕ → List ℕ) (next : List ℕ → Order) (files : List File)
      (bytes : List ℕ) (faults after spare : ℕ) where
    no_served_put : IsSafe courses (Serves used text next) files (Some bytes) faults after spare →
        Rose faults after → spare ≤ length (text bytes) → ⊥
    no_served_put (inl calm) rose short = calm rose
    no_served_put (inr (room, fits, most)) rose short = omega (
      arith,
      fits.0,
      most,
      short,
    )

  module _ (used : List ℕ → ℕ) (text : List ℕ → List ℕ) (next : List ℕ → Order) (files : List File)
      (bytes : List ℕ) (faults after spare left : ℕ) where
    served_safe : spare ≤ left + length (text bytes) →
        IsSafe courses (Serves used text next) files (Some bytes) faults after spare →
        IsSafe courses (next bytes) files (Some (drop (used bytes) bytes)) faults after left
    served_safe spared (inl calm) = inl calm
    served_safe spared (inr (room, fits, most)) =
        inr (room - length (text bytes), fits.1, omega (arith, spared, most))

-- ---- one step

-- no count of loads, of stores or of takes rose
pub record IsCalm (loads stores takes : ℕ) (new : Outside) : Type 0 where
  pub no_load : Rose loads new.shelf.loads → ⊥
  pub no_store : Rose stores new.shelf.stores → ⊥
  pub no_take : Rose takes new.input.faults → ⊥

not_loaded :
    (name : List ℕ) (limit : ℕ) (too_long : Fault) (files : List File) (loads stores : ℕ) (new : Kept) (fault : Fault)
    (outcome expected : Option Fault) (within : List ℕ → Type 0) →
    (Rose loads new.loads → ⊥) → CannotLoad name limit too_long
    (record { files = Some files; loads = loads; stores = stores }) new fault → outcome ≡ Some fault →
    ByFile limit (file_named name files) (expected ≡ Some (NoLoad name)) (expected ≡ Some too_long) within →
    outcome ≡ expected
not_loaded name limit too_long files loads stores new fault outcome expected within calm (IsAbsent told under same is)
    ends by_file =
    ends ∙ ap Some is ∙ sym (by_none limit (expected ≡ Some (NoLoad name)) (expected ≡ Some too_long) within
    (file_named name files) under by_file)
not_loaded name limit too_long files loads stores new fault outcome expected within calm
    (IsLong bytes under more same is) ends by_file =
    ends ∙ ap Some is ∙ sym (by_long limit (expected ≡ Some (NoLoad name)) (expected ≡ Some too_long) within
    (file_named name files) bytes under more by_file)
not_loaded name limit too_long files loads stores new fault outcome expected within calm (HasFailed rose same is) ends
    by_file = absurd (calm rose)

-- no file of the name within the limit is there
no_file :
    (limit : ℕ) (file : Option (List ℕ)) (P : Option (List ℕ) → Type 0) → IsMore limit file →
    ByFile limit file (P None) (P None) (λ bytes. P (Some bytes)) → P None
no_file limit None P more by_file = by_file
no_file limit (Some bytes) P more by_file = by_long limit (P None) (P None) (λ b. P (Some b)) (Some bytes) bytes refl
    more by_file

-- ---- the whole

module _ (courses : Task → Course → Type 0) (new : Outside) (outcome expected : Option Fault) where
  -- an order that must come out so does, or memory was wanting
  pub must_come :
      (order : Order) (files : List File) (loads stores : ℕ) (out : Held) (input : Option (List ℕ)) (takes : ℕ) →
      Must courses order files input expected →
      IsCalm loads stores takes new → IsSafe courses order files input out.faults new.out.faults out.spare →
      Leaves courses order (record {
        shelf = record { files = Some files; loads = loads; stores = stores };
        out = out;
        input = record { bytes = input; faults = takes };
      }) new outcome →
      IsOrWants outcome expected
  must_come Ends files loads stores out input takes must calm safe done = inl (done.fine ∙ sym must)
  must_come (Refuses fault) files loads stores out input takes must calm safe (Refused ends) = inl
      (ends.fault_is ∙ sym must)
  must_come (Refuses fault) files loads stores out input takes must calm safe (WantsAtRefusal w) = wants expected w
  must_come (Loads name limit too_long next) files loads stores out input takes must calm safe
      (Loaded bytes under within rest) =
      must_come (next bytes) files loads stores out input takes
      (by_bytes limit (expected ≡ Some (NoLoad name)) (expected ≡ Some too_long) (λ b.
      Must courses (next b) files input expected) (file_named name files) bytes under within must) calm
      (private_safe courses (Loads name limit too_long next) (next bytes) files files input input out.faults
      new.out.faults out.spare
      (λ room fits. by_bytes limit (Unit {0}) (Unit {0}) (λ b. Fits courses (next b) files input room)
      (file_named name files) bytes under within fits) safe)
      rest
  must_come (Loads name limit too_long next) files loads stores out input takes must calm safe
      (NotLoaded fault why same is) =
      inl (not_loaded name limit too_long files loads stores new.shelf fault outcome expected (λ b.
      Must courses (next b) files input expected) calm.no_load why is must)
  must_come (Loads name limit too_long next) files loads stores out input takes must calm safe (WantsAtLoad w) = wants
      expected w
  must_come (Tries name limit next) files loads stores out input takes must calm safe
      (IsThere bytes under within rest) =
      must_come (next (Some bytes)) files loads stores out input takes
      (by_bytes limit (Must courses (next None) files input expected) (Must courses (next None) files input expected)
      (λ b. Must courses (next (Some b)) files input expected)
      (file_named name files) bytes under within must) calm
      (private_safe courses (Tries name limit next) (next (Some bytes)) files files input input out.faults
      new.out.faults out.spare
      (λ room fits. by_bytes limit (Fits courses (next None) files input room)
      (Fits courses (next None) files input room) (λ b. Fits courses (next (Some b)) files input room)
      (file_named name files) bytes under within fits) safe)
      rest
  must_come (Tries name limit next) files loads stores out input takes must calm safe (IsNone after (same, more) rest) =
      let P : ℕ → Type 0 = λ count.
      Leaves courses (next None) (record {
        shelf = record { files = Some files; loads = count; stores = stores };
        out = out;
        input = record { bytes = input; faults = takes };
      }) new outcome in
      must_come (next None) files loads stores out input takes
      (no_file limit (file_named name files) (λ f. Must courses (next f) files input expected) more must) calm
      (private_safe courses (Tries name limit next) (next None) files files input input out.faults new.out.faults
      out.spare
      (λ room fits. no_file limit (file_named name files) (λ f. Fits courses (next f) files input room) more fits) safe)
      (subst P same rest)
  must_come (Tries name limit next) files loads stores out input takes must calm safe
      (TryFailed rose same is) = absurd (calm.no_load rose)
  must_come (Tries name limit next) files loads stores out input takes must calm safe (WantsAtTry w) = wants expected w
  must_come (Judges text next) files loads stores out input takes must calm safe (IsProgram program says rest) =
      must_come (next program) files loads stores out input takes (must.1 program says) calm
      (private_safe courses (Judges text next) (next program) files files input input out.faults new.out.faults
      out.spare (λ room fits. fits program says) safe) rest
  must_come (Judges text next) files loads stores out input takes must calm safe
      (IsRefused refusal refuses ends) = inl (ends.fault_is ∙ sym (must.0 refusal refuses))
  must_come (Judges text next) files loads stores out input takes must calm safe (WantsAtJudging w) = wants expected w
  must_come (Runs task next) files loads stores out input takes must calm safe (Ran course is rest) =
      must_come (next course) files loads stores out input takes (must course is) calm
      (private_safe courses (Runs task next) (next course) files files input input out.faults new.out.faults out.spare
      (λ room fits. fits course is) safe) rest
  must_come (Runs task next) files loads stores out input takes must calm safe (WantsAtRun w) = wants expected w
  must_come (Puts text next) files loads stores out input takes must calm safe (Gained left spared rest) =
      must_come next files loads stores _ input takes must calm
      (after_safe courses text next files input out.faults new.out.faults out.spare left spared safe) rest
  must_come (Puts text next) files loads stores out input takes must calm safe (NotPut fails same is) =
      absurd (no_put courses text next files input out.faults new.out.faults out.spare safe fails.rose fails.sure)
  must_come (Puts text next) files loads stores out input takes must calm safe (WantsAtPut w) = wants expected w
  must_come (Stores name bytes next) files loads stores out input takes must calm safe (Stored rest) =
      must_come next (with_file name bytes files) loads stores out input takes must calm
      (private_safe courses (Stores name bytes next) next files (with_file name bytes files) input input out.faults
      new.out.faults out.spare (λ room fits. fits) safe) rest
  must_come (Stores name bytes next) files loads stores out input takes must calm safe
      (NotStored fails same is) = absurd (calm.no_store fails.rose)
  must_come (Stores name bytes next) files loads stores out input takes must calm safe (WantsAtStore w) = wants
      expected w
  must_come (Serves used text next) files loads stores out None takes must calm safe leaves = absurd must
  must_come (Serves used text next) files loads stores out (Some left) takes must calm safe
      (Served bytes is spare spared rest) =
      let P : List ℕ → Type 0 = λ b.
      Leaves courses (next b)
      (record {
        shelf = record { files = Some files; loads = loads; stores = stores };
        out = after_text out (text b) spare;
        input = record { bytes = Some (drop (used b) left); faults = takes };
      })
      new outcome in
      let Q : List ℕ → Type 0 = λ b. out.spare ≤ spare + length (text b) in
      must_come (next left) files loads stores _ (Some (drop (used left) left)) takes must calm
      (served_safe courses used text next files left out.faults new.out.faults out.spare spare
      (subst Q (sym is) spared) safe) (subst P (sym is) rest)
  must_come (Serves used text next) files loads stores out (Some left) takes must calm safe
      (NotServed bytes is part (TakeFailed rose same why)) = absurd (calm.no_take rose)
  must_come (Serves used text next) files loads stores out (Some left) takes must calm safe
      (NotServed bytes is part (PutFailed rose short same why)) =
      let Q : List ℕ → Type 0 = λ b. out.spare ≤ length (text b) in
      absurd (no_served_put courses used text next files left out.faults new.out.faults out.spare safe rose
      (subst Q (sym is) short))
  must_come (Serves used text next) files loads stores out (Some left) takes must calm safe
      (NotServed bytes is part (WantsToServe outs ins why)) = inr why
